-- The end of a whole text.
use Rattle.std.proofs.Common.{◌≡◌, ◌==◌, true, false, List, [], ◌∷◌, Ok, Err, refl, ap, arith, length}
use Rattle.std.proofs.lemmas.List.{length-map}
use Rattle.std.proofs.lemmas.Bool.{eqb-true}
use Rattle.asm_grammar.specs.declared.Stop.TheVariants.{Syntax}
use Rattle.asm_grammar.specs.Whole.{ended}
use Rattle.asm_body.specs.declared.lexeme.Lexeme.{Lexeme}
use Rattle.asm_body.specs.Seen.{seen, all_seen}

pub ends : {A : Type 0} (y : A) (ts : List Lexeme) → (length ts == 0) ≡ true → ended y (all_seen ts) ≡ Ok y
ends y [] h = refl
ends y (t ∷ ts) h = let e = eqb-true (length (t ∷ ts)) 0 h in absurd (omega (arith, e))

pub goes_on : {A : Type 0} (y : A) (ts : List Lexeme) → (length ts == 0) ≡ false → ended y (all_seen ts) ≡ Err (Syntax (length ts))
goes_on y [] h = absurd (cc)
goes_on y (t ∷ ts) h = ap (λ n. Err (Syntax n)) (length-map (t ∷ ts) seen)

pub ruleset endings = (ends, goes_on)
