-- How what opens a level is read.
use Rattle.std.proofs.Common.{◌≡◌, ℕ, zero, suc, Bool, true, false, if◌then◌else◌, List, [], ◌∷◌, Ok, Err, refl, ap, ◌∙◌, ◌-◌, arith, length}
use Rattle.std.proofs.lemmas.List.{length-map}
use Rattle.asm_grammar.specs.declared.Stop.TheVariants.{Syntax}
use Rattle.asm_grammar.specs.Grammar.{Outcome, and_then, has, kind, opening_at, entered, reader, many_at, firsts, Grammar, many}
use Rattle.asm_tree.specs.Language.{TokenText, models, Inside, Value}
use Rattle.asm_tree.specs.Rules.{body}
use Rattle.asm_body.specs.Reading.{opened, opened_in, read_in}
use Rattle.asm_body.specs.Seen.{seen, all_seen}
use Rattle.asm_body.specs.declared.lexeme.Lexeme.{Lexeme}

module _ (s : Bool) (x : Inside) (ks : List ℕ) {A : Type 0} (f : TokenText × Value x → A) where
  behind : (t : TokenText) (o : Outcome models (Value x)) → and_then models {A = TokenText × Value x} (and_then models o (λ y r. Ok ((t, y), r))) (λ p r. Ok (f p, r)) ≡ and_then models o (λ y r. Ok (f (t, y), r))
  behind t (Ok p) = refl
  behind t (Err e) = refl

  pub opens : (n : ℕ) (w : List TokenText) → and_then models (opening_at models ks (reader models (body s) n x) w) (λ p r. Ok (f p, r)) ≡ opened_in n s ks x f w
  unfolding opened reader
  opens zero [] = refl
  opens (suc n) [] = refl
  opens n (t ∷ r) = go n (has (kind models t) ks)
    where
      go : (n : ℕ) (b : Bool) → and_then models (if b then and_then models {B = TokenText × Value x} (reader models (body s) n x (t ∷ r)) (λ y z. Ok ((t, y), z)) else Err (Syntax (suc (length r)))) (λ p z. Ok (f p, z))
          ≡ and_then models (and_then models (if b then Ok (t, r) else Err (Syntax (suc (length r)))) (λ u z. and_then models {B = TokenText × ℕ} (entered models n (t ∷ r)) (λ m v. Ok ((u, m), v)))) (λ p z. and_then models (read_in p.1 s (body s x) z) (λ y v. Ok (f (p.0, y), v)))
      go zero true = refl
      go (suc n) true = behind t (read_in n s (body s x) r)
      go zero false = refl
      go (suc n) false = refl

-- the parts of a list, as many turns as there are tokens
pub more_is : {A : Type 0} (n : ℕ) (s : Bool) (g : Grammar models A) (ts : List Lexeme) → read_in n s (many g) (all_seen ts) ≡ many_at models (read_in n s g) (firsts models g) (length ts - 0) (all_seen ts)
more_is n s g ts = ap (λ (k : ℕ). many_at models (read_in n s g) (firsts models g) k (all_seen ts)) (length-map ts seen ∙ (let e : length ts ≡ length ts - 0 = omega arith in e))
