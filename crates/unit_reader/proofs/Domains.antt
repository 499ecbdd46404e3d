-- How the definition of a domain is read.
use Rattle.std.proofs.Common.{◌≡◌, ℕ, Bool, true, false, if◌then◌else◌, List, [], ◌∷◌, Option, Ok, Err, Some, None, refl}
use Rattle.asm_grammar.specs.Grammar.{Grammar, Outcome, and_then, has, ahead, word_at, shown, both, word}
use Rattle.asm_grammar.proofs.Loops.{with_front}
use Rattle.asm_tree.specs.Words.{kind_of}
use Rattle.asm_tree.specs.declared.class.Class.TheVariants as class
use Rattle.asm_tree.specs.declared.term.RawName.{RawName}
use Rattle.asm_tree.specs.declared.unit.RawInt.{RawInt}
use Rattle.asm_tree.specs.declared.unit.RawDefinition.{RawDefinition}
use Rattle.asm_tree.specs.declared.unit.RawDefinition.TheVariants as definition_of
use Rattle.asm_tree.specs.Language.{TokenText, models, after, before, name, domains}
use Rattle.asm_tree.specs.Units.{domain, domain_of, domain_from, numbers, more_ints}
use Rattle.asm_tree.specs.Rules.{int}
use Rattle.asm_body.specs.Reading.{read_flat, name_at}
use Rattle.unit_reader.proofs.Steps.{shown_both, after_is, shown_after}

-- what leads to a range
abbrev pub ranges : List ℕ
ranges = kind_of class.To ∷ kind_of class.Colon ∷ []

abbrev last : Grammar models (TokenText × RawInt)
last = both (word ranges) int

-- numbers and the brace behind them
abbrev closed : Grammar models (Option RawInt × List RawInt)
closed = before numbers class.CloseBrace

abbrev pub brace : List TokenText → Outcome models TokenText
brace w = word_at models (kind_of class.CloseBrace ∷ []) w

-- what is made of numbers, and of the brace behind them
abbrev pub finished : RawName → RawInt → Outcome models (Option RawInt × List RawInt) → Outcome models RawDefinition
finished d i o = and_then models (and_then models (and_then models {B = (Option RawInt × List RawInt) × TokenText} o (λ x r. and_then models (brace r) (λ t s. Ok ((x, t), s)))) (λ p r. Ok (p.0, r))) (λ y r. Ok (domain_from d i y, r))

module _ (d : RawName) (i : RawInt) where
  ranged : (o : Outcome models (TokenText × RawInt)) → finished d i (and_then models o (λ p r. Ok ((Some p.1, []), r))) ≡ and_then models (and_then models (and_then models {B = RawInt × TokenText} (and_then models o (λ p r. Ok (p.1, r))) (λ x r. and_then models (brace r) (λ t s. Ok ((x, t), s)))) (λ p r. Ok (p.0, r))) (λ h r. Ok (definition_of.Range d i h, r))
  ranged (Ok p) = go p.0.1 (brace p.1)
    where
      go : (h : RawInt) (o : Outcome models TokenText) → and_then models (and_then models (and_then models {B = (Option RawInt × List RawInt) × TokenText} o (λ t s. Ok (((Some h, []), t), s))) (λ p r. Ok (p.0, r))) (λ y r. Ok (domain_from d i y, r)) ≡ and_then models (and_then models (and_then models {B = RawInt × TokenText} o (λ t s. Ok ((h, t), s))) (λ p r. Ok (p.0, r))) (λ h r. Ok (definition_of.Range d i h, r))
      go h (Ok p) = refl
      go h (Err e) = refl
  ranged (Err e) = refl

  listing : (o : Outcome models (List RawInt)) → finished d i (and_then models o (λ xs r. Ok ((None, xs), r))) ≡ and_then models (with_front models (i ∷ []) (and_then models (and_then models {B = List RawInt × TokenText} o (λ xs r. and_then models (brace r) (λ t s. Ok ((xs, t), s)))) (λ p s. Ok (p.0, s)))) (λ xs r. Ok (definition_of.List d xs, r))
  listing (Ok p) = go p.0 (brace p.1)
    where
      go : (xs : List RawInt) (o : Outcome models TokenText) → and_then models (and_then models (and_then models {B = (Option RawInt × List RawInt) × TokenText} o (λ t s. Ok (((None, xs), t), s))) (λ p r. Ok (p.0, r))) (λ y r. Ok (domain_from d i y, r)) ≡ and_then models (with_front models (i ∷ []) (and_then models (and_then models {B = List RawInt × TokenText} o (λ t s. Ok ((xs, t), s))) (λ p s. Ok (p.0, s)))) (λ xs r. Ok (definition_of.List d xs, r))
      go xs (Ok p) = refl
      go xs (Err e) = refl
  listing (Err e) = refl

  by_first : (b : Bool) (x y : Outcome models (Option RawInt × List RawInt)) (u v : Outcome models RawDefinition) → finished d i x ≡ u → finished d i y ≡ v → finished d i (if b then x else y) ≡ (if b then u else v)
  by_first true x y u v e f = e
  by_first false x y u v e f = f

module _ (w : List TokenText) where
  pub domain_is : read_flat domain w ≡ and_then models (word_at models (kind_of class.Domain ∷ []) w) (λ t r.
      and_then models (name_at domains r) (λ d r.
      and_then models (word_at models (kind_of class.Equal ∷ []) r) (λ t r.
      and_then models (word_at models (kind_of class.OpenBrace ∷ []) r) (λ t r.
      and_then models (read_flat int r) (λ i r. read_flat (shown (domain_from d i) (before numbers class.CloseBrace)) r)))))
  unfolding domain
  domain_is =
      after_is class.Domain (shown domain_of (both (name domains) (after class.Equal (after class.OpenBrace (both int closed))))) _ (λ r.
      shown_both domain_of (name domains) (after class.Equal (after class.OpenBrace (both int closed))) _ (λ d r.
      shown_after (λ y. domain_of (d, y)) class.Equal (after class.OpenBrace (both int closed)) _ (λ r.
      shown_after (λ y. domain_of (d, y)) class.OpenBrace (both int closed) _ (λ r.
      shown_both (λ y. domain_of (d, y)) int closed _ (λ i r. refl) r) r) r) r) w

  -- the numbers of a list
  pub listed_is : (i : RawInt) → with_front models (i ∷ []) (read_flat (before more_ints class.CloseBrace) w) ≡ and_then models (with_front models (i ∷ []) (read_flat more_ints w)) (λ xs r. and_then models (brace r) (λ t s. Ok (xs, s)))
  listed_is i = go (read_flat more_ints w)
    where
      inner : (xs : List RawInt) (o : Outcome models TokenText) → with_front models (i ∷ []) (and_then models (and_then models {B = List RawInt × TokenText} o (λ t s. Ok ((xs, t), s))) (λ p s. Ok (p.0, s))) ≡ and_then models o (λ t s. Ok (i ∷ xs, s))
      inner xs (Ok p) = refl
      inner xs (Err e) = refl

      go : (o : Outcome models (List RawInt)) → with_front models (i ∷ []) (and_then models (and_then models {B = List RawInt × TokenText} o (λ xs r. and_then models (brace r) (λ t s. Ok ((xs, t), s)))) (λ p s. Ok (p.0, s))) ≡ and_then models (with_front models (i ∷ []) o) (λ xs r. and_then models (brace r) (λ t s. Ok (xs, s)))
      go (Ok p) = inner p.0 (brace p.1)
      go (Err e) = refl

  -- a range or a list, by the token behind the first number
  pub numbers_is : (d : RawName) (i : RawInt) → read_flat (shown (domain_from d i) (before numbers class.CloseBrace)) w ≡ (if has (ahead models w 0) ranges
      then and_then models (read_flat (before (shown (λ p. p.1) (both (word ranges) int)) class.CloseBrace) w) (λ h r. Ok (definition_of.Range d i h, r))
      else and_then models (with_front models (i ∷ []) (read_flat (before more_ints class.CloseBrace) w)) (λ xs r. Ok (definition_of.List d xs, r)))
  unfolding numbers
  numbers_is d i = by_first d i (has (ahead models w 0) ranges) _ _ _ _ (ranged d i (read_flat last w)) (listing d i (read_flat more_ints w))
