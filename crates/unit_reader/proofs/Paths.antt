-- How the parts of a path are read, with their places.
use Rattle.std.proofs.Common.{◌≡◌, ℕ, Bool, true, false, if◌then◌else◌, List, [], ◌∷◌, Option, Ok, Err, Some, None, refl, ap}
use Rattle.asm_grammar.specs.Grammar.{Outcome, and_then, has, ahead, word_at, shown, both, word}
use Rattle.asm_tree.specs.Words.{kind_of}
use Rattle.asm_tree.specs.declared.class.Class.TheVariants as class
use Rattle.asm_tree.specs.declared.unit.RawPart.{RawPart}
use Rattle.asm_tree.specs.declared.unit.RawPart.TheVariants as part_of
use Rattle.asm_tree.specs.Language.{TokenText, models, after, name_of, words}
use Rattle.asm_tree.specs.Units.{ending, word_part, part, more_parts, path, path_of}
use Rattle.asm_body.specs.Reading.{read_flat, name_at}
use Rattle.unit_reader.specs.Placed.{part_at}
use Rattle.unit_reader.proofs.Steps.{made_again}

-- a word and what may stand behind it
abbrev pub word_or : List ℕ → Option (List ℕ) → RawPart
word_or w None = part_of.Word w
word_or w (Some e) = part_of.Dotted w e

word_made : (t : TokenText) (e : Option (List ℕ)) → part_at (word_part (t, e)) ≡ (t.at, word_or t.text e)
word_made t None = refl
word_made t (Some w) = refl

end_made : (t : TokenText) (o : Outcome models (Option (List ℕ))) → and_then models (and_then models (and_then models {B = TokenText × Option (List ℕ)} o (λ e r. Ok ((t, e), r))) (λ p r. Ok (word_part p, r))) (λ p r. Ok (part_at p, r)) ≡ and_then models {B = ℕ × RawPart} o (λ e r. Ok ((t.at, word_or t.text e), r))
end_made t (Ok p) = ap (λ x. Ok (x, p.1)) (word_made t p.0)
end_made t (Err e) = refl

module _ (w : List TokenText) where
  pub named_part_is : read_flat (shown part_at (shown word_part (both (word words) ending))) w ≡ and_then models {B = ℕ × RawPart} (name_at words w) (λ n r. and_then models (read_flat ending r) (λ e s. Ok ((n.at, word_or n.text e), s)))
  named_part_is = go (word_at models words w)
    where
      go : (o : Outcome models TokenText) → and_then models (and_then models (and_then models {B = TokenText × Option (List ℕ)} o (λ t r. and_then models (read_flat ending r) (λ e s. Ok ((t, e), s)))) (λ p r. Ok (word_part p, r))) (λ p r. Ok (part_at p, r))
          ≡ and_then models {B = ℕ × RawPart} (and_then models o (λ t r. Ok (name_of t, r))) (λ n r. and_then models (read_flat ending r) (λ e s. Ok ((n.at, word_or n.text e), s)))
      go (Ok p) = end_made p.0 (read_flat ending p.1)
      go (Err e) = refl

  pub part_is : read_flat (shown part_at part) w ≡ (if has (ahead models w 0) (kind_of class.Dot ∷ []) then and_then models {B = ℕ × RawPart} (word_at models (kind_of class.Dot ∷ []) w) (λ t r. Ok ((t.at, part_of.Here), r))
      else (if has (ahead models w 0) (kind_of class.To ∷ []) then and_then models {B = ℕ × RawPart} (word_at models (kind_of class.To ∷ []) w) (λ t r. Ok ((t.at, part_of.Above), r))
      else read_flat (shown part_at (shown word_part (both (word words) ending))) w))
  unfolding part
  part_is = go (has (ahead models w 0) (kind_of class.Dot ∷ [])) (has (ahead models w 0) (kind_of class.To ∷ []))
    where
      go : (b c : Bool) → and_then models (if b then and_then models {B = TokenText × RawPart} (word_at models (kind_of class.Dot ∷ []) w) (λ t r. Ok ((t, part_of.Here), r)) else (if c then and_then models {B = TokenText × RawPart} (word_at models (kind_of class.To ∷ []) w) (λ t r. Ok ((t, part_of.Above), r)) else read_flat (shown word_part (both (word words) ending)) w)) (λ p r. Ok (part_at p, r))
          ≡ (if b then and_then models {B = ℕ × RawPart} (word_at models (kind_of class.Dot ∷ []) w) (λ t r. Ok ((t.at, part_of.Here), r)) else (if c then and_then models {B = ℕ × RawPart} (word_at models (kind_of class.To ∷ []) w) (λ t r. Ok ((t.at, part_of.Above), r)) else read_flat (shown part_at (shown word_part (both (word words) ending))) w))
      go true c = made_again (λ t. (t, part_of.Here)) part_at (word_at models (kind_of class.Dot ∷ []) w)
      go false true = made_again (λ t. (t, part_of.Above)) part_at (word_at models (kind_of class.To ∷ []) w)
      go false false = refl

  pub further_part_is : read_flat (after class.Slash (shown (λ p. p.1) part)) w ≡ and_then models (word_at models (kind_of class.Slash ∷ []) w) (λ t r. and_then models (read_flat (shown part_at part) r) (λ q s. Ok (q.1, s)))
  further_part_is = go (word_at models (kind_of class.Slash ∷ []) w)
    where
      inner : (t : TokenText) (o : Outcome models (TokenText × RawPart)) → and_then models (and_then models {B = TokenText × RawPart} (and_then models o (λ p r. Ok (p.1, r))) (λ p r. Ok ((t, p), r))) (λ q r. Ok (q.1, r)) ≡ and_then models (and_then models {B = ℕ × RawPart} o (λ p r. Ok (part_at p, r))) (λ q s. Ok (q.1, s))
      inner t (Ok p) = refl
      inner t (Err e) = refl

      go : (o : Outcome models TokenText) → and_then models (and_then models {B = TokenText × RawPart} o (λ t r. and_then models (read_flat (shown (λ p. p.1) part) r) (λ p s. Ok ((t, p), s)))) (λ q r. Ok (q.1, r)) ≡ and_then models o (λ t r. and_then models (read_flat (shown part_at part) r) (λ q s. Ok (q.1, s)))
      go (Ok p) = inner p.0 (read_flat part p.1)
      go (Err e) = refl

  pub path_is : read_flat path w ≡ and_then models (read_flat (shown part_at part) w) (λ q r. and_then models (read_flat more_parts r) (λ ps s. Ok (record { at = q.0; parts = q.1 ∷ ps }, s)))
  unfolding path
  path_is = go (read_flat part w)
    where
      inner : (q : TokenText × RawPart) (o : Outcome models (List RawPart)) → and_then models (and_then models {B = (TokenText × RawPart) × List RawPart} o (λ ps s. Ok ((q, ps), s))) (λ p s. Ok (path_of p, s)) ≡ and_then models o (λ ps s. Ok (record { at = q.0.at; parts = q.1 ∷ ps }, s))
      inner q (Ok p) = refl
      inner q (Err e) = refl

      go : (o : Outcome models (TokenText × RawPart)) → and_then models (and_then models {B = (TokenText × RawPart) × List RawPart} o (λ q r. and_then models (read_flat more_parts r) (λ ps s. Ok ((q, ps), s)))) (λ p s. Ok (path_of p, s)) ≡ and_then models (and_then models {B = ℕ × RawPart} o (λ p r. Ok (part_at p, r))) (λ q r. and_then models (read_flat more_parts r) (λ ps s. Ok (record { at = q.0; parts = q.1 ∷ ps }, s)))
      go (Ok p) = inner p.0 (read_flat more_parts p.1)
      go (Err e) = refl
