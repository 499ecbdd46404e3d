-- The kinds of words are those from 1 on up to a last one.
use Rattle.std.proofs.Common.{◌≡◌, ℕ, zero, suc, ◌<◌, Bool, true, false, ◌||◌, List, [], ◌∷◌, refl, ap, sym, ◌∙◌, arith, ltb, map, length}
use Rattle.std.specs.Prelude.{◌==◌}
use Rattle.std.proofs.lemmas.Bool.{eqb-true, eqb-false, ltb-true, ltb-false}
use Rattle.asm_grammar.specs.Grammar.{has, ahead}
use Rattle.asm_tree.specs.Words.{kind_of, number}
use Rattle.asm_tree.specs.declared.class.Class.{Class}
use Rattle.asm_tree.specs.declared.class.Class.TheVariants as class
use Rattle.asm_tree.specs.Language.{up_to, words, models}
use Rattle.asm_body.specs.declared.lexeme.Lexeme.{Lexeme}
use Rattle.asm_body.specs.Seen.{all_seen}

one_more : (n k : ℕ) (b : Bool) → (ltb k n || ((suc k == suc n) || b)) ≡ (ltb k (suc n) || b)
one_more n k b = go (ltb k n) (suc k == suc n) (ltb k (suc n)) refl refl refl
  where
    go : (x y z : Bool) → ltb k n ≡ x → (suc k == suc n) ≡ y → ltb k (suc n) ≡ z → (x || (y || b)) ≡ (z || b)
    go true y true e f g = refl
    go true y false e f g = let a = ltb-true k n e in let d = ltb-false k (suc n) g in absurd (omega (arith, a, d))
    go false true true e f g = refl
    go false true false e f g = let a = eqb-true (suc k) (suc n) f in let d = ltb-false k (suc n) g in absurd (omega (arith, a, d))
    go false false true e f g = let a = ltb-false k n e in let d = ltb-true k (suc n) g in let c = eqb-false (suc k) (suc n) f in absurd (c (omega (arith, a, d)))
    go false false false e f g = refl

none_below : (k : ℕ) → ltb k 0 ≡ false
none_below k = go (ltb k 0) refl
  where
    go : (b : Bool) → ltb k 0 ≡ b → ltb k 0 ≡ false
    go true e = let a = ltb-true k 0 e in absurd (omega (arith, a))
    go false e = e

has_up_to : (n k : ℕ) (ks : List ℕ) → has (suc k) (up_to n ks) ≡ (ltb k n || has (suc k) ks)
has_up_to zero k ks = ap (λ b. b || has (suc k) ks) (sym (none_below k))
has_up_to (suc n) k ks = has_up_to n k (suc n ∷ ks) ∙ one_more n k (has (suc k) ks)

or_end : (a : Bool) → (a || false) ≡ a
or_end true = refl
or_end false = refl

pub up_to_word : (k : ℕ) → has (suc k) words ≡ ltb k (kind_of class.CapitalName)
up_to_word k = has_up_to (kind_of class.CapitalName) k [] ∙ or_end (ltb k (kind_of class.CapitalName))

pub ruleset all_words = (up_to_word)

not_zero : (n : ℕ) → (0 == suc n) ≡ false
not_zero n = go (0 == suc n) refl
  where
    go : (b : Bool) → (0 == suc n) ≡ b → (0 == suc n) ≡ false
    go true e = let a = eqb-true 0 (suc n) e in absurd (omega (arith, a))
    go false e = e

pub no_zero : (ws : List Class) → has 0 (map kind_of ws) ≡ false
no_zero [] = refl
no_zero (w ∷ ws) = ap (λ b. b || has 0 (map kind_of ws)) (not_zero (number w)) ∙ no_zero ws

pub none_ahead : (ts : List Lexeme) (ws : List Class) → length ts < 1 → false ≡ has (ahead models (all_seen ts) 0) (map kind_of ws)
none_ahead [] ws lt = sym (no_zero ws)
none_ahead (t ∷ ts) ws lt = absurd (omega arith)
