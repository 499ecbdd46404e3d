-- Two true literals of a list, one literal after the other.
use Rattle.std.proofs.Common.{◌≡◌, ℕ, ◌+◌, ◌<◌, ◌≤◌, suc, zero, List, [], ◌∷◌, ◌++◌, length, take, get_or, arith, sym, ◌∙◌, Bool, true, false, ◌&&◌, ◌||◌, refl, ap}
use Rattle.std.specs.List.{list_any}
use Rattle.std.proofs.lemmas.List.{take_more}
use Rattle.std.proofs.lemmas.List.Folds.{list_any-append}
use Rattle.cnf_base.specs.declared.lit.Lit.{Lit}
use Rattle.cnf_base.specs.Clauses.{lit_true, clause_variables}
use Rattle.enc_update.specs.Updates.{two_true}
use Rattle.enc_group.proofs.Groups.{take_all}

pub clause_at : (ls : List Lit) (i : ℕ) (l : Lit) → i < length ls → l ≡ get_or ls i l → l.var < clause_variables ls
clause_at [] i l h k = absurd (omega arith)
clause_at (m ∷ ls) zero l h k = let n : l.var ≡ m.var = ap (λ (x : Lit). x.var) k in omega arith
clause_at (m ∷ ls) (suc i) l h k = omega (arith, clause_at ls i l (omega arith) k)

two_push : (v : ℕ → Bool) (ls : List Lit) (l : Lit) → two_true v (ls ++ l ∷ []) ≡ (two_true v ls || (lit_true v l && list_any (lit_true v) ls))
two_push v [] l = ends (lit_true v l)
  where
    ends : (a : Bool) → (a && false) || false ≡ false || (a && false)
    ends true = refl
    ends false = refl
two_push v (m ∷ ls) l =
    rw (list_any-append (lit_true v) ls (l ∷ []), two_push v ls l) (turn (lit_true v m) (lit_true v l) (list_any (lit_true v) ls) (two_true v ls))
  where
    turn : (m l a t : Bool) → (m && (a || (l || false))) || (t || (l && a)) ≡ ((m && a) || t) || (l && (m || a))
    turn true true true t = refl
    turn true true false true = refl
    turn true true false false = refl
    turn true false true t = refl
    turn true false false true = refl
    turn true false false false = refl
    turn false true a true = refl
    turn false true true false = refl
    turn false true false false = refl
    turn false false a true = refl
    turn false false a false = refl

pub two_more : (v : ℕ → Bool) (ls : List Lit) (i : ℕ) (l : Lit) → i < length ls → l ≡ get_or ls i l
    → two_true v (take (i + 1) ls) ≡ (two_true v (take i ls) || (lit_true v l && list_any (lit_true v) (take i ls)))
two_more v ls i l h k =
    let seen : take (i + 1) ls ≡ take i ls ++ l ∷ [] = rw (take_more ls i l h, sym k) refl in
    ap (two_true v) seen ∙ two_push v (take i ls) l

pub two_whole : (v : ℕ → Bool) (ls : List Lit) (i : ℕ) → length ls ≤ i → two_true v (take i ls) ≡ two_true v ls
two_whole v ls i h = ap (two_true v) (take_all ls i h)
