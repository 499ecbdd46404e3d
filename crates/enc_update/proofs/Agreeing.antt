-- The literals of clashes, one slot after the other.
use Rattle.std.proofs.Common.{◌≡◌, ℕ, zero, suc, ◌+◌, ◌<◌, List, [], ◌∷◌, ◌++◌, length, map, get_or, max, arith, refl, sym, ◌∙◌, Bool, true, false, ◌||◌}
use Rattle.std.specs.List.{list_any}
use Rattle.std.proofs.lemmas.List.Folds.{list_any-append}
use Rattle.cnf_base.specs.declared.lit.Lit.{Lit}
use Rattle.cnf_base.specs.Clauses.{clause_variables}
use Rattle.enc_group.specs.declared.group.Entry.{Entry}
use Rattle.enc_group.specs.Binding.{group_at}

pub lits_long : (es : List Entry) → length (map (λ e. e.lit) es) ≡ length es
lits_long [] = refl
lits_long (e ∷ es) = omega (arith, lits_long es)

pub clause_push : (ls : List Lit) (l : Lit) → clause_variables (ls ++ l ∷ []) ≡ max (clause_variables ls) (l.var + 1)
clause_push [] l = omega arith
clause_push (m ∷ ls) l = omega (arith, clause_push ls l)

pub any_push : {X : Type 0} (q : X → Bool) (xs : List X) (x : X) → list_any q (xs ++ x ∷ []) ≡ (list_any q xs || q x)
any_push q xs x = list_any-append q xs (x ∷ []) ∙ last (list_any q xs) (q x)
  where
    last : (a b : Bool) → a || (b || false) ≡ a || b
    last true b = refl
    last false true = refl
    last false false = refl

-- the group at a place is the item there
pub group_is : (gs : List (List Entry)) (i : ℕ) (g : List Entry) → i < length gs → g ≡ get_or gs i g → group_at gs i ≡ g
group_is [] i g h k = absurd (omega arith)
group_is (x ∷ gs) zero g h k = sym k
group_is (x ∷ gs) (suc i) g h k = group_is gs i g (omega arith) k
