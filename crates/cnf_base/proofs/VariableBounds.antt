-- Every variable of a clause is below its number of variables, and every clause's number is at most the formula's.
use Rattle.std.proofs.Common.{◌≡◌, ℕ, ◌+◌, ◌<◌, ◌≤◌, suc, zero, List, [], ◌∷◌, length, get_or, max, arith, subst, sym, ap, take, add-one, slice_get, Some, ◌++◌}
use Rattle.cnf_base.specs.declared.lit.Lit.{Lit}
use Rattle.cnf_base.specs.Clauses.{clause_variables, variables}

pub var_at : (c : List Lit) (i : ℕ) (d : Lit) → i < length c → (get_or c i d).var < clause_variables c
var_at [] i d h = absurd (omega arith)
var_at (l ∷ c) zero d h = omega arith
var_at (l ∷ c) (suc i) d h = omega (arith, var_at c i d (omega arith))

pub clause_at : (f : List (List Lit)) (i : ℕ) (d : List Lit) → i < length f → clause_variables (get_or f i d) ≤ variables f
clause_at [] i d h = absurd (omega arith)
clause_at (c ∷ f) zero d h = omega arith
clause_at (c ∷ f) (suc i) d h = omega (arith, clause_at f i d (omega arith))

-- The same of the literal, or the clause, that a loop reads.
pub var_read : (c : List Lit) (i : ℕ) (l : Lit) → i < length c → l ≡ get_or c i l → l.var < clause_variables c
var_read c i l h e = let P : Lit → Type 0 = λ m. m.var < clause_variables c in subst P (sym e) (var_at c i l h)

pub clause_read : (f : List (List Lit)) (i : ℕ) (c : List Lit) → i < length f → c ≡ get_or f i c → clause_variables c ≤ variables f
clause_read f i c h e = let P : List Lit → Type 0 = λ d. clause_variables d ≤ variables f in subst P (sym e) (clause_at f i c h)

pub clause_variables-take : (c : List Lit) (i : ℕ) (l : Lit) → i < length c → l ≡ get_or c i l
    → clause_variables (take (i + 1) c) ≡ max (clause_variables (take i c)) (l.var + 1)
clause_variables-take c i l h e = rw add-one (go c i l h e)
  where
    go : (c : List Lit) (i : ℕ) (l : Lit) → i < length c → l ≡ get_or c i l
        → clause_variables (take (suc i) c) ≡ max (clause_variables (take i c)) (l.var + 1)
    go [] i l h e = absurd (omega arith)
    go (m ∷ []) zero l h e = let n : l.var ≡ m.var = ap (λ (x : Lit). x.var) e in omega arith
    go (m ∷ k ∷ c) zero l h e = let n : l.var ≡ m.var = ap (λ (x : Lit). x.var) e in omega arith
    go (m ∷ c) (suc i) l h e = omega (arith, go c i l (omega arith) e)

pub variables-take : (f : List (List Lit)) (i : ℕ) (c : List Lit) → i < length f → c ≡ get_or f i c
    → variables (take (i + 1) f) ≡ max (variables (take i f)) (clause_variables c)
variables-take f i c h e = rw add-one (go f i c h e)
  where
    go : (f : List (List Lit)) (i : ℕ) (c : List Lit) → i < length f → c ≡ get_or f i c
        → variables (take (suc i) f) ≡ max (variables (take i f)) (clause_variables c)
    go [] i c h e = absurd (omega arith)
    go (m ∷ []) zero c h e = let n : clause_variables c ≡ clause_variables m = ap clause_variables e in omega arith
    go (m ∷ k ∷ f) zero c h e = let n : clause_variables c ≡ clause_variables m = ap clause_variables e in omega arith
    go (m ∷ f) (suc i) c h e = omega (arith, go f i c (omega arith) e)

pub variables-append : (f g : List (List Lit)) → variables (f ++ g) ≡ max (variables f) (variables g)
variables-append [] g = omega arith
variables-append (c ∷ f) g = omega (arith, variables-append f g)

pub variables-there : (f : List (List Lit)) (n : ℕ) (c : List Lit) → slice_get f n ≡ Some c → clause_variables c ≤ variables f
variables-there [] n c e = cc
variables-there (d ∷ f) zero c e = let same : clause_variables d ≡ clause_variables c = ap clause_variables (some_is d c e) in omega arith
  where
    some_is : (x y : List Lit) → Some x ≡ Some y → x ≡ y
    some_is x y h = cc
variables-there (d ∷ f) (suc n) c e = omega (arith, variables-there f n c e)
