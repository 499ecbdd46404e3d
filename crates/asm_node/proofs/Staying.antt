-- Bound variables stand for themselves.
use Rattle.std.proofs.Common.{◌≡◌, ℕ, Bool as Truth, true, false, ◌||◌, if◌then◌else◌, List, [], ◌∷◌, ◌++◌, map, nat_eq, T, eqb→eq, refl, sym, ap, ◌∙◌, subst}
use Rattle.std.specs.List.{list_any}
use Rattle.std.proofs.lemmas.List.Folds.{list_any-append}
use Rattle.asm_node.specs.declared.term.Binder.{Binder}
use Rattle.asm_node.specs.Tree.{Tree, Var}
use Rattle.asm_node.specs.Term.{Places, put, keep}
use Rattle.asm_node.specs.Stays.{stays}

one_more : (x y : ℕ) (among : Truth) (t : Tree) → (if nat_eq x y then Var x else (if among then Var y else t)) ≡ (if among || (nat_eq x y || false) then Var y else t)
one_more x y true t =
    elim (nat_eq x y) as (λ b. nat_eq x y ≡ b → (if b then Var x else Var y) ≡ Var y) [ true ↦ λ is. ap Var (eqb→eq x y (subst T (sym is) tt)) | false ↦ λ _. refl ] refl
one_more x y false t =
    elim (nat_eq x y) as (λ b. nat_eq x y ≡ b → (if b then Var x else t) ≡ (if b || false then Var y else t)) [ true ↦ λ is. ap Var (eqb→eq x y (subst T (sym is) tt)) | false ↦ λ _. refl ] refl

-- one more variable is bound
pub stays-push : (bound : List ℕ) (x : ℕ) (e : Places) → put x (Var x) (stays bound e) ≡ stays (bound ++ x ∷ []) e
stays-push bound x e = λ i y. at y i
  where
    at : (y : ℕ) → put x (Var x) (stays bound e) y ≡ stays (bound ++ x ∷ []) e y
    at y = one_more x y (list_any (λ z. nat_eq z y) bound) (e y) ∙ ap (λ b. if b then Var y else e y) (sym (list_any-append (λ z. nat_eq z y) bound (x ∷ [])))

or_swap : (a b c : Truth) → ((a || b) || c) ≡ ((a || c) || b)
or_swap true b c = refl
or_swap false true true = refl
or_swap false true false = refl
or_swap false false c = swapped c
  where
    swapped : (c : Truth) → c ≡ (c || false)
    swapped true = refl
    swapped false = refl

same_stays : (bound other : List ℕ) (e : Places) → ((y : ℕ) → list_any (λ z. nat_eq z y) bound ≡ list_any (λ z. nat_eq z y) other) → stays bound e ≡ stays other e
same_stays bound other e same = λ i y. if same y i then Var y else e y

-- the variables of binders are bound too
pub stays-keep : (bs : List Binder) (bound : List ℕ) (e : Places) → keep bs (stays bound e) ≡ stays (bound ++ map (λ b. b.variable) bs) e
stays-keep [] bound e = same_stays bound (bound ++ []) e (λ y. sym (list_any-append (λ z. nat_eq z y) bound [] ∙ or_none (list_any (λ z. nat_eq z y) bound)))
  where
    or_none : (b : Truth) → (b || false) ≡ b
    or_none true = refl
    or_none false = refl
stays-keep (b ∷ bs) bound e =
    ap (put b.variable (Var b.variable)) (stays-keep bs bound e) ∙ stays-push (bound ++ map (λ (c : Binder). c.variable) bs) b.variable e
    ∙ same_stays _ _ e (λ y. (let among : List ℕ → Truth = list_any (λ z. nat_eq z y) in
    list_any-append (λ z. nat_eq z y) (bound ++ map (λ (c : Binder). c.variable) bs) (b.variable ∷ [])
    ∙ ap (λ a. a || among (b.variable ∷ [])) (list_any-append (λ z. nat_eq z y) bound (map (λ (c : Binder). c.variable) bs))
    ∙ moved (among bound) (nat_eq b.variable y) (among (map (λ (c : Binder). c.variable) bs))
    ∙ sym (list_any-append (λ z. nat_eq z y) bound (b.variable ∷ map (λ (c : Binder). c.variable) bs))))
  where
    moved : (a b c : Truth) → ((a || c) || (b || false)) ≡ (a || (b || c))
    moved true b c = refl
    moved false true true = refl
    moved false true false = refl
    moved false false true = refl
    moved false false false = refl

-- no variable is bound
pub stays-none : (e : Places) → stays [] e ≡ e
stays-none e = refl
