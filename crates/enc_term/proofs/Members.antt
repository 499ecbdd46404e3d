-- What is in lists that are made of others.
use Rattle.std.proofs.Common.{◌≡◌, ◌∙◌, true≢false, ℕ, zero, suc, ◌<◌, Bool, true, false, not, cond, List, [], ◌∷◌, ◌++◌, length, map, filter, get_or, arith, refl, sym, ap, subst, ◌⊎◌, inl, inr}
use Rattle.std.specs.List.{flat_map}
use Rattle.asm_domain.specs.declared.value.Value.{Value}
use Rattle.asm_node.specs.Values.{same}
use Rattle.asm_node.proofs.UpdateSets.{same_is}
use Rattle.asm_sign.specs.Tuples.{tuples}
use Rattle.enc_group.specs.declared.group.Entry.{Entry}
use Rattle.enc_group.specs.Group.{once, values_in}
use Rattle.enc_group.specs.Tuple.{products}
use Rattle.enc_group.specs.Binding.{group_at, values_before}
use Rattle.enc_term.specs.Can.{Has, ArePicked}

pub has_first : {A : Type 0} (xs ys : List A) (x : A) → Has xs x → Has (xs ++ ys) x
has_first [] ys x h = elim h [ ]
has_first (y ∷ xs) ys x (inl is) = inl is
has_first (y ∷ xs) ys x (inr h) = inr (has_first xs ys x h)

pub has_second : {A : Type 0} (xs ys : List A) (x : A) → Has ys x → Has (xs ++ ys) x
has_second [] ys x h = h
has_second (y ∷ xs) ys x h = inr (has_second xs ys x h)

pub has_either : {A : Type 0} (xs ys : List A) (x : A) → Has (xs ++ ys) x → Has xs x ⊎ Has ys x
has_either [] ys x h = inr h
has_either (y ∷ xs) ys x (inl is) = inl (inl is)
has_either {A} (y ∷ xs) ys x (inr h) = elim (has_either xs ys x h) as (λ _. Has (y ∷ xs) x ⊎ Has ys x) [ inl k ↦ inl (inr k) | inr k ↦ inr k ]

pub has_map : {A B : Type 0} (f : A → B) (xs : List A) (x : A) → Has xs x → Has (map f xs) (f x)
has_map f [] x h = elim h [ ]
has_map f (y ∷ xs) x (inl is) = inl (ap f is)
has_map f (y ∷ xs) x (inr h) = inr (has_map f xs x h)

pub map_has : {A B : Type 0} (f : A → B) (xs : List A) (y : B) → Has (map f xs) y → (x : A) × Has xs x × (f x ≡ y)
map_has f [] y h = elim h [ ]
map_has f (x ∷ xs) y (inl is) = (x, inl refl, is)
map_has f (x ∷ xs) y (inr h) = let k = map_has f xs y h in (k.0, inr k.1, k.2)

pub has_flat : {A B : Type 0} (f : A → List B) (xs : List A) (x : A) (y : B) → Has xs x → Has (f x) y → Has (flat_map f xs) y
has_flat f [] x y h k = elim h [ ]
has_flat f (z ∷ xs) x y (inl is) k = has_first (f z) (flat_map f xs) y (subst (λ w. Has (f w) y) (sym is) k)
has_flat f (z ∷ xs) x y (inr h) k = has_second (f z) (flat_map f xs) y (has_flat f xs x y h k)

pub flat_has : {A B : Type 0} (f : A → List B) (xs : List A) (y : B) → Has (flat_map f xs) y → (x : A) × Has xs x × Has (f x) y
flat_has f [] y h = elim h [ ]
flat_has {A} f (x ∷ xs) y h =
    elim (has_either (f x) (flat_map f xs) y h) as (λ _. (z : A) × Has (x ∷ xs) z × Has (f z) y) [
      | inl k ↦ (x, inl refl, k)
      | inr k ↦ let more = flat_has f xs y k in (more.0, inr more.1, more.2)
    ]

pub has_at : {A : Type 0} (xs : List A) (i : ℕ) (x : A) → i < length xs → x ≡ get_or xs i x → Has xs x
has_at [] i x h is = absurd (omega (arith, h))
has_at (y ∷ xs) zero x h is = inl (sym is)
has_at (y ∷ xs) (suc i) x h is = inr (has_at xs i x (omega (arith, h)) is)

filtered : (p : Value → Bool) (xs : List Value) (x : Value) → Has (filter p xs) x → Has xs x
filtered p [] x h = elim h [ ]
filtered p (y ∷ xs) x h =
    elim (p y) as (λ b. Has (cond b (y ∷ filter p xs) (filter p xs)) x → Has (y ∷ xs) x) [
      | true ↦ λ h. elim h as (λ _. Has (y ∷ xs) x) [ inl is ↦ inl is | inr k ↦ inr (filtered p xs x k) ]
      | false ↦ λ h. inr (filtered p xs x h)
    ] h

-- what stands once stands there
pub once_has : (xs : List Value) (x : Value) → Has (once xs) x → Has xs x
once_has [] x h = elim h [ ]
once_has (y ∷ xs) x (inl is) = inl is
once_has (y ∷ xs) x (inr h) = inr (once_has xs x (filtered (λ z. not (same y z)) (once xs) x h))

kept : (p : Value → Bool) (xs : List Value) (x : Value) → p x ≡ true → Has xs x → Has (filter p xs) x
kept p [] x pass h = elim h [ ]
kept p (y ∷ xs) x pass h =
    elim (p y) as (λ b. p y ≡ b → Has (cond b (y ∷ filter p xs) (filter p xs)) x) [
      | true ↦ λ _. elim h as (λ _. Has (y ∷ filter p xs) x) [ inl is ↦ inl is | inr k ↦ inr (kept p xs x pass k) ]
      | false ↦ λ e. elim h as (λ _. Has (filter p xs) x) [ inl is ↦ absurd (true≢false (sym pass ∙ ap p (sym is) ∙ e)) | inr k ↦ kept p xs x pass k ]
    ] refl

-- what stands there stands once
pub has_in_once : (xs : List Value) (x : Value) → Has xs x → Has (once xs) x
has_in_once [] x h = elim h [ ]
has_in_once (y ∷ xs) x (inl is) = inl is
has_in_once (y ∷ xs) x (inr h) =
    elim (same y x) as (λ b. same y x ≡ b → Has (y ∷ filter (λ z. not (same y z)) (once xs)) x) [
      | true ↦ λ e. inl (same_is y x e)
      | false ↦ λ e. inr (kept (λ z. not (same y z)) (once xs) x (ap not e) (has_in_once xs x h))
    ] refl

-- a value of the first groups is one of some of them
pub before_has : (gs : List (List Entry)) (n : ℕ) (x : Value) → Has (values_before gs n) x → (j : ℕ) × (j < n) × Has (values_in (group_at gs j)) x
before_has [] zero x h = elim h [ ]
before_has [] (suc n) x h = elim h [ ]
before_has (g ∷ gs) zero x h = elim h [ ]
before_has (g ∷ gs) (suc n) x h =
    elim (has_either (values_in g) (values_before gs n) x h) as (λ _. (j : ℕ) × (j < suc n) × Has (values_in (group_at (g ∷ gs) j)) x) [
      | inl k ↦ (0, omega arith, k)
      | inr k ↦ let more = before_has gs n x k in (suc more.0, omega (arith, more.1), more.2)
    ]

-- ---- values of each list

pub picked_more : (xss : List (List Value)) (vs : List Value) (xs : List Value) (x : Value) → ArePicked xss vs → Has xs x → ArePicked (xss ++ xs ∷ []) (vs ++ x ∷ [])
picked_more [] [] xs x p h = (h, tt)
picked_more [] (v ∷ vs) xs x p h = absurd p
picked_more (ys ∷ xss) [] xs x p h = absurd p
picked_more (ys ∷ xss) (v ∷ vs) xs x p h = (p.0, picked_more xss vs xs x p.1 h)

-- they are one of the combinations
pub picked_tuple : (xss : List (List Value)) (vs : List Value) → ArePicked xss vs → Has (tuples xss) vs
picked_tuple [] [] p = inl refl
picked_tuple [] (v ∷ vs) p = absurd p
picked_tuple (xs ∷ xss) [] p = absurd p
picked_tuple (xs ∷ xss) (v ∷ vs) p =
    has_flat (λ x. map (λ t. x ∷ t) (tuples xss)) xs v (v ∷ vs) p.0 (has_map (λ t. v ∷ t) (tuples xss) vs (picked_tuple xss vs p.1))

pub products_has : (vss : List (List Value)) (xs : List Value) (ys : List Value) → Has (products vss xs) ys → (vs : List Value) × (x : Value) × Has vss vs × Has xs x × (vs ++ x ∷ [] ≡ ys)
products_has [] xs ys h = elim h [ ]
products_has (us ∷ vss) xs ys h =
    elim (has_either (map (λ x. us ++ x ∷ []) xs) (products vss xs) ys h) as (λ _. (vs : List Value) × (x : Value) × Has (us ∷ vss) vs × Has xs x × (vs ++ x ∷ [] ≡ ys)) [
      | inl k ↦ let m = map_has (λ (x : Value). us ++ x ∷ []) xs ys k in (us, m.0, inl refl, m.1, m.2)
      | inr k ↦ let m = products_has vss xs ys k in (m.0, m.1, inr m.2, m.3, m.4)
    ]
