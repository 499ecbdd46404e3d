-- Each value of a list once.
use Rattle.std.proofs.Common.{◌≡◌, ◌+◌, ◌≤◌, List, [], ◌∷◌, ◌++◌, length, map, filter, arith, sym, ◌∙◌, Bool, true, false, true≢false, cond, not, ◌&&◌, ◌||◌, refl, ap, append-nil}
use Rattle.std.specs.List.{list_any}
use Rattle.std.proofs.lemmas.List.Elements.{filter-append}
use Rattle.std.proofs.lemmas.List.Folds.{list_any-append}
use Rattle.asm_domain.specs.declared.value.Value.{Value}
use Rattle.asm_node.specs.Values.{same}
use Rattle.asm_node.proofs.Sameness.{same_is, same_itself}
use Rattle.enc_group.specs.declared.group.Entry.{Entry}
use Rattle.enc_group.specs.Group.{has, once, are_distinct, lits_with}
use Rattle.enc_group.specs.Merging.{added, fresh, covered}

pub same_swap : (x y : Value) → same x y ≡ same y x
same_swap x y =
    elim (same x y) as (λ b. same x y ≡ b → b ≡ same y x) [
      | true ↦ λ h. sym (ap (λ (z : Value). same z x) (sym (same_is x y h)) ∙ same_itself x)
      | false ↦ λ h.
          elim (same y x) as (λ b. same y x ≡ b → false ≡ b) [
            | true ↦ λ k. let t : same x y ≡ true = ap (λ (z : Value). same x z) (same_is y x k) ∙ same_itself x in absurd (true≢false (sym t ∙ h))
            | false ↦ λ _. refl
          ] refl
    ] refl

pub has_push : (xs : List Value) (x y : Value) → has (xs ++ x ∷ []) y ≡ (has xs y || same x y)
has_push xs x y = list_any-append (λ (z : Value). same z y) xs (x ∷ []) ∙ ends (has xs y) (same x y)
  where
    ends : (a b : Bool) → a || (b || false) ≡ a || b
    ends true b = refl
    ends false true = refl
    ends false false = refl

-- dropping one value leaves the others
has_others : (x y : Value) (xs : List Value) → same x y ≡ false → has (filter (λ z. not (same x z)) xs) y ≡ has xs y
has_others x y [] no_same = refl
has_others x y (z ∷ xs) no_same =
    elim (same x z) as (λ b. same x z ≡ b → list_any (λ w. same w y) (cond (not b) (z ∷ filter (λ w. not (same x w)) xs) (filter (λ w. not (same x w)) xs)) ≡ same z y || has xs y) [
      | true ↦ λ h.
          let other : same z y ≡ false = ap (λ (w : Value). same w y) (sym (same_is x z h)) ∙ no_same in
          has_others x y xs no_same ∙ ap (λ b. b || has xs y) (sym other)
      | false ↦ λ h. ap (λ b. same z y || b) (has_others x y xs no_same)
    ] refl

pub has_once : (xs : List Value) (y : Value) → has (once xs) y ≡ has xs y
has_once [] y = refl
has_once (x ∷ xs) y =
    elim (same x y) as (λ b. same x y ≡ b → b || has (filter (λ z. not (same x z)) (once xs)) y ≡ b || has xs y) [
      | true ↦ λ h. refl
      | false ↦ λ h. has_others x y (once xs) h ∙ has_once xs y
    ] refl

-- one value more
pub once_push : (xs : List Value) (y : Value) → once (xs ++ y ∷ []) ≡ added (once xs) y
once_push [] y = refl
once_push (x ∷ xs) y =
    let drop : List Value → List Value = filter (λ z. not (same x z)) in
    ap (λ (zs : List Value). x ∷ drop zs) (once_push xs y)
    ∙ elim (same x y) as (λ b. same x y ≡ b → x ∷ drop (added (once xs) y) ≡ cond (b || has (drop (once xs)) y) (x ∷ drop (once xs)) (x ∷ drop (once xs) ++ y ∷ [])) [
      | true ↦ λ h.
          elim (has (once xs) y) as (λ c. x ∷ drop (cond c (once xs) (once xs ++ y ∷ [])) ≡ x ∷ drop (once xs)) [
            | true ↦ refl
            | false ↦
                ap (λ (zs : List Value). x ∷ zs) (filter-append (λ z. not (same x z)) (once xs) (y ∷ [])
                ∙ ap (λ b. drop (once xs) ++ cond (not b) (y ∷ []) []) h ∙ append-nil (drop (once xs)))
          ]
      | false ↦ λ h.
          ap (λ c. x ∷ drop (cond c (once xs) (once xs ++ y ∷ []))) (sym (has_others x y (once xs) h))
          ∙ elim (has (drop (once xs)) y) as (λ c. x ∷ drop (cond c (once xs) (once xs ++ y ∷ [])) ≡ cond c (x ∷ drop (once xs)) (x ∷ drop (once xs) ++ y ∷ [])) [
            | true ↦ refl
            | false ↦
                ap (λ (zs : List Value). x ∷ zs) (filter-append (λ z. not (same x z)) (once xs) (y ∷ [])
                ∙ ap (λ b. drop (once xs) ++ cond (not b) (y ∷ []) []) h)
          ]
    ] refl

length_push : (xs : List Value) (x : Value) → length (xs ++ x ∷ []) ≡ length xs + 1
length_push [] x = refl
length_push (y ∷ xs) x = omega (arith, length_push xs x)

pub length_added : (xs : List Value) (x : Value) → length (added xs x) ≡ length xs + fresh xs x
length_added xs x =
    elim (has xs x) as (λ c. length (cond c xs (xs ++ x ∷ [])) ≡ length xs + cond c 0 1) [
      | true ↦ omega arith
      | false ↦ length_push xs x
    ]

-- no value stands twice
dropped : (x : Value) (xs : List Value) → has (filter (λ z. not (same x z)) xs) x ≡ false
dropped x [] = refl
dropped x (z ∷ xs) =
    elim (same x z) as (λ b. same x z ≡ b → list_any (λ w. same w x) (cond (not b) (z ∷ filter (λ w. not (same x w)) xs) (filter (λ w. not (same x w)) xs)) ≡ false) [
      | true ↦ λ h. dropped x xs
      | false ↦ λ h. ap (λ b. b || has (filter (λ w. not (same x w)) xs) x) (same_swap z x ∙ h) ∙ dropped x xs
    ] refl

fewer : (p : Value → Bool) (xs : List Value) (y : Value) → has xs y ≡ false → has (filter p xs) y ≡ false
fewer p [] y h = refl
fewer p (x ∷ xs) y h =
    let s = neither (same x y) (has xs y) h in
    elim (p x) as (λ b. has (cond b (x ∷ filter p xs) (filter p xs)) y ≡ false) [
      | true ↦ ap (λ b. b || has (filter p xs) y) s.0 ∙ fewer p xs y s.1
      | false ↦ fewer p xs y s.1
    ]
  where
    neither : (a b : Bool) → a || b ≡ false → (a ≡ false) × (b ≡ false)
    neither true b h = absurd (true≢false h)
    neither false b h = (refl, h)

both_true : (a b : Bool) → a && b ≡ true → (a ≡ true) × (b ≡ true)
both_true true b h = (refl, h)
both_true false b h = absurd (true≢false (sym h))

not_true : (a : Bool) → not a ≡ true → a ≡ false
not_true true h = sym h
not_true false h = refl

distinct_filter : (p : Value → Bool) (xs : List Value) → are_distinct xs ≡ true → are_distinct (filter p xs) ≡ true
distinct_filter p [] h = refl
distinct_filter p (x ∷ xs) h =
    let s = both_true (not (has xs x)) (are_distinct xs) h in
    elim (p x) as (λ b. are_distinct (cond b (x ∷ filter p xs) (filter p xs)) ≡ true) [
      | true ↦ ap (λ b. not b && are_distinct (filter p xs)) (fewer p xs x (not_true (has xs x) s.0)) ∙ distinct_filter p xs s.1
      | false ↦ distinct_filter p xs s.1
    ]

pub once_distinct : (xs : List Value) → are_distinct (once xs) ≡ true
once_distinct [] = refl
once_distinct (x ∷ xs) =
    ap (λ b. not b && are_distinct (filter (λ z. not (same x z)) (once xs))) (dropped x (once xs)) ∙ distinct_filter (λ z. not (same x z)) (once xs) (once_distinct xs)

-- ---- how many entries have one of the values

pub covered_few : (es : List Entry) (xs : List Value) → covered es xs ≤ length es
covered_few [] xs = omega arith
covered_few (e ∷ es) xs =
    elim (has xs e.value) as (λ b. length (cond b (e ∷ filter (λ d. has xs d.value) es) (filter (λ d. has xs d.value) es)) ≤ length (e ∷ es)) [
      | true ↦ omega (arith, covered_few es xs)
      | false ↦ omega (arith, covered_few es xs)
    ]

-- a new value covers its entries as well
pub covered_push : (es : List Entry) (xs : List Value) (x : Value) → has xs x ≡ false → covered es (xs ++ x ∷ []) ≡ covered es xs + length (lits_with es x)
covered_push [] xs x h = refl
covered_push (e ∷ es) xs x h =
    let more = covered_push es xs x h in
    let in_all : List Entry = filter (λ d. has (xs ++ x ∷ []) d.value) es in
    let in_old : List Entry = filter (λ d. has xs d.value) es in
    let with_x : List Entry = filter (λ d. same d.value x) es in
    ap (λ b. length (cond b (e ∷ in_all) in_all)) (has_push xs x e.value)
    ∙ elim (same e.value x) as (λ b. same e.value x ≡ b → length (cond (has xs e.value || same x e.value) (e ∷ in_all) in_all) ≡ length (cond (has xs e.value) (e ∷ in_old) in_old) + length (map (λ (d : Entry). d.lit) (cond b (e ∷ with_x) with_x))) [
      | true ↦ λ k.
          let is : e.value ≡ x = same_is e.value x k in
          let old : has xs e.value ≡ false = ap (has xs) is ∙ h in
          let new : same x e.value ≡ true = same_swap x e.value ∙ k in
          let left : length (cond (has xs e.value || same x e.value) (e ∷ in_all) in_all) ≡ length (e ∷ in_all) = ap (λ b. length (cond (b || same x e.value) (e ∷ in_all) in_all)) old ∙ ap (λ b. length (cond b (e ∷ in_all) in_all)) new in
          let right : length (cond (has xs e.value) (e ∷ in_old) in_old) ≡ length in_old = ap (λ b. length (cond b (e ∷ in_old) in_old)) old in
          omega (arith, more, left, right)
      | false ↦ λ k.
          let new : same x e.value ≡ false = same_swap x e.value ∙ k in
          ap (λ b. length (cond (has xs e.value || b) (e ∷ in_all) in_all)) new
          ∙ elim (has xs e.value) as (λ b. length (cond (b || false) (e ∷ in_all) in_all) ≡ length (cond b (e ∷ in_old) in_old) + length (lits_with es x)) [
            | true ↦ omega (arith, more)
            | false ↦ more
          ]
    ] refl
