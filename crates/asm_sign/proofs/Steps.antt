-- One domain more of a tuple.
use Rattle.std.proofs.Common.{◌≡◌, ℕ, ◌+◌, ◌*◌, ◌/◌, ◌%◌, ◌<◌, ◌≤◌, List, [], ◌∷◌, ◌++◌, length, map, drop, get_or, slice_get, Some, None, refl, sym, ap, ◌∙◌, subst, inl, inr, arith, append_assoc}
use Rattle.std.proofs.lemmas.Bool.{cases_lt}
use Rattle.std.proofs.lemmas.List.{drop_all, append-nil}
use Rattle.std.proofs.lemmas.Option.{slice_get-get_or, slice_get_within}
use Rattle.asm_domain.specs.Universe.{elements, AreDistinct, IsRank}
use Rattle.asm_sign.specs.declared.function.DeclaredDomain.{DeclaredDomain}
use Rattle.asm_sign.specs.Arguments.{elements_of, elements_at}
use Rattle.asm_sign.specs.Tuples.{tuples}
use Rattle.asm_sign.proofs.Bounds.{exact_quotient, quotient_below, some_factor, divided, horner}
use Rattle.asm_sign.proofs.Picks.{get-map_at, fewer, one_more, drop-at, picked}
use Rattle.asm_domain.proofs.Elements.{no_rank}

-- the list at a place
pub list_at : (domains : List DeclaredDomain) (numbers : List ℕ) (i : ℕ) (d : DeclaredDomain) → i < length numbers → get_or numbers i 0 < length domains → slice_get (map (elements_at domains) numbers) i ≡ Some (elements (get_or domains (get_or numbers i 0) d).domain)
list_at domains numbers i d lt within =
    get-map_at (elements_at domains) numbers i (get_or numbers i 0) (slice_get-get_or numbers i 0 lt) ∙ ap (λ o. Some (elements_of o)) (slice_get-get_or domains (get_or numbers i 0) d within)

-- one more list without repeats
pub all_more : {A : Type 0} (xss : List (List A)) (i : ℕ) (ys : List A) → slice_get xss i ≡ Some ys → 0 < length ys → AreDistinct ys
    → ((k : ℕ) (xs : List A) → k < i → slice_get xss k ≡ Some xs → (0 < length xs) × AreDistinct xs) → (k : ℕ) (xs : List A) → k < i + 1 → slice_get xss k ≡ Some xs → (0 < length xs) × AreDistinct xs
all_more {A = A} xss i ys at some distinct before k xs lt at_k =
    elim (cases_lt k i) [
      | inl l ↦ before k xs l at_k
      | inr l ↦
          let e : k ≡ i = omega arith in
          let at_i = ap (slice_get xss) (sym e) ∙ at_k in
          let same : ys ≡ xs = cc (at, at_i) in
          subst (λ (zs : List A). (0 < length zs) × AreDistinct zs) same (some, distinct)
    ]

-- the number of tuples is a product
pub product_at : {A : Type 0} (xss : List (List A)) (i : ℕ) (xs : List A) (s : ℕ) → slice_get xss i ≡ Some xs → s ≡ length xs → length (tuples (drop i xss)) ≡ s * length (tuples (drop (i + 1) xss))
product_at xss i xs s at e = fewer xss i xs at ∙ ap (λ n. n * length (tuples (drop (i + 1) xss))) (sym e)

-- the place of a tuple, one domain on
pub placed_more : {A : Type 0} (xss : List (List A)) (i : ℕ) (xs args : List A) (s r place : ℕ) (x : A) → slice_get xss i ≡ Some xs → s ≡ length xs → slice_get args i ≡ Some x → slice_get xs r ≡ Some x
    → ((m : ℕ) → slice_get (tuples (drop i xss)) m ≡ Some (drop i args) → slice_get (tuples xss) (place * length (tuples (drop i xss)) + m) ≡ Some args)
    → (m : ℕ) → slice_get (tuples (drop (i + 1) xss)) m ≡ Some (drop (i + 1) args) → slice_get (tuples xss) ((place * s + r) * length (tuples (drop (i + 1) xss)) + m) ≡ Some args
placed_more xss i xs args s r place x at e at_x at_r placed m at_m =
    let t = length (tuples (drop (i + 1) xss)) in
    let whole = one_more xss i xs r m x (drop (i + 1) args) at at_r at_m ∙ ap Some (sym (drop-at args i x at_x)) in
    let step = horner place s r t m (length (tuples (drop i xss))) (product_at xss i xs s at e) in
    ap (slice_get (tuples xss)) (sym step) ∙ placed (r * t + m) whole

-- the place of a whole tuple
pub placed_all : {A : Type 0} (xss : List (List A)) (i : ℕ) (args : List A) (place : ℕ) → length xss ≤ i → length args ≤ i
    → ((m : ℕ) → slice_get (tuples (drop i xss)) m ≡ Some (drop i args) → slice_get (tuples xss) (place * length (tuples (drop i xss)) + m) ≡ Some args) → slice_get (tuples xss) place ≡ Some args
placed_all {A = A} xss i args place end end_args placed =
    let none = drop_all i xss end in
    let none_args = drop_all i args end_args in
    let start : slice_get (tuples (drop i xss)) 0 ≡ Some (drop i args) = ap (λ yss. slice_get (tuples yss) 0) none ∙ ap Some (sym none_args) in
    let one : length (tuples (drop i xss)) ≡ 1 = ap (λ yss. length (tuples yss)) none in
    let same : place ≡ place * length (tuples (drop i xss)) + 0 = rw one (omega arith) in
    ap (slice_get (tuples xss)) same ∙ placed 0 start

-- a tuple, one item on
pub element_within : (n s s' t r : ℕ) → s ≡ s' → n ≡ s * t → r < n → 0 < s → r / (n / s) < s'
element_within n s s' t r same e lt some =
    let q = exact_quotient n s t e some in rw (q, sym same) (quotient_below n s t r e lt (some_factor n s t r e lt))

pub stride_some : (n s t r : ℕ) → n ≡ s * t → r < n → 0 < s → 0 < n / s
stride_some n s t r e lt some = rw (exact_quotient n s t e some) (some_factor n s t r e lt)

pub told_more : {A : Type 0} (xss : List (List A)) (i : ℕ) (xs : List A) (s n rest place : ℕ) (items new : List A) (x : A) → slice_get xss i ≡ Some xs → s ≡ length xs → 0 < s → n ≡ length (tuples (drop i xss)) → rest < n
    → slice_get xs (rest / (n / s)) ≡ Some x → new ≡ items ++ x ∷ []
    → ((t : List A) → slice_get (tuples (drop i xss)) rest ≡ Some t → slice_get (tuples xss) place ≡ Some (items ++ t))
    → (t : List A) → slice_get (tuples (drop (i + 1) xss)) (rest % (n / s)) ≡ Some t → slice_get (tuples xss) place ≡ Some (new ++ t)
told_more xss i xs s n rest place items new x at same some left within at_x grown told t at_t =
    let u = length (tuples (drop (i + 1) xss)) in
    let e = left ∙ product_at xss i xs s at same in
    let q = exact_quotient n s u e some in
    let positive = some_factor n s u rest e within in
    let at_x' = ap (λ k. slice_get xs (rest / k)) (sym q) ∙ at_x in
    let at_t' = ap (λ k. slice_get (tuples (drop (i + 1) xss)) (rest % k)) (sym q) ∙ at_t in
    let whole = one_more xss i xs (rest / u) (rest % u) x t at at_x' at_t' in
    let place_is = divided rest u positive in
    told (x ∷ t) (ap (slice_get (tuples (drop i xss))) (sym place_is) ∙ whole) ∙ ap Some (sym (append_assoc items (x ∷ []) t) ∙ ap (λ ys. ys ++ t) (sym grown))

-- a whole tuple
pub told_all : {A : Type 0} (xss : List (List A)) (i n rest place : ℕ) (items : List A) → length xss ≤ i → n ≡ length (tuples (drop i xss)) → rest < n
    → ((t : List A) → slice_get (tuples (drop i xss)) rest ≡ Some t → slice_get (tuples xss) place ≡ Some (items ++ t)) → slice_get (tuples xss) place ≡ Some items
told_all xss i n rest place items end left within told =
    let none = drop_all i xss end in
    let one : n ≡ 1 = left ∙ ap (λ yss. length (tuples yss)) none in
    let zero_rest : rest ≡ 0 = omega arith in
    told [] (ap (slice_get (tuples (drop i xss))) zero_rest ∙ ap (λ yss. slice_get (tuples yss) 0) none) ∙ ap Some (append-nil items)

-- a rank is below the size
pub rank_below : {A : Type 0} (xs : List A) (x : A) (k s r : ℕ) → IsRank xs x (Some k) → s ≡ length xs → r ≡ k → r < s
rank_below xs x k s r is e f = let lt = slice_get_within xs k x (is.found k refl) in omega arith

pub rank_found : {A : Type 0} (xs : List A) (x : A) (k r : ℕ) → IsRank xs x (Some k) → r ≡ k → slice_get xs r ≡ Some x
rank_found xs x k r is e = ap (slice_get xs) e ∙ is.found k refl

-- a tuple with an item that has no rank has no place
pub place_none : {A : Type 0} (xs : List A) (x : A) → IsRank xs x None → (xss : List (List A)) (i : ℕ) (args : List A) → slice_get xss i ≡ Some xs → slice_get args i ≡ Some x → IsRank (tuples xss) args None
place_none xs x none xss i args at at_x =
    no_rank (tuples xss) args (λ k at_k. let p = picked xss k i args xs x at_k at at_x in cc (none.every p.0 p.1))
