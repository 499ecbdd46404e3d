-- Tuples of lists without repeats.
use Rattle.std.proofs.Common.{◌≡◌, ℕ, zero, suc, ◌+◌, ◌*◌, ◌<◌, List, [], ◌∷◌, length, map, drop, slice_get, Some, refl, sym, ap, ◌∙◌, subst, arith}
use Rattle.std.proofs.lemmas.Option.{slice_get_within, get_or_from_slice_get}
use Rattle.std.specs.List.{Contains, AllZip}
use Rattle.asm_sign.specs.Tuples.{tuples, AllDistinct}
use Rattle.asm_domain.specs.Universe.{AreDistinct}
use Rattle.asm_sign.proofs.TupleLemmas.{in_tuples, get-extended, length-tuples}

pub all_head : {A : Type 0} (xs : List A) (xss : List (List A)) → AllDistinct (xs ∷ xss) → (0 < length xs) × AreDistinct xs
all_head xs xss all = all 0 xs refl

pub all_tail : {A : Type 0} (xs : List A) (xss : List (List A)) → AllDistinct (xs ∷ xss) → AllDistinct xss
all_tail xs xss all k ys at = all (suc k) ys at

pub distinct_tuples : {A : Type 0} (xss : List (List A)) → AllDistinct xss → AreDistinct (tuples xss)
distinct_tuples {A = A} [] all = record { one_place = λ i j t e f. one i j t e f }
  where
    one : (i j : ℕ) (t : List A) → slice_get (tuples []) i ≡ Some t → slice_get (tuples []) j ≡ Some t → i ≡ j
    one zero zero t e f = refl
    one (suc i) j t e f = absurd (cc e)
    one zero (suc j) t e f = absurd (cc f)
distinct_tuples (xs ∷ xss) all = record {
  one_place = λ i j t e f.
      let p = in_tuples xs xss i t e in
      let q = in_tuples xs xss j t f in
      let same : p.item ∷ p.others ≡ q.item ∷ q.others = sym p.tuple_is ∙ q.tuple_is in
      let items : p.item ≡ q.item = cc same in
      let others : p.others ≡ q.others = cc same in
      let ranks = (all_head xs xss all).1.one_place p.rank q.rank p.item p.item_is (q.item_is ∙ ap Some (sym items)) in
      let rests = (distinct_tuples xss (all_tail xs xss all)).one_place p.rest q.rest p.others p.others_are (q.others_are ∙ ap Some (sym others)) in
      p.place_is ∙ (λ k. ranks k * length (tuples xss) + rests k) ∙ sym q.place_is;
}

-- a tuple has an item of each list
pub in_tuples_picks : {A : Type 0} (xss : List (List A)) (i : ℕ) (t : List A) → slice_get (tuples xss) i ≡ Some t → AllZip (λ x xs. Contains xs x) t xss
in_tuples_picks {A = A} [] zero t at = let e : [] ≡ t = cc at in subst (λ (u : List A). AllZip (λ x xs. Contains xs x) u []) e tt
in_tuples_picks [] (suc i) t at = absurd (cc at)
in_tuples_picks {A = A} (xs ∷ xss) i t at =
    let p = in_tuples xs xss i t at in
    let here : Contains xs p.item = (p.rank, slice_get_within xs p.rank p.item p.item_is, get_or_from_slice_get xs p.rank p.item p.item p.item_is) in
    subst (λ (u : List A). AllZip (λ x xs. Contains xs x) u (xs ∷ xss)) (sym p.tuple_is) (here, in_tuples_picks xss p.rest p.others p.others_are)

-- the number of tuples of lists that aren't empty
pub mul_some : (m n : ℕ) → 0 < m → 0 < n → 0 < m * n
mul_some zero n some some' = absurd (omega arith)
mul_some (suc m) zero some some' = absurd (omega arith)
mul_some (suc m) (suc n) some some' = omega arith

pub tuples_some : {A : Type 0} (xss : List (List A)) → AllDistinct xss → 0 < length (tuples xss)
tuples_some [] all = omega arith
tuples_some (xs ∷ xss) all =
    rw (length-tuples xs xss) (mul_some (length xs) (length (tuples xss)) (all_head xs xss all).0 (tuples_some xss (all_tail xs xss all)))

-- what is left of the lists from a place on
drop-suc : {A : Type 0} (xs : List A) (i : ℕ) (x : A) → slice_get xs i ≡ Some x → drop i xs ≡ x ∷ drop (suc i) xs
drop-suc [] i x at = absurd (cc at)
drop-suc (y ∷ xs) zero x at = let e : y ≡ x = cc at in ap (λ z. z ∷ xs) e
drop-suc (y ∷ xs) (suc i) x at = drop-suc xs i x at

pub drop-at : {A : Type 0} (xs : List A) (i : ℕ) (x : A) → slice_get xs i ≡ Some x → drop i xs ≡ x ∷ drop (i + 1) xs
drop-at xs i x at = let e : suc i ≡ i + 1 = omega arith in drop-suc xs i x at ∙ ap (λ n. x ∷ drop n xs) e

pub all_drop : {A : Type 0} (xss : List (List A)) (i : ℕ) → AllDistinct xss → AllDistinct (drop i xss)
all_drop xss zero all = all
all_drop [] (suc i) all = all
all_drop (xs ∷ xss) (suc i) all = all_drop xss i (all_tail xs xss all)

-- one list less to take an item of
pub fewer : {A : Type 0} (xss : List (List A)) (i : ℕ) (xs : List A) → slice_get xss i ≡ Some xs → length (tuples (drop i xss)) ≡ length xs * length (tuples (drop (i + 1) xss))
fewer xss i xs at = ap (λ yss. length (tuples yss)) (drop-at xss i xs at) ∙ length-tuples xs (drop (i + 1) xss)

-- a tuple of what is left has an item of the next list in front of a tuple of the others
pub one_more : {A : Type 0} (xss : List (List A)) (i : ℕ) (xs : List A) (r m : ℕ) (x : A) (t : List A) → slice_get xss i ≡ Some xs → slice_get xs r ≡ Some x → slice_get (tuples (drop (i + 1) xss)) m ≡ Some t → slice_get (tuples (drop i xss)) (r * length (tuples (drop (i + 1) xss)) + m) ≡ Some (x ∷ t)
one_more xss i xs r m x t at_i at_r at_m =
    ap (λ yss. slice_get (tuples yss) (r * length (tuples (drop (i + 1) xss)) + m)) (drop-at xss i xs at_i) ∙ get-extended (tuples (drop (i + 1) xss)) xs r m x t at_r at_m

-- an item of a tuple is of the list at its place
pub picked : {A : Type 0} (xss : List (List A)) (j i : ℕ) (t xs : List A) (x : A) → slice_get (tuples xss) j ≡ Some t → slice_get xss i ≡ Some xs → slice_get t i ≡ Some x → (k : ℕ) × (slice_get xs k ≡ Some x)
picked [] j i t xs x at at_i at_x = absurd (cc at_i)
picked (ys ∷ xss) j zero t xs x at at_i at_x =
    let p = in_tuples ys xss j t at in
    let same : ys ≡ xs = cc at_i in
    let item : p.item ≡ x = cc (ap (λ u. slice_get u 0) p.tuple_is, at_x) in
    (p.rank, ap (λ zs. slice_get zs p.rank) (sym same) ∙ p.item_is ∙ ap Some item)
picked (ys ∷ xss) j (suc i) t xs x at at_i at_x =
    let p = in_tuples ys xss j t at in
    picked xss p.rest i p.others xs x p.others_are at_i (sym (ap (λ u. slice_get u (suc i)) p.tuple_is) ∙ at_x)

pub get-map_at : {A B : Type 0} (f : A → B) (xs : List A) (i : ℕ) (x : A) → slice_get xs i ≡ Some x → slice_get (map f xs) i ≡ Some (f x)
get-map_at f [] i x at = absurd (cc at)
get-map_at f (y ∷ xs) zero x at = let e : y ≡ x = cc at in ap (λ z. Some (f z)) e
get-map_at f (y ∷ xs) (suc i) x at = get-map_at f xs i x at
