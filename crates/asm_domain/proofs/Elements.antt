-- The elements of a domain by their ranks.
use Rattle.std.proofs.Common.{◌≡◌, ℕ, zero, suc, ◌+◌, ◌<◌, ◌≤◌, ◌⊎◌, ◌↔◌, List, [], ◌∷◌, length, map, slice_get, Option, Some, None, ℤ, pos, negsuc, ◌+ℤ◌, ◌-ℤ◌, ◌≤ℤ◌, ◌<ℤ◌, Bool as Truth, true, false, if◌then◌else◌, IsNone, unsigned_abs, refl, sym, ap, ◌∙◌, subst, inl, inr, arith}
use Rattle.std.proofs.lemmas.List.{length-map}
use Rattle.std.proofs.lemmas.Int.{ints}
use Rattle.std.specs.Option.{option_map}
use Rattle.std.proofs.lemmas.Option.{slice_get_within, slice_get-get_or, get_or_from_slice_get}
use Rattle.std.specs.List.{Contains}
use Rattle.asm_domain.specs.declared.value.Value.{Value}
use Rattle.asm_domain.specs.declared.value.Value.TheVariants.{Bool, Int, Elem}
use Rattle.asm_domain.specs.Universe.{Truths, elements, named_from, upwards, above_zero, numbers_between, AreDistinct, MakeDomain, IsRank}
use Rattle.asm_domain.proofs.Distinct.{get-map}
use Rattle.asm_domain.proofs.Sizes.{size_of_pos}

pub length-named_from : (number rank : ℕ) (names : List (List ℕ)) → length (named_from number rank names) ≡ length names
length-named_from number rank [] = refl
length-named_from number rank (name ∷ names) = ap suc (length-named_from number (suc rank) names)

pub get-named_from : (number rank : ℕ) (names : List (List ℕ)) (i : ℕ) → i < length names → slice_get (named_from number rank names) i ≡ Some (Elem number (rank + i))
get-named_from number rank [] i lt = absurd (omega arith)
get-named_from number rank (name ∷ names) zero lt = ap (λ n. Some (Elem number n)) (omega arith)
get-named_from number rank (name ∷ names) (suc i) lt = get-named_from number (suc rank) names i (omega arith) ∙ ap (λ n. Some (Elem number n)) (omega arith)

pub length-upwards : (low : ℤ) (n : ℕ) → length (upwards low n) ≡ n
length-upwards low zero = refl
length-upwards low (suc n) = ap suc (length-upwards (low +ℤ pos 1) n)

pub get-upwards : (low : ℤ) (n i : ℕ) → i < n → slice_get (upwards low n) i ≡ Some (low +ℤ pos i)
get-upwards low zero i lt = absurd (omega arith)
get-upwards low (suc n) zero lt = ap Some (omega (arith, ints))
get-upwards low (suc n) (suc i) lt = get-upwards (low +ℤ pos 1) n i (omega arith) ∙ ap Some (omega (arith, ints))

module _ {A : Type 0} (xs : List A) (v : A) where
  -- a value that stands nowhere has no rank
  pub no_rank : ((k : ℕ) → slice_get xs k ≡ Some v → ⊥) → IsRank xs v None
  no_rank none = record { found = λ k is. absurd (cc is); every = λ k at. absurd (none k at) }

  -- in a list without repeats, a place is the rank
  pub rank_at : AreDistinct xs → (k : ℕ) → slice_get xs k ≡ Some v → IsRank xs v (Some k)
  rank_at distinct k at = record {
    found = λ j is. let e : k ≡ j = cc in ap (slice_get xs) (sym e) ∙ at;
    every = λ j at_j. ap Some (distinct.one_place k j v at at_j);
  }

-- what is an element of which domain
pub in_truths : (k : ℕ) (v : Value) → slice_get (elements Truths) k ≡ Some v → (b : Truth) × (v ≡ Bool b)
in_truths zero v at = (false, cc)
in_truths (suc zero) v at = (true, cc)
in_truths (suc (suc k)) v at = absurd (cc at)

pub in_numbers : (xs : List ℤ) (k : ℕ) (v : Value) → slice_get (map Int xs) k ≡ Some v → (x : ℤ) × (v ≡ Int x) × (slice_get xs k ≡ Some x)
in_numbers [] k v at = absurd (cc at)
in_numbers (x ∷ xs) zero v at = (x, cc, refl)
in_numbers (x ∷ xs) (suc k) v at = in_numbers xs k v at

pub in_named : (number : ℕ) (names : List (List ℕ)) (k : ℕ) (v : Value) → slice_get (named_from number 0 names) k ≡ Some v → (k < length names) × (v ≡ Elem number k)
in_named number names k v at =
    let lt = slice_get_within (named_from number 0 names) k v at in
    let e = length-named_from number 0 names in
    let k_in : k < length names = omega arith in
    let f = get-named_from number 0 names k k_in in
    let g : 0 + k ≡ k = omega arith in (k_in, grind (arith, f, g, at))

pub in_upwards : (low : ℤ) (n k : ℕ) (x : ℤ) → slice_get (upwards low n) k ≡ Some x → (k < n) × (x ≡ low +ℤ pos k)
in_upwards low n k x at =
    let lt = slice_get_within (upwards low n) k x at in
    let e = length-upwards low n in
    let k_in : k < n = omega arith in
    let f = get-upwards low n k k_in in (k_in, cc (f, at))

-- the elements of each kind of domain are different, where what it is made of is
pub numbers_distinct : (xs : List ℤ) → AreDistinct xs → AreDistinct (map Int xs)
numbers_distinct xs d = record {
  one_place = λ i j v e f.
      let p = in_numbers xs i v e in
      let q = in_numbers xs j v f in
      let same : p.0 ≡ q.0 = cc (p.1, q.1) in d.one_place i j p.0 p.2 (q.2 ∙ ap Some (sym same));
}

pub named_distinct : (number : ℕ) (names : List (List ℕ)) → AreDistinct (named_from number 0 names)
named_distinct number names = record {
  one_place = λ i j v e f.
      let p = in_named number names i v e in
      let q = in_named number names j v f in
      let same : Elem number i ≡ Elem number j = sym p.1 ∙ q.1 in cc same;
}

pub upwards_distinct : (low : ℤ) (n : ℕ) → AreDistinct (upwards low n)
upwards_distinct low n = record {
  one_place = λ i j x e f.
      let p = in_upwards low n i x e in
      let q = in_upwards low n j x f in
      let same : low +ℤ pos i ≡ low +ℤ pos j = sym p.1 ∙ q.1 in omega (arith, ints);
}

pub truths_distinct : AreDistinct (elements Truths)
truths_distinct = record { one_place = same }
  where
    same : (i j : ℕ) (v : Value) → slice_get (elements Truths) i ≡ Some v → slice_get (elements Truths) j ≡ Some v → i ≡ j
    same zero zero v e f = refl
    same zero (suc zero) v e f = absurd (cc (e, f))
    same (suc zero) zero v e f = absurd (cc (e, f))
    same (suc zero) (suc zero) v e f = refl
    same (suc (suc i)) j v e f = absurd (cc e)
    same i (suc (suc j)) v e f = absurd (cc f)

-- ranks of a domain's elements are those of what it is made of
pub number_rank : (xs : List ℤ) (x : ℤ) (r : Option ℕ) → IsRank xs x r → IsRank (map Int xs) (Int x) r
number_rank xs x r is = record {
  found = λ k e. get-map Int xs k ∙ ap (option_map Int) (is.found k e);
  every = λ k at. let p = in_numbers xs k (Int x) at in let same : x ≡ p.0 = cc (p.1) in is.every k (p.2 ∙ ap Some (sym same));
}

pub named_rank : (number : ℕ) (names : List (List ℕ)) (k : ℕ) → k < length names → IsRank (named_from number 0 names) (Elem number k) (Some k)
named_rank number names k lt =
    rank_at (named_from number 0 names) (Elem number k) (named_distinct number names) k (get-named_from number 0 names k lt ∙ ap (λ n. Some (Elem number n)) (omega arith))

pub named_no_rank : (number : ℕ) (names : List (List ℕ)) (d k : ℕ) → (d ≡ number → length names ≤ k) → IsRank (named_from number 0 names) (Elem d k) None
named_no_rank number names d k out =
    no_rank (named_from number 0 names) (Elem d k) (λ j at.
    let p = in_named number names j (Elem d k) at in
    let e : d ≡ number = cc (p.1) in
    let f : k ≡ j = cc (p.1) in
    let le = out e in let lt = p.0 in omega arith)

-- a value of another kind than the elements has no rank
pub truths_no_rank : (v : Value) → ((b : Truth) → v ≡ Bool b → ⊥) → IsRank (elements Truths) v None
truths_no_rank v other = no_rank (elements Truths) v (λ k at. let p = in_truths k v at in other p.0 p.1)

pub numbers_no_rank : (xs : List ℤ) (v : Value) → ((x : ℤ) → v ≡ Int x → ⊥) → IsRank (map Int xs) v None
numbers_no_rank xs v other = no_rank (map Int xs) v (λ k at. let p = in_numbers xs k v at in other p.0 p.1)

pub names_no_rank : (number : ℕ) (names : List (List ℕ)) (v : Value) → ((d k : ℕ) → v ≡ Elem d k → ⊥) → IsRank (named_from number 0 names) v None
names_no_rank number names v other = no_rank (named_from number 0 names) v (λ k at. let p = in_named number names k v at in other number k p.1)

pub truth_rank : (b : Truth) (r : ℕ) → r ≡ (if b then 1 else 0) → IsRank (elements Truths) (Bool b) (Some r)
truth_rank true r e = rank_at (elements Truths) (Bool true) truths_distinct r (ap (slice_get (elements Truths)) e)
truth_rank false r e = rank_at (elements Truths) (Bool false) truths_distinct r (ap (slice_get (elements Truths)) e)

-- the numbers from one to another, by their ranks
pub count_between : (low high : ℤ) (n : ℕ) → low +ℤ pos n ≡ high +ℤ pos 1 → above_zero (high +ℤ pos 1 -ℤ low) ≡ n
count_between low high n e =
    let f : high +ℤ pos 1 -ℤ low ≡ pos n = omega (arith, ints) in ap above_zero f

pub length-between : (low high : ℤ) (n : ℕ) → low +ℤ pos n ≡ high +ℤ pos 1 → length (numbers_between low high) ≡ n
length-between low high n e = length-upwards low (above_zero (high +ℤ pos 1 -ℤ low)) ∙ count_between low high n e

pub get-between : (low high : ℤ) (n k : ℕ) → low +ℤ pos n ≡ high +ℤ pos 1 → k < n → slice_get (numbers_between low high) k ≡ Some (low +ℤ pos k)
get-between low high n k e lt = ap (λ m. slice_get (upwards low m) k) (count_between low high n e) ∙ get-upwards low n k lt

below_count : (k : ℕ) (z : ℤ) → pos k <ℤ z → k < above_zero z
below_count k (pos n) lt = omega (arith, ints)
below_count k (negsuc n) lt = absurd (omega (arith, ints))

pub from_count : (k : ℕ) (z : ℤ) → k < above_zero z → pos k <ℤ z
from_count k (pos n) lt = omega (arith, ints)
from_count k (negsuc n) lt = absurd (omega arith)

count_at_most : (n : ℕ) (z : ℤ) → z ≤ℤ pos n → above_zero z ≤ n
count_at_most n (pos m) le = omega (arith, ints)
count_at_most n (negsuc m) le = omega arith

pub between_rank : (low high x : ℤ) (k : ℕ) → low ≤ℤ x → x ≤ℤ high → low +ℤ pos k ≡ x → IsRank (numbers_between low high) x (Some k)
between_rank low high x k from to e =
    let n = above_zero (high +ℤ pos 1 -ℤ low) in
    let lt : pos k <ℤ (high +ℤ pos 1 -ℤ low) = omega (arith, ints) in
    rank_at (numbers_between low high) x (upwards_distinct low n) k (get-upwards low n k (below_count k (high +ℤ pos 1 -ℤ low) lt) ∙ ap Some e)

pub between_no_rank : (low high x : ℤ) → (x <ℤ low) ⊎ (high <ℤ x) → IsRank (numbers_between low high) x None
between_no_rank low high x out = no_rank (numbers_between low high) x (λ k at. elim out [ inl lt ↦ below k at lt | inr lt ↦ above k at lt ])
  where
    below : (k : ℕ) → slice_get (numbers_between low high) k ≡ Some x → x <ℤ low → ⊥
    below k at lt =
        let p = in_upwards low (above_zero (high +ℤ pos 1 -ℤ low)) k x at in
        let e = p.1 in omega (arith, ints)

    above : (k : ℕ) → slice_get (numbers_between low high) k ≡ Some x → high <ℤ x → ⊥
    above k at lt =
        let p = in_upwards low (above_zero (high +ℤ pos 1 -ℤ low)) k x at in
        let e = p.1 in
        let within = from_count k (high +ℤ pos 1 -ℤ low) p.0 in omega (arith, ints)

pub between_makes : (low high : ℤ) → low ≤ℤ high → high <ℤ (low +ℤ pos 256) → MakeDomain (numbers_between low high)
between_makes low high some few =
    let e = length-upwards low (above_zero (high +ℤ pos 1 -ℤ low)) in
    let more : pos 0 <ℤ (high +ℤ pos 1 -ℤ low) = omega (arith, ints) in
    let less : (high +ℤ pos 1 -ℤ low) ≤ℤ pos 256 = omega (arith, ints) in
    let one = below_count 0 (high +ℤ pos 1 -ℤ low) more in
    let most = count_at_most 256 (high +ℤ pos 1 -ℤ low) less in
    record { some = omega arith; few = omega arith; distinct = upwards_distinct low (above_zero (high +ℤ pos 1 -ℤ low)) }

-- what a domain's elements are made of makes a domain, and so do they
pub numbers_make : (xs : List ℤ) → MakeDomain xs → MakeDomain (map Int xs)
numbers_make xs m = record {
  some = let s = m.some in let e = length-map xs Int in omega arith;
  few = let s = m.few in let e = length-map xs Int in omega arith;
  distinct = numbers_distinct xs m.distinct;
}

pub names_make : (number : ℕ) (names : List (List ℕ)) → MakeDomain names → MakeDomain (named_from number 0 names)
names_make number names m = record {
  some = let s = m.some in let e = length-named_from number 0 names in omega arith;
  few = let s = m.few in let e = length-named_from number 0 names in omega arith;
  distinct = named_distinct number names;
}

pub truths_make : MakeDomain (elements Truths)
truths_make = record { some = omega arith; few = omega arith; distinct = truths_distinct }

-- no rank is to be no element
pub none_iff : (xs : List Value) (v : Value) (r : Option ℕ) → IsRank xs v r → IsNone r ↔ ¬ Contains xs v
none_iff xs v None is = (λ none at. let e = is.every at.0 (slice_get-get_or xs at.0 v at.1 ∙ ap Some at.2) in cc e, λ none. refl)
none_iff xs v (Some k) is =
    (λ none. absurd (cc none), λ none. let at = is.found k refl in absurd (none (k, slice_get_within xs k v at, get_or_from_slice_get xs k v v at)))

-- the same, for numbers as the code holds them
pub between_same : (low high x low' high' x' : ℤ) (r : Option ℕ) → low' ≡ low → high' ≡ high → x' ≡ x → IsRank (numbers_between low' high') x' r → IsRank (map Int (numbers_between low high)) (Int x) r
between_same low high x low' high' x' r e f g is =
    number_rank (numbers_between low high) x r (subst (λ (p : ℤ × ℤ × ℤ). IsRank (numbers_between p.0 p.1) p.2 r) (λ i. (e i, f i, g i)) is)

pub among_same : (xs : List ℤ) (x x' : ℤ) (r : Option ℕ) → x' ≡ x → IsRank xs x' r → IsRank (map Int xs) (Int x) r
among_same xs x x' r e is = number_rank xs x r (subst (λ (y : ℤ). IsRank xs y r) e is)

pub gap_is : (low x low' x' : ℤ) (n : ℕ) → n ≡ unsigned_abs (x' -ℤ low') → x' ≡ x → low' ≡ low → low ≤ℤ x → low +ℤ pos n ≡ x
gap_is low x low' x' n is e f le =
    let some : pos 0 ≤ℤ (x' -ℤ low') = omega (arith, ints) in
    let size = size_of_pos (x' -ℤ low') some in
    let same : pos n ≡ pos (unsigned_abs (x' -ℤ low')) = ap pos is in omega (arith, ints)

pub named_rank_at : (number : ℕ) (names : List (List ℕ)) (d k : ℕ) → d ≡ number → k < length names → IsRank (named_from number 0 names) (Elem d k) (Some k)
named_rank_at number names d k e lt = subst (λ (n : ℕ). IsRank (named_from number 0 names) (Elem n k) (Some k)) (sym e) (named_rank number names k lt)
