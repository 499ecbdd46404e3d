-- A clash is of two different values, and a set without one is consistent.
use Rattle.std.proofs.Common.{◌≡◌, ℕ, zero, suc, ◌+◌, ◌<◌, ◌≤◌, ℤ, Bool as Truth, true, false, cond, not, ◌||◌, ◌&&◌, List, [], ◌∷◌, map, length, get_or, Option, Some, None, IsNone, nat_eq, refl, sym, ap, ◌∙◌, subst, arith, true≢false, T, eqb→eq, eq-eqb, Contains, slice_get, ⊎_elim}
use Rattle.std.specs.Ordering.{eq_by_cmp, is_eq}
use Rattle.std.specs.Cmp.{tied_itself}
use Rattle.std.specs.FinSet as set
use Rattle.std.specs.List.{list_any, list_all, filter}
use Rattle.std.proofs.lemmas.Bool.{cases_eq, cases_lt, ne_eqb}
use Rattle.std.proofs.lemmas.Cmp.{int_cmp_total}
use Rattle.std.proofs.lemmas.Map.Views.{tells_apart}
use Rattle.asm_domain.specs.declared.value.Value.{Value}
use Rattle.asm_domain.specs.declared.value.Value.TheVariants.{Undef, Bool, Int, Elem}
use Rattle.asm_domain.specs.Universe.{Universe, Truths, Numbers, Named, elements, named_from, AreDistinct}
use Rattle.asm_sign.specs.Vocabulary.{Vocabulary, locations, function_at}
use Rattle.asm_node.specs.Values.{same}
use Rattle.asm_node.specs.UpdateSet.{Pair, UpdateSet, pair_cmp, agree, consistent, ranked_values, values_at, first_two, clash_from, clash}
use Rattle.asm_node.proofs.UpdateSets.{pair_total, pair_apart, of_list, consistent-list}
use Rattle.asm_update.specs.Clash.{first_pair, HaveLocations, HasAtMostOne}
use Rattle.asm_update.specs.Order.{rank_cmp, AreBelow, AreNotBelow}
use Rattle.std.specs.List.Sorted.{IsStrictlySortedBy}
use Rattle.asm_update.proofs.Putting.{same_is}
use Rattle.asm_update.proofs.Ordered.{any_at_place}
use Rattle.asm_update.proofs.Clashes.{IsQuiet, slots_rise}

no_undef_named : (number rank : ℕ) (names : List (List ℕ)) (j : ℕ) → slice_get (named_from number rank names) j ≡ Some Undef → ⊥
no_undef_named number rank [] j is = cc is
no_undef_named number rank (name ∷ names) zero is = cc is
no_undef_named number rank (name ∷ names) (suc j) is = no_undef_named number (suc rank) names j is

no_undef_int : (numbers : List ℤ) (j : ℕ) → slice_get (map Int numbers) j ≡ Some Undef → ⊥
no_undef_int [] j is = cc is
no_undef_int (n ∷ numbers) zero is = cc is
no_undef_int (n ∷ numbers) (suc j) is = no_undef_int numbers j is

no_undef : (c : Universe) (j : ℕ) → slice_get (elements c) j ≡ Some Undef → ⊥
no_undef Truths zero is = cc is
no_undef Truths (suc zero) is = cc is
no_undef Truths (suc (suc j)) is = cc is
no_undef (Numbers numbers) j is = no_undef_int numbers j is
no_undef (Named number names) j is = no_undef_named number 0 names j is

-- the values by rank are all different
pub ranked_distinct : (c : Universe) → AreDistinct (elements c) → AreDistinct (Undef ∷ elements c)
ranked_distinct c d = record { one_place = at }
  where
    at : (i j : ℕ) (x : Value) → slice_get (Undef ∷ elements c) i ≡ Some x → slice_get (Undef ∷ elements c) j ≡ Some x → i ≡ j
    at zero zero x e f = refl
    at zero (suc j) x e f = absurd (no_undef c j (f ∙ sym e))
    at (suc i) zero x e f = absurd (no_undef c i (e ∙ sym f))
    at (suc i) (suc j) x e f = ap suc (d.one_place i j x e f)

tail_distinct : (x : Value) (xs : List Value) → AreDistinct (x ∷ xs) → AreDistinct xs
tail_distinct x xs d = record { one_place = λ i j y e f. suc_is i j (d.one_place (suc i) (suc j) y e f) }
  where
    suc_is : (i j : ℕ) → suc i ≡ suc j → i ≡ j
    suc_is i j e = omega (arith, e)

filtered_head : (test : Value → Truth) (xs : List Value) (y : Value) (ys : List Value) → filter test xs ≡ y ∷ ys → (test y ≡ true) × ((j : ℕ) × (slice_get xs j ≡ Some y))
filtered_head test [] y ys is = absurd (cc is)
filtered_head test (x ∷ xs) y ys is =
    elim (test x) as (λ b. test x ≡ b → (◌≡◌ {A = List Value} (cond b (x ∷ filter test xs) (filter test xs)) (y ∷ ys)) → (test y ≡ true) × ((j : ℕ) × (slice_get (x ∷ xs) j ≡ Some y))) [
      | true ↦ λ passes e. let here : x ≡ y = cc e in (ap test (sym here) ∙ passes, (zero, ap Some here))
      | false ↦ λ _ e. let r = filtered_head test xs y ys e in (r.0, (suc r.1.0, r.1.1))
    ] refl is

-- the first two of different values that pass a test differ
pub filtered_differ : (test : Value → Truth) (xs : List Value) → AreDistinct xs → (v w : Value) → first_pair (filter test xs) ≡ Some (v, w) → (test v ≡ true) × (test w ≡ true) × (v ≡ w → ⊥)
filtered_differ test [] d v w is = absurd (cc is)
filtered_differ test (x ∷ xs) d v w is =
    elim (test x) as (λ b. test x ≡ b → first_pair (cond b (x ∷ filter test xs) (filter test xs)) ≡ Some (v, w) → (test v ≡ true) × (test w ≡ true) × (v ≡ w → ⊥)) [
      | true ↦ λ passes e. with_second (filter test xs) refl passes e
      | false ↦ λ _ e. filtered_differ test xs (tail_distinct x xs d) v w e
    ] refl is
  where
    with_second : (ys : List Value) → filter test xs ≡ ys → test x ≡ true → first_pair (x ∷ ys) ≡ Some (v, w) → (test v ≡ true) × (test w ≡ true) × (v ≡ w → ⊥)
    with_second [] are passes e = absurd (cc e)
    with_second (y ∷ ys) are passes e =
        let pair : ◌≡◌ {A = Value × Value} (x, y) (v, w) = cc e in
        let r = filtered_head test xs y ys are in
        let first : x ≡ v = λ i. (pair i).0 in
        let second : y ≡ w = λ i. (pair i).1 in
        (ap test (sym first) ∙ passes, ap test (sym second) ∙ r.0, λ equal. zero_not (d.one_place zero (suc r.1.0) x refl (r.1.1 ∙ ap Some (second ∙ sym equal ∙ sym first))))
      where
        zero_not : {n : ℕ} → zero ≡ suc n → ⊥
        zero_not e = omega (arith, e)

and_one : (a b : Truth) → (a && b) ≡ true → a ≡ true
and_one true b is = refl
and_one false b is = is

and_two : (a b : Truth) → (a && b) ≡ true → b ≡ true
and_two true b is = is
and_two false b is = absurd (true≢false (sym is))

all_of : (test : Pair → Truth) (ps : List Pair) (p : Pair) → list_all test ps ≡ true → list_any (eq_by_cmp pair_cmp p) ps ≡ true → test p ≡ true
all_of test [] p all is = absurd (true≢false (sym is))
all_of test (q ∷ ps) p all is =
    elim (eq_by_cmp pair_cmp p q) as (λ b. eq_by_cmp pair_cmp p q ≡ b → (b || list_any (eq_by_cmp pair_cmp p) ps) ≡ true → test p ≡ true) [
      | true ↦ λ tie _. ap test (tells_apart pair_apart p q tie) ∙ and_one (test q) _ all
      | false ↦ λ _ rest. all_of test ps p (and_two (test q) _ all) rest
    ] refl is

-- a consistent set has one value at a slot
pub one_value : (ps : List Pair) (l : ℕ) (v w : Value) → consistent (of_list ps) ≡ true → set.contains (of_list ps) (l, v) ≡ true → set.contains (of_list ps) (l, w) ≡ true → v ≡ w
one_value ps l v w agrees has_v has_w =
    let in_v = sym (set.contains-from_list pair_total ps (l, v)) ∙ has_v in
    let in_w = sym (set.contains-from_list pair_total ps (l, w)) ∙ has_w in
    let both : agree (l, v) (l, w) ≡ true = all_of (λ q. agree (l, v) q) ps (l, w) (all_of (λ p. list_all (λ q. agree p q) ps) ps (l, v) (sym (consistent-list ps) ∙ agrees) in_v) in_w in
    same_is v w (sym (ap (λ b. not b || same v w) (eq-eqb l l refl)) ∙ both)

-- two values that are found at a slot are those of an inconsistent set
pub differing : (signature : Vocabulary) (ps : List Pair) (l : ℕ) (v w : Value) → first_pair (values_at signature (of_list ps) l) ≡ Some (v, w) → (c : Universe) → ranked_values signature (function_at signature l) ≡ Undef ∷ elements c → AreDistinct (elements c) → consistent (of_list ps) ≡ true → ⊥
differing signature ps l v w two c ranked distinct agrees =
    let test : Value → Truth = λ x. set.contains (of_list ps) (l, x) in
    let r = filtered_differ test (Undef ∷ elements c) (ranked_distinct c distinct) v w (ap (λ xs. first_pair (filter test xs)) (sym ranked) ∙ two) in
    r.2 (one_value ps l v w agrees r.0 r.1)

first_two-quiet : (l : ℕ) (vs : List Value) (later : Option (ℕ × Value × Value)) → first_two l vs later ≡ None → (first_pair vs ≡ None) × (later ≡ None)
first_two-quiet l [] later is = (refl, is)
first_two-quiet l (v ∷ []) later is = (refl, is)
first_two-quiet l (v ∷ w ∷ vs) later is = absurd (cc is)

clash_from-quiet : (signature : Vocabulary) (u : UpdateSet) (xs : List (ℕ × List Value)) (from : ℕ) → clash_from signature u from xs ≡ None → (l : ℕ) → from ≤ l → l < from + length xs → IsQuiet signature u l
clash_from-quiet signature u [] from is l ge lt = absurd (omega (arith, ge, lt))
clash_from-quiet signature u (x ∷ xs) from is l ge lt =
    let r = first_two-quiet from (values_at signature u from) (clash_from signature u (suc from) xs) is in
    ⊎_elim
    (λ e. subst (IsQuiet signature u) e r.0)
    (λ n. clash_from-quiet signature u xs (suc from) r.1 l (omega (arith, ge, n)) (omega (arith, lt)))
    (cases_eq from l)

only_item : (y : Value) (k : ℕ) (v : Value) → k < 1 → get_or (y ∷ []) k v ≡ v → y ≡ v
only_item y zero v lt e = e
only_item y (suc k) v lt e = absurd (omega (arith, lt))

one_kept : (ys : List Value) (v w : Value) → first_pair ys ≡ None → Contains ys v → Contains ys w → v ≡ w
one_kept [] v w is one other = absurd (omega (arith, one.1))
one_kept (y ∷ []) v w is one other = sym (only_item y one.0 v one.1 one.2) ∙ only_item y other.0 w other.1 other.2
one_kept (y ∷ z ∷ ys) v w is one other = absurd (cc is)

kept : (test : Value → Truth) (vs : List Value) (v : Value) (k : ℕ) → test v ≡ true → k < length vs → get_or vs k v ≡ v → Contains (filter test vs) v
kept test [] v k passes lt e = absurd (omega (arith, lt))
kept test (x ∷ vs) v zero passes lt e =
    elim (test x) as (λ b. test x ≡ b → Contains (cond b (x ∷ filter test vs) (filter test vs)) v) [
      | true ↦ λ _. (zero, omega arith, e)
      | false ↦ λ isnt. absurd (true≢false (sym (ap test e ∙ passes) ∙ isnt))
    ] refl
kept test (x ∷ vs) v (suc k) passes lt e =
    let r = kept test vs v k passes (omega (arith, lt)) e in
    elim (test x) as (λ b. Contains (cond b (x ∷ filter test vs) (filter test vs)) v) [
      | true ↦ (suc r.0, omega (arith, r.1), r.2)
      | false ↦ r
    ]

Contains-filter : (test : Value → Truth) (vs : List Value) (v : Value) → test v ≡ true → Contains vs v → Contains (filter test vs) v
Contains-filter test vs v passes one = kept test vs v one.0 passes one.1 one.2

all_in : (test : Pair → Truth) (ps : List Pair) → ((p : Pair) → list_any (eq_by_cmp pair_cmp p) ps ≡ true → test p ≡ true) → list_all test ps ≡ true
all_in test [] at = refl
all_in test (q ∷ ps) at =
    ap (λ b. b && list_all test ps) (at q (ap (λ b. b || list_any (eq_by_cmp pair_cmp q) ps) (ap is_eq (tied_itself pair_total q))))
    ∙ all_in test ps (λ p is. at p (or_later (eq_by_cmp pair_cmp p q) is))
  where
    or_later : (a : Truth) {b : Truth} → b ≡ true → (a || b) ≡ true
    or_later true is = refl
    or_later false is = is

pub same_itself : (v : Value) → same v v ≡ true
same_itself Undef = refl
same_itself (Bool true) = refl
same_itself (Bool false) = refl
same_itself (Int n) = ap is_eq (tied_itself int_cmp_total n)
same_itself (Elem d k) = ap (λ b. b && nat_eq k k) (eq-eqb d d refl) ∙ eq-eqb k k refl

-- a set of pairs of locations is consistent where it has no clash
pub consistent_without_clash : (signature : Vocabulary) (ps : List Pair) → HaveLocations signature (of_list ps) → clash signature (of_list ps) ≡ None → consistent (of_list ps) ≡ true
consistent_without_clash signature ps located none =
    consistent-list ps ∙ all_in (λ p. list_all (λ q. agree p q) ps) ps (λ p in_p. all_in (λ q. agree p q) ps (λ q in_q.
    elim (nat_eq p.0 q.0) as (λ b. nat_eq p.0 q.0 ≡ b → (not b || same p.1 q.1) ≡ true) [
      | false ↦ λ _. refl
      | true ↦ λ is.
          let slot : p.0 ≡ q.0 = eqb→eq p.0 q.0 (subst T (sym is) tt) in
          let has_p : set.contains (of_list ps) (p.0, p.1) ≡ true = set.contains-from_list pair_total ps p ∙ in_p in
          let has_q : set.contains (of_list ps) (p.0, q.1) ≡ true = ap (λ l. set.contains (of_list ps) (l, q.1)) slot ∙ set.contains-from_list pair_total ps q ∙ in_q in
          let at_p = located p.0 p.1 has_p in
          let at_q = located p.0 q.1 has_q in
          let test : Value → Truth = λ x. set.contains (of_list ps) (p.0, x) in
          let quiet = clash_from-quiet signature (of_list ps) (locations signature) 0 none p.0 (omega arith) (omega (arith, at_p.0)) in
          let equal = one_kept _ p.1 q.1 quiet (Contains-filter test _ p.1 has_p at_p.1) (Contains-filter test _ q.1 has_q at_q.1) in
          ap (λ v. same p.1 v) (sym equal) ∙ same_itself p.1
    ] refl))

pub none_is : {A : Type 0} (o : Option A) → IsNone o → o ≡ None
none_is None none = refl
none_is (Some x) none = absurd (true≢false none)

-- a slot of at most one value is quiet
pub alone_quiet : (signature : Vocabulary) (ps : List Pair) (l : ℕ) → HasAtMostOne (of_list ps) l → (c : Universe) → ranked_values signature (function_at signature l) ≡ Undef ∷ elements c → AreDistinct (elements c) → IsQuiet signature (of_list ps) l
alone_quiet signature ps l one c ranked distinct =
    elim (first_pair (values_at signature (of_list ps) l)) as (λ o. first_pair (values_at signature (of_list ps) l) ≡ o → o ≡ None) [
      | None ↦ λ _. refl
      | Some p ↦ λ two.
          let test : Value → Truth = λ x. set.contains (of_list ps) (l, x) in
          let r = filtered_differ test (Undef ∷ elements c) (ranked_distinct c distinct) p.0 p.1 (ap (λ xs. first_pair (filter test xs)) (sym ranked) ∙ two) in
          absurd (r.2 (one p.0 p.1 r.0 r.1))
    ] refl

place_in : (ps : List Pair) (p d : Pair) → list_any (eq_by_cmp pair_cmp p) ps ≡ true → (k : ℕ) × (k < length ps) × (get_or ps k d ≡ p)
place_in [] p d is = absurd (true≢false (sym is))
place_in (q ∷ ps) p d is =
    elim (eq_by_cmp pair_cmp p q) as (λ b. eq_by_cmp pair_cmp p q ≡ b → (b || list_any (eq_by_cmp pair_cmp p) ps) ≡ true → (k : ℕ) × (k < suc (length ps)) × (get_or (q ∷ ps) k d ≡ p)) [
      | true ↦ λ tie _. (zero, omega arith, sym (tells_apart pair_apart p q tie))
      | false ↦ λ _ rest. let r = place_in ps p d rest in (suc r.0, omega (arith, r.1), r.2)
    ] refl is

module _ (ps : List Pair) (l : ℕ) (place : ℕ) (sorted : IsStrictlySortedBy rank_cmp ps) (below : AreBelow l ps place) (not_below : AreNotBelow l ps place) where
  -- a slot whose first place is followed by another slot's has at most one value
  pub at_most_one : (d : Pair) → (place + 1 < length ps → (get_or ps (place + 1) d).0 ≡ l → ⊥) → HasAtMostOne (of_list ps) l
  at_most_one d other v w has_v has_w =
      let i = place_in ps (l, v) d (sym (set.contains-from_list pair_total ps (l, v)) ∙ has_v) in
      let j = place_in ps (l, w) d (sym (set.contains-from_list pair_total ps (l, w)) ∙ has_w) in
      let e : ◌≡◌ {A = Pair} (l, v) (l, w) = sym i.2 ∙ ap (λ k. get_or ps k d) (only i.0 i.1 (ap (λ p. p.0) i.2) ∙ sym (only j.0 j.1 (ap (λ p. p.0) j.2))) ∙ j.2 in
      ap (λ p. p.1) e
    where
      only : (k : ℕ) → k < length ps → (get_or ps k d).0 ≡ l → k ≡ place
      only k lt is =
          ⊎_elim
          (λ less. let b = below k d less in absurd (omega (arith, b, is)))
          (λ ge. ⊎_elim
          (λ e. e)
          (λ apart.
          let rises = slots_rise ps (place + 1) k d sorted (omega (arith, ge, apart)) lt in
          let above = not_below (place + 1) d (omega arith) (omega (arith, ge, apart, lt)) in
          absurd (other (omega (arith, ge, apart, lt)) (omega (arith, rises, above, is))))
          (cases_eq k place))
          (cases_lt k place)

  -- a slot that isn't at its place is none of a pair's
  pub no_slot : (d : Pair) → (place < length ps → (get_or ps place d).0 ≡ l → ⊥) → list_any (λ p. nat_eq p.0 l) ps ≡ false
  no_slot d other = any_false ps (λ k lt is.
      ⊎_elim
      (λ less. let b = below k d less in omega (arith, b, is))
      (λ ge.
      let rises = slots_rise ps place k d sorted ge lt in
      let above = not_below place d (omega arith) (omega (arith, ge, lt)) in
      other (omega (arith, ge, lt)) (omega (arith, rises, above, is)))
      (cases_lt k place))
    where
      any_false : (qs : List Pair) → ((k : ℕ) → k < length qs → (get_or qs k d).0 ≡ l → ⊥) → list_any (λ p. nat_eq p.0 l) qs ≡ false
      any_false [] none = refl
      any_false (q ∷ qs) none =
          ap (λ b. b || list_any (λ p. nat_eq p.0 l) qs) (ne_eqb q.0 l (none zero (omega arith))) ∙ any_false qs (λ k lt. none (suc k) (omega (arith, lt)))

  pub slot_here : (d : Pair) → place < length ps → nat_eq (get_or ps place d).0 l ≡ list_any (λ p. nat_eq p.0 l) ps
  slot_here d lt =
      elim (nat_eq (get_or ps place d).0 l) as (λ b. nat_eq (get_or ps place d).0 l ≡ b → b ≡ list_any (λ p. nat_eq p.0 l) ps) [
        | true ↦ λ is. sym (any_at_place (λ p. nat_eq p.0 l) ps place d lt is)
        | false ↦ λ isnt. sym (no_slot d (λ _ is. true≢false (sym (eq-eqb (get_or ps place d).0 l is) ∙ isnt)))
      ] refl
