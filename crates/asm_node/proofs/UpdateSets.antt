-- Update sets and the lists that hold them.
use Rattle.std.proofs.Common.{Option, Some, None, T, eqb→eq, eq-eqb, if◌then◌else◌, ◌≡◌, ℕ, Bool as Truth, true, false, not, ◌&&◌, ◌||◌, List, [], ◌∷◌, ◌++◌, nat_eq, filter, find, option_map, refl, sym, ap, ◌∙◌, subst, true≢false}
use Rattle.std.specs.Ordering.{int_cmp, eq_by_cmp, is_eq}
use Rattle.std.specs.List.{list_any, list_all}
use Rattle.std.specs.Cmp.{IsTotalOrder, Equal-is, tied_itself}
use Rattle.std.specs.FinSet as set
use Rattle.std.specs.FinSet.{int_cmp-IsAntisymmetric, IsAntisymmetric, nat_cmp-IsAntisymmetric, slice_cmp-IsAntisymmetric}
use Rattle.std.proofs.lemmas.Cmp.{on_total, nat_list_cmp_total}
use Rattle.std.proofs.lemmas.List.Folds.{list_any-append}
use Rattle.std.proofs.lemmas.Map.Views.{any-filter_same, tells_apart}
use Rattle.asm_domain.specs.declared.value.Value.{Value}
use Rattle.asm_domain.specs.declared.value.Value.TheVariants.{Undef, Bool, Int, Elem}
use Rattle.asm_node.specs.Values.{same}
use Rattle.asm_node.specs.UpdateSet.{agree, consistent, value_at, Pair, key, pair_from, pair_from-key, pair_cmp, UpdateSet}

pub pair_total : IsTotalOrder pair_cmp
pair_total = on_total key nat_list_cmp_total

pub pair_apart : IsAntisymmetric pair_cmp
pair_apart p q is = sym (pair_from-key p) ∙ ap pair_from (slice_cmp-IsAntisymmetric nat_cmp-IsAntisymmetric (key p) (key q) is) ∙ pair_from-key q

abbrev pub of_list : List Pair → UpdateSet
of_list ps = set.from_list ps

is_pair : Pair → Pair → Truth
is_pair = eq_by_cmp pair_cmp

pub of_list-push : (ps : List Pair) (p : Pair) → of_list (ps ++ p ∷ []) ≡ set.insert (of_list ps) p
of_list-push ps p = set.from_list_push pair_total pair_apart ps p

pub of_list-append : (ps qs : List Pair) → of_list (ps ++ qs) ≡ set.union (of_list ps) (of_list qs)
of_list-append ps qs =
    set.same_set pair_total pair_apart _ _ (λ r.
    set.contains-from_list pair_total (ps ++ qs) r ∙ list_any-append (eq_by_cmp pair_cmp r) ps qs
    ∙ sym (set.contains-union pair_total (of_list ps) (of_list qs) r ∙ λ i. set.contains-from_list pair_total ps r i || set.contains-from_list pair_total qs r i))

and_swap : (a b : Truth) → (a && b) ≡ (b && a)
and_swap true true = refl
and_swap true false = refl
and_swap false true = refl
and_swap false false = refl

pub of_list-filter : (test : Pair → Truth) (ps : List Pair) → of_list (filter test ps) ≡ set.retain (of_list ps) test
of_list-filter test ps =
    set.same_set pair_total pair_apart _ _ (λ r.
    set.contains-from_list pair_total (filter test ps) r
    ∙ any-filter_same (eq_by_cmp pair_cmp r) test (test r) (λ k is. ap test (sym (tells_apart pair_apart r k is))) ps
    ∙ and_swap (test r) _
    ∙ sym (set.contains-retain (of_list ps) test r (λ x is. ap test (sym (pair_apart r x is))) ∙ ap (λ b. b && test r) (set.contains-from_list pair_total ps r)))

-- a test that some item of the set passes, and the pairs in question
some_passes : (test : Pair → Truth) (ps qs : List Pair) → ((r : Pair) → list_any (eq_by_cmp pair_cmp r) ps ≡ true → list_any (eq_by_cmp pair_cmp r) qs ≡ true) → list_any test ps ≡ true → list_any test qs ≡ true
some_passes test ps qs within one = found ps within one
  where
    at : (r : Pair) (qs : List Pair) → list_any (eq_by_cmp pair_cmp r) qs ≡ true → test r ≡ true → list_any test qs ≡ true
    at r [] is passes = absurd (true≢false (sym is))
    at r (q ∷ qs) is passes =
        elim (eq_by_cmp pair_cmp r q) as (λ b. eq_by_cmp pair_cmp r q ≡ b → (b || list_any (eq_by_cmp pair_cmp r) qs) ≡ true → (test q || list_any test qs) ≡ true) [
          | true ↦ λ same _. ap (λ b. b || list_any test qs) (ap test (sym (tells_apart pair_apart r q same)) ∙ passes)
          | false ↦ λ _ rest. or_right (test q) _ (at r qs rest passes)
        ] refl is
      where
        or_right : (a b : Truth) → b ≡ true → (a || b) ≡ true
        or_right true b is = refl
        or_right false b is = is

    found : (ps : List Pair) → ((r : Pair) → list_any (eq_by_cmp pair_cmp r) ps ≡ true → list_any (eq_by_cmp pair_cmp r) qs ≡ true) → list_any test ps ≡ true → list_any test qs ≡ true
    found [] within one = absurd (true≢false (sym one))
    found (p ∷ ps) within one =
        elim (test p) as (λ b. test p ≡ b → (b || list_any test ps) ≡ true → list_any test qs ≡ true) [
          | true ↦ λ passes _. at p qs (within p (ap (λ b. b || list_any (eq_by_cmp pair_cmp p) ps) (itself p))) passes
          | false ↦ λ _ rest. found ps (λ r is. within r (or_more (eq_by_cmp pair_cmp r p) _ is)) rest
        ] refl one
      where
        itself : (p : Pair) → eq_by_cmp pair_cmp p p ≡ true
        itself p = ap is_eq (tied_itself pair_total p)

        or_more : (a b : Truth) → b ≡ true → (a || b) ≡ true
        or_more true b is = refl
        or_more false b is = is

same_truth : (a b : Truth) → (a ≡ true → b ≡ true) → (b ≡ true → a ≡ true) → a ≡ b
same_truth true b to from = sym (to refl)
same_truth false true to from = from refl
same_truth false false to from = refl

-- a test of the set's items is a test of the list's
pub any-items : (test : Pair → Truth) (ps : List Pair) → list_any test (set.items (of_list ps)) ≡ list_any test ps
any-items test ps =
    let same : (r : Pair) → list_any (eq_by_cmp pair_cmp r) (set.items (of_list ps)) ≡ list_any (eq_by_cmp pair_cmp r) ps = λ r. sym (set.contains-items (of_list ps) r) ∙ set.contains-from_list pair_total ps r in
    same_truth _ _ (some_passes test _ ps (λ r is. sym (same r) ∙ is)) (some_passes test ps _ (λ r is. same r ∙ is))

not_any : (test : Pair → Truth) (ps : List Pair) → list_all test ps ≡ not (list_any (λ p. not (test p)) ps)
not_any test [] = refl
not_any test (p ∷ ps) = elim (test p) as (λ b. (b && list_all test ps) ≡ not (not b || list_any (λ p. not (test p)) ps)) [ true ↦ not_any test ps | false ↦ refl ]

pub all-items : (test : Pair → Truth) (ps : List Pair) → list_all test (set.items (of_list ps)) ≡ list_all test ps
all-items test ps = not_any test _ ∙ ap not (any-items (λ p. not (test p)) ps) ∙ sym (not_any test ps)

pub consistent-list : (ps : List Pair) → consistent (of_list ps) ≡ list_all (λ p. list_all (λ q. agree p q) ps) ps
consistent-list ps = all-items _ ps ∙ λ i. list_all (λ p. all-items (λ q. agree p q) ps i) ps

and_left : (a b : Truth) → (a && b) ≡ true → a ≡ true
and_left true b is = refl
and_left false b is = is

and_right : (a b : Truth) → (a && b) ≡ true → b ≡ true
and_right true b is = is
and_right false b is = absurd (true≢false (sym is))

or_at_right : (a b : Truth) → b ≡ true → (a || b) ≡ true
or_at_right true b is = refl
or_at_right false b is = is

pub same_is : (a b : Value) → same a b ≡ true → a ≡ b
same_is Undef Undef is = refl
same_is (Bool true) (Bool true) is = refl
same_is (Bool false) (Bool false) is = refl
same_is (Int x) (Int y) is = ap Int (int_cmp-IsAntisymmetric x y ((Equal-is (int_cmp x y)).0 is))
same_is (Elem d k) (Elem e l) is = λ i. Elem (eqb→eq d e (subst T (sym (and_left _ _ is)) tt) i) (eqb→eq k l (subst T (sym (and_right _ _ is)) tt) i)
same_is _ _ is = absurd (true≢false (sym is))

any_at : (test : Pair → Truth) (r : Pair) (qs : List Pair) → list_any (eq_by_cmp pair_cmp r) qs ≡ true → test r ≡ true → list_any test qs ≡ true
any_at test r [] is passes = absurd (true≢false (sym is))
any_at test r (q ∷ qs) is passes =
    elim (eq_by_cmp pair_cmp r q) as (λ b. eq_by_cmp pair_cmp r q ≡ b → (b || list_any (eq_by_cmp pair_cmp r) qs) ≡ true → (test q || list_any test qs) ≡ true) [
      | true ↦ λ tie _. ap (λ b. b || list_any test qs) (ap test (sym (tells_apart pair_apart r q tie)) ∙ passes)
      | false ↦ λ _ rest. or_at_right (test q) _ (any_at test r qs rest passes)
    ] refl is

all_at : (test : Pair → Truth) (ps : List Pair) (p : Pair) → list_all test ps ≡ true → list_any (eq_by_cmp pair_cmp p) ps ≡ true → test p ≡ true
all_at test [] p all is = absurd (true≢false (sym is))
all_at test (q ∷ ps) p all is =
    elim (eq_by_cmp pair_cmp p q) as (λ b. eq_by_cmp pair_cmp p q ≡ b → (b || list_any (eq_by_cmp pair_cmp p) ps) ≡ true → test p ≡ true) [
      | true ↦ λ tie _. ap test (tells_apart pair_apart p q tie) ∙ and_left (test q) _ all
      | false ↦ λ _ rest. all_at test ps p (and_right (test q) _ all) rest
    ] refl is

find_some : (test : Pair → Truth) (ps : List Pair) (p : Pair) → find test ps ≡ Some p → (test p ≡ true) × (list_any (eq_by_cmp pair_cmp p) ps ≡ true)
find_some test [] p is = absurd (cc)
find_some test (q ∷ ps) p is =
    elim (test q) as (λ b. test q ≡ b → (◌≡◌ {A = Option Pair} (if b then Some q else find test ps) (Some p)) → (test p ≡ true) × ((eq_by_cmp pair_cmp p q || list_any (eq_by_cmp pair_cmp p) ps) ≡ true)) [
      | true ↦ λ passes is. let e : q ≡ p = cc in (ap test (sym e) ∙ passes, ap (λ b. b || list_any (eq_by_cmp pair_cmp p) ps) (ap (eq_by_cmp pair_cmp p) e ∙ ap is_eq (tied_itself pair_total p)))
      | false ↦ λ _ is. let r = find_some test ps p is in (r.0, or_at_right (eq_by_cmp pair_cmp p q) _ r.1)
    ] refl is

find_none : (test : Pair → Truth) (ps : List Pair) → find test ps ≡ None → list_any test ps ≡ false
find_none test [] is = refl
find_none test (q ∷ ps) is =
    elim (test q) as (λ b. (◌≡◌ {A = Option Pair} (if b then Some q else find test ps) None) → (b || list_any test ps) ≡ false) [
      | true ↦ λ is. absurd (cc)
      | false ↦ λ is. find_none test ps is
    ] is

-- two pairs of one slot in a consistent set have one value
one_value : (u : UpdateSet) (l : ℕ) (p q : Pair) → consistent u ≡ true → nat_eq p.0 l ≡ true → nat_eq q.0 l ≡ true → list_any (eq_by_cmp pair_cmp p) (set.items u) ≡ true → list_any (eq_by_cmp pair_cmp q) (set.items u) ≡ true → p.1 ≡ q.1
one_value u l p q agrees at_p at_q in_p in_q =
    let both : agree p q ≡ true = all_at (λ q. agree p q) (set.items u) q (all_at (λ p. list_all (λ q. agree p q) (set.items u)) (set.items u) p agrees in_p) in_q in
    let slots : p.0 ≡ q.0 = eqb→eq p.0 l (subst T (sym at_p) tt) ∙ sym (eqb→eq q.0 l (subst T (sym at_q) tt)) in
    same_is p.1 q.1 (sym (ap (λ b. not b || same p.1 q.1) (eq-eqb p.0 q.0 slots)) ∙ both)

abbrev slot_is : ℕ → Pair → Truth
slot_is l p = nat_eq p.0 l

abbrev value_of_pair : Pair → Value
value_of_pair p = p.1

-- where no slot has two values, the first pair of a slot in the list has the value of the first in the set
pub value_at-list : (ps : List Pair) (l : ℕ) → consistent (of_list ps) ≡ true → value_at (of_list ps) l ≡ option_map (λ p. p.1) (find (λ p. nat_eq p.0 l) ps)
value_at-list ps l agrees =
    elim (find (slot_is l) (set.items (of_list ps))) as (λ o. find (slot_is l) (set.items (of_list ps)) ≡ o → option_map value_of_pair o ≡ option_map value_of_pair (find (slot_is l) ps)) [
      | None ↦ λ no. elim (find (slot_is l) ps) as (λ o. find (slot_is l) ps ≡ o → ◌≡◌ {A = Option Value} None (option_map value_of_pair o)) [
        | None ↦ λ _. refl
        | Some q ↦ λ is. let r = find_some (slot_is l) ps q is in absurd (true≢false (sym (any_at (slot_is l) q ps r.1 r.0) ∙ sym (any-items (slot_is l) ps) ∙ find_none (slot_is l) (set.items (of_list ps)) no))
      ] refl
      | Some p ↦ λ one. let r = find_some (slot_is l) (set.items (of_list ps)) p one in elim (find (slot_is l) ps) as (λ o. find (slot_is l) ps ≡ o → Some p.1 ≡ option_map value_of_pair o) [
        | None ↦ λ no. absurd (true≢false (sym (any_at (slot_is l) p (set.items (of_list ps)) r.1 r.0) ∙ any-items (slot_is l) ps ∙ find_none (slot_is l) ps no))
        | Some q ↦ λ is. let s = find_some (slot_is l) ps q is in ap Some (one_value (of_list ps) l p q agrees r.0 s.0 r.1 (sym (set.contains-items (of_list ps) q) ∙ set.contains-from_list pair_total ps q ∙ s.1))
      ] refl
    ] refl
