-- Lists of pairs in order, and the sets that they hold.
use Rattle.std.proofs.Common.{◌≡◌, ℕ, zero, suc, ◌<◌, ◌≤◌, ℤ, pos, Bool as Truth, true, false, cond, ◌||◌, List, [], ◌∷◌, length, get_or, refl, sym, ap, ◌∙◌, subst, arith, true≢false, ⊎_elim, if◌then◌else◌}
use Rattle.std.specs.declared.cmp.Ordering.{Ordering}
use Rattle.std.specs.declared.cmp.Ordering.TheVariants.{Less, Equal, Greater}
use Rattle.std.specs.Ordering.{eq_by_cmp, is_eq, is_ne, is_lt, ordering_reverse}
use Rattle.std.specs.List.{list_any, insert, dedup, dedup_from, AllByRecursion, IsDistinct}
use Rattle.std.specs.List.Sorted.{IsStrictlySortedBy, IsPermutation, IsPartitionedBy}
use Rattle.std.specs.Cmp.{IsTotalOrder, tied_itself}
use Rattle.std.specs.FinSet as set
use Rattle.std.specs.FinSet.{int_cmp-IsAntisymmetric, IsAntisymmetric, slice_cmp-IsAntisymmetric}
use Rattle.std.proofs.lemmas.Cmp.{on_total, lists_total, int_cmp_total}
use Rattle.std.proofs.lemmas.Bool.{cases_eq}
use Rattle.std.proofs.lemmas.List.Sorted.{list_any-IsPermutation, IsPermutation-insert}
use Rattle.std.proofs.lemmas.Map.Keys.{IsDistinct-from_sorted}
use Rattle.std.proofs.lemmas.Map.Views.{tells_apart}
use Rattle.asm_domain.specs.declared.value.Value.{Value}
use Rattle.asm_domain.specs.declared.value.Value.TheVariants.{Undef, Bool, Int, Elem}
use Rattle.asm_node.specs.UpdateSet.{Pair, pair_cmp}
use Rattle.asm_node.proofs.UpdateSets.{pair_total, pair_apart, of_list}
use Rattle.asm_update.specs.Order.{value_rank, rank_key, rank_cmp, AreBefore, AreNotBefore}

pub rank_total : IsTotalOrder rank_cmp
rank_total = on_total rank_key (lists_total int_cmp_total)

value_from_rank : List ℤ → Value
value_from_rank (pos (suc zero) ∷ pos zero ∷ _) = Bool false
value_from_rank (pos (suc zero) ∷ pos (suc _) ∷ _) = Bool true
value_from_rank (pos (suc (suc zero)) ∷ n ∷ _) = Int n
value_from_rank (pos (suc (suc (suc zero))) ∷ pos d ∷ pos k ∷ _) = Elem d k
value_from_rank _ = Undef

value_from_rank-rank : (v : Value) → value_from_rank (value_rank v) ≡ v
unfolding value_from_rank
value_from_rank-rank Undef = refl
value_from_rank-rank (Bool false) = refl
value_from_rank-rank (Bool true) = refl
value_from_rank-rank (Int n) = refl
value_from_rank-rank (Elem d k) = refl

pair_from_rank : List ℤ → Pair
pair_from_rank (pos l ∷ ks) = (l, value_from_rank ks)
pair_from_rank _ = (0, Undef)

pair_from_rank-key : (p : Pair) → pair_from_rank (rank_key p) ≡ p
unfolding pair_from_rank
pair_from_rank-key p = λ i. (p.0, value_from_rank-rank p.1 i)

-- pairs that tie are the same
pub rank_apart : IsAntisymmetric rank_cmp
rank_apart p q is =
    sym (pair_from_rank-key p) ∙ ap pair_from_rank (slice_cmp-IsAntisymmetric int_cmp-IsAntisymmetric (rank_key p) (rank_key q) is) ∙ pair_from_rank-key q

-- two orders under which only the same pairs tie have the same ties
pub same_ties : (p q : Pair) → eq_by_cmp pair_cmp p q ≡ eq_by_cmp rank_cmp p q
same_ties p q =
    elim (eq_by_cmp pair_cmp p q) as (λ b. eq_by_cmp pair_cmp p q ≡ b → b ≡ eq_by_cmp rank_cmp p q) [
      | true ↦ λ is. sym (ap (λ r. eq_by_cmp rank_cmp p r) (sym (tells_apart pair_apart p q is)) ∙ ap is_eq (tied_itself rank_total p))
      | false ↦ λ isnt. elim (eq_by_cmp rank_cmp p q) as (λ b. eq_by_cmp rank_cmp p q ≡ b → false ≡ b) [
        | true ↦ λ is. sym isnt ∙ ap (λ r. eq_by_cmp pair_cmp p r) (sym (tells_apart rank_apart p q is)) ∙ ap is_eq (tied_itself pair_total p)
        | false ↦ λ _. refl
      ] refl
    ] refl

pub of_list-permutation : (ps qs : List Pair) → IsPermutation ps qs → of_list qs ≡ of_list ps
of_list-permutation ps qs moved =
    set.same_set pair_total pair_apart _ _ (λ r.
    set.contains-from_list pair_total qs r ∙ sym (list_any-IsPermutation (eq_by_cmp pair_cmp r) ps qs moved)
    ∙ sym (set.contains-from_list pair_total ps r))

or_twice : (a b : Truth) → (a || (a || b)) ≡ (a || b)
or_twice true b = refl
or_twice false b = refl

module _ (same : Pair → Pair → Truth) (tells : (p q : Pair) → same p q ≡ true → p ≡ q) (test : Pair → Truth) where
  any-dedup_from : (p : Pair) (ps : List Pair) → list_any test (dedup_from same p ps) ≡ (test p || list_any test ps)
  any-dedup_from p [] = refl
  any-dedup_from p (q ∷ ps) =
      elim (same q p) as (λ b. same q p ≡ b → list_any test (cond b (dedup_from same p ps) (p ∷ dedup_from same q ps)) ≡ (test p || (test q || list_any test ps))) [
        | true ↦ λ is. any-dedup_from p ps ∙ sym (ap (λ r. test p || (test r || list_any test ps)) (tells q p is) ∙ or_twice (test p) (list_any test ps))
        | false ↦ λ _. ap (λ b. test p || b) (any-dedup_from q ps)
      ] refl

  any-dedup : (ps : List Pair) → list_any test (dedup same ps) ≡ list_any test ps
  any-dedup [] = refl
  any-dedup (p ∷ ps) = any-dedup_from p ps

pub of_list-dedup : (same : Pair → Pair → Truth) → ((p q : Pair) → same p q ≡ true → p ≡ q) → (ps : List Pair) → of_list (dedup same ps) ≡ of_list ps
of_list-dedup same tells ps =
    set.same_set pair_total pair_apart _ _ (λ r.
    set.contains-from_list pair_total (dedup same ps) r ∙ any-dedup same tells (eq_by_cmp pair_cmp r) ps
    ∙ sym (set.contains-from_list pair_total ps r))

pub of_list-insert : (ps : List Pair) (place : ℕ) (p : Pair) → of_list (insert ps place p) ≡ set.insert (of_list ps) p
of_list-insert ps place p =
    of_list-permutation (p ∷ ps) (insert ps place p) (IsPermutation-insert ps place p)
    ∙ set.same_set pair_total pair_apart _ _ (λ r.
    set.contains-from_list pair_total (p ∷ ps) r ∙ sym (set.contains-insert pair_total (of_list ps) p r ∙ ap (λ b. eq_by_cmp pair_cmp r p || b) (set.contains-from_list pair_total ps r)))

pub any_at_place : (test : Pair → Truth) (ps : List Pair) (k : ℕ) (d : Pair) → k < length ps → test (get_or ps k d) ≡ true → list_any test ps ≡ true
any_at_place test [] k d lt is = absurd (omega (arith, lt))
any_at_place test (q ∷ ps) zero d lt is = ap (λ b. b || list_any test ps) is
any_at_place test (q ∷ ps) (suc k) d lt is = ap (λ b. test q || b) (any_at_place test ps k d (omega (arith, lt)) is) ∙ or_true (test q)
  where
    or_true : (a : Truth) → (a || true) ≡ true
    or_true true = refl
    or_true false = refl

-- a pair that is there already adds nothing
pub of_list-there : (ps : List Pair) (k : ℕ) (d p : Pair) → k < length ps → get_or ps k d ≡ p → of_list ps ≡ set.insert (of_list ps) p
of_list-there ps k d p lt is =
    set.same_set pair_total pair_apart _ _ (λ r.
    elim (eq_by_cmp pair_cmp r p) as (λ b. eq_by_cmp pair_cmp r p ≡ b → set.contains (of_list ps) r ≡ (b || set.contains (of_list ps) r)) [
      | true ↦ λ same. set.contains-from_list pair_total ps r
          ∙ any_at_place (eq_by_cmp pair_cmp r) ps k d lt (ap (λ q. eq_by_cmp pair_cmp r q) is ∙ same)
      | false ↦ λ _. refl
    ] refl
    ∙ sym (set.contains-insert pair_total (of_list ps) p r))

pub all_at_place : (P : Pair → Type 0) (ps : List Pair) (k : ℕ) (d : Pair) → AllByRecursion P ps → k < length ps → P (get_or ps k d)
all_at_place P [] k d all lt = absurd (omega (arith, lt))
all_at_place P (q ∷ ps) zero d all lt = all.0
all_at_place P (q ∷ ps) (suc k) d all lt = all_at_place P ps k d all.1 (omega (arith, lt))

all_by_place : (P : Pair → Type 0) (ps : List Pair) (d : Pair) → ((k : ℕ) → k < length ps → P (get_or ps k d)) → AllByRecursion P ps
all_by_place P [] d at = tt
all_by_place P (q ∷ ps) d at = (at zero (omega arith), all_by_place P ps d (λ k lt. at (suc k) (omega (arith, lt))))

all_insert : (P : Pair → Type 0) (ps : List Pair) (place : ℕ) (p : Pair) → P p → AllByRecursion P ps → AllByRecursion P (insert ps place p)
all_insert P ps zero p is all = (is, all)
all_insert P [] (suc place) p is all = (is, tt)
all_insert P (q ∷ ps) (suc place) p is all = (all.0, all_insert P ps place p is all.1)

-- each pair of a list in order is before those at later places
pub before_later : (ps : List Pair) (i j : ℕ) (d : Pair) → IsStrictlySortedBy rank_cmp ps → i < j → j < length ps → rank_cmp (get_or ps i d) (get_or ps j d) ≡ Less
unfolding IsStrictlySortedBy
before_later [] i j d sorted lt len = absurd (omega (arith, len))
before_later (q ∷ ps) zero zero d sorted lt len = absurd (omega (arith, lt))
before_later (q ∷ ps) zero (suc j) d sorted lt len = all_at_place (λ p. rank_cmp q p ≡ Less) ps j d sorted.0 (omega (arith, len))
before_later (q ∷ ps) (suc i) zero d sorted lt len = absurd (omega (arith, lt))
before_later (q ∷ ps) (suc i) (suc j) d sorted lt len = before_later ps i j d sorted.1 (omega (arith, lt)) (omega (arith, len))

sorted_insert : (ps : List Pair) (place : ℕ) (p : Pair) → IsStrictlySortedBy rank_cmp ps → AreBefore p ps place → ((k : ℕ) (d : Pair) → place ≤ k → k < length ps → rank_cmp p (get_or ps k d) ≡ Less) → place ≤ length ps → IsStrictlySortedBy rank_cmp (insert ps place p)
unfolding IsStrictlySortedBy
sorted_insert ps zero p sorted before after le = (all_by_place (λ q. rank_cmp p q ≡ Less) ps p (λ k lt. after k p (omega arith) lt), sorted)
sorted_insert [] (suc place) p sorted before after le = absurd (omega (arith, le))
sorted_insert (q ∷ ps) (suc place) p sorted before after le = (
  all_insert (λ r. rank_cmp q r ≡ Less) ps place p (before zero p (omega arith)) sorted.0,
  sorted_insert ps place p sorted.1 (λ k d lt. before (suc k) d (omega (arith, lt))) (λ k d ge lt. after (suc k) d (omega (arith, ge)) (omega (arith, lt))) (omega (arith, le)),
)

other_way : (p q : Pair) → is_lt (rank_cmp q p) ≡ false → (q ≡ p → ⊥) → rank_cmp p q ≡ Less
other_way p q ge ne =
    rank_total.antisymm p q
    ∙ (elim (rank_cmp q p) as (λ o. rank_cmp q p ≡ o → is_lt o ≡ false → ordering_reverse o ≡ Less) [
      | Less ↦ λ _ isnt. absurd (true≢false isnt)
      | Equal ↦ λ is _. absurd (ne (rank_apart q p is))
      | Greater ↦ λ _ _. refl
    ] refl ge)

-- a pair that isn't at its place can be put there
pub insert_in_order : (ps : List Pair) (place : ℕ) (p : Pair) → IsStrictlySortedBy rank_cmp ps → AreBefore p ps place → AreNotBefore p ps place → place ≤ length ps → ((d : Pair) → place < length ps → get_or ps place d ≡ p → ⊥) → IsStrictlySortedBy rank_cmp (insert ps place p)
insert_in_order ps place p sorted before not_before le ne =
    sorted_insert ps place p sorted before
    (λ k d ge lt. other_way p (get_or ps k d) (not_before k d ge lt) (λ is.
    ⊎_elim
    (λ e. ne d (omega (arith, e, lt)) (ap (λ j. get_or ps j d) (sym e) ∙ is))
    (λ apart. let less : rank_cmp (get_or ps place d) p ≡ Less = ap (λ q. rank_cmp (get_or ps place d) q) (sym is) ∙ before_later ps place k d sorted (omega (arith, ge, apart)) lt in
    true≢false (sym (ap is_lt less) ∙ not_before place d (omega arith) (omega (arith, ge, lt))))
    (cases_eq k place))) le

pub less_is : (o : Ordering) → is_lt o ≡ true → o ≡ Less
less_is Less is = refl
less_is Equal is = absurd (true≢false (sym is))
less_is Greater is = absurd (true≢false (sym is))

-- in a list in order those before a pair come first
pub rank_partitions : (p : Pair) (ps : List Pair) → IsStrictlySortedBy rank_cmp ps → IsPartitionedBy (λ q. is_lt (rank_cmp q p)) ps
rank_partitions p ps sorted i j d le lt is =
    ⊎_elim
    (λ e. ap (λ k. is_lt (rank_cmp (get_or ps k d) p)) e ∙ is)
    (λ n. ap is_lt (rank_total.trans (get_or ps i d) (get_or ps j d) p (before_later ps i j d sorted (omega (arith, le, n)) lt) (less_is _ is)))
    (cases_eq i j)

-- what is in order has no pair twice
pub distinct_pairs : (ps : List Pair) → IsStrictlySortedBy rank_cmp ps → IsDistinct (eq_by_cmp pair_cmp) ps
distinct_pairs ps sorted =
    let ties : eq_by_cmp rank_cmp ≡ eq_by_cmp pair_cmp = λ i p q. sym (same_ties p q) i in
    subst (λ e. IsDistinct e ps) ties (IsDistinct-from_sorted rank_cmp ps sorted)

pub either : (P : List Pair → Type 0) (b : Truth) (ps qs : List Pair) → P ps → P qs → P (if b then ps else qs)
either P true ps qs p q = p
either P false ps qs p q = q

-- within a list the default is never taken
pub get_or_any : (ps : List Pair) (k : ℕ) (d e : Pair) → k < length ps → get_or ps k d ≡ get_or ps k e
get_or_any [] k d e lt = absurd (omega (arith, lt))
get_or_any (p ∷ ps) zero d e lt = refl
get_or_any (p ∷ ps) (suc k) d e lt = get_or_any ps k d e (omega (arith, lt))

pub untied : (p q : Pair) → is_ne (rank_cmp p q) ≡ true → p ≡ q → ⊥
untied p q ne is = true≢false (sym ne ∙ ap is_ne (ap (λ r. rank_cmp p r) (sym is) ∙ tied_itself rank_total p))

pub tied : (p q : Pair) → is_ne (rank_cmp p q) ≡ false → p ≡ q
tied p q is =
    elim (rank_cmp p q) as (λ o. rank_cmp p q ≡ o → is_ne o ≡ false → p ≡ q) [
      | Less ↦ λ _ e. absurd (true≢false e)
      | Equal ↦ λ e _. rank_apart p q e
      | Greater ↦ λ _ e. absurd (true≢false e)
    ] refl is
