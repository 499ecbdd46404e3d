-- The slots with two values in a set.
use Rattle.std.proofs.Common.{◌≡◌, ℕ, zero, suc, ◌+◌, ◌<◌, ◌≤◌, pos, Bool as Truth, true, false, cond, ◌||◌, List, [], ◌∷◌, ◌++◌, length, get_or, take, drop, Option, Some, None, nat_eq, refl, sym, ap, append-nil, ◌∙◌, subst, arith, true≢false, T, eqb→eq, eq-eqb, ⊎_elim}
use Rattle.std.specs.Prelude.{slice_get}
use Rattle.std.specs.declared.cmp.Ordering.TheVariants.{Less, Equal, Greater}
use Rattle.std.specs.Ordering.{int_cmp, eq_by_cmp, is_eq, is_lt, ordering_then}
use Rattle.std.specs.Cmp.{tied_itself}
use Rattle.std.specs.Cmp.Lexicographic.{slice_cmp}
use Rattle.std.specs.FinSet as set
use Rattle.std.specs.List.{list_any, filter}
use Rattle.std.specs.List.Sorted.{IsStrictlySortedBy}
use Rattle.std.specs.Option.{option_map, option_to_list}
use Rattle.std.proofs.lemmas.Bool.{cases_eq, cases_lt}
use Rattle.std.proofs.lemmas.Cmp.{int_ranked}
use Rattle.std.proofs.lemmas.Int.{ints}
use Rattle.std.proofs.lemmas.List.{take_more, take-append-drop}
use Rattle.std.proofs.lemmas.Option.{slice_get_within, get_or_from_slice_get}
use Rattle.std.proofs.lemmas.List.Elements.{filter-append}
use Rattle.std.proofs.lemmas.Map.Views.{tells_apart}
use Rattle.asm_domain.specs.declared.value.Value.{Value}
use Rattle.asm_domain.specs.declared.value.Value.TheVariants.{Undef}
use Rattle.asm_domain.specs.Universe.{Universe, elements}
use Rattle.asm_sign.specs.declared.function.DeclaredDomain.{DeclaredDomain}
use Rattle.asm_sign.specs.declared.function.Function.{Function}
use Rattle.asm_sign.specs.Arguments.{elements_of}
use Rattle.asm_sign.specs.Vocabulary.{Vocabulary, locations, function_at, codomain_of}
use Rattle.asm_node.specs.UpdateSet.{Pair, UpdateSet, pair_cmp, ranked_values, values_at, first_two, clash_from, clash}
use Rattle.asm_node.proofs.UpdateSets.{pair_total, pair_apart, of_list}
use Rattle.asm_update.specs.Clash.{first_pair}
use Rattle.asm_update.specs.Order.{value_rank, rank_cmp, AreBefore, AreNotBefore}
use Rattle.asm_update.proofs.Ordered.{rank_total, rank_apart, before_later, any_at_place, get_or_any}

first_two-none : (l : ℕ) (vs : List Value) (later : Option (ℕ × Value × Value)) → first_pair vs ≡ None → first_two l vs later ≡ later
first_two-none l [] later is = refl
first_two-none l (v ∷ []) later is = refl
first_two-none l (v ∷ w ∷ vs) later is = absurd (cc is)

first_two-some : (l : ℕ) (vs : List Value) (later : Option (ℕ × Value × Value)) (v w : Value) → first_pair vs ≡ Some (v, w) → first_two l vs later ≡ Some (l, v, w)
first_two-some l [] later v w is = absurd (cc is)
first_two-some l (x ∷ []) later v w is = absurd (cc is)
first_two-some l (x ∷ y ∷ vs) later v w is =
    let e : ◌≡◌ {A = Value × Value} (x, y) (v, w) = cc is in
    λ i. Some (l, (e i).0, (e i).1)

-- no two values of a slot are in the set
abbrev pub IsQuiet : Vocabulary → UpdateSet → ℕ → Type 0
IsQuiet signature u l = first_pair (values_at signature u l) ≡ None

module _ (signature : Vocabulary) (u : UpdateSet) where
  pub clash_from-none : (xs : List (ℕ × List Value)) (from : ℕ) → ((l : ℕ) → from ≤ l → l < from + length xs → IsQuiet signature u l) → clash_from signature u from xs ≡ None
  clash_from-none [] from quiet = refl
  clash_from-none (x ∷ xs) from quiet =
      first_two-none from (values_at signature u from) _ (quiet from (omega arith) (omega arith))
      ∙ clash_from-none xs (suc from) (λ l ge lt. quiet l (omega (arith, ge)) (omega (arith, lt)))

  pub clash_from-some : (xs : List (ℕ × List Value)) (from to : ℕ) (v w : Value) → from ≤ to → to < from + length xs → ((l : ℕ) → from ≤ l → l < to → IsQuiet signature u l) → first_pair (values_at signature u to) ≡ Some (v, w) → clash_from signature u from xs ≡ Some (to, v, w)
  clash_from-some [] from to v w le lt quiet two = absurd (omega (arith, le, lt))
  clash_from-some (x ∷ xs) from to v w le lt quiet two =
      ⊎_elim
      (λ e. ap (λ l. first_two l (values_at signature u l) (clash_from signature u (suc from) xs)) e ∙ first_two-some to (values_at signature u to) _ v w two)
      (λ n. first_two-none from (values_at signature u from) _ (quiet from (omega arith) (omega (arith, n, le)))
      ∙ clash_from-some xs (suc from) to v w (omega (arith, n, le)) (omega (arith, lt)) (λ l ge below. quiet l (omega (arith, ge)) below) two)
      (cases_eq from to)

slot_le : (p q : Pair) → rank_cmp p q ≡ Less → p.0 ≤ q.0
slot_le p q is =
    elim (int_cmp (pos p.0) (pos q.0)) as (λ o. int_cmp (pos p.0) (pos q.0) ≡ o → ordering_then o (slice_cmp int_cmp (value_rank p.1) (value_rank q.1)) ≡ Less → p.0 ≤ q.0) [
      | Less ↦ λ e _. let h = int_ranked (pos p.0) (pos q.0) Less (sym e) in omega (arith, ints, h)
      | Equal ↦ λ e _. let h : pos p.0 ≡ pos q.0 = int_ranked (pos p.0) (pos q.0) Equal (sym e) in let k : p.0 ≡ q.0 = cc h in omega (arith, k)
      | Greater ↦ λ _ e. absurd (cc e)
    ] refl is

-- in a list in order no slot is after a later one
pub slots_rise : (ps : List Pair) (i j : ℕ) (d : Pair) → IsStrictlySortedBy rank_cmp ps → i ≤ j → j < length ps → (get_or ps i d).0 ≤ (get_or ps j d).0
slots_rise ps i j d sorted le lt =
    ⊎_elim
    (λ e. let f : (get_or ps i d).0 ≡ (get_or ps j d).0 = ap (λ k. (get_or ps k d).0) e in omega (arith, f))
    (λ n. slot_le (get_or ps i d) (get_or ps j d) (before_later ps i j d sorted (omega (arith, le, n)) lt))
    (cases_eq i j)

filter_none : (test : Value → Truth) (vs : List Value) → ((v : Value) → test v ≡ false) → filter test vs ≡ []
filter_none test [] none = refl
filter_none test (v ∷ vs) none = ap (λ b. cond b (v ∷ filter test vs) (filter test vs)) (none v) ∙ filter_none test vs none

-- the place of a pair of a slot, or none has the slot
place_or_none : (ps : List Pair) (l : ℕ) (d : Pair) → ((k : ℕ) → k < length ps → (get_or ps k d).0 ≡ l → ⊥) → (v : Value) → list_any (eq_by_cmp pair_cmp (l, v)) ps ≡ false
place_or_none [] l d none v = refl
place_or_none (p ∷ ps) l d none v =
    elim (eq_by_cmp pair_cmp (l, v) p) as (λ b. eq_by_cmp pair_cmp (l, v) p ≡ b → (b || list_any (eq_by_cmp pair_cmp (l, v)) ps) ≡ false) [
      | true ↦ λ is. absurd (none zero (omega arith) (ap (λ q. q.0) (sym (tells_apart pair_apart (l, v) p is))))
      | false ↦ λ _. place_or_none ps l d (λ k lt. none (suc k) (omega (arith, lt))) v
    ] refl

quiet_or : (b : Truth) (Q : Type 0) → (b ≡ true → Q) → (b ≡ false → Q) → Q
quiet_or true Q where_true where_false = where_true refl
quiet_or false Q where_true where_false = where_false refl

any_place : (ps : List Pair) (l : ℕ) (d : Pair) (Q : Type 0) → list_any (λ p. nat_eq p.0 l) ps ≡ true → ((k : ℕ) → k < length ps → (get_or ps k d).0 ≡ l → Q) → Q
any_place [] l d Q is at = absurd (true≢false (sym is))
any_place (p ∷ ps) l d Q is at =
    elim (nat_eq p.0 l) as (λ b. nat_eq p.0 l ≡ b → (b || list_any (λ p. nat_eq p.0 l) ps) ≡ true → Q) [
      | true ↦ λ e _. at zero (omega arith) (eqb→eq p.0 l (subst T (sym e) tt))
      | false ↦ λ _ rest. any_place ps l d Q rest (λ k lt. at (suc k) (omega (arith, lt)))
    ] refl is

no_place : (ps : List Pair) (l : ℕ) (d : Pair) → list_any (λ p. nat_eq p.0 l) ps ≡ false → (k : ℕ) → k < length ps → (get_or ps k d).0 ≡ l → ⊥
no_place [] l d isnt k lt e = absurd (omega (arith, lt))
no_place (p ∷ ps) l d isnt zero lt e = true≢false (sym (ap (λ b. b || list_any (λ p. nat_eq p.0 l) ps) (eq-eqb p.0 l e)) ∙ isnt)
no_place (p ∷ ps) l d isnt (suc k) lt e =
    elim (nat_eq p.0 l) as (λ b. (b || list_any (λ p. nat_eq p.0 l) ps) ≡ false → ⊥) [
      | true ↦ λ f. true≢false f
      | false ↦ λ f. no_place ps l d f k (omega (arith, lt)) e
    ] isnt

-- a slot is quiet where it is so at each pair of it
pub quiet_by_place : (signature : Vocabulary) (ps : List Pair) (l : ℕ) (d : Pair) → ((k : ℕ) → k < length ps → (get_or ps k d).0 ≡ l → IsQuiet signature (of_list ps) l) → IsQuiet signature (of_list ps) l
quiet_by_place signature ps l d at =
    quiet_or (list_any (λ p. nat_eq p.0 l) ps) (IsQuiet signature (of_list ps) l)
    (λ is. any_place ps l d (IsQuiet signature (of_list ps) l) is at)
    (λ isnt. ap first_pair (filter_none (λ v. set.contains (of_list ps) (l, v)) (ranked_values signature (function_at signature l)) (λ v. set.contains-from_list pair_total ps (l, v) ∙ place_or_none ps l d (no_place ps l d isnt) v)))

-- the values of a function with a codomain, by rank
pub ranked-codomain : (signature : Vocabulary) (f : Option Function) (c : Universe) → codomain_of signature f ≡ Some c → ranked_values signature f ≡ Undef ∷ elements c
ranked-codomain signature None c is = absurd (cc is)
ranked-codomain signature (Some f) c is =
    elim (slice_get signature.domains f.codomain) as (λ o. option_map (λ (d : DeclaredDomain). d.domain) o ≡ Some c → ◌≡◌ {A = List Value} (Undef ∷ elements_of o) (Undef ∷ elements c)) [
      | None ↦ λ is. absurd (cc is)
      | Some d ↦ λ is. let e : d.domain ≡ c = cc is in ap (λ c. Undef ∷ elements c) e
    ] is

none_before : (ps : List Pair) (p : Pair) → ((k : ℕ) (d : Pair) → k < length ps → get_or ps k d ≡ p → ⊥) → list_any (eq_by_cmp pair_cmp p) ps ≡ false
none_before [] p none = refl
none_before (q ∷ ps) p none =
    elim (eq_by_cmp pair_cmp p q) as (λ b. eq_by_cmp pair_cmp p q ≡ b → (b || list_any (eq_by_cmp pair_cmp p) ps) ≡ false) [
      | true ↦ λ is. absurd (none zero p (omega arith) (sym (tells_apart pair_apart p q is)))
      | false ↦ λ _. none_before ps p (λ k d lt. none (suc k) d (omega (arith, lt)))
    ] refl

-- a pair that isn't at its place isn't there
pub not_there : (ps : List Pair) (place : ℕ) (p : Pair) → IsStrictlySortedBy rank_cmp ps → AreBefore p ps place → AreNotBefore p ps place → ((d : Pair) → place < length ps → get_or ps place d ≡ p → ⊥) → set.contains (of_list ps) p ≡ false
not_there ps place p sorted before not_before ne =
    set.contains-from_list pair_total ps p
    ∙ none_before ps p (λ k d lt is.
    ⊎_elim
    (λ e. ne d (omega (arith, e, lt)) (ap (λ j. get_or ps j d) (sym e) ∙ is))
    (λ apart. place_cases k place
    (λ less. absurd (unequal (sym (ap (λ q. rank_cmp q p) is ∙ tied_itself rank_total p) ∙ before k d less)))
    (λ ge.
    let less : rank_cmp (get_or ps place d) p ≡ Less = ap (λ q. rank_cmp (get_or ps place d) q) (sym is) ∙ before_later ps place k d sorted (omega (arith, ge, apart)) lt in
    true≢false (sym (ap is_lt less) ∙ not_before place d (omega arith) (omega (arith, ge, lt)))))
    (cases_eq k place))
  where
    unequal : Equal ≡ Less → ⊥
    unequal e = cc e

    place_cases : (k place : ℕ) → (k < place → ⊥) → (place ≤ k → ⊥) → ⊥
    place_cases k place under over = ⊎_elim under over (cases_lt k place)

pub there : (ps : List Pair) (k : ℕ) (d p : Pair) → k < length ps → get_or ps k d ≡ p → set.contains (of_list ps) p ≡ true
there ps k d p lt is =
    set.contains-from_list pair_total ps p ∙ any_at_place (eq_by_cmp pair_cmp p) ps k d lt (ap (λ q. eq_by_cmp pair_cmp p q) is ∙ ap is_eq (tied_itself pair_total p))

-- whether the pair at a pair's place is that pair tells whether it is there
pub at_place : (ps : List Pair) (place : ℕ) (p x : Pair) → IsStrictlySortedBy rank_cmp ps → AreBefore p ps place → AreNotBefore p ps place → place < length ps → x ≡ get_or ps place x → is_eq (rank_cmp x p) ≡ set.contains (of_list ps) p
at_place ps place p x sorted before not_before lt at =
    elim (is_eq (rank_cmp x p)) as (λ b. is_eq (rank_cmp x p) ≡ b → b ≡ set.contains (of_list ps) p) [
      | true ↦ λ is. sym (there ps place x p lt (sym at ∙ tells_apart rank_apart x p is))
      | false ↦ λ isnt. sym (not_there ps place p sorted before not_before (λ d _ is.
          let same : x ≡ p = at ∙ get_or_any ps place x d lt ∙ is in
          true≢false (sym (ap (λ q. is_eq (rank_cmp x q)) (sym same) ∙ ap is_eq (tied_itself rank_total x)) ∙ isnt)))
    ] refl

-- the slots of the first pairs of a list, up to a place, are quiet where they are slots of the vocabulary
abbrev pub AreQuiet : Vocabulary → List Pair → ℕ → Type 0
AreQuiet signature ps place = (k : ℕ) → k < place → (get_or ps k (0, Undef)).0 < length (locations signature) → IsQuiet signature (of_list ps) (get_or ps k (0, Undef)).0

pub no_clash : (signature : Vocabulary) (ps : List Pair) → AreQuiet signature ps (length ps) → clash signature (of_list ps) ≡ None
no_clash signature ps quiet =
    clash_from-none signature (of_list ps) (locations signature) 0 (λ l _ lt.
    quiet_by_place signature ps l (0, Undef) (λ k within e. subst (IsQuiet signature (of_list ps)) e (quiet k within (omega (arith, e, lt)))))

pub clash_here : (signature : Vocabulary) (ps : List Pair) (place : ℕ) (v w : Value) → IsStrictlySortedBy rank_cmp ps → AreQuiet signature ps place → place < length ps → (get_or ps place (0, Undef)).0 < length (locations signature) → first_pair (values_at signature (of_list ps) (get_or ps place (0, Undef)).0) ≡ Some (v, w) → clash signature (of_list ps) ≡ Some ((get_or ps place (0, Undef)).0, v, w)
clash_here signature ps place v w sorted quiet within slot two =
    clash_from-some signature (of_list ps) (locations signature) 0 (get_or ps place (0, Undef)).0 v w (omega arith) (omega (arith, slot)) (λ l _ below.
    quiet_by_place signature ps l (0, Undef) (λ k lt e.
    ⊎_elim
    (λ earlier. subst (IsQuiet signature (of_list ps)) e (quiet k earlier (omega (arith, e, below, slot))))
    (λ later. let rises = slots_rise ps place k (0, Undef) sorted later lt in absurd (omega (arith, rises, e, below)))
    (cases_lt k place))) two

-- a place whose slot is quiet joins the places before it
pub one_more_quiet : (signature : Vocabulary) (ps : List Pair) (place : ℕ) → AreQuiet signature ps place → ((get_or ps place (0, Undef)).0 < length (locations signature) → IsQuiet signature (of_list ps) (get_or ps place (0, Undef)).0) → AreQuiet signature ps (place + 1)
one_more_quiet signature ps place quiet here k lt =
    ⊎_elim
    (λ e. subst (λ j. (get_or ps j (0, Undef)).0 < length (locations signature) → IsQuiet signature (of_list ps) (get_or ps j (0, Undef)).0) (sym e) here)
    (λ n. quiet k (omega (arith, lt, n)))
    (cases_eq k place)

pub first_pair-one : (o : Option Value) → first_pair (option_to_list o) ≡ None
first_pair-one None = refl
first_pair-one (Some v) = refl

-- one value more: it is joined where it passes the test
pub filter_more : (test : Value → Truth) (vs : List Value) (k : ℕ) (v : Value) → slice_get vs k ≡ Some v → filter test (Undef ∷ take (k + 1) vs) ≡ filter test (Undef ∷ take k vs) ++ filter test (v ∷ [])
filter_more test vs k v is =
    ap (λ ws. filter test (Undef ∷ ws)) (take_more vs k Undef (slice_get_within vs k v is) ∙ ap (λ w. take k vs ++ w ∷ []) (get_or_from_slice_get vs k v Undef is))
    ∙ filter-append test (Undef ∷ take k vs) (v ∷ [])

-- what is found up to a rank is found at the beginning
pub first_pair-more : (test : Value → Truth) (vs : List Value) (k : ℕ) (v w : Value) → filter test (Undef ∷ take (k + 1) vs) ≡ v ∷ w ∷ [] → first_pair (filter test (Undef ∷ vs)) ≡ Some (v, w)
first_pair-more test vs k v w is =
    ap (λ ws. first_pair (filter test (Undef ∷ ws))) (sym (take-append-drop (k + 1) vs))
    ∙ ap first_pair (filter-append test (Undef ∷ take (k + 1) vs) (drop (k + 1) vs)) ∙ ap (λ ws. first_pair (ws ++ filter test (drop (k + 1) vs))) is

passed : (test : Value → Truth) (v : Value) (b : Truth) → b ≡ test v → b ≡ true → filter test (v ∷ []) ≡ v ∷ []
passed test v b is yes_it = ap (λ b. cond b (v ∷ []) []) (sym is ∙ yes_it)

failed : (test : Value → Truth) (v : Value) (b : Truth) → b ≡ test v → b ≡ false → filter test (v ∷ []) ≡ []
failed test v b is not_it = ap (λ b. cond b (v ∷ []) []) (sym is ∙ not_it)

module _ (test : Value → Truth) (vs : List Value) (k : ℕ) (first : Option Value) (found : option_to_list first ≡ filter test (Undef ∷ take k vs)) (v : Value) (at : slice_get vs k ≡ Some v) (b : Truth) (is : b ≡ test v) where
  pub found_second : (least : Value) → first ≡ Some least → b ≡ true → first_pair (filter test (Undef ∷ vs)) ≡ Some (least, v)
  found_second least one passes =
      let before : filter test (Undef ∷ take k vs) ≡ least ∷ [] = sym found ∙ ap option_to_list one in
      first_pair-more test vs k least v (filter_more test vs k v at ∙ λ i. before i ++ passed test v b is passes i)

  pub found_first : first ≡ None → b ≡ true → v ∷ [] ≡ filter test (Undef ∷ take (k + 1) vs)
  found_first none passes =
      let before : filter test (Undef ∷ take k vs) ≡ [] = sym found ∙ ap option_to_list none in
      sym (filter_more test vs k v at ∙ λ i. before i ++ passed test v b is passes i)

  pub found_none : b ≡ false → option_to_list first ≡ filter test (Undef ∷ take (k + 1) vs)
  found_none fails =
      found ∙ sym (append-nil (filter test (Undef ∷ take k vs))) ∙ sym (filter_more test vs k v at ∙ ap (λ ws. filter test (Undef ∷ take k vs) ++ ws) (failed test v b is fails))
