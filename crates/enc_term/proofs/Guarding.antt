-- What is asked of a guard at all tuples, and what a quantifier makes of it.
use Rattle.std.proofs.Common.{◌≡◌, ℕ, zero, suc, ◌+◌, ◌<◌, ◌≤◌, Bool, true, false, true≢false, not, ◌&&◌, ◌||◌, cond, if◌then◌else◌, nat_eq, List, [], ◌∷◌, ◌++◌, length, map, filter, get_or, arith, refl, sym, ap, ◌∙◌, max, inl, inr, ◌⊎◌}
use Rattle.std.specs.List.{list_any, list_all, count_by}
use Rattle.std.proofs.lemmas.Bool.Decides.{nat_tests}
use Rattle.std.proofs.lemmas.List.Folds.{list_any-append}
use Rattle.std.proofs.lemmas.List.Sums.{sum_by-cons}
use Rattle.cnf_base.specs.declared.lit.Lit.{Lit}
use Rattle.std.specs.Bool.{beq}
use Rattle.cnf_base.specs.Clauses.{lit_true, negate, clause_variables}
use Rattle.asm_domain.specs.declared.value.Value.{Value}
use Rattle.asm_domain.specs.declared.value.Value.TheVariants as datum
use Rattle.asm_node.specs.declared.operator.Quantifier.{Quantifier}
use Rattle.asm_node.specs.declared.operator.Quantifier.TheVariants.{Forall, Exist, ExistUnique}
use Rattle.asm_node.specs.Values.{same, is_truth, is_true, quantified, decided}
use Rattle.asm_node.specs.Term.{Outcome, Gives, Needs, and_then, guard_values}
use Rattle.enc_group.specs.declared.group.Entry.{Entry}
use Rattle.enc_group.specs.Group.{Means, is_gives, holds, group_variables}
use Rattle.enc_group.specs.Binding.{group_at}
use Rattle.enc_group.proofs.Groups.{passes, pick}
use Rattle.enc_term.specs.declared.guards.Test.{Test}
use Rattle.enc_term.specs.declared.guards.Test.TheVariants.{IsGiven, IsTruth, IsTrue}
use Rattle.enc_term.specs.Guards.{passes_test, lits_passing, any_passes, is_odd, are_odd, two_true, exactly_one, is_decided, answers_are}

-- ---- literals

pub any_lits_passing : (v : ℕ → Bool) (test : Test) (es : List Entry) → list_any (lit_true v) (lits_passing test es) ≡ any_passes v test es
any_lits_passing v test [] = refl
any_lits_passing v test (e ∷ es) =
    elim (passes_test test e.value) as (λ b. list_any (lit_true v) (map (λ (d : Entry). d.lit) (cond b (e ∷ filter (λ d. passes_test test d.value) es) (filter (λ d. passes_test test d.value) es))) ≡ (b && lit_true v e.lit) || any_passes v test es) [
      | true ↦ ap (λ b. lit_true v e.lit || b) (any_lits_passing v test es)
      | false ↦ any_lits_passing v test es
    ]

pub variables_lits_passing : (test : Test) (es : List Entry) → clause_variables (lits_passing test es) ≤ group_variables es
variables_lits_passing test [] = omega arith
variables_lits_passing test (e ∷ es) =
    elim (passes_test test e.value) as (λ b. clause_variables (map (λ (d : Entry). d.lit) (cond b (e ∷ filter (λ d. passes_test test d.value) es) (filter (λ d. passes_test test d.value) es))) ≤ max (e.lit.var + 1) (group_variables es)) [
      | true ↦ omega (arith, variables_lits_passing test es)
      | false ↦ omega (arith, variables_lits_passing test es)
    ]

pub clause_push : (ls : List Lit) (l : Lit) → clause_variables (ls ++ l ∷ []) ≡ max (clause_variables ls) (l.var + 1)
clause_push [] l = omega arith
clause_push (m ∷ ls) l = omega (arith, clause_push ls l)

pub clause_at : (ls : List Lit) (i : ℕ) (l : Lit) → i < length ls → l ≡ get_or ls i l → l.var < clause_variables ls
clause_at [] i l h k = absurd (omega arith)
clause_at (m ∷ ls) zero l h k = let n : l.var ≡ m.var = ap (λ (x : Lit). x.var) k in omega arith
clause_at (m ∷ ls) (suc i) l h k = omega (arith, clause_at ls i l (omega arith) k)

pub group_item : (gs : List (List Entry)) (i : ℕ) (g : List Entry) → i < length gs → g ≡ get_or gs i g → group_at gs i ≡ g
group_item [] i g h k = absurd (omega (arith, h))
group_item (x ∷ gs) zero g h k = sym k
group_item (x ∷ gs) (suc i) g h k = group_item gs i g (omega (arith, h)) k

-- ---- lists of truth values

pub all_decided : (v : ℕ → Bool) (ls : List Lit) → list_all (lit_true v) ls ≡ list_all (λ b. b) (map (lit_true v) ls)
all_decided v [] = refl
all_decided v (l ∷ ls) = ap (λ b. lit_true v l && b) (all_decided v ls)

pub any_decided : (v : ℕ → Bool) (ls : List Lit) → list_any (lit_true v) ls ≡ list_any (λ b. b) (map (lit_true v) ls)
any_decided v [] = refl
any_decided v (l ∷ ls) = ap (λ b. lit_true v l || b) (any_decided v ls)

pub any_push : (bs : List Bool) (b : Bool) → list_any (λ c. c) (bs ++ b ∷ []) ≡ (list_any (λ c. c) bs || b)
any_push bs b = list_any-append (λ (c : Bool). c) bs (b ∷ []) ∙ ends (list_any (λ c. c) bs) b
  where
    ends : (a b : Bool) → a || (b || false) ≡ a || b
    ends true b = refl
    ends false true = refl
    ends false false = refl

pub two_push : (bs : List Bool) (b : Bool) → two_true (bs ++ b ∷ []) ≡ (two_true bs || (b && list_any (λ c. c) bs))
two_push [] b = ends b
  where
    ends : (a : Bool) → (a && false) || false ≡ false || (a && false)
    ends true = refl
    ends false = refl
two_push (c ∷ bs) b =
    ap (λ x. (c && x) || two_true (bs ++ b ∷ [])) (any_push bs b)
    ∙ ap (λ x. (c && (list_any (λ d. d) bs || b)) || x) (two_push bs b)
    ∙ turn c b (list_any (λ d. d) bs) (two_true bs)
  where
    turn : (m l a t : Bool) → (m && (a || l)) || (t || (l && a)) ≡ ((m && a) || t) || (l && (m || a))
    turn true true true t = refl
    turn true true false true = refl
    turn true true false false = refl
    turn true false true t = refl
    turn true false false true = refl
    turn true false false false = refl
    turn false true a true = refl
    turn false true true false = refl
    turn false true false false = refl
    turn false false a true = refl
    turn false false a false = refl

two_any : (bs : List Bool) → list_any (λ b. b) bs || two_true bs ≡ list_any (λ b. b) bs
two_any [] = refl
two_any (true ∷ bs) = refl
two_any (false ∷ bs) = two_any bs

module _ {A : Type 0} (p : A → Bool) where
  all_map : (xs : List A) → list_all (λ b. b) (map p xs) ≡ list_all p xs
  all_map [] = refl
  all_map (x ∷ xs) = ap (λ b. p x && b) (all_map xs)

  any_map : (xs : List A) → list_any (λ b. b) (map p xs) ≡ list_any p xs
  any_map [] = refl
  any_map (x ∷ xs) = ap (λ b. p x || b) (any_map xs)

  any_count : (xs : List A) → list_any (λ b. b) (map p xs) ≡ not (nat_eq (count_by p xs) 0)
  any_count [] = refl
  any_count (x ∷ xs) =
      elim (p x) as (λ b. b || list_any (λ b. b) (map p xs) ≡ not (nat_eq (cond b 1 0 + count_by p xs) 0)) [
        | true ↦ let more : nat_eq (1 + count_by p xs) 0 ≡ false = grind (arith, nat_tests) in ap not (sym more)
        | false ↦ any_count xs ∙ ap (λ n. not (nat_eq n 0)) (let same : count_by p xs ≡ 0 + count_by p xs = omega arith in same)
      ]
      ∙ ap (λ n. not (nat_eq n 0)) (sym (sum_by-cons (λ (y : A). cond (p y) 1 0) x xs))

  one_more : (n : ℕ) → nat_eq (1 + n) 1 ≡ nat_eq n 0
  one_more zero = refl
  one_more (suc n) = let a : nat_eq (1 + suc n) 1 ≡ false = grind (arith, nat_tests) in let b : nat_eq (suc n) 0 ≡ false = grind (arith, nat_tests) in a ∙ sym b

  one_count : (xs : List A) → exactly_one (map p xs) ≡ nat_eq (count_by p xs) 1
  one_count [] = refl
  one_count (x ∷ xs) =
      elim (p x) as (λ b. (b || list_any (λ b. b) (map p xs)) && not ((b && list_any (λ b. b) (map p xs)) || two_true (map p xs)) ≡ nat_eq (cond b 1 0 + count_by p xs) 1) [
        | true ↦
            ap not (two_any (map p xs)) ∙ ap not (any_count xs) ∙ twice (nat_eq (count_by p xs) 0) ∙ sym (one_more (count_by p xs))
        | false ↦ one_count xs ∙ ap (λ n. nat_eq n 1) (let same : count_by p xs ≡ 0 + count_by p xs = omega arith in same)
      ]
      ∙ ap (λ n. nat_eq n 1) (sym (sum_by-cons (λ (y : A). cond (p y) 1 0) x xs))
    where
      twice : (b : Bool) → not (not b) ≡ b
      twice true = refl
      twice false = refl

pub decided_values : (q : Quantifier) (vs : List Value) → is_decided q (map is_true vs) ≡ decided q vs
decided_values Forall vs = all_map is_true vs
decided_values Exist vs = any_map is_true vs
decided_values ExistUnique vs = one_count is_true vs

-- ---- the guard at all tuples

-- whether the guard's value passes, tuple by tuple
abbrev pub asked : (List Value → Outcome Value) → (Value → Bool) → List (List Value) → List Bool
asked guard p tuples = map (λ t. passes p (guard t)) tuples

pub asked_groups : (v : ℕ → Bool) (test : Test) (guard : List Value → Outcome Value) (groups : List (List Entry)) (tuples : List (List Value)) → length groups ≡ length tuples
    → ((j : ℕ) (t : List Value) → j < length tuples → t ≡ get_or tuples j t → Means v (group_at groups j) (guard t)) → map (any_passes v test) groups ≡ asked guard (passes_test test) tuples
asked_groups v test guard [] [] long means = refl
asked_groups v test guard [] (t ∷ ts) long means = absurd (omega (arith, long))
asked_groups v test guard (g ∷ gs) [] long means = absurd (omega (arith, long))
asked_groups v test guard (g ∷ gs) (t ∷ ts) long means = λ i.
    pick v g (guard t) (passes_test test) (means 0 t (omega arith) refl) i
    ∷ asked_groups v test guard gs ts (omega (arith, long)) (λ j u below is. means (suc j) u (omega (arith, below)) is) i

-- the guard has values at all tuples, or needs a location at one
abbrev Told : (List Value → Outcome Value) → List (List Value) → Type 0
Told guard tuples =
    ((vs : List Value) × (guard_values guard tuples ≡ Gives vs) × ((p : Value → Bool) → asked guard p tuples ≡ map p vs))
    ⊎ ((l : ℕ) × (guard_values guard tuples ≡ Needs l) × ((p : Value → Bool) → list_all (λ b. b) (asked guard p tuples) ≡ false))

and_no : (a b : Bool) → b ≡ false → a && b ≡ false
and_no true b h = h
and_no false b h = refl

told : (guard : List Value → Outcome Value) (tuples : List (List Value)) → Told guard tuples
told guard [] = inl ([], refl, λ p. refl)
told guard (t ∷ ts) = first (guard t) refl (told guard ts)
  where
    first : (o : Outcome Value) → guard t ≡ o → Told guard ts → Told guard (t ∷ ts)
    first (Needs l) is rest = inr (l, ap (λ o. and_then o (λ v. and_then (guard_values guard ts) (λ vs. Gives (v ∷ vs)))) is, λ p. ap (λ o. passes p o && list_all (λ b. b) (asked guard p ts)) is)
    first (Gives x) is (inl all) = inl (
      x ∷ all.0,
      ap (λ o. and_then o (λ v. and_then (guard_values guard ts) (λ vs. Gives (v ∷ vs)))) is ∙ ap (λ o. and_then o (λ vs. Gives (x ∷ vs))) all.1,
      λ p i. passes p (is i) ∷ all.2 p i,
    )
    first (Gives x) is (inr need) = inr (
      need.0,
      ap (λ o. and_then o (λ v. and_then (guard_values guard ts) (λ vs. Gives (v ∷ vs)))) is ∙ ap (λ o. and_then o (λ vs. Gives (x ∷ vs))) need.1,
      λ p. and_no (passes p (guard t)) (list_all (λ b. b) (asked guard p ts)) (need.2 p),
    )

all_given : (vs : List Value) → list_all (λ (v : Value). true) vs ≡ true
all_given [] = refl
all_given (v ∷ vs) = all_given vs

-- what three literals say of the value
abbrev says : Bool → Bool → Bool → Bool → Value → Bool
says met unmet odd with_odd y = (same (datum.Bool true) y && met) || ((same (datum.Bool false) y && unmet) || (if with_odd then (same datum.Undef y && odd) || false else false))

said : (v : ℕ → Bool) (met unmet odd : Lit) (with_odd : Bool) (y : Value) → holds v (answers_are met unmet odd with_odd) y ≡ says (lit_true v met) (lit_true v unmet) (lit_true v odd) with_odd y
said v met unmet odd true y = refl
said v met unmet odd false y = refl

-- the value by whether all guards are truth values, and what is decided
table : (known held with_odd : Bool) (y : Value) → (with_odd ≡ false → known ≡ true)
    → says (known && held) (known && not held) (not known) with_odd y ≡ same (if known then datum.Bool held else datum.Undef) y
table true true true y h = ends (same (datum.Bool true) y) (same (datum.Bool false) y) (same datum.Undef y)
  where
    ends : (a b c : Bool) → (a && true) || ((b && false) || ((c && false) || false)) ≡ a
    ends true b c = refl
    ends false true true = refl
    ends false true false = refl
    ends false false true = refl
    ends false false false = refl
table true true false y h = ends (same (datum.Bool true) y) (same (datum.Bool false) y)
  where
    ends : (a b : Bool) → (a && true) || ((b && false) || false) ≡ a
    ends true b = refl
    ends false true = refl
    ends false false = refl
table true false true y h = ends (same (datum.Bool true) y) (same (datum.Bool false) y) (same datum.Undef y)
  where
    ends : (a b c : Bool) → (a && false) || ((b && true) || ((c && false) || false)) ≡ b
    ends true true c = refl
    ends false true c = refl
    ends true false true = refl
    ends true false false = refl
    ends false false true = refl
    ends false false false = refl
table true false false y h = ends (same (datum.Bool true) y) (same (datum.Bool false) y)
  where
    ends : (a b : Bool) → (a && false) || ((b && true) || false) ≡ b
    ends true true = refl
    ends false true = refl
    ends true false = refl
    ends false false = refl
table false held true y h = ends (same (datum.Bool true) y) (same (datum.Bool false) y) (same datum.Undef y)
  where
    ends : (a b c : Bool) → (a && false) || ((b && false) || ((c && true) || false)) ≡ c
    ends true true true = refl
    ends true true false = refl
    ends true false true = refl
    ends true false false = refl
    ends false true true = refl
    ends false true false = refl
    ends false false true = refl
    ends false false false = refl
table false held false y h = absurd (true≢false (sym (h refl)))

nothing_said : (with_odd : Bool) (y : Value) → says false false false with_odd y ≡ false
nothing_said true y = ends (same (datum.Bool true) y) (same (datum.Bool false) y) (same datum.Undef y)
  where
    ends : (a b c : Bool) → (a && false) || ((b && false) || ((c && false) || false)) ≡ false
    ends true true true = refl
    ends true true false = refl
    ends true false true = refl
    ends true false false = refl
    ends false true true = refl
    ends false true false = refl
    ends false false true = refl
    ends false false false = refl
nothing_said false y = ends (same (datum.Bool true) y) (same (datum.Bool false) y)
  where
    ends : (a b : Bool) → (a && false) || ((b && false) || false) ≡ false
    ends true true = refl
    ends true false = refl
    ends false true = refl
    ends false false = refl

-- a group without other values has a truth value where it has one
even_group : (v : ℕ → Bool) (es : List Entry) → is_odd es ≡ false → any_passes v IsTruth es ≡ any_passes v IsGiven es
even_group v [] h = refl
even_group v (e ∷ es) h =
    let s = neither (not (is_truth e.value)) (is_odd es) h in
    λ i. (not_no (is_truth e.value) s.0 i && lit_true v e.lit) || even_group v es s.1 i
  where
    neither : (a b : Bool) → a || b ≡ false → (a ≡ false) × (b ≡ false)
    neither true b h = absurd (true≢false h)
    neither false b h = (refl, h)

    not_no : (a : Bool) → not a ≡ false → a ≡ true
    not_no true h = refl
    not_no false h = absurd (true≢false h)

even_groups : (v : ℕ → Bool) (gs : List (List Entry)) → are_odd gs ≡ false → map (any_passes v IsTruth) gs ≡ map (any_passes v IsGiven) gs
even_groups v [] h = refl
even_groups v (g ∷ gs) h =
    let s = neither (is_odd g) (are_odd gs) h in
    λ i. even_group v g s.0 i ∷ even_groups v gs s.1 i
  where
    neither : (a b : Bool) → a || b ≡ false → (a ≡ false) × (b ≡ false)
    neither true b h = absurd (true≢false h)
    neither false b h = (refl, h)

-- what the literals of a quantifier say
pub quantified_means : (v : ℕ → Bool) (q : Quantifier) (groups : List (List Entry)) (guard : List Value → Outcome Value) (tuples : List (List Value)) (met unmet odd : Lit) (given known held : Bool)
    → length groups ≡ length tuples
    → ((j : ℕ) (t : List Value) → j < length tuples → t ≡ get_or tuples j t → Means v (group_at groups j) (guard t))
    → given ≡ list_all (λ b. b) (map (any_passes v IsGiven) groups)
    → known ≡ list_all (λ b. b) (map (any_passes v IsTruth) groups)
    → held ≡ is_decided q (map (any_passes v IsTrue) groups)
    → lit_true v met ≡ (known && held)
    → lit_true v unmet ≡ (known && not held)
    → lit_true v odd ≡ (given && not known)
    → Means v (answers_are met unmet odd (are_odd groups)) (and_then (guard_values guard tuples) (λ vs. Gives (quantified q vs)))
quantified_means v q groups guard tuples met unmet odd given known held long means is_given is_known is_held is_met is_unmet is_odd_lit =
    record { at = λ y. said v met unmet odd (are_odd groups) y ∙ (λ i. says (is_met i) (is_unmet i) (is_odd_lit i) (are_odd groups) y) ∙ by (told guard tuples) y }
  where
    ask : (test : Test) → map (any_passes v test) groups ≡ asked guard (passes_test test) tuples
    ask test = asked_groups v test guard groups tuples long means

    by : Told guard tuples → (y : Value) → says (known && held) (known && not held) (given && not known) (are_odd groups) y ≡ is_gives y (and_then (guard_values guard tuples) (λ vs. Gives (quantified q vs)))
    by (inl all) y =
        let vs = all.0 in
        let all_there : given ≡ true = is_given ∙ ap (list_all (λ b. b)) (ask IsGiven ∙ all.2 (passes_test IsGiven)) ∙ all_map (passes_test IsGiven) vs ∙ all_given vs in
        let truths : known ≡ list_all is_truth vs = is_known ∙ ap (list_all (λ b. b)) (ask IsTruth ∙ all.2 (passes_test IsTruth)) ∙ all_map is_truth vs in
        let result : held ≡ decided q vs = is_held ∙ ap (is_decided q) (ask IsTrue ∙ all.2 (passes_test IsTrue)) ∙ decided_values q vs in
        let even : are_odd groups ≡ false → known ≡ true = λ h. is_known ∙ ap (list_all (λ b. b)) (even_groups v groups h) ∙ sym is_given ∙ all_there in
        ap (λ g. says (known && held) (known && not held) (g && not known) (are_odd groups) y) all_there
        ∙ table known held (are_odd groups) y even
        ∙ (λ i. same (if truths i then datum.Bool (result i) else datum.Undef) y)
        ∙ sym (ap (λ o. is_gives y (and_then o (λ vs. Gives (quantified q vs)))) all.1)
    by (inr need) y =
        let missing : given ≡ false = is_given ∙ ap (list_all (λ b. b)) (ask IsGiven) ∙ need.2 (passes_test IsGiven) in
        let unknown : known ≡ false = is_known ∙ ap (list_all (λ b. b)) (ask IsTruth) ∙ need.2 (passes_test IsTruth) in
        (λ i. says (unknown i && held) (unknown i && not held) (missing i && not (unknown i)) (are_odd groups) y)
        ∙ nothing_said (are_odd groups) y
        ∙ sym (ap (λ o. is_gives y (and_then o (λ vs. Gives (quantified q vs)))) need.1)

-- ---- negated literals

pub negated_true : (v : ℕ → Bool) (l m : Lit) → m ≡ negate l → lit_true v m ≡ not (lit_true v l)
negated_true v l m is = ap (lit_true v) is ∙ turn (v l.var) l.positive
  where
    turn : (a b : Bool) → beq a (not b) ≡ not (beq a b)
    turn true true = refl
    turn true false = refl
    turn false true = refl
    turn false false = refl
