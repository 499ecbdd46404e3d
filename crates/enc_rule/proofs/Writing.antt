-- What an update writes where each value is one of a group.
use Rattle.std.proofs.Common.{◌≡◌, ℕ, ◌∙◌, ap, sym, refl, Bool, true, false, not, ◌&&◌, ◌||◌, List, [], ◌∷◌, ◌++◌, map, if◌then◌else◌, nat_eq, Option, Some, None, slice_get, T, eqb→eq, eq-eqb, subst, true≢false, arith, ◌≤◌}
use Rattle.std.specs.List.{list_any}
use Rattle.std.specs.FinSet as set
use Rattle.std.specs.Ordering.{eq_by_cmp, is_eq}
use Rattle.std.specs.Cmp.{tied_itself}
use Rattle.std.proofs.lemmas.Map.Views.{tells_apart}
use Rattle.std.proofs.lemmas.List.Folds.{list_any-append}
use Rattle.asm_source.specs.declared.sources.Place.{Place}
use Rattle.cnf_base.specs.declared.lit.Lit.{Lit}
use Rattle.cnf_base.specs.Clauses.{lit_true}
use Rattle.asm_domain.specs.declared.value.Value.{Value}
use Rattle.asm_sign.specs.declared.function.DeclaredDomain.{DeclaredDomain}
use Rattle.asm_sign.specs.declared.function.Function.{Function}
use Rattle.asm_sign.specs.Vocabulary.{Vocabulary}
use Rattle.asm_node.specs.declared.stop.Stop.{Stop}
use Rattle.asm_node.specs.declared.stop.Stop.TheVariants.{Input, BadArgument, BadValue}
use Rattle.asm_node.specs.Values.{same}
use Rattle.asm_node.specs.Machine.{slot_at}
use Rattle.asm_node.specs.Term.{World, Outcome, Gives, Needs}
use Rattle.asm_node.specs.UpdateSet.{one, pair_cmp}
use Rattle.asm_node.specs.Taking.{Yields, Faults, evaluated, updated, update}
use Rattle.asm_node.proofs.UpdateSets.{pair_total, pair_apart, same_is}
use Rattle.asm_node.proofs.Elements.{same_self}
use Rattle.enc_group.specs.declared.group.Entry.{Entry}
use Rattle.enc_group.specs.declared.tuple.Tuple.{Tuple}
use Rattle.enc_group.specs.Group.{Means, group_variables}
use Rattle.enc_group.specs.Tuple.{MeansAll}
use Rattle.enc_group.proofs.Groups.{pick, passes}
use Rattle.enc_group.proofs.Tuples.{pick_all}
use Rattle.enc_update.specs.declared.pair.Pair.{Pair}
use Rattle.enc_update.specs.Updates.{Taken, Takes, is_fault, yields_pair}
use Rattle.enc_rule.specs.Written.{some_pair, some_value, some_written, may_write, writable, writable_at}

-- ---- the set of one pair

and_first : (a b : Bool) → a && b ≡ true → a ≡ true
and_first true b is = refl
and_first false b is = is

and_second : (a b : Bool) → a && b ≡ true → b ≡ true
and_second true b is = is
and_second false b is = absurd (true≢false (sym is))

same_pair : (p q : ℕ × Value) → eq_by_cmp pair_cmp p q ≡ nat_eq q.0 p.0 && same q.1 p.1
same_pair p q =
    elim (eq_by_cmp pair_cmp p q) as (λ b. eq_by_cmp pair_cmp p q ≡ b → b ≡ nat_eq q.0 p.0 && same q.1 p.1) [
      | true ↦ λ is. sym (ap (λ (r : ℕ × Value). nat_eq r.0 p.0 && same r.1 p.1) (sym (tells_apart pair_apart p q is)) ∙ λ i. eq-eqb p.0 p.0 refl i && same_self p.1 i)
      | false ↦ λ no.
          elim (nat_eq q.0 p.0 && same q.1 p.1) as (λ b. nat_eq q.0 p.0 && same q.1 p.1 ≡ b → false ≡ b) [
            | true ↦ λ is.
                let slots = eqb→eq q.0 p.0 (subst T (sym (and_first (nat_eq q.0 p.0) (same q.1 p.1) is)) tt) in
                let values = same_is q.1 p.1 (and_second (nat_eq q.0 p.0) (same q.1 p.1) is) in
                let e : q ≡ p = λ i. (slots i, values i) in
                absurd (true≢false (sym (ap is_eq (tied_itself pair_total p)) ∙ ap (eq_by_cmp pair_cmp p) (sym e) ∙ no))
            | false ↦ λ _. refl
          ] refl
    ] refl

or_none : (a : Bool) → a || false ≡ a
or_none true = refl
or_none false = refl

one_has : (s : ℕ) (y : Value) (l : ℕ) (x : Value) → set.contains (one s y) (l, x) ≡ nat_eq s l && same y x
one_has s y l x =
    set.contains-insert pair_total set.empty (s, y) (l, x) ∙ ap (λ b. eq_by_cmp pair_cmp (l, x) (s, y) || b) (set.contains-empty pair_cmp (l, x))
    ∙ or_none (eq_by_cmp pair_cmp (l, x) (s, y)) ∙ same_pair (l, x) (s, y)

-- ---- what is asked of the pairs of an update

any_kept : (v : ℕ → Bool) (q : Value → Bool) (domains : List DeclaredDomain) (codomain : ℕ) (es : List Entry)
    → list_any (λ e. q e.value && lit_true v e.lit) (writable domains codomain es) ≡ list_any (λ e. (may_write domains codomain e.value && q e.value) && lit_true v e.lit) es
any_kept v q domains codomain [] = refl
any_kept v q domains codomain (e ∷ es) =
    elim (may_write domains codomain e.value) as (λ b. list_any (λ d. q d.value && lit_true v d.lit) (if b then e ∷ writable domains codomain es else writable domains codomain es) ≡ ((b && q e.value) && lit_true v e.lit) || list_any (λ d. (may_write domains codomain d.value && q d.value) && lit_true v d.lit) es) [
      | true ↦ ap (λ b. (q e.value && lit_true v e.lit) || b) (any_kept v q domains codomain es)
      | false ↦ any_kept v q domains codomain es
    ]

module _ (v : ℕ → Bool) (q : ℕ → Value → Bool) (r : Taken → Bool) (fails : (stop : Stop) → r (Faults stop tt) ≡ false) (one_is : (l : ℕ) (y : Value) → r (Yields (one l y) tt) ≡ q l y) where
  asked_value : (w : World) (place : Place) (codomain l : ℕ) (o : Outcome Value)
      → passes (λ y. may_write w.machine.signature.domains codomain y && q l y) o ≡ r (updated w place codomain (Some l) o tt)
  asked_value w place codomain l (Gives y) =
      elim (may_write w.machine.signature.domains codomain y) as (λ b. b && q l y ≡ r (if b then Yields (one l y) tt else Faults (BadValue place l y) tt)) [
        | true ↦ sym (one_is l y)
        | false ↦ sym (fails (BadValue place l y))
      ]
  asked_value w place codomain l (Needs s) = sym (fails (Input s))

  asked_slot : (w : World) (place : Place) (function : Function) (slot : Option ℕ) (o : Outcome Value) (es : List Entry) → Means v es o
      → some_value v q (writable w.machine.signature.domains function.codomain es) slot ≡ r (updated w place function.codomain slot o tt)
  asked_slot w place function (Some l) o es m =
      any_kept v (q l) w.machine.signature.domains function.codomain es
      ∙ pick v es o (λ y. may_write w.machine.signature.domains function.codomain y && q l y) m ∙ asked_value w place function.codomain l o
  asked_slot w place function None o es m = sym (fails (BadArgument place))

  asked_function : (w : World) (place : Place) (f : ℕ) (function : Option Function) (vs : List Value) (o : Outcome Value) (es : List Entry) → Means v es o
      → some_value v q (writable_at w.machine.signature.domains function es) (slot_at w.machine.signature f vs) ≡ r (update w place f function vs o tt)
  asked_function w place f (Some function) vs o es m = asked_slot w place function (slot_at w.machine.signature f vs) o es m
  asked_function w place f None vs o es m =
      elim (slot_at w.machine.signature f vs) as (λ (slot : Option ℕ). some_value v q [] slot ≡ r (Faults (BadArgument place) tt)) [
        | Some l ↦ sym (fails (BadArgument place))
        | None ↦ sym (fails (BadArgument place))
      ]

  -- what is asked of what an update gives is asked of the pairs of all locations and values
  pub asked_update : (w : World) (place : Place) (f : ℕ) (os : Outcome (List Value)) (o : Outcome Value) (ts : List Tuple) (es : List Entry) → MeansAll v ts os → Means v es o
      → some_written v q w.machine.signature f (writable_at w.machine.signature.domains (slice_get w.machine.signature.functions f) es) ts
      ≡ r (evaluated os tt (λ vs. update w place f (slice_get w.machine.signature.functions f) vs o tt))
  asked_update w place f os o ts es m n =
      pick_all v ts os (λ vs. some_value v q (writable_at w.machine.signature.domains (slice_get w.machine.signature.functions f) es) (slot_at w.machine.signature f vs)) m
      ∙ elim os as (λ (os : Outcome (List Value)). passes (λ vs. some_value v q (writable_at w.machine.signature.domains (slice_get w.machine.signature.functions f) es) (slot_at w.machine.signature f vs)) os ≡ r (evaluated os tt (λ vs. update w place f (slice_get w.machine.signature.functions f) vs o tt))) [
        | Gives vs ↦ asked_function w place f (slice_get w.machine.signature.functions f) vs o es n
        | Needs l ↦ sym (fails (Input l))
      ]

not_not : (a : Bool) → not (not a) ≡ a
not_not true = refl
not_not false = refl

abbrev pub update_given : World → Place → ℕ → Outcome (List Value) → Outcome Value → Taken
update_given w place f os o = evaluated os tt (λ vs. update w place f (slice_get w.machine.signature.functions f) vs o tt)

-- where the pairs are those of all locations and values, and the fault is that no pair is there, these mean what the update gives
pub update_takes : (v : ℕ → Bool) (w : World) (place : Place) (f : ℕ) (os : Outcome (List Value)) (o : Outcome Value) (ts : List Tuple) (es : List Entry) (signature : Vocabulary) (ps : List Pair) (fault : Lit)
    → w.machine.signature ≡ signature → MeansAll v ts os → Means v es o
    → ((q : ℕ → Value → Bool) → some_pair v ps q ≡ some_written v q signature f (writable_at signature.domains (slice_get signature.functions f) es) ts)
    → lit_true v fault ≡ not (list_any (λ p. lit_true v p.lit) ps) → Takes v ps fault (update_given w place f os o)
update_takes v w place f os o ts es signature ps fault is m n h k =
    let here : (q : ℕ → Value → Bool) → some_pair v ps q ≡ some_written v q w.machine.signature f (writable_at w.machine.signature.domains (slice_get w.machine.signature.functions f) es) ts =
    subst (λ (sig : Vocabulary). (q : ℕ → Value → Bool) → some_pair v ps q ≡ some_written v q sig f (writable_at sig.domains (slice_get sig.functions f) es) ts) (sym is) h in
    record {
      faults = k ∙ ap not (here (λ s y. true) ∙ asked_update v (λ s y. true) (λ a. not (is_fault a)) (λ stop. refl) (λ s y. refl) w place f os o ts es m n) ∙ not_not (is_fault (update_given w place f os o));
      pairs = λ fine l x. here (λ s y. nat_eq s l && same y x) ∙ asked_update v (λ s y. nat_eq s l && same y x) (yields_pair l x) (λ stop. refl) (λ s y. one_has s y l x) w place f os o ts es m n;
    }

-- ---- loops

pub pair_push : (v : ℕ → Bool) (ps : List Pair) (p : Pair) (q : ℕ → Value → Bool) → some_pair v (ps ++ p ∷ []) q ≡ some_pair v ps q || (q p.slot p.value && lit_true v p.lit)
pair_push v ps p q = list_any-append (λ (d : Pair). q d.slot d.value && lit_true v d.lit) ps (p ∷ []) ∙ ap (λ b. some_pair v ps q || b) (or_none (q p.slot p.value && lit_true v p.lit))

pub shared : (w s g q l : Bool) → (w || (s && g)) || (q && (g && l)) ≡ w || ((s || (q && l)) && g)
shared true s g q l = refl
shared false true true q l = refl
shared false true false true l = refl
shared false true false false l = refl
shared false false true true true = refl
shared false false true true false = refl
shared false false true false l = refl
shared false false false true true = refl
shared false false false true false = refl
shared false false false false l = refl

pub writable_variables : (domains : List DeclaredDomain) (codomain : ℕ) (es : List Entry) → group_variables (writable domains codomain es) ≤ group_variables es
writable_variables domains codomain [] = omega arith
writable_variables domains codomain (e ∷ es) =
    elim (may_write domains codomain e.value) as (λ b. group_variables (if b then e ∷ writable domains codomain es else writable domains codomain es) ≤ group_variables (e ∷ es)) [
      | true ↦ omega (arith, writable_variables domains codomain es)
      | false ↦ omega (arith, writable_variables domains codomain es)
    ]

pub writable_at_variables : (domains : List DeclaredDomain) (function : Option Function) (es : List Entry) → group_variables (writable_at domains function es) ≤ group_variables es
writable_at_variables domains (Some function) es = writable_variables domains function.codomain es
writable_at_variables domains None es = omega arith

pub any_pair_lit : (v : ℕ → Bool) (ps : List Pair) → list_any (lit_true v) (map (λ p. p.lit) ps) ≡ list_any (λ p. lit_true v p.lit) ps
any_pair_lit v [] = refl
any_pair_lit v (p ∷ ps) = ap (λ b. lit_true v p.lit || b) (any_pair_lit v ps)
