-- Small models whose states conform, whose steps are answered, and one whose step is a counter step.
use Rattle.std.proofs.Common.{◌≡◌, inl, inr, ℕ, zero, suc, Bool as Truth, true, false, true≢false, cond, ◌&&◌, [], ◌∷◌, Option, Some, None, is_some, unwrap_or, refl, ap, sym, ◌∙◌, subst, nat_eq, arith}
use Rattle.std.proofs.lemmas.Bool.Decides.{nat_tests}
use Rattle.std.specs.Prelude.{IsTrue, IsSome}
use Rattle.std.specs.Ordering.{nat_cmp}
use Rattle.std.specs.Cmp.{nat_cmp_total, unsigned_tied}
use Rattle.std.specs.FinMap as finite
use Rattle.std.specs.FinSet as set
use Rattle.asm_source.specs.declared.sources.Place.{Place}
use Rattle.asm_domain.specs.declared.value.Value.{Value}
use Rattle.asm_domain.specs.declared.value.Value.TheVariants.{Undef, Bool}
use Rattle.asm_domain.specs.Universe.{Truths}
use Rattle.asm_sign.specs.declared.function.FunKind.{FunKind}
use Rattle.asm_sign.specs.declared.function.FunKind.TheVariants.{Controlled, Monitored}
use Rattle.asm_sign.specs.Kind.{is_kept}
use Rattle.asm_sign.specs.Vocabulary.{function_at}
use Rattle.asm_node.specs.Tree.{Const, none}
use Rattle.asm_node.specs.RuleTree.{Rule, Skip, Update}
use Rattle.asm_node.specs.Machine.{Machine, State, Input, no_input, has_kind, is_monitored}
use Rattle.asm_node.specs.UpdateSet.{UpdateSet, fire}
use Rattle.asm_node.specs.Taking.{Attempt, Yields, Faults}
use Rattle.asm_node.specs.Step.{IsState, IsFull, Steps, may_have, shared_value, with_shared}
use Rattle.asm_node.proofs.Revising.{revised-listed, no_shared}
use Rattle.asm_node.proofs.UpdateSets.{of_list, consistent-list}
use Rattle.asm_laws.proofs.Listing.{held, fire-listed}
use Rattle.ref_link.specs.Linking.{Linking, conform, agree, value_in, same_value, same_given}
use Rattle.ref_link.specs.Answering.{Answered}
use Rattle.ref_link.specs.Counter.{CounterStep}

-- a model of one function of truth values, without arguments
abbrev lamp : FunKind → Rule → Machine
lamp kind main = record {
  signature = record {
    domains = record { name = None; domain = Truths } ∷ [];
    functions = record { name = []; kind = kind; domains = []; codomain = 0 } ∷ [];
  };
  definitions = [];
  initial_terms = [];
  rules = [];
  invariants = [];
  main = main;
}

abbrev here : Place
here = record { file = 0; at = 0 }

-- the lamp stays as it is, and the lamp goes out
abbrev stays : Rule
stays = Skip here

abbrev goes_out : Rule
goes_out = Update here 0 none (Const (Bool false))

-- two lamps that are linked
abbrev lamps : FunKind → Rule → Rule → Linking
lamps kind a c = record { abstract_model = lamp kind a; concrete_model = lamp kind c; links = record { abstract_function = 0; concrete_function = 0 } ∷ [] }

abbrev shows : Value → State
shows v = held ((0, v) ∷ [])

-- ---- conforming states

value_is : (r : Rule) (v : Value) → value_in (lamp Controlled r) (shows v) 0 [] ≡ v
value_is r v = ap (λ (o : Option Value). unwrap_or o Undef) (finite.get-from_entries nat_cmp_total ((0, v) ∷ []) 0)

conform_by : (a c : Rule) (v w : Value) → conform (lamps Controlled a c) (shows v) (shows w) ≡ (same_value (lamp Controlled a) (lamp Controlled c) v w && true && true)
conform_by a c v w = λ i. same_value (lamp Controlled a) (lamp Controlled c) (value_is a v i) (value_is c w i) && true && true

-- lamps that are both on conform
pub both_on : (a c : Rule) → conform (lamps Controlled a c) (shows (Bool true)) (shows (Bool true)) ≡ true
both_on a c = conform_by a c (Bool true) (Bool true)

both_out : (a c : Rule) → conform (lamps Controlled a c) (shows (Bool false)) (shows (Bool false)) ≡ true
both_out a c = conform_by a c (Bool false) (Bool false)

-- a lamp of which nothing is known conforms to no lamp that is on
pub unknown_and_on : (a c : Rule) → conform (lamps Controlled a c) (shows Undef) (shows (Bool true)) ≡ false
unknown_and_on a c = conform_by a c Undef (Bool true)

on_and_out : (a c : Rule) → conform (lamps Controlled a c) (shows (Bool true)) (shows (Bool false)) ≡ false
on_and_out a c = conform_by a c (Bool true) (Bool false)

-- ---- agreeing inputs

-- an input that gives no value doesn't agree with one that does
pub nothing_and_on : (a c : Rule) → agree (lamps Monitored a c) no_input (finite.from_entries ((0, Bool true) ∷ [])) ≡ false
nothing_and_on a c = λ i. same_given (lamp Monitored a) (lamp Monitored c) (finite.get-empty nat_cmp 0 i) (finite.get-from_entries nat_cmp_total ((0, Bool true) ∷ []) 0 i) && true && true

-- ---- steps

abbrev IsNothing : Option Value → Type 0
IsNothing None = Unit {0}
IsNothing (Some v) = ⊥

nothing_given : (l : ℕ) (v : Value) → finite.get no_input l ≡ Some v → ⊥
nothing_given l v is = subst IsNothing (sym (finite.get-empty nat_cmp l) ∙ is) tt

is_full : (r : Rule) → IsFull (lamp Controlled r) no_input
is_full r = record {
  is_input = record { is_asked = λ l v is. absurd (nothing_given l v is); may_give = λ l v is. absurd (nothing_given l v is) };
  gives = asked;
}
  where
    asked : (l : ℕ) → IsTrue (has_kind is_monitored (function_at (lamp Controlled r).signature l)) → IsSome (finite.get no_input l)
    asked zero is = absurd (true≢false (sym is))
    asked (suc l) is = absurd (true≢false (sym is))

of_truth : (b : Truth) → IsTrue (may_have (lamp Controlled stays) (function_at (lamp Controlled stays).signature 0) (Bool b))
of_truth true = refl
of_truth false = refl

found : (v : Value) (l : ℕ) → finite.get (shows v) l ≡ finite.find nat_cmp l ((0, v) ∷ [])
found v l = finite.get-from_entries nat_cmp_total ((0, v) ∷ []) l

missing : (b : Truth) (l : ℕ) → finite.get (shows (Bool b)) (suc l) ≡ None
missing b l =
    let apart : nat_eq (suc l) 0 ≡ false = grind (arith, nat_tests) in
    found (Bool b) (suc l) ∙ ap (λ (t : Truth). cond t (Some (Bool b)) None) (unsigned_tied (suc l) 0 ∙ apart)

is_state : (r : Rule) (b : Truth) → IsState (lamp Controlled r) (shows (Bool b))
is_state r b = record { has_kept = kept; may_have_it = may }
  where
    kept : (l : ℕ) → is_some (finite.get (shows (Bool b)) l) ≡ has_kind is_kept (function_at (lamp Controlled r).signature l)
    kept zero = ap is_some (found (Bool b) zero)
    kept (suc l) = ap is_some (missing b l)

    may : (l : ℕ) (v : Value) → finite.get (shows (Bool b)) l ≡ Some v → IsTrue (may_have (lamp Controlled r) (function_at (lamp Controlled r).signature l) v)
    may zero v is = subst (λ (w : Value). IsTrue (may_have (lamp Controlled r) (function_at (lamp Controlled r).signature 0) w)) (ap (λ (o : Option Value). unwrap_or o Undef) (sym (found (Bool b) zero) ∙ is)) (of_truth b)
    may (suc l) v is = absurd (subst IsNothing (sym (missing b l) ∙ is) tt)

staying : (b : Truth) → Steps (lamp Controlled stays) (shows (Bool b)) no_input (shows (Bool b))
staying b = record {
  choosing = λ path. None;
  updates = of_list [];
  gives = refl;
  is_consistent = consistent-list [];
  next_is = ap (λ (s : State). fire s (of_list [])) (no_shared (lamp Controlled stays).signature (shows (Bool b))) ∙ fire-listed [] ((0, Bool b) ∷ []) refl;
}

going_out : (b : Truth) → Steps (lamp Controlled goes_out) (shows (Bool b)) no_input (shows (Bool false))
going_out b = record {
  choosing = λ path. None;
  updates = of_list ((0, Bool false) ∷ []);
  gives = refl;
  is_consistent = consistent-list ((0, Bool false) ∷ []);
  next_is = ap (λ (s : State). fire s (of_list ((0, Bool false) ∷ []))) (no_shared (lamp Controlled goes_out).signature (shows (Bool b))) ∙ fire-listed ((0, Bool false) ∷ []) ((0, Bool b) ∷ []) refl;
}

-- a step that changes nothing is answered by the abstract state itself
pub stuttering : (a : Rule) → Answered (lamps Controlled a stays) (shows (Bool true)) no_input (shows (Bool true))
stuttering a = inl (both_on a stays)

-- a lamp that goes out answers one that goes out
pub answered : Answered (lamps Controlled goes_out goes_out) (shows (Bool true)) no_input (shows (Bool false))
answered = inr (record {
  input = no_input;
  is_full = is_full goes_out;
  agrees = refl;
  state = shows (Bool false);
  steps = going_out true;
  holds = refl;
  conforms = both_out goes_out goes_out;
})

-- ---- a counter step

abbrev updates_of : Attempt (Unit {0}) UpdateSet → UpdateSet
updates_of (Yields u t) = u
updates_of (Faults e t) = set.empty

-- a step of a lamp that stays as it is leads to the same state, under any input
stayed : (b : Truth) (i : Input) (t : State) → Steps (lamp Controlled stays) (shows (Bool b)) i t → t ≡ shows (Bool b)
stayed b i t steps =
    sym steps.next_is
    ∙ ap (λ (u : UpdateSet). fire (with_shared (lamp Controlled stays).signature i (shows (Bool b))) u) (sym (ap updates_of steps.gives))
    ∙ ap (λ (s : State). fire s (of_list [])) (revised-listed (shared_value (lamp Controlled stays).signature i) ((0, Bool b) ∷ []))
    ∙ fire-listed [] ((0, Bool b) ∷ []) refl

-- a lamp that stays as it is doesn't answer one that goes out
pub counter : CounterStep (lamps Controlled stays goes_out) (shows (Bool true)) (shows (Bool true)) no_input (shows (Bool false))
counter = record {
  is_allowed = record {
    is_abstract = is_state stays true;
    is_concrete = is_state goes_out true;
    is_full = is_full goes_out;
    abstract_holds = refl;
    concrete_holds = refl;
    conforms = both_on stays goes_out;
    steps = going_out true;
    next_holds = refl;
  };
  is_unanswered = λ answer. elim answer as (λ _. ⊥) [
    | inl same ↦ true≢false (sym same ∙ on_and_out stays goes_out)
    | inr by ↦ true≢false (sym by.conforms ∙ ap (λ (s : State). conform (lamps Controlled stays goes_out) s (shows (Bool false))) (stayed true by.input by.state by.steps) ∙ on_and_out stays goes_out)
  ];
}
