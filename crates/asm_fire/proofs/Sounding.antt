-- A rule of a well-formed model is sound under each input.
use Rattle.std.proofs.Common.{◌≡◌, ℕ, zero, suc, ◌<◌, Bool as Truth, true, false, not, ◌&&◌, if◌then◌else◌, List, [], ◌∷◌, map, length, nat_eq, slice_get, Option, Some, None, Contains, IsTrue, refl, sym, ap, ◌∙◌, subst, arith}
use Rattle.std.proofs.Math.Logic.{∥∥₁_elim}
use Rattle.std.specs.Ordering.{nat_cmp}
use Rattle.std.specs.FinMap.{get-empty}
use Rattle.std.proofs.lemmas.Option.{slice_get-get_or}
use Rattle.asm_domain.specs.declared.value.Value.{Value}
use Rattle.asm_domain.specs.declared.value.Value.TheVariants.{Undef}
use Rattle.asm_sign.specs.declared.function.FunKind.{FunKind}
use Rattle.asm_sign.specs.declared.function.FunKind.TheVariants.{Static, Derived, Controlled, Out, Shared, Monitored}
use Rattle.asm_sign.specs.declared.function.Function.{Function}
use Rattle.asm_sign.specs.Arguments.{elements_at}
use Rattle.asm_sign.specs.Kind.{is_kept, is_dynamic}
use Rattle.asm_sign.specs.Vocabulary.{Vocabulary, IsDeclared}
use Rattle.asm_sign.proofs.Picks.{in_tuples_picks}
use Rattle.asm_node.specs.declared.term.Binder.{Binder}
use Rattle.asm_node.specs.declared.model.Model.{Model}
use Rattle.asm_node.specs.Model.{machine_of}
use Rattle.asm_node.specs.Tree.{Tree, Trees, Const, Within, none, more}
use Rattle.asm_node.specs.RuleTree.{Rule, Rules, Skip, Update, Par, Seq, If, Let, Forall, Choose, Call, none as no_rule, more as more_rules}
use Rattle.asm_node.specs.Values.{is_undef}
use Rattle.asm_node.specs.Machine.{Machine, Macro, State, Input, tuples_of, has_kind}
use Rattle.asm_node.specs.Term.{Places, Gives, nowhere, put, put_tuple, close, unbound, value_of, calls_of, reads_at, val}
use Rattle.asm_node.specs.Taking.{stand_for}
use Rattle.asm_node.specs.Exact.{IsExact, exact_within}
use Rattle.asm_node.specs.Filled.{IsFilled}
use Rattle.asm_node.specs.Step.{IsState, IsInput, alone}
use Rattle.asm_node.specs.Ranges.{Range, Ranges, no_ranges, put_range, IsIn, AreBound, AreParameters, HasRange, HaveRanges}
use Rattle.asm_node.specs.RuleRanges.{IsRangedRule, AreRangedRules}
use Rattle.asm_node.specs.Types.{Types, put_type, bound_types, parameter_types, no_types, IsTypedRule, AreTypedRules}
use Rattle.asm_node.specs.WellFormed.{IsMacro, IsRule, IsCondition, IsInvariant, IsWellFormed}
use Rattle.asm_node.proofs.Closed.{IsClosed, closed}
use Rattle.asm_node.proofs.ClosedExact.{each_at, closed_exact, all_closed_exact}
use Rattle.asm_node.proofs.Formed.{all_at, definitions_ranged}
use Rattle.asm_node.proofs.Exactly.{AreElements, bound_finite, picked_elements, exact_in, all_exact_in, exact_calls}
use Rattle.asm_node.proofs.Ranging.{element_in, within_in}
use Rattle.asm_node.proofs.Valued.{Answers, answer_is, any_answers, value_in, calls_in}
use Rattle.asm_eval.specs.World.{world_in}
use Rattle.asm_fire.specs.Sound.{IsEverExact, AreEverExact, IsKept, HasDomain, IsSoundIn, AreSoundIn, IsSoundBody, sound_within, IsSound}
use Rattle.asm_fire.proofs.Single.{one_proof, ever_prop}

kept_dynamic : (kind : FunKind) → is_kept kind ≡ true → IsTrue (is_dynamic kind)
kept_dynamic Static is = absurd (cc (is))
kept_dynamic Derived is = absurd (cc (is))
kept_dynamic Controlled is = refl
kept_dynamic Out is = refl
kept_dynamic Shared is = refl
kept_dynamic Monitored is = absurd (cc (is))

second : (a b : Truth) → IsTrue (a && b) → IsTrue b
second true b h = h
second false b h = absurd (cc (h))

-- in the place of each variable stands a closed term that is exact and has a value of its range in every state
record IsPlaced (m : Machine) (i : Input) (rs : Ranges) (e : Places) : Type 0 where
  is_closed : (y : ℕ) → IsClosed (e y)
  exact : (y : ℕ) (s : State) → IsState m s → IsExact (world_in m s i) (e y)
  reads : (y : ℕ) (s : State) → IsState m s → Answers (IsIn (rs y)) (value_of (world_in m s i) (calls_of (world_in m s i)) unbound (e y))

undef_in : (r : Range) → IsIn r Undef
undef_in r = tt

module _ (m : Machine) (i : Input) (is_input : IsInput m i) (well : IsWellFormed m) where
  abbrev signature : Vocabulary
  signature = m.signature

  filled : (s : State) → IsState m s → IsFilled (world_in m s i)
  filled s is = record { state = is.may_have_it; input = λ l v g. second (not (is_undef v)) _ (is_input.may_give l v g) }

  filled_alone : IsFilled (alone m)
  filled_alone = record {
    state = λ l v g. absurd (cc (get-empty {X = Value} nat_cmp l, g));
    input = λ l v g. absurd (cc (get-empty {X = Value} nat_cmp l, g));
  }

  -- ---- what stands in the places of variables

  ever_exact : (rs : Ranges) (e : Places) (t : Tree) (r : Range) → IsPlaced m i rs e → HasRange signature rs t r → IsEverExact m i e t
  ever_exact rs e t r p h = λ s is.
      closed_exact (world_in m s i) e p.is_closed t
      (exact_in (world_in m s i) (filled s is) (calls_of (world_in m s i)) (exact_within (world_in m s i) 32) (calls_in (world_in m s i) (filled s is) 32) (exact_calls (world_in m s i) (filled s is) (definitions_ranged m well) 32)
      t rs (reads_at (world_in m s i) e) (each_at (world_in m s i) e) r (λ y. p.reads y s is) (λ y. p.exact y s is) h)

  all_ever_exact : (rs : Ranges) (e : Places) (ts : Trees) (ss : List Range) → IsPlaced m i rs e → HaveRanges signature rs ts ss → AreEverExact m i e ts
  all_ever_exact rs e ts ss p h = λ s is.
      all_closed_exact (world_in m s i) e p.is_closed ts
      (all_exact_in (world_in m s i) (filled s is) (calls_of (world_in m s i)) (exact_within (world_in m s i) 32) (calls_in (world_in m s i) (filled s is) 32) (exact_calls (world_in m s i) (filled s is) (definitions_ranged m well) 32)
      ts rs (reads_at (world_in m s i) e) (each_at (world_in m s i) e) ss (λ y. p.reads y s is) (λ y. p.exact y s is) h)

  value_ranged : (rs : Ranges) (e : Places) (t : Tree) (r : Range) (s : State) (v : Value) → IsPlaced m i rs e → HasRange signature rs t r → IsState m s → val (world_in m s i) e t ≡ Gives v → IsIn r v
  value_ranged rs e t r s v p h is gives =
      answer_is (IsIn r) (val (world_in m s i) e t) v
      (value_in (world_in m s i) (filled s is) (calls_of (world_in m s i)) (calls_in (world_in m s i) (filled s is) 32) t rs (reads_at (world_in m s i) e) r (λ y. p.reads y s is) h) gives

  placed_nowhere : (rs : Ranges) → IsPlaced m i rs nowhere
  placed_nowhere rs = record { is_closed = λ y any. refl; exact = λ y s is. tt; reads = λ y s is. undef_in (rs y) }

  same_placed : (inner outer : Ranges) (e : Places) → ((y : ℕ) → inner y ≡ outer y) → IsPlaced m i outer e → IsPlaced m i inner e
  same_placed inner outer e same p = record {
    is_closed = p.is_closed;
    exact = p.exact;
    reads = λ y s is. subst (λ (r : Range). Answers (IsIn r) (value_of (world_in m s i) (calls_of (world_in m s i)) unbound (e y))) (sym (same y)) (p.reads y s is);
  }

  placed_put : (x : ℕ) (r : Range) (rs : Ranges) (t : Tree) (e : Places) → IsClosed t → ((s : State) → IsState m s → IsExact (world_in m s i) t) → ((s : State) → IsState m s → Answers (IsIn r) (value_of (world_in m s i) (calls_of (world_in m s i)) unbound t))
      → IsPlaced m i rs e → IsPlaced m i (put_range x r rs) (put x t e)
  placed_put x r rs t e is_closed exact reads p = record {
    is_closed = λ y any. elim (nat_eq x y) as (λ (b : Truth). close any (if b then t else e y) ≡ (if b then t else e y)) [ true ↦ is_closed any | false ↦ p.is_closed y any ];
    exact = λ y s is. elim (nat_eq x y) as (λ (b : Truth). IsExact (world_in m s i) (if b then t else e y)) [ true ↦ exact s is | false ↦ p.exact y s is ];
    reads = λ y s is.
        elim (nat_eq x y) as (λ (b : Truth). Answers (IsIn (if b then r else rs y)) (value_of (world_in m s i) (calls_of (world_in m s i)) unbound (if b then t else e y))) [ true ↦ reads s is | false ↦ p.reads y s is ];
  }

  placed_value : (x : ℕ) (r : Range) (rs : Ranges) (v : Value) (e : Places) → IsIn r v → IsPlaced m i rs e → IsPlaced m i (put_range x r rs) (put x (Const v) e)
  placed_value x r rs v e has p = placed_put x r rs (Const v) e (λ any. refl) (λ s is. tt) (λ s is. has) p

  placed_elements : (bs : List Binder) (vs : List Value) (rs inner : Ranges) (e : Places) → AreElements (alone m) filled_alone bs vs → AreBound signature bs rs inner → length vs ≡ length bs → IsPlaced m i rs e → IsPlaced m i inner (put_tuple bs vs e)
  placed_elements [] [] rs inner e a h long p = same_placed inner rs e h p
  placed_elements [] (v ∷ vs) rs inner e a h long p = absurd (omega (arith, long))
  placed_elements (b ∷ bs) [] rs inner e a h long p = absurd (omega (arith, long))
  placed_elements (b ∷ bs) (v ∷ vs) rs inner e a h long p =
      same_placed inner (put_range b.variable h.0 h.1) (put b.variable (Const v) (put_tuple bs vs e)) h.4
      (placed_value b.variable h.0 h.1 v (put_tuple bs vs e) (element_in signature b.domain h.0 v h.2 a.0) (placed_elements bs vs rs h.1 e a.1 h.3 (omega (arith, long)) p))

  placed_tuple : (bs : List Binder) (vs : List Value) (rs inner : Ranges) (e : Places) → Contains (tuples_of signature bs) vs → AreBound signature bs rs inner → IsPlaced m i rs e → IsPlaced m i inner (put_tuple bs vs e)
  placed_tuple bs vs rs inner e at h p =
      (let picked = picked_elements (alone m) filled_alone bs vs (bound_finite (alone m) filled_alone bs rs inner h) (in_tuples_picks (map (λ (b : Binder). elements_at signature.domains b.domain) bs) at.0 vs (listed bs vs at)) in
      placed_elements bs vs rs inner e picked.0 h picked.1 p)
    where
      listed : (bs : List Binder) (vs : List Value) (at : Contains (tuples_of signature bs) vs) → slice_get (tuples_of signature bs) at.0 ≡ Some vs
      listed bs vs at = slice_get-get_or (tuples_of signature bs) at.0 vs at.1 ∙ ap Some at.2

  -- the parameters of a macro rule
  placed_actuals : (ps : List Binder) (ts : Trees) (ss : List Range) (rs inner : Ranges) (e : Places) → IsPlaced m i rs e → HaveRanges signature rs ts ss
      → AreParameters signature (map (λ (b : Binder). b.variable) ps) (map (λ (b : Binder). b.domain) ps) inner → IsPlaced m i inner (stand_for ps e ts)
  placed_actuals [] ts ss rs inner e p h a = placed_nowhere inner
  placed_actuals (b ∷ ps) none ss rs inner e p h a = placed_nowhere inner
  placed_actuals (b ∷ ps) (more t ts) [] rs inner e p h a = absurd h
  placed_actuals (b ∷ ps) (more t ts) (s ∷ ss) rs inner e p h a =
      same_placed inner (put_range b.variable a.0 a.1) (put b.variable (Within b.domain (close e t)) (stand_for ps e ts)) a.4
      (placed_put b.variable a.0 a.1 (Within b.domain (close e t)) (stand_for ps e ts)
      (λ any. ap (Within b.domain) (closed e t p.is_closed any))
      (ever_exact rs e t s p h.0)
      (λ s is. any_answers (IsIn a.0) (value_of (world_in m s i) (calls_of (world_in m s i)) unbound (close e t)) _ (λ v. within_in signature b.domain a.0 v a.2))
      (placed_actuals ps ts ss rs a.1 e p h.1 a.3))

  -- ---- rules

  is_kept_at : (f : ℕ) (function : Function) → slice_get signature.functions f ≡ Some function → is_kept function.kind ≡ true → IsKept m f
  is_kept_at f function is kept =
      let declared = all_at (IsDeclared signature.domains) signature.functions f function well.functions is in
      let below : function.codomain < length signature.domains = declared.codomain (kept_dynamic function.kind kept) in
      let few = well.few_domains in
      subst (λ (o : Option Function). (has_kind is_kept o ≡ true) × HasDomain o) (sym is) (kept, λ e. omega (arith, e))

  -- what the bodies of macro rules are where at most n stand inside one another
  abbrev BodiesSound : ℕ → Type 0
  BodiesSound n = (f : ℕ) (rs : Ranges) (e : Places) (ts : Trees) (ss : List Range) → IsPlaced m i rs e → HaveRanges signature rs ts ss → sound_within m i n f e ts

  module _ (n : ℕ) (bodies : BodiesSound n) where
    mutual
      sound_in : (r : Rule) (types : Types) (rs : Ranges) (e : Places) → IsPlaced m i rs e → IsTypedRule signature m.rules types r → IsRangedRule signature rs r → IsSoundIn m i (sound_within m i n) e r
      sound_in (Skip place) types rs e p typed ranged = tt
      sound_in (Update place f ts t) types rs e p typed ranged =
          (all_ever_exact rs e ts ranged.0.0 p ranged.0.1, ever_exact rs e t ranged.1.0 p ranged.1.1, is_kept_at f typed.0 typed.1 typed.2)
      sound_in (Par place qs) types rs e p typed ranged = all_sound_in qs types rs e p typed ranged
      sound_in (Seq place q r) types rs e p typed ranged = (sound_in q types rs e p typed.0 ranged.0, sound_in r types rs e p typed.1 ranged.1)
      sound_in (If place g q r) types rs e p typed ranged = (ever_exact rs e g ranged.0.0 p ranged.0.1, sound_in q types rs e p typed.1 ranged.1, sound_in r types rs e p typed.2 ranged.2)
      sound_in (Let place x t q) types rs e p typed ranged = (
        ever_exact rs e t ranged.0 p ranged.1,
        λ s v is gives. sound_in q (put_type x (Some typed.0) types) (put_range x ranged.0 rs) (put x (Const v) e) (placed_value x ranged.0 rs v e (value_ranged rs e t ranged.0 s v p ranged.1 is gives) p) typed.2 ranged.2,
      )
      sound_in (Forall place bs g q) types rs e p typed ranged = λ vs at. (
        ever_exact ranged.0 (put_tuple bs vs e) g ranged.2.0 (placed_tuple bs vs rs ranged.0 e at ranged.1 p) ranged.2.1,
        sound_in q (bound_types signature.domains bs types) ranged.0 (put_tuple bs vs e) (placed_tuple bs vs rs ranged.0 e at ranged.1 p) typed.1 ranged.3,
      )
      sound_in (Choose place bs g q r) types rs e p typed ranged = (
        λ vs at. (
          ever_exact ranged.0.0 (put_tuple bs vs e) g ranged.0.2.0 (placed_tuple bs vs rs ranged.0.0 e at ranged.0.1 p) ranged.0.2.1,
          sound_in q (bound_types signature.domains bs types) ranged.0.0 (put_tuple bs vs e) (placed_tuple bs vs rs ranged.0.0 e at ranged.0.1 p) typed.1 ranged.0.3,
        ),
        sound_in r types rs e p typed.2 ranged.1,
      )
      sound_in (Call place f ts) types rs e p typed ranged = bodies f rs e ts ranged.0 p ranged.1

      all_sound_in : (qs : Rules) (types : Types) (rs : Ranges) (e : Places) → IsPlaced m i rs e → AreTypedRules signature m.rules types qs → AreRangedRules signature rs qs → AreSoundIn m i (sound_within m i n) e qs
      all_sound_in no_rule types rs e p typed ranged = tt
      all_sound_in (more_rules q qs) types rs e p typed ranged = (sound_in q types rs e p typed.0 ranged.0, all_sound_in qs types rs e p typed.1 ranged.1)

  bodies_sound : (n : ℕ) → BodiesSound n
  bodies_sound zero f rs e ts ss p h = tt
  bodies_sound (suc n) f rs e ts ss p h = of_macro (bodies_sound n) (slice_get m.rules f) refl
    where
      of_macro : BodiesSound n → (o : Option Macro) → slice_get m.rules f ≡ o → IsSoundBody m i (sound_within m i n) o e ts
      of_macro bodies None is = tt
      of_macro bodies (Some macro) is =
          (let k = all_at (IsMacro m) m.rules f macro well.rules is in
          sound_in n bodies macro.body (parameter_types signature.domains (map (λ (b : Binder). b.variable) macro.parameters) (map (λ (b : Binder). b.domain) macro.parameters)) k.ranges (stand_for macro.parameters e ts)
          (placed_actuals macro.parameters ts ss rs k.ranges e p h k.are_ranges) k.typed k.ranged)

  pub rule_is_sound : (r : Rule) → IsRule m r → IsSound m i r
  rule_is_sound r is = sound_in 32 (bodies_sound 32) r no_types no_ranges nowhere (placed_nowhere no_ranges) is.typed is.ranged

-- a rule of a model of the program is sound too
pub rule_of_model : (model : Model) (i : Input) → IsInput (machine_of model) i → (r : Rule) → IsRule (machine_of model) r → IsSound (machine_of model) i r
rule_of_model model i input r is = ∥∥₁_elim model.well_formed (one_proof (machine_of model) i r) (λ well. rule_is_sound (machine_of model) i input well r is)

-- and so is its main rule
pub main_is_sound : (model : Model) (i : Input) → IsInput (machine_of model) i → IsSound (machine_of model) i (machine_of model).main
main_is_sound model i input = ∥∥₁_elim model.well_formed (one_proof (machine_of model) i (machine_of model).main) (λ well. rule_is_sound (machine_of model) i input well (machine_of model).main well.main)

-- a closed truth value of a model is exact in each state
pub condition_of_model : (model : Model) (i : Input) → IsInput (machine_of model) i → (t : Tree) → IsCondition (machine_of model) t → IsEverExact (machine_of model) i nowhere t
condition_of_model model i input t is =
    ∥∥₁_elim model.well_formed (ever_prop (machine_of model) i nowhere t)
    (λ well. ever_exact (machine_of model) i input well no_ranges nowhere t is.ranged.0 (placed_nowhere (machine_of model) i input well no_ranges) is.ranged.1)

-- and so is each invariant
pub invariant_of_model : (model : Model) (i : Input) → IsInput (machine_of model) i → (k : ℕ) (t : Tree) → slice_get (machine_of model).invariants k ≡ Some t → IsEverExact (machine_of model) i nowhere t
invariant_of_model model i input k t at =
    ∥∥₁_elim model.well_formed (ever_prop (machine_of model) i nowhere t)
    (λ well. (let is = all_at (IsInvariant (machine_of model)) (machine_of model).invariants k t well.invariants at in
    ever_exact (machine_of model) i input well no_ranges nowhere t is.condition.ranged.0 (placed_nowhere (machine_of model) i input well no_ranges) is.condition.ranged.1))
