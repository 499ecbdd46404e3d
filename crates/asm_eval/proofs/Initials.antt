-- The initial terms of a well-formed model are exact.
use Rattle.std.proofs.Common.{◌≡◌, ℕ, suc, ◌<◌, Bool as Truth, true, false, ◌&&◌, if◌then◌else◌, List, [], ◌∷◌, map, length, Option, Some, None, All, Contains, refl, sym, ap, ◌∙◌, subst, arith}
use Rattle.std.specs.List.{AllZip, list_any}
use Rattle.std.proofs.Math.Logic.{∥∥₁_elim}
use Rattle.std.specs.Ordering.{nat_cmp}
use Rattle.std.specs.FinMap.{get-empty}
use Rattle.std.proofs.lemmas.Bool.{ne_eqb}
use Rattle.std.proofs.lemmas.Option.{slice_get-get_or}
use Rattle.asm_domain.specs.declared.value.Value.{Value}
use Rattle.asm_sign.specs.declared.function.Function.{Function}
use Rattle.asm_sign.specs.Arguments.{elements_at}
use Rattle.asm_sign.specs.Kind.{is_kept}
use Rattle.asm_sign.specs.Vocabulary.{Vocabulary, IsDeclared, argument_lists}
use Rattle.asm_sign.proofs.Picks.{in_tuples_picks}
use Rattle.asm_sign.proofs.Slots.{located}
use Rattle.asm_node.specs.declared.model.Model.{Model}
use Rattle.asm_node.specs.Model.{machine_of}
use Rattle.asm_node.specs.Values.{whole, is_whole, is_element, are_arguments, same}
use Rattle.asm_node.specs.Machine.{Machine, Definition, definition_of}
use Rattle.asm_node.specs.Term.{World, parameters_have, calls_of}
use Rattle.asm_node.specs.Exact.{IsExactBody, exact_within, nothing}
use Rattle.asm_node.specs.Filled.{IsFilled}
use Rattle.asm_node.specs.Step.{alone}
use Rattle.asm_node.specs.Ranges.{Ranges, IsIn, put_range, AreParameters}
use Rattle.asm_node.specs.WellFormed.{IsDefinition, IsWellFormed, is_defined}
use Rattle.asm_node.proofs.Exactly.{exact_in, exact_calls}
use Rattle.asm_node.proofs.Formed.{all_at, definition_found, definitions_ranged}
use Rattle.asm_node.proofs.Ranging.{element_in}
use Rattle.asm_node.proofs.Valued.{Answers, ReadsIn, put_reads, calls_in}
use Rattle.asm_eval.specs.Beginning.{AreInitialsExact}
use Rattle.asm_node.proofs.Elements.{any_at}
use Rattle.asm_eval.proofs.Single.{initials_prop}

and_both : (a b : Truth) → a ≡ true → b ≡ true → (a && b) ≡ true
and_both true b first second = second
and_both false b first second = first

and_first : (a b : Truth) → (a && b) ≡ true → a ≡ true
and_first true b is = refl
and_first false b is = is

and_second : (a b : Truth) → (a && b) ≡ true → b ≡ true
and_second true b is = is
and_second false b is = absurd (cc is)

module _ (m : Machine) (well : IsWellFormed m) where
  abbrev signature : Vocabulary
  signature = m.signature

  abbrev w : World
  w = alone m

  filled : IsFilled w
  filled = record {
    state = λ l v g. absurd (cc (get-empty {X = Value} nat_cmp l, g));
    input = λ l v g. absurd (cc (get-empty {X = Value} nat_cmp l, g));
  }

  -- the arguments of a location are of the domains of its function
  among : (d : ℕ) (v : Value) → d < length signature.domains → Contains (elements_at signature.domains d) v → is_element signature.domains d v ≡ true
  among d v lt at =
      let few = well.few_domains in
      ap (λ b. if b then is_whole v else list_any (λ u. same u v) (elements_at signature.domains d)) (ne_eqb d whole (λ e. omega (arith, e, lt, few)))
      ∙ any_at v (elements_at signature.domains d) at.0 (slice_get-get_or (elements_at signature.domains d) at.0 v at.1 ∙ ap Some at.2)

  arguments_are : (ds : List ℕ) (vs : List Value) → All (λ n. n < length signature.domains) ds → AllZip (λ x xs. Contains xs x) vs (map (elements_at signature.domains) ds) → are_arguments signature.domains ds vs ≡ true
  arguments_are [] [] all picked = refl
  arguments_are [] (v ∷ vs) all picked = absurd picked
  arguments_are (d ∷ ds) [] all picked = absurd picked
  arguments_are (d ∷ ds) (v ∷ vs) all picked =
      and_both (is_element signature.domains d v) (are_arguments signature.domains ds vs) (among d v (all 0 d (omega arith)) picked.0)
      (arguments_are ds vs (λ k x lt. all (suc k) x (omega (arith, lt))) picked.1)

  -- parameters read in the ranges of their domains
  same_reads : (inner outer : Ranges) (xs : List ℕ) (vs : List Value) → ((y : ℕ) → inner y ≡ outer y) → ReadsIn w filled outer (parameters_have xs vs) → ReadsIn w filled inner (parameters_have xs vs)
  same_reads inner outer xs vs e h y = subst (λ s. Answers (IsIn s) (parameters_have xs vs y)) (sym (e y)) (h y)

  parameter_reads : (xs ds : List ℕ) (vs : List Value) (inner : Ranges) → AreParameters signature xs ds inner → are_arguments signature.domains ds vs ≡ true → ReadsIn w filled inner (parameters_have xs vs)
  parameter_reads [] ds vs inner h a = λ y. tt
  parameter_reads (x ∷ xs) [] [] inner h a = λ y. tt
  parameter_reads (x ∷ xs) [] (v ∷ vs) inner h a = absurd (cc a)
  parameter_reads (x ∷ xs) (d ∷ ds) [] inner h a = absurd (cc a)
  parameter_reads (x ∷ xs) (d ∷ ds) (v ∷ vs) inner h a =
      same_reads inner (put_range x h.0 h.1) (x ∷ xs) (v ∷ vs) h.4
      (put_reads w filled x h.0 h.1 v (parameters_have xs vs) (element_in signature d h.0 v h.2 (and_first _ _ a)) (parameter_reads xs ds vs h.1 h.3 (and_second _ _ a)))

  abbrev IsInitial : Definition → Type 0
  IsInitial = IsDefinition m is_kept (λ kind. is_defined)

  body_exact : (d : Definition) (k : IsInitial d) (vs : List Value) → are_arguments signature.domains k.function.domains vs ≡ true → IsExactBody w (calls_of w) (exact_within w 32) (Some d) vs
  body_exact d k vs a =
      exact_in w filled (calls_of w) (exact_within w 32) (calls_in w filled 32) (exact_calls w filled (definitions_ranged m well) 32)
      d.body k.ranges (parameters_have d.parameters vs) nothing k.ranged.0 (parameter_reads d.parameters k.function.domains vs k.ranges k.are_ranges a) (λ y. tt) k.ranged.1

  pub initials_exact : AreInitialsExact m
  initials_exact slot location at = of_term (definition_of m.initial_terms location.0) refl
    where
      of_term : (o : Option Definition) → definition_of m.initial_terms location.0 ≡ o → IsExactBody w (calls_of w) (exact_within w 32) o location.1
      of_term None is = tt
      of_term (Some d) is =
          (let found = definition_found m.initial_terms location.0 d is in
          let k = all_at IsInitial m.initial_terms found.0 d well.initial_terms found.1 in
          let p = located signature.domains signature.functions slot location.0 location.1 at in
          let same : p.function ≡ k.function = cc (p.is_function, k.is_function, found.2) in
          let declared = all_at (IsDeclared signature.domains) signature.functions location.0 p.function well.functions p.is_function in
          let picked = in_tuples_picks (argument_lists signature.domains p.function) p.place location.1 p.at_place in
          body_exact d k location.1 (subst (λ (f : Function). are_arguments signature.domains f.domains location.1 ≡ true) same (arguments_are p.function.domains location.1 declared.declared picked)))

-- so are those of each model of the program
pub initials_of_model : (model : Model) → AreInitialsExact (machine_of model)
initials_of_model model = ∥∥₁_elim model.well_formed (initials_prop (machine_of model)) (λ well. initials_exact (machine_of model) well)
