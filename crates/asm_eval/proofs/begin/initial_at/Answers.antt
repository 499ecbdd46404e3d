use Rattle.std.proofs.Common.{◌≡◌, slice_get, Some, ap, sym, subst, ◌∙◌, option_map}
use Rattle.std.proofs.lemmas.Result.{IfOk-weaker}
use Rattle.asm_sign.specs.Vocabulary.{locations}
use Rattle.asm_node.specs.Exact.{IsExactBody, exact_within}
use Rattle.asm_node.specs.Model.{machine_of, defined_by}
use Rattle.asm_node.specs.Step.{alone, initial_value}
use Rattle.asm_node.specs.Term.{calls_of}
use Rattle.asm_eval.specs.Beginning.{value_at}
use Rattle.asm_eval.proofs.begin.initial_at.Goals as goal

pub initial_value-requires-clause-exact : goal.initial_value-requires-clause-exact
initial_value-requires-clause-exact c =
    let m = machine_of c.args.world.now.model.now in
    let at = ap (λ s. slice_get (locations s) c.args.slot) (sym c.signature.ensures) ∙ c.location-number.ensures ∙ ap (λ xs. Some (c.location-number.result.0, xs)) (sym c.deref.ensures) in
    subst (λ o. IsExactBody (alone m) (calls_of (alone m)) (exact_within (alone m) 32) o c.deref.result.now) (sym c.in-Some.ensures) (c.requires.exact c.args.slot (c.location-number.result.0, c.deref.result.now) at)

pub returns-in-Some : goal.returns-in-Some
returns-in-Some c =
    let m = machine_of c.args.world.now.model.now in
    let at = ap (λ s. slice_get (locations s) c.args.slot) (sym c.signature.ensures) ∙ c.location-number.ensures ∙ ap (λ xs. Some (c.location-number.result.0, xs)) (sym c.deref.ensures) in
    IfOk-weaker c.initial_value.result (λ v. v ≡ initial_value m (Some (defined_by c.in-Some.definition.now)) c.deref.result.now) (λ v. option_map (value_at m) (slice_get (locations m.signature) c.args.slot) ≡ Some v)
    (λ v is. ap (option_map (value_at m)) at ∙ ap (λ o. Some (initial_value m o c.deref.result.now)) (sym c.in-Some.ensures) ∙ ap Some (sym is)) c.initial_value.ensures
