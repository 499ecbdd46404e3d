use Rattle.std.proofs.Common.{Some, ap, sym, subst, ◌∙◌}
use Rattle.std.specs.FinMap as finite
use Rattle.asm_node.specs.Exact.{IsExactBody, exact_within}
use Rattle.asm_node.specs.Machine.{no_input}
use Rattle.asm_node.specs.Model.{machine_of, defined_by}
use Rattle.asm_node.specs.Step.{answer}
use Rattle.asm_node.specs.Term.{calls_of, parameters_have, value_of}
use Rattle.asm_node.specs.Tree.{plain}
use Rattle.asm_eval.specs.Answer.{Ends}
use Rattle.asm_eval.specs.World.{world_in}
use Rattle.asm_eval.proofs.Reading.{body-value, body-exact}
use Rattle.asm_eval.proofs.Starting.{undefined-alike}
use Rattle.asm_eval.proofs.begin.initial_value.Goals as goal

pub eval_body-requires : goal.eval_body-requires
eval_body-requires c =
    let m = machine_of c.args.world.now.model.now in
    let s = c.args.world.now.store.now in
    subst (λ i. IsExactBody (world_in m s i) (calls_of (world_in m s i)) (exact_within (world_in m s i) 32) (Some (defined_by c.args.definition.now)) c.args.arguments.now) (sym c.requires.no_input)
    (body-exact m finite.empty s no_input (undefined-alike m s c.requires.undefined) (Some (defined_by c.args.definition.now)) c.args.arguments.now c.requires.exact)

pub returns-in-Ok : goal.returns-in-Ok
returns-in-Ok c =
    let m = machine_of c.args.world.now.model.now in
    let s = c.args.world.now.store.now in
    let reads = parameters_have c.args.definition.now.variables c.args.arguments.now in
    let body = plain c.args.definition.now.term.value in
    sym (ap answer (body-value m finite.empty s no_input (undefined-alike m s c.requires.undefined) body reads ∙ ap (λ i. value_of (world_in m s i) (calls_of (world_in m s i)) reads body) (sym c.requires.no_input) ∙ c.in-Ok.ensures))

pub returns-in-Err-Need : goal.returns-in-Err-Need
returns-in-Err-Need c =
    let m = machine_of c.args.world.now.model.now in
    let s = c.args.world.now.store.now in
    let reads = parameters_have c.args.definition.now.variables c.args.arguments.now in
    let body = plain c.args.definition.now.term.value in
    sym (ap answer (body-value m finite.empty s no_input (undefined-alike m s c.requires.undefined) body reads ∙ ap (λ i. value_of (world_in m s i) (calls_of (world_in m s i)) reads body) (sym c.requires.no_input)
    ∙ subst (λ e. Ends e (value_of (world_in m s c.args.world.now.input.now) (calls_of (world_in m s c.args.world.now.input.now)) reads body)) c.in-Err-Need.field-0-is c.in-Err-Need.ensures))
