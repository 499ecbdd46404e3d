use Rattle.asm_build.proofs.Adding.{function_added}
use Rattle.asm_build.proofs.gather.add_function.Goals as goal

pub returns : goal.returns
returns c units n =
    function_added c.args.known.now c.args.raw.now units n c.function_number-function.result c.slice.result.now c.in_ok-variables.variables c.in_ok-body.body c.function_number-function.ensures c.slice.ensures
    c.in_ok-variables.ensures.grown c.in_ok-body.ensures.grown c.in_ok-variables.ensures.made c.in_ok-body.ensures.made c.in_ok-push.ensures.ok
