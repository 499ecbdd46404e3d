use Rattle.std.proofs.Common.{ap, sym, subst, ◌∙◌}
use Rattle.asm_node.specs.Model.{machine_of}
use Rattle.asm_node.specs.Step.{IsState, with_shared}
use Rattle.asm_run.proofs.Sharing.{shared-state}
use Rattle.asm_run.proofs.advance.next_state.Goals as goal

pub fire_in-requires-clause-state : goal.fire_in-requires-clause-state
fire_in-requires-clause-state c =
    let m = machine_of c.args.model.now in
    let i = c.args.input.now in
    let s = c.args.state.now in
    subst (IsState m) (sym (c.prepare.ensures ∙ ap (λ v. with_shared v i s) c.signature.ensures)) (shared-state m i s c.requires.input c.requires.state)
