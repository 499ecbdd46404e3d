use Rattle.std.proofs.Common.{◌≡◌, true, sym, subst}
use Rattle.asm_sign.specs.Vocabulary.{function_at}
use Rattle.asm_node.specs.Model.{machine_of}
use Rattle.asm_node.specs.Step.{IsState, may_have}
use Rattle.asm_eval.proofs.Starting.{put-is-state}
use Rattle.asm_eval.proofs.begin.put_checked.Goals as goal

pub returns-clause-state : goal.returns-clause-state
returns-clause-state c =
    let m = machine_of c.args.model.now in
    let may : may_have m (function_at m.signature c.args.slot) c.args.value ≡ true = cc in
    subst (IsState m) (sym c.put.ensures) (put-is-state m c.args.store.now c.args.slot c.args.value c.requires.state c.requires.kept may)
