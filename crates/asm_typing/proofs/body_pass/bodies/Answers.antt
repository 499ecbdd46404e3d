use Rattle.std.proofs.Common.{◌≡◌, List, subst}
use Rattle.std.specs.Prelude.{OnOk}
use Rattle.asm_sign.specs.Vocabulary.{Vocabulary}
use Rattle.asm_tree.specs.declared.unit.LoadedUnit.{LoadedUnit}
use Rattle.asm_faults.specs.First.{noted}
use Rattle.asm_faults.specs.Bodies.{body_faults}
use Rattle.asm_typing.proofs.body_pass.bodies.Goals as goal

pub returns : goal.returns
returns c =
    subst (λ (units : List LoadedUnit). OnOk c.all_bodies.result (c.all_bodies.new.first ≡ noted c.args.first.now (body_faults c.args.signature.now units))) c.slice-2.ensures
    (subst (λ (v : Vocabulary). OnOk c.all_bodies.result (c.all_bodies.new.first ≡ noted c.args.first.now (body_faults v c.slice-2.result.now))) c.in_ok-known.ensures c.all_bodies.ensures)
