use Rattle.std.proofs.Common.{◌≡◌, Option, ap, sym, subst}
use Rattle.std.specs.Prelude.{OnOk}
use Rattle.asm_tree.specs.declared.unit.RawMain.{RawMain}
use Rattle.asm_faults.specs.First.{noted}
use Rattle.asm_faults.specs.Missing.{missing_main}
use Rattle.asm_typing.proofs.missing_pass.missing_main.Goals as goal

pub returns-in-Some : goal.returns-in-Some
returns-in-Some c = ap (λ (o : Option RawMain). noted c.args.first.now (missing_main (c.args.number, record c.args.unit.now { main = o }))) (sym c.in-Some.is)

pub returns-in-None : goal.returns-in-None
returns-in-None c =
    subst (λ (o : Option RawMain). OnOk c.note.result (c.note.new.self ≡ noted c.args.first.now (missing_main (c.args.number, record c.args.unit.now { main = o })))) (sym c.in-None.is) c.note.ensures.ok
