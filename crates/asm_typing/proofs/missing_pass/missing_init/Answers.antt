use Rattle.std.proofs.Common.{◌≡◌, Option, ap, sym, subst}
use Rattle.std.specs.Prelude.{OnOk}
use Rattle.asm_tree.specs.declared.unit.RawInit.{RawInit}
use Rattle.asm_faults.specs.First.{noted}
use Rattle.asm_faults.specs.Missing.{missing_init}
use Rattle.asm_typing.proofs.missing_pass.missing_init.Goals as goal

pub returns-in-Some : goal.returns-in-Some
returns-in-Some c = ap (λ (o : Option RawInit). noted c.args.first.now (missing_init (c.args.number, record c.args.unit.now { init = o }))) (sym c.in-Some.is)

pub returns-in-None : goal.returns-in-None
returns-in-None c =
    subst (λ (o : Option RawInit). OnOk c.note.result (c.note.new.self ≡ noted c.args.first.now (missing_init (c.args.number, record c.args.unit.now { init = o })))) (sym c.in-None.is) c.note.ensures.ok
