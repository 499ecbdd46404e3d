use Rattle.std.proofs.Common.{◌≡◌, ℕ, Option, Some, None, ap, subst}
use Rattle.std.specs.Prelude.{OnOk}
use Rattle.asm_faults.specs.First.{noted}
use Rattle.asm_faults.specs.Bodies.{of_parameters}
use Rattle.asm_faults.specs.FunctionFaults.{domain_number}
use Rattle.asm_typing.proofs.functions.parameter_of.Goals as goal

pub returns-in-Some : goal.returns-in-Some
returns-in-Some c =
    let own : Some c.in-Some.own ≡ domain_number c.args.known.now.domains c.args.item.now.domain.text = c.in-Some.ensures in
    subst (λ (o : Option ℕ). OnOk c.note_unless.result (c.note_unless.new.first ≡ noted c.args.first.now (of_parameters o c.args.number c.args.unit c.args.item.now.domain))) own c.note_unless.ensures

pub returns-in-None : goal.returns-in-None
returns-in-None c =
    let own : None ≡ domain_number c.args.known.now.domains c.args.item.now.domain.text = c.in-None.ensures in
    ap (λ (o : Option ℕ). noted c.args.first.now (of_parameters o c.args.number c.args.unit c.args.item.now.domain)) own
