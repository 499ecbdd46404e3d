use Rattle.std.proofs.Common.{Bool as Truth, List, [], ◌∷◌, refl, ap, ◌∙◌, if◌then◌else◌}
use Rattle.asm_tree.specs.declared.term.RawName.{RawName}
use Rattle.asm_faults.specs.declared.fault.Fault.{Fault}
use Rattle.asm_faults.specs.declared.fault.ModelFault.TheVariants.{Unknown}
use Rattle.asm_faults.specs.At.{fault_at}
use Rattle.asm_faults.specs.First.{noted}
use Rattle.asm_faults.specs.DomainFaults.{is_listed}
use Rattle.asm_typing.proofs.Acting.{noted_items_more, noted_items_all}
use Rattle.asm_typing.proofs.parts.undeclared.Goals as goal

pub items-init : goal.items-init
items-init c = refl

pub items-preserved : goal.items-preserved
items-preserved c =
    let f : RawName → List Fault = λ name. if is_listed c.args.names.now name.text then [] else fault_at Unknown c.args.unit name ∷ [] in
    noted_items_more f c.args.items.now c.items.item-index c.item-item.result c.args.first.now c.items.first c.note_unless.new.first c.items-test.true c.item-item.is c.items.invariant
    (c.in_ok-note_unless.ensures ∙ ap (λ (b : Truth). noted c.items.first (if b then [] else fault_at Unknown c.args.unit c.item-item.result ∷ [])) c.is_listed.ensures)

pub returns : goal.returns
returns c =
    let f : RawName → List Fault = λ name. if is_listed c.args.names.now name.text then [] else fault_at Unknown c.args.unit name ∷ [] in
    noted_items_all f c.args.items.now c.items.item-index c.args.first.now c.items.first c.items-test.false c.items.invariant
