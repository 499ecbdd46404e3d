use Rattle.std.proofs.Common.{◌≡◌, Bool, true, false, [], ◌∷◌, if◌then◌else◌, is_some, OnOk, refl, sym, ap, ◌∙◌, subst}
use Rattle.asm_faults.specs.declared.fault.ModelFault.TheVariants.{Duplicate}
use Rattle.asm_faults.specs.At.{fault_at}
use Rattle.asm_faults.specs.First.{noted}
use Rattle.asm_faults.specs.DomainFaults.{is_listed}
use Rattle.asm_declare.proofs.Entering.{found_listed}
use Rattle.asm_declare.proofs.enter.note_listed.Goals as goal

pub returns-then-is_some : goal.returns-then-is_some
returns-then-is_some c =
    let listed : is_listed c.args.names.now c.args.name.now.text ≡ true = sym (found_listed c.args.names.now c.args.name.now.text) ∙ ap is_some (sym c.find.ensures) ∙ sym c.is_some.ensures ∙ c.if-is_some.true in
    subst (λ (b : Bool). OnOk c.note.result (c.note.new.self ≡ noted c.args.first.now (if b then fault_at Duplicate c.args.unit c.args.name.now ∷ [] else []))) (sym listed) c.note.ensures.ok

pub returns-else-is_some : goal.returns-else-is_some
returns-else-is_some c =
    let listed : is_listed c.args.names.now c.args.name.now.text ≡ false = sym (found_listed c.args.names.now c.args.name.now.text) ∙ ap is_some (sym c.find.ensures) ∙ sym c.is_some.ensures ∙ c.if-is_some.false in
    subst (λ (b : Bool). c.args.first.now ≡ noted c.args.first.now (if b then fault_at Duplicate c.args.unit c.args.name.now ∷ [] else [])) (sym listed) refl
