use Rattle.std.proofs.Common.{◌≡◌, List, sym, ◌∙◌, OnOk, subst}
use Rattle.asm_faults.specs.declared.fault.Fault.{Fault}
use Rattle.asm_faults.specs.First.{noted}
use Rattle.asm_declare.proofs.Owning.{known_noted, unknown_is}
use Rattle.asm_declare.proofs.own.note_unknown.Goals as goal

pub returns-in-Some : goal.returns-in-Some
returns-in-Some c = known_noted c.args.numbers.now c.args.first.now c.args.number c.args.domain.now c.in-Some.field-0 (sym c.number.ensures ∙ c.in-Some.is)

pub returns-in-None : goal.returns-in-None
returns-in-None c =
    subst (λ (fs : List Fault). OnOk c.note.result (c.note.new.self ≡ noted c.args.first.now fs)) (unknown_is c.args.numbers.now c.args.number c.args.domain.now (sym c.number.ensures ∙ c.in-None.is)) c.note.ensures.ok
