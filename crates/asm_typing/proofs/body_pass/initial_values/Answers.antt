use Rattle.std.proofs.Common.{List, Some, None, ap, sym, ◌∙◌, arith}
use Rattle.std.proofs.lemmas.List.{append-nil}
use Rattle.std.proofs.Common.{◌-◌}
use Rattle.asm_tree.specs.declared.unit.RawUnit.{RawUnit}
use Rattle.asm_tree.specs.declared.unit.LoadedUnit.{LoadedUnit}
use Rattle.asm_faults.specs.Files.{Of}
use Rattle.asm_faults.specs.declared.fault.Fault.{Fault}
use Rattle.asm_faults.specs.First.{noted}
use Rattle.asm_tree.specs.declared.unit.RawFunction.{RawFunction}
use Rattle.asm_tree.specs.declared.unit.RawInit.{RawInit}
use Rattle.asm_faults.specs.Files.{initials}
use Rattle.asm_faults.specs.Bodies.{functions_faults, has_initial}
use Rattle.asm_typing.specs.BodyPieces.{functions_of}
use Rattle.asm_typing.proofs.BodyParts.{optional_last, no_units}
use Rattle.asm_typing.proofs.body_pass.initial_values.Goals as goal

pub returns-then-count-eq0 : goal.returns-then-count-eq0
returns-then-count-eq0 c = ap (λ (us : List LoadedUnit). noted c.args.first.now (functions_faults c.args.known.now has_initial (initials us))) (sym (no_units c.args.units.now (omega arith)))

pub returns-in_ok-given_functions-in-Some : goal.returns-in_ok-given_functions-in-Some
returns-in_ok-given_functions-in-Some c =
    let faults : List (Of RawFunction) → List Fault = functions_faults c.args.known.now has_initial in
    let given : RawInit → List RawFunction = λ i. i.functions in
    c.in_ok-given_functions-in-Some.ensures
    ∙ ap (λ (fs : List RawFunction). noted c.args.first.now (faults (functions_of (c.args.count - 1) fs))) (c.slice.ensures ∙ sym (append-nil c.in-Some.init.functions))
    ∙ ap (λ (fs : List (Of RawFunction)). noted c.args.first.now (faults fs)) (sym (optional_last (λ (r : RawUnit). r.init) given c.args.units.now (c.args.count - 1) c.index-units-last.result (Some c.in-Some.init) (omega arith) c.index-units-last.is c.in-Some.is))

pub returns-in-None : goal.returns-in-None
returns-in-None c =
    let faults : List (Of RawFunction) → List Fault = functions_faults c.args.known.now has_initial in
    let given : RawInit → List RawFunction = λ i. i.functions in
    ap (λ (fs : List (Of RawFunction)). noted c.args.first.now (faults fs)) (sym (optional_last (λ (r : RawUnit). r.init) given c.args.units.now (c.args.count - 1) c.index-units-last.result None (omega arith) c.index-units-last.is c.in-None.is))
