use Rattle.std.proofs.Common.{List, [], map, Some, None, ap, sym, ◌∙◌, arith, flat_map}
use Rattle.std.proofs.Common.{◌-◌}
use Rattle.asm_tree.specs.declared.unit.RawMain.{RawMain}
use Rattle.asm_tree.specs.declared.unit.RawUnit.{RawUnit}
use Rattle.asm_tree.specs.declared.unit.LoadedUnit.{LoadedUnit}
use Rattle.asm_faults.specs.Files.{Of}
use Rattle.asm_faults.specs.declared.fault.Fault.{Fault}
use Rattle.asm_faults.specs.First.{noted}
use Rattle.asm_faults.specs.Files.{DeclaredRule, main_in}
use Rattle.asm_faults.specs.Bodies.{macro_faults}
use Rattle.asm_typing.proofs.BodyParts.{main_faults, one_part, listed_last, no_units}
use Rattle.asm_typing.proofs.body_pass.main_body.Goals as goal

pub returns-then-count-eq0 : goal.returns-then-count-eq0
returns-then-count-eq0 c = ap (λ (us : List LoadedUnit). noted c.args.first.now (main_faults c.args.known.now c.args.heads.now us)) (sym (no_units c.args.units.now (omega arith)))

pub returns-in_ok-macro_body-in-Some : goal.returns-in_ok-macro_body-in-Some
returns-in_ok-macro_body-in-Some c =
    let faults : List (Of RawMain) → List Fault = λ ms. flat_map (macro_faults c.args.known.now c.args.heads.now) (map main_in ms) in
    let r : DeclaredRule = record { unit = c.args.count - 1; name = c.in-Some.main.name; parameters = []; body = c.in-Some.main.rule } in
    c.in_ok-macro_body-in-Some.ensures
    ∙ one_part (macro_faults c.args.known.now c.args.heads.now) r c.args.first.now
    ∙ ap (λ (ms : List (Of RawMain)). noted c.args.first.now (faults ms)) (sym (listed_last (λ (r : RawUnit). r.main) c.args.units.now (c.args.count - 1) c.index-units-last.result (Some c.in-Some.main) (omega arith) c.index-units-last.is c.in-Some.is))

pub returns-in-None : goal.returns-in-None
returns-in-None c =
    let faults : List (Of RawMain) → List Fault = λ ms. flat_map (macro_faults c.args.known.now c.args.heads.now) (map main_in ms) in
    ap (λ (ms : List (Of RawMain)). noted c.args.first.now (faults ms)) (sym (listed_last (λ (r : RawUnit). r.main) c.args.units.now (c.args.count - 1) c.index-units-last.result None (omega arith) c.index-units-last.is c.in-None.is))
