use Rattle.std.proofs.Common.{◌-◌, List, flat_map, sym, ap, ◌∙◌, arith}
use Rattle.asm_tree.specs.declared.unit.RawFunction.{RawFunction}
use Rattle.asm_tree.specs.declared.unit.LoadedUnit.{LoadedUnit}
use Rattle.asm_faults.specs.First.{noted}
use Rattle.asm_faults.specs.Ranges.{function_faults}
use Rattle.asm_ranges.proofs.Parts.{no_initials, initials_there, initials_absent}
use Rattle.asm_ranges.proofs.Ends.{on_ok}
use Rattle.asm_ranges.proofs.files.initials.Goals as goal

pub returns-then-count-eq0 : goal.returns-then-count-eq0
returns-then-count-eq0 c = no_initials c.args.known.now c.args.units.now c.args.first.now (omega arith)

pub returns-in-Some : goal.returns-in-Some
returns-in-Some c =
    on_ok c.functions.result c.functions.new.first
    (ap (λ (fs : List RawFunction). noted c.args.first.now (flat_map (λ (f : RawFunction). function_faults c.args.known.now (c.args.count - 1, f)) fs)) c.slice.ensures ∙ ap (noted c.args.first.now) (sym (initials_there c.args.known.now c.args.units.now (c.args.count - 1) c.index-units-last.result c.in-Some.init (omega arith) c.index-units-last.is (ap (λ (v : LoadedUnit). v.unit.init) c.index-units-last.is ∙ c.in-Some.is))))
    c.functions.ensures

pub returns-in-None : goal.returns-in-None
returns-in-None c = ap (noted c.args.first.now) (sym (initials_absent c.args.known.now c.args.units.now (c.args.count - 1) c.index-units-last.result (omega arith) c.index-units-last.is (ap (λ (v : LoadedUnit). v.unit.init) c.index-units-last.is ∙ c.in-None.is)))
