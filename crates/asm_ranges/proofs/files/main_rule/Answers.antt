use Rattle.std.proofs.Common.{◌-◌, sym, ap, ◌∙◌, arith}
use Rattle.asm_tree.specs.declared.unit.LoadedUnit.{LoadedUnit}
use Rattle.asm_faults.specs.First.{noted}
use Rattle.asm_ranges.proofs.Parts.{no_main, main_there, main_absent}
use Rattle.asm_ranges.proofs.Ends.{on_ok}
use Rattle.asm_ranges.proofs.files.main_rule.Goals as goal

pub returns-then-count-eq0 : goal.returns-then-count-eq0
returns-then-count-eq0 c = no_main c.args.known.now c.args.units.now c.args.first.now (omega arith)

pub returns-in-Some : goal.returns-in-Some
returns-in-Some c =
    on_ok c.macro_rule.result c.macro_rule.new.first
    (ap (noted c.args.first.now) (sym (main_there c.args.known.now c.args.units.now (c.args.count - 1) c.index-units-last.result c.in-Some.main (omega arith) c.index-units-last.is (ap (λ (v : LoadedUnit). v.unit.main) c.index-units-last.is ∙ c.in-Some.is))))
    c.macro_rule.ensures

pub returns-in-None : goal.returns-in-None
returns-in-None c = ap (noted c.args.first.now) (sym (main_absent c.args.known.now c.args.units.now (c.args.count - 1) c.index-units-last.result (omega arith) c.index-units-last.is (ap (λ (v : LoadedUnit). v.unit.main) c.index-units-last.is ∙ c.in-None.is)))
