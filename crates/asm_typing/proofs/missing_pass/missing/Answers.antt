use Rattle.std.proofs.Common.{◌≡◌, List, subst}
use Rattle.std.specs.Prelude.{OnOk}
use Rattle.asm_tree.specs.declared.unit.LoadedUnit.{LoadedUnit}
use Rattle.asm_faults.specs.First.{noted}
use Rattle.asm_faults.specs.Missing.{missing_faults}
use Rattle.asm_typing.proofs.missing_pass.missing.Goals as goal

pub returns : goal.returns
returns c = subst (λ (units : List LoadedUnit). OnOk c.all_missing.result (c.all_missing.new.first ≡ noted c.args.first.now (missing_faults units))) c.slice-2.ensures c.all_missing.ensures
