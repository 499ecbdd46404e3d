use Rattle.std.proofs.Common.{◌∙◌}
use Rattle.asm_declare.proofs.Locating.{functions_noted}
use Rattle.asm_declare.proofs.passes.functions.Goals as goal

pub returns : goal.returns
returns c = functions_noted c.args.units.now c.slice-files.result.now c.in_ok-numbers.numbers _ _ _ _ c.slice-files.ensures ((c.in_ok-numbers).ensures ∙ c.requires) c.in_ok-all_own.ensures c.in_ok-all_locations.ensures
