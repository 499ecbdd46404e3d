use Rattle.std.proofs.Common.{◌∙◌}
use Rattle.asm_faults.specs.Files.{definition_in}
use Rattle.asm_calls.specs.Callers.{function_caller, definitions_from}
use Rattle.asm_calls.proofs.Gathering.{map-flat_map}
use Rattle.asm_calls.proofs.gather.definitions.Goals as goal

pub returns : goal.returns
returns c = c.in_ok-callers.ensures ∙ map-flat_map (function_caller c.args.known.now) definition_in (definitions_from 0 c.args.units.now)
