-- Texts have at most one tree.
use Rattle.asm_grammar.specs.Text.{OneTree}
use Rattle.std.proofs.Common.{true, false}
use Rattle.asm_grammar.proofs.Whole.{same_tree}
use Rattle.asm_tree.specs.Language.{models}
use Rattle.asm_tree.specs.Rules.{body}
use Rattle.asm_tree.specs.Units.{unit}
use Rattle.asm_tree.specs.Scripts.{inputs, scenario}
use Rattle.asm_tree.proofs.Checks.{table, late}
use Rattle.asm_tree.proofs.Wholes.{checked_unit, checked_inputs, checked_scenario}

pub one_unit : OneTree models (body false) unit
one_unit = same_tree models (body false) unit table late checked_unit

pub one_inputs : OneTree models (body true) inputs
one_inputs = same_tree models (body true) inputs table late checked_inputs

pub one_scenario : OneTree models (body true) scenario
one_scenario = same_tree models (body true) scenario table late checked_scenario
