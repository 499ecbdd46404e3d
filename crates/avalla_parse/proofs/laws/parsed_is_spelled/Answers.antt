use Rattle.asm_tree.specs.Scripts as scripts
use Rattle.asm_tree.proofs.Wholes.{checked_inputs, checked_scenario}
use Rattle.whole_file.proofs.Verdicts.{parsed_tree, tree_parsed, parsed_refused, refused_parsed}
use Rattle.avalla_parse.proofs.laws.parsed_is_spelled.Goals as goal

pub returns-clause-inputs : goal.returns-clause-inputs
returns-clause-inputs c = λ text ts y. (λ e. parsed_tree scripts.inputs checked_inputs text ts y e, λ s. tree_parsed scripts.inputs checked_inputs text ts y s)

pub returns-clause-error : goal.returns-clause-error
returns-clause-error c = λ text ts e ne. (λ h. parsed_refused scripts.inputs checked_inputs text ts e h, λ x. refused_parsed scripts.inputs checked_inputs text ts e ne x)

pub returns-clause-scenario : goal.returns-clause-scenario
returns-clause-scenario c = λ text ts y. (λ e. parsed_tree scripts.scenario checked_scenario text ts y e, λ s. tree_parsed scripts.scenario checked_scenario text ts y s)

pub returns-clause-scenario_error : goal.returns-clause-scenario_error
returns-clause-scenario_error c = λ text ts e ne. (λ h. parsed_refused scripts.scenario checked_scenario text ts e h, λ x. refused_parsed scripts.scenario checked_scenario text ts e ne x)
