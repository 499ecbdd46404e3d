use Rattle.asm_tree.specs.Scripts as scripts
use Rattle.asm_tree.proofs.Wholes.{checked_scenario}
use Rattle.whole_file.proofs.Verdicts.{gives_tree, gives_only, gives_refused, gives_refuses}
use Rattle.avalla_parse.proofs.parse.scenario.Goals as goal

pub returns-clause-found : goal.returns-clause-found
returns-clause-found c = gives_tree scripts.scenario checked_scenario c.args.text.now c.args.tokens.now c.read_scenario.result c.read_scenario.ensures

pub returns-clause-only : goal.returns-clause-only
returns-clause-only c = λ y s. gives_only scripts.scenario checked_scenario c.args.text.now c.args.tokens.now c.read_scenario.result c.read_scenario.ensures y s

pub returns-clause-refused : goal.returns-clause-refused
returns-clause-refused c = gives_refused scripts.scenario checked_scenario c.args.text.now c.args.tokens.now c.read_scenario.result c.read_scenario.ensures

pub returns-clause-refuses : goal.returns-clause-refuses
returns-clause-refuses c = λ e ne x. gives_refuses scripts.scenario checked_scenario c.args.text.now c.args.tokens.now c.read_scenario.result c.read_scenario.ensures e ne x
