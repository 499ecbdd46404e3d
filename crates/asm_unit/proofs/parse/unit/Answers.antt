use Rattle.asm_unit.proofs.Verdicts.{gives_unit, gives_only, gives_refused, gives_refuses}
use Rattle.asm_unit.proofs.parse.unit.Goals as goal

pub returns-clause-found : goal.returns-clause-found
returns-clause-found c = gives_unit c.args.text.now c.args.tokens.now c.parsed.result c.parsed.ensures

pub returns-clause-only : goal.returns-clause-only
returns-clause-only c = λ y s. gives_only c.args.text.now c.args.tokens.now c.parsed.result c.parsed.ensures y s

pub returns-clause-refused : goal.returns-clause-refused
returns-clause-refused c = gives_refused c.args.text.now c.args.tokens.now c.parsed.result c.parsed.ensures

pub returns-clause-refuses : goal.returns-clause-refuses
returns-clause-refuses c = λ e ne x. gives_refuses c.args.text.now c.args.tokens.now c.parsed.result c.parsed.ensures e ne x
