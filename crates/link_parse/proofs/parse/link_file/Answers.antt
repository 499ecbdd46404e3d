use Rattle.link_parse.specs.Links as language
use Rattle.link_parse.proofs.Checked.{checked_links}
use Rattle.whole_file.proofs.Verdicts.{gives_tree, gives_only, gives_refused, gives_refuses}
use Rattle.link_parse.proofs.parse.link_file.Goals as goal

pub returns-clause-found : goal.returns-clause-found
returns-clause-found c = gives_tree language.links checked_links c.args.text.now c.args.tokens.now c.read_links.result c.read_links.ensures

pub returns-clause-only : goal.returns-clause-only
returns-clause-only c = λ y s. gives_only language.links checked_links c.args.text.now c.args.tokens.now c.read_links.result c.read_links.ensures y s

pub returns-clause-refused : goal.returns-clause-refused
returns-clause-refused c = gives_refused language.links checked_links c.args.text.now c.args.tokens.now c.read_links.result c.read_links.ensures

pub returns-clause-refuses : goal.returns-clause-refuses
returns-clause-refuses c = λ e ne x. gives_refuses language.links checked_links c.args.text.now c.args.tokens.now c.read_links.result c.read_links.ensures e ne x
