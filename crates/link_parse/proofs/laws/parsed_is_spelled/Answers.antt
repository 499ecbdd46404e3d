use Rattle.whole_file.proofs.Verdicts.{parsed_tree, tree_parsed, parsed_refused, refused_parsed}
use Rattle.link_parse.specs.Links.{links}
use Rattle.link_parse.proofs.Checked.{checked_links}
use Rattle.link_parse.proofs.laws.parsed_is_spelled.Goals as goal

pub returns-clause-links : goal.returns-clause-links
returns-clause-links c = λ text ts y. (λ e. parsed_tree links checked_links text ts y e, λ s. tree_parsed links checked_links text ts y s)

pub returns-clause-error : goal.returns-clause-error
returns-clause-error c = λ text ts e ne. (λ h. parsed_refused links checked_links text ts e h, λ x. refused_parsed links checked_links text ts e ne x)
