use Rattle.std.proofs.Common.{◌∙◌, ap}
use Rattle.std.specs.List.{list_any}
use Rattle.cnf_base.specs.Clauses.{lit_true}
use Rattle.enc_update.proofs.Entries.{any_lit}
use Rattle.enc_update.proofs.slots.some_of.Goals as goal

pub returns-clause-means : goal.returns-clause-means
returns-clause-means c = λ v t. c.in_ok-lit.ensures.means v t ∙ ap (list_any (lit_true v)) (c.as_slice.ensures.value ∙ c.in_ok-lits.ensures) ∙ any_lit v c.args.group.now
