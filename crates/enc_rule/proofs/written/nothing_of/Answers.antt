use Rattle.std.proofs.Common.{◌∙◌, ap, not}
use Rattle.std.specs.List.{list_any}
use Rattle.cnf_base.specs.Clauses.{lit_true}
use Rattle.enc_rule.proofs.Writing.{any_pair_lit}
use Rattle.enc_rule.proofs.written.nothing_of.Goals as goal

pub returns-clause-means : goal.returns-clause-means
returns-clause-means c = λ v t.
    c.not.ensures.means v
    ∙ ap not (c.in_ok-some.ensures.means v t ∙ ap (list_any (lit_true v)) (c.as_slice.ensures.value ∙ c.in_ok-lits.ensures) ∙ any_pair_lit v c.args.pairs.now)
