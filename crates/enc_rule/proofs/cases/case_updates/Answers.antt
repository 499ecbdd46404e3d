use Rattle.std.proofs.Common.{◌∙◌, ap, ◌&&◌}
use Rattle.cnf_base.specs.Clauses.{lit_true}
use Rattle.enc_update.specs.Updates.{has_pair}
use Rattle.enc_rule.proofs.Coming.{case_takes}
use Rattle.enc_rule.proofs.cases.case_updates.Goals as goal

pub returns-clause-means : goal.returns-clause-means
returns-clause-means c = λ v h a t.
    case_takes v c.args.body.now.pairs c.in_ok-pairs.pairs c.args.body.now.fault c.in_ok-fault.fault (lit_true v c.args.key) a t
    (c.in_ok-fault.ensures.means v (c.pairs_under.ensures.grows.holds v h))
    (λ l x. c.in_ok-pairs.ensures.means v h l x ∙ ap (λ ps. lit_true v c.args.key && has_pair v ps l x) c.slice.ensures)
