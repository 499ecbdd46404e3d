use Rattle.std.proofs.Common.{◌∙◌, ap, not, ◌||◌}
use Rattle.std.specs.List.{list_any}
use Rattle.cnf_base.specs.Clauses.{lit_true}
use Rattle.enc_update.proofs.Entries.{any_lit}
use Rattle.enc_rule.proofs.cases.missing_or.Goals as goal

pub returns-clause-means : goal.returns-clause-means
returns-clause-means c = λ v t.
    let t1 = c.either.ensures.grows.holds v t in
    c.in_ok-missing.ensures.means v t
    ∙ ap (λ b. b || lit_true v c.args.fault) (c.not.ensures.means v ∙ ap not (c.in_ok-known.ensures.means v t1 ∙ ap (list_any (lit_true v)) (c.as_slice.ensures.value ∙ c.in_ok-lits.ensures) ∙ any_lit v c.args.bound.now))
