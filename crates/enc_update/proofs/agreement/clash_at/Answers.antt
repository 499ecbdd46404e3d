use Rattle.std.proofs.Common.{◌≡◌, ◌∙◌, ap, arith, length, List}
use Rattle.cnf_base.specs.declared.lit.Lit.{Lit}
use Rattle.cnf_base.specs.Clauses.{clause_variables}
use Rattle.enc_update.specs.Updates.{two_true}
use Rattle.enc_update.proofs.Agreeing.{lits_long}
use Rattle.enc_update.proofs.agreement.clash_at.Goals as goal

pub two_of-requires : goal.two_of-requires
two_of-requires c = omega (arith, ap clause_variables (c.as_slice.ensures.value ∙ c.in_ok-lits.ensures), c.requires)

pub returns-clause-means : goal.returns-clause-means
returns-clause-means c = λ v t. c.in_ok-lit.ensures.means v t ∙ ap (two_true v) (c.as_slice.ensures.value ∙ c.in_ok-lits.ensures)

pub returns-clause-count : goal.returns-clause-count
returns-clause-count c =
    let long : length c.as_slice.result.now ≡ length c.args.group.now = ap (λ (ls : List Lit). length ls) (c.as_slice.ensures.value ∙ c.in_ok-lits.ensures) ∙ lits_long c.args.group.now in
    omega (arith, c.two_of.ensures.count, long)

pub returns-clause-size : goal.returns-clause-size
returns-clause-size c =
    let long : length c.as_slice.result.now ≡ length c.args.group.now = ap (λ (ls : List Lit). length ls) (c.as_slice.ensures.value ∙ c.in_ok-lits.ensures) ∙ lits_long c.args.group.now in
    omega (arith, c.two_of.ensures.size, long)
