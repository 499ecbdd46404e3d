use Rattle.std.proofs.Common.{◌∙◌, arith, ap}
use Rattle.std.specs.List.{list_any}
use Rattle.cnf_base.specs.Clauses.{clause_variables, lit_true}
use Rattle.enc_term.proofs.Guarding.{variables_lits_passing, any_lits_passing}
use Rattle.enc_term.proofs.guards.tested.Goals as goal

pub or-requires : goal.or-requires
or-requires c =
    omega (arith, ap clause_variables (c.as_slice.ensures.value ∙ c.in_ok-lits.ensures), variables_lits_passing c.args.test c.args.group.now, c.requires)

pub returns-clause-means : goal.returns-clause-means
returns-clause-means c = λ v t. c.in_ok-lit.ensures.means v t ∙ ap (list_any (lit_true v)) (c.as_slice.ensures.value ∙ c.in_ok-lits.ensures) ∙ any_lits_passing v c.args.test c.args.group.now
