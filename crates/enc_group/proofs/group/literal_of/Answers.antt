use Rattle.std.proofs.Common.{◌≡◌, ◌∙◌, arith, ap, length, List}
use Rattle.std.specs.List.{list_any}
use Rattle.cnf_base.specs.declared.lit.Lit.{Lit}
use Rattle.cnf_base.specs.Clauses.{clause_variables, lit_true}
use Rattle.enc_group.specs.Group.{lits_with}
use Rattle.enc_group.proofs.Groups.{refused, over_more, variables_lits_with, any_lits_with, length_lits_with}
use Rattle.enc_group.proofs.group.literal_of.Goals as goal

pub or-requires : goal.or-requires
or-requires c =
    omega (arith, ap clause_variables (c.as_slice.ensures.value ∙ c.in_ok-lits.ensures), variables_lits_with c.args.group.now c.args.value, c.requires)

pub returns-clause-means : goal.returns-clause-means
returns-clause-means c = λ v t. c.in_ok-lit.ensures.means v t ∙ ap (list_any (lit_true v)) (c.as_slice.ensures.value ∙ c.in_ok-lits.ensures) ∙ any_lits_with v c.args.group.now c.args.value

pub returns-in_err-lit-clause-too_large : goal.returns-in_err-lit-clause-too_large
returns-in_err-lit-clause-too_large c =
    refused c.or.result c.from_residual-in_err-lit.result _ c.in_err-lit.was c.from_residual-in_err-lit.ensures.1 c.or.ensures.too_large
    (over_more _ _ _ _ (omega arith) (let long : length c.as_slice.result.now ≡ length (lits_with c.args.group.now c.args.value) = ap (λ (ls : List Lit). length ls) (c.as_slice.ensures.value ∙ c.in_ok-lits.ensures) in omega (arith, long, length_lits_with c.args.group.now c.args.value)))

pub returns-clause-size : goal.returns-clause-size
returns-clause-size c =
    let long : length c.as_slice.result.now ≡ length (lits_with c.args.group.now c.args.value) = ap (λ (ls : List Lit). length ls) (c.as_slice.ensures.value ∙ c.in_ok-lits.ensures) in
    omega (arith, c.in_ok-lit.ensures.size, long, length_lits_with c.args.group.now c.args.value)
