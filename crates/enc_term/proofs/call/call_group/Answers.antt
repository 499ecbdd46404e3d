use Rattle.std.proofs.Common.{◌∙◌, ap, sym, subst, ◌-◌}
use Rattle.asm_node.specs.Values.{within}
use Rattle.asm_node.specs.Term.{Gives, and_then, value_of, calls_within}
use Rattle.asm_eval.specs.World.{value_by, parameters_at}
use Rattle.asm_eval.proofs.Worth.{reads-parameters}
use Rattle.asm_eval.proofs.Evaluating.{entered}
use Rattle.enc_group.specs.Group.{Means}
use Rattle.enc_term.proofs.call.call_group.Goals as goal

pub returns-clause-means : goal.returns-clause-means
returns-clause-means c = λ v t w n f vs function d ds cod some is defined m.
    let o = value_by w (n - 1) (parameters_at d.parameters vs) d.body in
    subst (λ o. Means v c.in_ok-group.group o)
    (ap (λ ds. and_then o (λ x. Gives (within ds c.args.codomain x))) (sym ds) ∙ ap (λ k. and_then o (λ x. Gives (within w.machine.signature.domains k x))) (sym cod)
    ∙ ap (λ r. and_then (value_of w (calls_within w (n - 1)) r d.body) (λ x. Gives (within w.machine.signature.domains function.codomain x))) (reads-parameters w (n - 1) d.parameters vs)
    ∙ sym (entered w n f vs function d some is defined))
    (c.in_ok-group.ensures.means v t o m)
