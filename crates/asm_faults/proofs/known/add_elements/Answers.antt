use Rattle.std.proofs.Common.{[], ◌∷◌, ◌++◌, take, sym, ap, ◌∙◌, append_assoc}
use Rattle.asm_domain.specs.Universe.{elements}
use Rattle.asm_faults.proofs.Finding.{took_more}
use Rattle.asm_faults.proofs.known.add_elements.Goals as goal

pub loop-rank-preserved : goal.loop-rank-preserved
loop-rank-preserved c =
    c.in_ok-push.ensures.ok ∙ ap (λ values. values ++ c.element.result ∷ []) c.loop-rank.invariant
    ∙ append_assoc c.args.values.now (take c.loop-rank.rank (elements c.args.domain.now)) (c.element.result ∷ [])
    ∙ ap (λ values. c.args.values.now ++ values) (sym (took_more (elements c.args.domain.now) c.loop-rank.rank c.element.result c.element.ensures))
