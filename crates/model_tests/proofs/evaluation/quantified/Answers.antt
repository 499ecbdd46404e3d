use Rattle.std.proofs.Common.{◌≡◌, sym, ap, subst, ◌∙◌}
use Rattle.asm_state.specs.State.{IsUndefined}
use Rattle.asm_node.specs.Exact.{IsExact}
use Rattle.asm_node.specs.Model.{machine_of}
use Rattle.asm_node.specs.Term.{close, nowhere}
use Rattle.asm_node.specs.Tree.{Tree, Const, Quant, plain, plain_kind}
use Rattle.asm_eval.specs.World.{world_in}
use Rattle.asm_eval.proofs.Starting.{undefined-is-state}
use Rattle.model_tests.proofs.evaluation.quantified.Goals as goal

pub eval-requires-clause-state : goal.eval-requires-clause-state
eval-requires-clause-state c =
    let s = c.in_ok-store.store in
    undefined-is-state (machine_of c.in_ok-model.model) s (subst (λ v. IsUndefined v s) c.signature.ensures c.in_ok-store.ensures.undefined)

pub eval-requires-clause-exact : goal.eval-requires-clause-exact
eval-requires-clause-exact c =
    let w = world_in (machine_of c.in_ok-model.model) c.in_ok-store.store c.new-input.result in
    let is : plain c.in_ok-term.term.value ≡ Quant c.args.quantifier c.in_ok-binders.field-0 (Const c.args.guard) = ap plain_kind c.in_ok-term.ensures ∙ ap (Quant c.args.quantifier c.in_ok-binders.field-0) (ap plain_kind c.in_ok-guard.ensures) in
    subst (λ e. IsExact w (close e (plain c.in_ok-term.term.value))) (sym c.new-2.ensures.places) (subst (λ t. IsExact w (close nowhere t)) (sym is) (λ vs at. tt))
