use Rattle.std.proofs.Common.{sym, subst}
use Rattle.asm_state.specs.State.{IsUndefined}
use Rattle.asm_source.specs.declared.sources.Place.{Place}
use Rattle.asm_node.specs.Model.{machine_of}
use Rattle.asm_fire.specs.Sound.{IsSound}
use Rattle.asm_eval.proofs.Starting.{undefined-is-state}
use Rattle.model_tests.proofs.TriedRules.{both_then_chosen-sound}
use Rattle.model_tests.proofs.firing.fired.Goals as goal

pub fire-requires-clause-state : goal.fire-requires-clause-state
fire-requires-clause-state c =
    let s = c.in_ok-store.store in
    undefined-is-state (machine_of c.in_ok-model.model) s (subst (λ v. IsUndefined v s) c.signature.ensures c.in_ok-store.ensures.undefined)

pub fire-requires-clause-sound : goal.fire-requires-clause-sound
fire-requires-clause-sound c =
    let m = machine_of c.in_ok-model.model in
    let place : Place = record { file = 0; at = 70 } in
    subst (IsSound m c.new-input.result) (sym c.in_ok-rule.ensures) (both_then_chosen-sound m c.new-input.result c.in_ok-model.ensures place c.args.first c.args.second)
