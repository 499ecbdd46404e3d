use Rattle.std.proofs.Common.{refl, sym, ap, subst, ◌∙◌}
use Rattle.std.specs.Prelude.{IsNone, Ok}
use Rattle.asm_node.specs.Machine.{State}
use Rattle.asm_node.specs.Model.{machine_of}
use Rattle.asm_node.specs.RuleTree.{plain_rule}
use Rattle.asm_node.specs.Step.{IsState}
use Rattle.asm_node.specs.UpdateSet.{clash}
use Rattle.asm_node.specs.Words.{left}
use Rattle.asm_update.specs.Clash.{HaveLocations}
use Rattle.asm_fire.proofs.Keeping.{fired-state, have_locations, have_slots}
use Rattle.asm_run.proofs.Takes.{clashes, fires, is_kept}
use Rattle.asm_run.proofs.advance.fire_in.Goals as goal

pub apply-requires-clause-consistent : goal.apply-requires-clause-consistent
apply-requires-clause-consistent c =
    let m = machine_of c.args.model.now in
    let u = c.in_ok-updates.updates in
    let kept = is_kept m c.args.room.now c.args.input.now (plain_rule c.args.rule.now.value) (left c.args.words.now) (left c.fire.new.words) u c.requires.state c.requires.sound c.in_ok-updates.ensures.outcome in
    c.clash.ensures.inconsistent (subst (λ v. HaveLocations v u) (sym c.signature.ensures) (have_locations m u kept)) (subst IsNone (sym c.in_default.is) refl)

pub apply-requires-clause-slots : goal.apply-requires-clause-slots
apply-requires-clause-slots c =
    let m = machine_of c.args.model.now in
    let u = c.in_ok-updates.updates in
    let kept = is_kept m c.args.room.now c.args.input.now (plain_rule c.args.rule.now.value) (left c.args.words.now) (left c.fire.new.words) u c.requires.state c.requires.sound c.in_ok-updates.ensures.outcome in
    have_slots m c.args.room.now u c.requires.state kept

pub returns-in-Some-clause-leads : goal.returns-in-Some-clause-leads
returns-in-Some-clause-leads c =
    let u = c.in_ok-updates.updates in
    clashes (machine_of c.args.model.now) c.args.room.now c.args.input.now _ u (left c.fire.new.words) c.in-Some.slot c.in-Some.first c.in-Some.second c.in_ok-updates.ensures.outcome
    (ap (λ v. clash v u) (sym c.signature.ensures) ∙ sym c.clash.ensures.clash ∙ c.in-Some.is)

pub returns-clause-leads : goal.returns-clause-leads
returns-clause-leads c =
    let u = c.in_ok-updates.updates in
    fires (machine_of c.args.model.now) c.args.room.now c.args.input.now _ u (left c.fire.new.words) c.in_ok-updates.ensures.outcome
    (ap (λ v. clash v u) (sym c.signature.ensures) ∙ sym c.clash.ensures.clash ∙ c.in_default.is)
    ∙ ap (λ (s : State). Ok (s, left c.fire.new.words)) (sym c.apply.ensures.fired)

pub returns-clause-state : goal.returns-clause-state
returns-clause-state c =
    let m = machine_of c.args.model.now in
    let u = c.in_ok-updates.updates in
    let kept = is_kept m c.args.room.now c.args.input.now (plain_rule c.args.rule.now.value) (left c.args.words.now) (left c.fire.new.words) u c.requires.state c.requires.sound c.in_ok-updates.ensures.outcome in
    subst (IsState m) (sym c.apply.ensures.fired) (fired-state m c.args.room.now u c.requires.state kept)
