use Rattle.std.proofs.Common.{slice_get, sym, ap, subst, ◌∙◌}
use Rattle.std.proofs.lemmas.Result.{err_from_is_err_and}
use Rattle.asm_domain.specs.declared.value.Value.{Value}
use Rattle.asm_node.specs.Env.{places_of}
use Rattle.asm_node.specs.Machine.{slot_at}
use Rattle.asm_node.specs.Model.{machine_of}
use Rattle.asm_node.specs.Taking.{evaluated, update, valued}
use Rattle.asm_node.specs.Term.{Outcome, val}
use Rattle.asm_node.specs.Tree.{plain}
use Rattle.asm_eval.specs.World.{world_in}
use Rattle.asm_node.proofs.Slots.{slot_is}
use Rattle.asm_fire.specs.Answer.{Fires, Halts}
use Rattle.asm_fire.specs.Fault.{fire_error}
use Rattle.asm_fire.proofs.Firing.{halts-evaluated, update-is}
use Rattle.asm_fire.proofs.update.fire_update.Goals as goal

pub returns-in_err-value-in-Some-slot_of : goal.returns-in_err-value-in-Some-slot_of
returns-in_err-value-in-Some-slot_of g c = λ words.
    let w = world_in (machine_of c.args.world.now.model.now) (g.S.Store.state c.args.world.now.store.now) c.args.world.now.input.now in
    let e = places_of c.args.env.now in
    let value_is : Outcome Value = val w e (plain c.args.value.now.value) in
    let p = err_from_is_err_and c.from_residual-in_err-value-in-Some-slot_of.result c.from_residual-in_err-value-in-Some-slot_of.ensures.1 in
    rw (p.1, p.2) (subst (Halts (fire_error c.in_err-value-in-Some-slot_of.field-0.0) words) (sym (ap (λ o. evaluated o words (λ vs. update w c.args.place c.args.number (slice_get w.machine.signature.functions c.args.number) vs value_is words)) c.in_ok-values.ensures
    ∙ update-is w c.args.place c.args.number c.in-Some.function.now c.in_ok-values.values _ value_is words
    (c.in-Some.ensures.value ∙ ap (λ fs. slice_get fs c.args.number) (c.functions.ensures.value ∙ ap (λ s. s.functions) c.signature-signature.ensures))
    (sym (λ i. slot_at (c.signature-signature.ensures i) c.args.number (c.slice.ensures i)) ∙ slot_is c.signature-signature.result.now c.args.number c.slice.result.now c.slot_of.result c.slot_of.ensures.rank ∙ c.in-Some-slot_of.is)))
    (halts-evaluated c.in_err-value-in-Some-slot_of.field-0.0 words value_is (λ v. valued w c.args.place c.in-Some.function.now.codomain c.in-Some-slot_of.slot v words) c.in_err-value-in-Some-slot_of.ensures))

pub returns-in-Some-slot_of : goal.returns-in-Some-slot_of
returns-in-Some-slot_of g c = λ words.
    let w = world_in (machine_of c.args.world.now.model.now) (g.S.Store.state c.args.world.now.store.now) c.args.world.now.input.now in
    let e = places_of c.args.env.now in
    let value_is : Outcome Value = val w e (plain c.args.value.now.value) in
    subst (Fires c.give.result words) (sym ((ap (λ o. evaluated o words (λ vs. update w c.args.place c.args.number (slice_get w.machine.signature.functions c.args.number) vs value_is words)) c.in_ok-values.ensures
    ∙ update-is w c.args.place c.args.number c.in-Some.function.now c.in_ok-values.values _ value_is words
    (c.in-Some.ensures.value ∙ ap (λ fs. slice_get fs c.args.number) (c.functions.ensures.value ∙ ap (λ s. s.functions) c.signature-signature.ensures))
    (sym (λ i. slot_at (c.signature-signature.ensures i) c.args.number (c.slice.ensures i)) ∙ slot_is c.signature-signature.result.now c.args.number c.slice.result.now c.slot_of.result c.slot_of.ensures.rank ∙ c.in-Some-slot_of.is))
    ∙ ap (λ o. evaluated o words (λ v. valued w c.args.place c.in-Some.function.now.codomain c.in-Some-slot_of.slot v words)) c.in_ok-value-in-Some-slot_of.ensures)) (c.give.ensures words)

pub returns-in-Some : goal.returns-in-Some
returns-in-Some g c = λ words.
    let w = world_in (machine_of c.args.world.now.model.now) (g.S.Store.state c.args.world.now.store.now) c.args.world.now.input.now in
    let e = places_of c.args.env.now in
    let value_is : Outcome Value = val w e (plain c.args.value.now.value) in
    (ap (λ o. evaluated o words (λ vs. update w c.args.place c.args.number (slice_get w.machine.signature.functions c.args.number) vs value_is words)) c.in_ok-values.ensures
    ∙ update-is w c.args.place c.args.number c.in-Some.function.now c.in_ok-values.values _ value_is words
    (c.in-Some.ensures.value ∙ ap (λ fs. slice_get fs c.args.number) (c.functions.ensures.value ∙ ap (λ s. s.functions) c.signature-signature.ensures))
    (sym (λ i. slot_at (c.signature-signature.ensures i) c.args.number (c.slice.ensures i)) ∙ slot_is c.signature-signature.result.now c.args.number c.slice.result.now c.slot_of.result c.slot_of.ensures.rank ∙ c.in-None-slot_of.is))
