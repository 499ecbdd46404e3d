use Rattle.std.proofs.Common.{Some, length, ap, subst, ◌∙◌}
use Rattle.std.specs.FinMap.{insert}
use Rattle.asm_node.specs.declared.choices.Choice.{Choice}
use Rattle.asm_node.specs.Choices.{IsPlace, NoneBefore}
use Rattle.asm_node.proofs.Chosen.{map_of, replaced, pushed}
use Rattle.asm_node.proofs.choices.Choices.set.Goals as goal

pub returns-in-Some-clause-ok : goal.returns-in-Some-clause-ok
returns-in-Some-clause-ok c =
    let cs = c.self.inside.choices.items in
    let k = c.in-Some.place in
    let new : Choice = record { path = c.args.path; tuple = c.args.tuple } in
    let place : IsPlace cs c.args.path (Some k) = subst (λ ds. IsPlace ds c.args.path (Some k)) c.deref.ensures.value (subst (λ p. IsPlace c.deref.result.now p (Some k)) c.slice.ensures c.in-Some.ensures) in
    ap map_of c.replace.ensures
    ∙ replaced cs k place.0.0 new place.0.1 place.0.2 place.1 ∙ ap (λ m. insert m c.args.path c.args.tuple) c.self.view_is

pub returns-in_ok-push-in-None-clause-ok : goal.returns-in_ok-push-in-None-clause-ok
returns-in_ok-push-in-None-clause-ok c =
    let cs = c.self.inside.choices.items in
    let new : Choice = record { path = c.args.path; tuple = c.args.tuple } in
    let before : NoneBefore cs c.args.path (length cs) = subst (λ ds. NoneBefore ds c.args.path (length ds)) c.deref.ensures.value (subst (λ p. NoneBefore c.deref.result.now p (length c.deref.result.now)) c.slice.ensures c.in-None.ensures) in
    ap map_of c.in_ok-push-in-None.ensures.items ∙ pushed cs new before ∙ ap (λ m. insert m c.args.path c.args.tuple) c.self.view_is
