use Rattle.std.proofs.Common.{◌≡◌, Some, length, sym, ap, subst, ◌∙◌}
use Rattle.std.specs.FinMap.{get}
use Rattle.std.proofs.lemmas.Option.{slice_get-get_or, slice_get_within}
use Rattle.asm_node.specs.declared.choices.Choice.{Choice}
use Rattle.asm_node.specs.Choices.{IsPlace, NoneBefore}
use Rattle.asm_node.proofs.Chosen.{found-at, found-none, get-found}
use Rattle.asm_node.proofs.choices.Choices.get.Goals as goal

pub returns-in-Some : goal.returns-in-Some
returns-in-Some c =
    let cs = c.self.inside.choices.items in
    let k = c.in-Some.place in
    let place : IsPlace cs c.args.path.now (Some k) = subst (λ ds. IsPlace ds c.args.path.now (Some k)) c.deref.ensures.value (subst (λ p. IsPlace c.deref.result.now p (Some k)) c.slice.ensures c.in-Some.ensures) in
    let here = slice_get-get_or cs k c.index.result.now (slice_get_within cs k place.0.0 place.0.1) in
    let same : c.index.result.now ≡ place.0.0 = cc (c.index.ensures, here, place.0.1) in
    ap (λ (d : Choice). Some d.tuple) same ∙ sym (ap (λ m. get m c.args.path.now) (sym c.self.view_is) ∙ get-found cs c.args.path.now ∙ found-at cs c.args.path.now k place.0.0 place.0.1 place.0.2 place.1)

pub returns-in-None : goal.returns-in-None
returns-in-None c =
    let cs = c.self.inside.choices.items in
    let before : NoneBefore cs c.args.path.now (length cs) = subst (λ ds. NoneBefore ds c.args.path.now (length ds)) c.deref.ensures.value (subst (λ p. NoneBefore c.deref.result.now p (length c.deref.result.now)) c.slice.ensures c.in-None.ensures) in
    sym (ap (λ m. get m c.args.path.now) (sym c.self.view_is) ∙ get-found cs c.args.path.now ∙ found-none cs c.args.path.now before)
