use Rattle.std.proofs.Common.{sym, subst, ap, ◌∙◌, get_or, take}
use Rattle.std.specs.Option.{IsSome}
use Rattle.std.specs.FinMap.{get, insert}
use Rattle.std.proofs.lemmas.List.{take_more}
use Rattle.asm_domain.specs.declared.value.Value.TheVariants.{Undef}
use Rattle.asm_update.specs.Applied.{put_in}
use Rattle.asm_update.proofs.Putting.{put_in-push, still_some}
use Rattle.asm_update.proofs.updates.put_in.Goals as goal

pub put-requires : goal.put-requires
put-requires g c =
    let slot = (get_or c.args.pairs.now c.loop-pair.pair-index (0, Undef)).0 in
    let before = g.S.Store.state c.args.store.now in
    subst (λ s. IsSome (get s slot)) (sym c.loop-pair.invariant) (still_some (take c.loop-pair.pair-index c.args.pairs.now) before slot (c.requires c.loop-pair.pair-index (0, Undef) c.loop-pair-test.true))

pub loop-pair-preserved : goal.loop-pair-preserved
loop-pair-preserved g c =
    let pair = get_or c.args.pairs.now c.loop-pair.pair-index (0, Undef) in
    let before = g.S.Store.state c.args.store.now in
    c.put.ensures ∙ ap (λ s. insert s pair.0 pair.1) c.loop-pair.invariant ∙ sym (put_in-push before (take c.loop-pair.pair-index c.args.pairs.now) pair)
    ∙ sym (ap (put_in before) (take_more c.args.pairs.now c.loop-pair.pair-index (0, Undef) c.loop-pair-test.true))
