use Rattle.std.proofs.Common.{◌<◌, length, refl, arith}
use Rattle.std.proofs.lemmas.Option.{slice_get_read}
use Rattle.asm_domain.proofs.Distinct.{distinct_more, none_from, absent_before}
use Rattle.asm_domain.proofs.refusal.first_repeated_name.Goals as goal

pub loop-place-preserved : goal.loop-place-preserved
loop-place-preserved c =
    let names = c.args.names.now in
    let place = c.loop-place.place in
    let lt : c.loop-place.place < length c.args.names.now = omega arith in
    let none = none_from _ _ c.is_some.ensures c.if-is_some.false in
    distinct_more names place c.index-names-place.result c.loop-place.invariant (slice_get_read names _ _ _ refl lt c.index-names-place.is) (absent_before names place c.index-names-place.result _ refl (c.place_of_name-earlier.ensures.none none))
