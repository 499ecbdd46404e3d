use Rattle.std.proofs.Common.{◌≡◌, ◌<◌, length, get_or, pos, to_z, of_z, w64, FitsSigned, rules, arith}
use Rattle.std.proofs.lemmas.Int.{ints}
use Rattle.std.proofs.lemmas.Option.{slice_get-get_or}
use Rattle.asm_domain.proofs.Distinct.{distinct_more, none_from, absent_before}
use Rattle.asm_domain.proofs.refusal.first_repeated_number.Goals as goal

pub loop-place-preserved : goal.loop-place-preserved
loop-place-preserved c =
    let numbers = c.args.numbers.now in
    let place = c.loop-place.place in
    let number = get_or c.args.numbers.now c.loop-place.place (pos 0) in
    let lt : c.loop-place.place < length c.args.numbers.now = omega arith in
    let fits : FitsSigned w64 (get_or c.args.numbers.now c.loop-place.place (pos 0)) = search rules in
    let same : to_z w64 (of_z w64 (get_or c.args.numbers.now c.loop-place.place (pos 0))) ≡ get_or c.args.numbers.now c.loop-place.place (pos 0) = omega (arith, ints) in
    let none = none_from _ _ c.is_some.ensures c.if-is_some.false in
    distinct_more numbers place number c.loop-place.invariant (slice_get-get_or numbers place (pos 0) lt) (absent_before numbers place number _ same (c.place_of_number-earlier.ensures.none none))
