use Rattle.std.proofs.Common.{◌≡◌, ◌≤ℤ◌, inl, inr, to_z, of_z, w64, arith}
use Rattle.std.proofs.lemmas.Int.{ints}
use Rattle.asm_domain.proofs.Elements.{between_rank, between_no_rank, gap_is}
use Rattle.asm_domain.proofs.domain.rank_of_number_between.Goals.{else-low-number-via-then-low-number+else-number-high, else-low-number-via-else-low-number}
use Rattle.asm_domain.proofs.domain.rank_of_number_between.Goals as goal

pub returns-then-number-high : goal.returns-then-number-high
returns-then-number-high c =
    let x : to_z w64 (of_z w64 c.args.number) ≡ c.args.number = omega (arith, ints) in
    let l : to_z w64 (of_z w64 c.args.low) ≡ c.args.low = omega (arith, ints) in
    let from : c.args.low ≤ℤ c.args.number = omega (arith, ints) in
    let to : c.args.number ≤ℤ c.args.high = omega (arith, ints) in
    between_rank c.args.low c.args.high c.args.number c.abs_diff.result from to (gap_is c.args.low c.args.number _ _ c.abs_diff.result c.abs_diff.ensures x l from)

pub returns-else-low-number : goal.returns-else-low-number
returns-else-low-number c =
    between_no_rank c.args.low c.args.high c.args.number
    (elim c.else-low-number.branch [
      | else-low-number-via-then-low-number+else-number-high w ↦ inr (omega (arith, ints))
      | else-low-number-via-else-low-number w ↦ inl (omega (arith, ints))
    ])
