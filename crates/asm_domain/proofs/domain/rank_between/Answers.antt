use Rattle.std.proofs.Common.{◌≡◌, to_z, of_z, w64, FitsSigned, rules, arith}
use Rattle.std.proofs.lemmas.Int.{ints}
use Rattle.asm_domain.specs.Universe.{numbers_between}
use Rattle.asm_domain.proofs.Elements.{between_same, numbers_no_rank}
use Rattle.asm_domain.proofs.domain.rank_between.Goals as goal

pub returns-in-Int : goal.returns-in-Int
returns-in-Int c =
    let fits : FitsSigned w64 c.in-Int.number = search rules in
    let x : to_z w64 (of_z w64 c.in-Int.number) ≡ c.in-Int.number = omega (arith, ints) in
    let l : to_z w64 (of_z w64 c.args.low) ≡ c.args.low = omega (arith, ints) in
    let h : to_z w64 (of_z w64 c.args.high) ≡ c.args.high = omega (arith, ints) in
    rw c.in-Int.is (between_same c.args.low c.args.high c.in-Int.number _ _ _ _ l h x c.rank_of_number_between.ensures)

pub returns-in_default : goal.returns-in_default
returns-in_default c =
    numbers_no_rank (numbers_between c.args.low c.args.high) c.args.value.now c.in_default.not-Int
