use Rattle.std.proofs.Common.{◌≡◌, to_z, of_z, w64, FitsSigned, rules, arith}
use Rattle.std.proofs.lemmas.Int.{ints}
use Rattle.asm_domain.proofs.Elements.{among_same, numbers_no_rank}
use Rattle.asm_domain.proofs.domain.rank_among.Goals as goal

pub returns-in-Int : goal.returns-in-Int
returns-in-Int c =
    let fits : FitsSigned w64 c.in-Int.number = search rules in
    let x : to_z w64 (of_z w64 c.in-Int.number) ≡ c.in-Int.number = omega (arith, ints) in
    rw c.in-Int.is (among_same c.args.numbers.now c.in-Int.number _ _ x c.rank_of_number_among.ensures)

pub returns-in_default : goal.returns-in_default
returns-in_default c =
    numbers_no_rank c.args.numbers.now c.args.value.now c.in_default.not-Int
