use Rattle.std.proofs.Common.{◌≡◌, ◌≤ℤ◌, ◌<ℤ◌, to_z, of_z, w64, FitsSigned, rules, arith}
use Rattle.std.proofs.lemmas.Int.{ints}
use Rattle.asm_domain.proofs.Elements.{gap_is}
use Rattle.asm_declare.proofs.Counting.{none_between, few_between, many_between}
use Rattle.asm_declare.proofs.measure.count_between.Goals as goal

pub returns-then-high-low : goal.returns-then-high-low
returns-then-high-low c =
    let fits : FitsSigned w64 c.args.low = search rules in
    let fits' : FitsSigned w64 c.args.high = search rules in
    let l : to_z w64 (of_z w64 c.args.low) ≡ c.args.low = omega (arith, ints) in
    let h : to_z w64 (of_z w64 c.args.high) ≡ c.args.high = omega (arith, ints) in
    let lt : c.args.high <ℤ c.args.low = omega (arith, ints, c.if-high-low.true) in none_between c.args.low c.args.high lt

pub returns-then-steps-lt4096 : goal.returns-then-steps-lt4096
returns-then-steps-lt4096 c =
    let fits : FitsSigned w64 c.args.low = search rules in
    let fits' : FitsSigned w64 c.args.high = search rules in
    let l : to_z w64 (of_z w64 c.args.low) ≡ c.args.low = omega (arith, ints) in
    let h : to_z w64 (of_z w64 c.args.high) ≡ c.args.high = omega (arith, ints) in
    let le : c.args.low ≤ℤ c.args.high = omega (arith, ints) in
    few_between c.args.low c.args.high c.abs_diff-steps.result (gap_is c.args.low c.args.high _ _ c.abs_diff-steps.result c.abs_diff-steps.ensures h l le) c.if-steps-lt4096.true

pub returns-else-steps-lt4096 : goal.returns-else-steps-lt4096
returns-else-steps-lt4096 c =
    let fits : FitsSigned w64 c.args.low = search rules in
    let fits' : FitsSigned w64 c.args.high = search rules in
    let l : to_z w64 (of_z w64 c.args.low) ≡ c.args.low = omega (arith, ints) in
    let h : to_z w64 (of_z w64 c.args.high) ≡ c.args.high = omega (arith, ints) in
    let le : c.args.low ≤ℤ c.args.high = omega (arith, ints) in
    many_between c.args.low c.args.high c.abs_diff-steps.result (gap_is c.args.low c.args.high _ _ c.abs_diff-steps.result c.abs_diff-steps.ensures h l le) c.if-steps-lt4096.false
