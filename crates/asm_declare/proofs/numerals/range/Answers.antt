use Rattle.std.proofs.Common.{◌≡◌, to_z, of_z, w64, FitsSigned, rules, arith, ◌∙◌}
use Rattle.std.proofs.lemmas.Int.{ints}
use Rattle.asm_domain.specs.Universe.{Numbers, numbers_between}
use Rattle.asm_domain.specs.declared.error.DomainError.TheVariants.{Empty, TooLarge}
use Rattle.asm_declare.proofs.Building.{range_made}
use Rattle.asm_declare.proofs.numerals.range.Goals as goal

pub returns-in-Ok : goal.returns-in-Ok
returns-in-Ok c =
    let fits : FitsSigned w64 c.args.low = search rules in
    let fits' : FitsSigned w64 c.args.high = search rules in
    let l : to_z w64 (of_z w64 c.args.low) ≡ c.args.low = omega (arith, ints) in
    let h : to_z w64 (of_z w64 c.args.high) ≡ c.args.high = omega (arith, ints) in
    range_made (to_z w64 (of_z w64 c.args.low)) (to_z w64 (of_z w64 c.args.high)) c.in-Ok.domain (Numbers (numbers_between (to_z w64 (of_z w64 c.args.low)) (to_z w64 (of_z w64 c.args.high)))) Empty TooLarge c.range.result c.in-Ok.is c.range.ensures.empty c.range.ensures.too_large c.range.ensures.ok
    ∙ (λ j. Numbers (numbers_between (l j) (h j)))
