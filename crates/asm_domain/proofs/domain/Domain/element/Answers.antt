use Rattle.std.proofs.Common.{◌≡◌, ◌+ℤ◌, pos, to_z, of_z, w64, FitsSigned, get_or, rules, refl, sym, ap, ◌∙◌, arith}
use Rattle.std.proofs.lemmas.Int.{ints}
use Rattle.asm_domain.specs.declared.value.Value.TheVariants.{Int}
use Rattle.asm_domain.specs.Kinds.{universe_of}
use Rattle.asm_domain.specs.Universe.{Numbers, Named, numbers_between}
use Rattle.asm_domain.proofs.Held.{element_of, within_of, range_within, range_element, numbers_element, named_element}
use Rattle.asm_domain.proofs.domain.Domain.element.Goals as goal

pub number_at-requires : goal.number_at-requires
number_at-requires c =
    let fits : FitsSigned w64 c.in-Range.low = search rules in
    let fits' : FitsSigned w64 c.in-Range.high = search rules in
    let e = ap universe_of (sym c.in-Range.is) ∙ c.self.view_is in
    let lt = within_of c.args.self.now (Numbers (numbers_between c.in-Range.low c.in-Range.high)) c.args.rank e c.requires in
    let le = range_within c.in-Range.low c.in-Range.high c.args.rank lt in omega (arith, ints)

pub returns-in-Range : goal.returns-in-Range
returns-in-Range c =
    let fits : FitsSigned w64 c.in-Range.low = search rules in
    let fits' : FitsSigned w64 c.in-Range.high = search rules in
    let e = ap universe_of (sym c.in-Range.is) ∙ c.self.view_is in
    let lt = within_of c.args.self.now (Numbers (numbers_between c.in-Range.low c.in-Range.high)) c.args.rank e c.requires in
    let le = range_within c.in-Range.low c.in-Range.high c.args.rank lt in
    let number : c.number_at.result ≡ c.in-Range.low +ℤ pos c.args.rank = omega (arith, ints, c.number_at.ensures) in
    let same : c.in-Range.low +ℤ pos c.args.rank ≡ to_z w64 (of_z w64 c.number_at.result) = omega (arith, ints) in
    element_of c.args.self.now (Numbers (numbers_between c.in-Range.low c.in-Range.high)) c.args.rank _ _ e (ap Int same) (range_element c.in-Range.low c.in-Range.high c.args.rank lt)

pub returns-in-Numbers : goal.returns-in-Numbers
returns-in-Numbers c =
    let e = ap universe_of (sym c.in-Numbers.is) ∙ c.self.view_is in
    let lt = within_of c.args.self.now (Numbers c.in-Numbers.numbers) c.args.rank e c.requires in
    let fits : FitsSigned w64 (get_or c.slice.result.now c.args.rank (pos 0)) = search rules in
    let same : to_z w64 (of_z w64 (get_or c.slice.result.now c.args.rank (pos 0))) ≡ get_or c.slice.result.now c.args.rank (pos 0) = omega (arith, ints) in
    let read = ap (λ xs. get_or xs c.args.rank (pos 0)) c.slice.ensures in
    element_of c.args.self.now (Numbers c.in-Numbers.numbers) c.args.rank _ _ e (ap Int (sym (same ∙ read))) (numbers_element c.in-Numbers.numbers c.args.rank lt)

pub returns-in-Named : goal.returns-in-Named
returns-in-Named c =
    let e = ap universe_of (sym c.in-Named.is) ∙ c.self.view_is in
    let lt = within_of c.args.self.now (Named c.in-Named.number c.in-Named.field-1) c.args.rank e c.requires in
    element_of c.args.self.now (Named c.in-Named.number c.in-Named.field-1) c.args.rank _ _ e refl (named_element c.in-Named.number c.in-Named.field-1 c.args.rank lt)
