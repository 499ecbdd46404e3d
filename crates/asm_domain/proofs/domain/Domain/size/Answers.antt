use Rattle.std.proofs.Common.{◌≡◌, ◌+◌, length, to_z, of_z, w64, FitsSigned, rules, sym, ap, ◌∙◌, arith}
use Rattle.std.proofs.lemmas.Int.{ints}
use Rattle.asm_domain.specs.Kinds.{universe_of}
use Rattle.asm_domain.specs.Universe.{elements}
use Rattle.asm_domain.proofs.Elements.{gap_is, length-named_from}
use Rattle.asm_domain.proofs.Held.{held_makes, range_size, range_sound}
use Rattle.asm_domain.proofs.domain.Domain.size.Goals as goal

pub returns-in-Range : goal.returns-in-Range
returns-in-Range c =
    let e = ap universe_of (sym c.in-Range.is) ∙ c.self.view_is in
    let m = held_makes c.self.inside.kind c.args.self.now c.self.view_is c.self.invariant in
    let fits : FitsSigned w64 c.in-Range.low = search rules in
    let fits' : FitsSigned w64 c.in-Range.high = search rules in
    let l : to_z w64 (of_z w64 c.in-Range.low) ≡ c.in-Range.low = omega (arith, ints) in
    let h : to_z w64 (of_z w64 c.in-Range.high) ≡ c.in-Range.high = omega (arith, ints) in
    let le = range_sound c.self.inside.kind c.in-Range.low c.in-Range.high c.in-Range.is c.self.invariant in
    let gap = gap_is c.in-Range.low c.in-Range.high _ _ c.abs_diff.result c.abs_diff.ensures h l le in
    let is : c.abs_diff.result + 1 ≡ length (elements c.args.self.now) = range_size c.in-Range.low c.in-Range.high c.abs_diff.result gap ∙ ap (λ u. length (elements u)) e in
    let some = m.some in let few = m.few in
    record { value = is; some = omega arith; few = omega arith; distinct = m.distinct }

pub returns-in-Numbers-clause-distinct : goal.returns-in-Numbers-clause-distinct
returns-in-Numbers-clause-distinct c =
    (held_makes c.self.inside.kind c.args.self.now c.self.view_is c.self.invariant).distinct

pub returns-in-Named : goal.returns-in-Named
returns-in-Named c =
    let e = ap universe_of (sym c.in-Named.is) ∙ c.self.view_is in
    let m = held_makes c.self.inside.kind c.args.self.now c.self.view_is c.self.invariant in
    let is : c.len-in-Named.result ≡ length (elements c.args.self.now) = c.len-in-Named.ensures ∙ sym (length-named_from c.in-Named.field-0 0 c.in-Named.names) ∙ ap (λ u. length (elements u)) e in
    let some = m.some in let few = m.few in
    record { value = is; some = omega arith; few = omega arith; distinct = m.distinct }
