use Rattle.std.proofs.Common.{◌≡◌, to_z, of_z, w64, FitsSigned, rules, sym, ap, ◌∙◌, arith}
use Rattle.std.proofs.lemmas.Int.{ints}
use Rattle.asm_domain.specs.Kinds.{universe_of}
use Rattle.asm_domain.specs.Universe.{Truths, Numbers, Named, numbers_between}
use Rattle.asm_domain.proofs.Held.{ranked}
use Rattle.asm_domain.proofs.domain.Domain.rank.Goals as goal

pub returns-in-Boolean : goal.returns-in-Boolean
returns-in-Boolean c =
    let p = ranked c.args.self.now Truths _ _ (ap universe_of (sym c.in-Boolean.is) ∙ c.self.view_is) c.rank_of_truth.ensures in
    record { rank = p.0; none = p.1 }

pub returns-in-Range : goal.returns-in-Range
returns-in-Range c =
    let fits : FitsSigned w64 c.in-Range.low = search rules in
    let fits' : FitsSigned w64 c.in-Range.high = search rules in
    let l : to_z w64 (of_z w64 c.in-Range.low) ≡ c.in-Range.low = omega (arith, ints) in
    let h : to_z w64 (of_z w64 c.in-Range.high) ≡ c.in-Range.high = omega (arith, ints) in
    let p = ranked c.args.self.now _ _ _ ((λ i. Numbers (numbers_between (l i) (h i))) ∙ ap universe_of (sym c.in-Range.is) ∙ c.self.view_is) c.rank_between.ensures in
    record { rank = p.0; none = p.1 }

pub returns-in-Numbers : goal.returns-in-Numbers
returns-in-Numbers c =
    let p = ranked c.args.self.now _ _ _ (ap Numbers c.slice.ensures ∙ ap universe_of (sym c.in-Numbers.is) ∙ c.self.view_is) c.rank_among.ensures in
    record { rank = p.0; none = p.1 }

pub returns-in-Named : goal.returns-in-Named
returns-in-Named c =
    let p = ranked c.args.self.now (Named c.in-Named.number c.in-Named.names) _ _ (ap universe_of (sym c.in-Named.is) ∙ c.self.view_is) c.rank_by_name.ensures in
    record { rank = p.0; none = p.1 }
