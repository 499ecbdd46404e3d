use Rattle.std.proofs.Common.{neg_ℤ, arith}
use Rattle.std.proofs.lemmas.Int.{ints}
use Rattle.asm_domain.proofs.Spanning.{ordered, decide, at_same, opposites}
use Rattle.asm_domain.proofs.interval.Interval.negated.Goals as goal

pub bounded-requires : goal.bounded-requires
bounded-requires c =
    let o = c.args.self.ordered in
    ordered (neg_ℤ c.args.self.high) (neg_ℤ c.args.self.low) _ _ (at_same _ _ c.difference.ensures (neg_ℤ c.args.self.high) (omega (arith, ints))) (at_same _ _ c.difference-2.ensures (neg_ℤ c.args.self.low) (omega (arith, ints))) (omega (arith, ints))

pub returns : goal.returns
returns c =
    let d = decide _ (neg_ℤ c.args.self.high) (neg_ℤ c.args.self.low) _ _ _ (at_same _ _ c.difference.ensures (neg_ℤ c.args.self.high) (omega (arith, ints))) (at_same _ _ c.difference-2.ensures (neg_ℤ c.args.self.low) (omega (arith, ints))) (opposites c.args.self) c.bounded.ensures.ok c.bounded.ensures.err in
    record { spans = d.0; refused = d.1 }
