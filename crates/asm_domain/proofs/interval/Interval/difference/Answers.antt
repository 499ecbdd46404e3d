use Rattle.std.proofs.Common.{◌-ℤ◌, arith}
use Rattle.std.proofs.lemmas.Int.{ints}
use Rattle.asm_domain.proofs.Spanning.{ordered, decide, at_same, differences}
use Rattle.asm_domain.proofs.interval.Interval.difference.Goals as goal

pub bounded-requires : goal.bounded-requires
bounded-requires c =
    let o = c.args.self.ordered in
    let o' = c.args.other.ordered in
    ordered (c.args.self.low -ℤ c.args.other.high) (c.args.self.high -ℤ c.args.other.low) _ _ (at_same _ _ c.difference.ensures (c.args.self.low -ℤ c.args.other.high) (omega (arith, ints))) (at_same _ _ c.difference-2.ensures (c.args.self.high -ℤ c.args.other.low) (omega (arith, ints))) (omega (arith, ints))

pub returns : goal.returns
returns c =
    let d = decide _ (c.args.self.low -ℤ c.args.other.high) (c.args.self.high -ℤ c.args.other.low) _ _ _ (at_same _ _ c.difference.ensures (c.args.self.low -ℤ c.args.other.high) (omega (arith, ints))) (at_same _ _ c.difference-2.ensures (c.args.self.high -ℤ c.args.other.low) (omega (arith, ints))) (differences c.args.self c.args.other) c.bounded.ensures.ok c.bounded.ensures.err in
    record { spans = d.0; refused = d.1 }
