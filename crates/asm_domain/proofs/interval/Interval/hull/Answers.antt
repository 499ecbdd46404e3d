use Rattle.std.proofs.Common.{arith}
use Rattle.std.specs.Int.{int_min, int_max}
use Rattle.std.proofs.lemmas.Int.{ints, clamps}
use Rattle.asm_domain.proofs.Spanning.{ordered, decide, at_same, both}
use Rattle.asm_domain.proofs.interval.Interval.hull.Goals as goal

pub bounded-requires : goal.bounded-requires
bounded-requires c =
    let o = c.args.self.ordered in
    let o' = c.args.other.ordered in
    ordered (int_min c.args.self.low c.args.other.low) (int_max c.args.self.high c.args.other.high) _ _ (at_same _ _ c.narrow.ensures (int_min c.args.self.low c.args.other.low) (omega (arith, ints, clamps))) (at_same _ _ c.narrow-2.ensures (int_max c.args.self.high c.args.other.high) (omega (arith, ints, clamps))) (omega (arith, ints, clamps))

pub returns : goal.returns
returns c =
    let d = decide _ (int_min c.args.self.low c.args.other.low) (int_max c.args.self.high c.args.other.high) _ _ _ (at_same _ _ c.narrow.ensures (int_min c.args.self.low c.args.other.low) (omega (arith, ints, clamps))) (at_same _ _ c.narrow-2.ensures (int_max c.args.self.high c.args.other.high) (omega (arith, ints, clamps))) (both c.args.self c.args.other) c.bounded.ensures.ok c.bounded.ensures.err in
    record { spans = d.0; refused = d.1 }
