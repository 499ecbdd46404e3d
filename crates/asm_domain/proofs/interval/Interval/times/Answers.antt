use Rattle.std.proofs.Common.{◌≡◌, ◌≤ℤ◌, ◌<ℤ◌, ◌*ℤ◌, pos, to_z, of_z, w64, arith}
use Rattle.std.proofs.lemmas.Int.{ints}
use Rattle.asm_domain.proofs.Spanning.{ordered, decide, at_same}
use Rattle.asm_domain.proofs.Products.{multiples_up, multiples_down, product_same, between_multiples_up, between_multiples_down}
use Rattle.asm_domain.proofs.interval.Interval.times.Goals as goal

pub bounded-requires : goal.bounded-requires
bounded-requires c =
    let k : to_z w64 (of_z w64 c.args.factor) ≡ c.args.factor = omega (arith, ints) in
    let l : to_z w64 (of_z w64 c.args.self.low) ≡ c.args.self.low = omega (arith, ints) in
    let h : to_z w64 (of_z w64 c.args.self.high) ≡ c.args.self.high = omega (arith, ints) in
    let at_low = at_same _ _ c.product-at_low.ensures (c.args.factor *ℤ c.args.self.low) (product_same _ _ _ _ k l) in
    let at_high = at_same _ _ c.product-at_high.ensures (c.args.factor *ℤ c.args.self.high) (product_same _ _ _ _ k h) in
    let sign : pos 0 ≤ℤ c.args.factor = omega (arith, ints) in
    ordered _ _ _ _ at_low at_high (between_multiples_up c.args.self c.args.factor sign)

pub returns-then-factor-ge0 : goal.returns-then-factor-ge0
returns-then-factor-ge0 c =
    let k : to_z w64 (of_z w64 c.args.factor) ≡ c.args.factor = omega (arith, ints) in
    let l : to_z w64 (of_z w64 c.args.self.low) ≡ c.args.self.low = omega (arith, ints) in
    let h : to_z w64 (of_z w64 c.args.self.high) ≡ c.args.self.high = omega (arith, ints) in
    let at_low = at_same _ _ c.product-at_low.ensures (c.args.factor *ℤ c.args.self.low) (product_same _ _ _ _ k l) in
    let at_high = at_same _ _ c.product-at_high.ensures (c.args.factor *ℤ c.args.self.high) (product_same _ _ _ _ k h) in
    let sign : pos 0 ≤ℤ c.args.factor = omega (arith, ints) in
    let d = decide _ (c.args.factor *ℤ c.args.self.low) (c.args.factor *ℤ c.args.self.high) _ _ _ at_low at_high (multiples_up c.args.self c.args.factor sign) c.bounded.ensures.ok c.bounded.ensures.err in
    record { spans = d.0; refused = d.1 }

pub bounded-requires-else-factor-ge0 : goal.bounded-requires-else-factor-ge0
bounded-requires-else-factor-ge0 c =
    let k : to_z w64 (of_z w64 c.args.factor) ≡ c.args.factor = omega (arith, ints) in
    let l : to_z w64 (of_z w64 c.args.self.low) ≡ c.args.self.low = omega (arith, ints) in
    let h : to_z w64 (of_z w64 c.args.self.high) ≡ c.args.self.high = omega (arith, ints) in
    let at_low = at_same _ _ c.product-at_low.ensures (c.args.factor *ℤ c.args.self.low) (product_same _ _ _ _ k l) in
    let at_high = at_same _ _ c.product-at_high.ensures (c.args.factor *ℤ c.args.self.high) (product_same _ _ _ _ k h) in
    let sign : c.args.factor <ℤ pos 0 = omega (arith, ints) in
    ordered _ _ _ _ at_high at_low (between_multiples_down c.args.self c.args.factor sign)

pub returns-else-factor-ge0 : goal.returns-else-factor-ge0
returns-else-factor-ge0 c =
    let k : to_z w64 (of_z w64 c.args.factor) ≡ c.args.factor = omega (arith, ints) in
    let l : to_z w64 (of_z w64 c.args.self.low) ≡ c.args.self.low = omega (arith, ints) in
    let h : to_z w64 (of_z w64 c.args.self.high) ≡ c.args.self.high = omega (arith, ints) in
    let at_low = at_same _ _ c.product-at_low.ensures (c.args.factor *ℤ c.args.self.low) (product_same _ _ _ _ k l) in
    let at_high = at_same _ _ c.product-at_high.ensures (c.args.factor *ℤ c.args.self.high) (product_same _ _ _ _ k h) in
    let sign : c.args.factor <ℤ pos 0 = omega (arith, ints) in
    let d = decide _ (c.args.factor *ℤ c.args.self.high) (c.args.factor *ℤ c.args.self.low) _ _ _ at_high at_low (multiples_down c.args.self c.args.factor sign) c.bounded-else-factor-ge0.ensures.ok c.bounded-else-factor-ge0.ensures.err in
    record { spans = d.0; refused = d.1 }
