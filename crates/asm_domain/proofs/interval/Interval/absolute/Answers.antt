use Rattle.std.proofs.Common.{◌≡◌, pos, max, unsigned_abs, to_z, of_z, w64, ap, ◌∙◌, arith}
use Rattle.std.proofs.lemmas.Int.{ints}
use Rattle.asm_domain.proofs.Spanning.{decide, at_same, narrow_zero}
use Rattle.asm_domain.proofs.Sizes.{size_across, most_same}
use Rattle.asm_domain.proofs.interval.Interval.absolute.Goals as goal

pub returns-else-self-le0 : goal.returns-else-self-le0
returns-else-self-le0 c =
    let low = c.args.self.low in
    let high = c.args.self.high in
    let l : to_z w64 (of_z w64 c.args.self.low) ≡ c.args.self.low = omega (arith, ints) in
    let h : to_z w64 (of_z w64 c.args.self.high) ≡ c.args.self.high = omega (arith, ints) in
    let is_most = most_same _ _ _ _ _ c.max-most.ensures (c.unsigned_abs.ensures.value ∙ ap unsigned_abs l) (c.unsigned_abs-else-self-le0.ensures.value ∙ ap unsigned_abs h) in
    let d = decide _ (pos 0) (pos (max (unsigned_abs low) (unsigned_abs high))) _ _ _ narrow_zero (at_same _ _ c.size.ensures (pos (max (unsigned_abs low) (unsigned_abs high))) is_most) (size_across c.args.self (omega (arith, ints)) (omega (arith, ints))) c.bounded-else-self-le0.ensures.ok c.bounded-else-self-le0.ensures.err in
    record { spans = d.0; refused = d.1 }
