use Rattle.std.proofs.Common.{◌≡◌, ◌^◌, ◌≤◌, pos, max, unsigned_abs, to_z, of_z, w64, refl, ap, ◌∙◌, arith}
use Rattle.std.proofs.lemmas.Int.{ints}
use Rattle.asm_domain.proofs.Spanning.{at_same}
use Rattle.asm_domain.proofs.Sizes.{sizes_some, sizes_none, most_same}
use Rattle.asm_domain.proofs.interval.Interval.sizes.Goals as goal

pub returns-in-Some : goal.returns-in-Some
returns-in-Some c =
    let low = c.args.self.low in
    let high = c.args.self.high in
    let l : to_z w64 (of_z w64 c.args.self.low) ≡ c.args.self.low = omega (arith, ints) in
    let h : to_z w64 (of_z w64 c.args.self.high) ≡ c.args.self.high = omega (arith, ints) in
    let is_most = most_same _ _ _ _ _ c.max-most.ensures (c.unsigned_abs.ensures.value ∙ ap unsigned_abs l) (c.unsigned_abs-2.ensures.value ∙ ap unsigned_abs h) in
    let at = at_same _ _ c.in-Some.ensures (pos (max (unsigned_abs low) (unsigned_abs high))) is_most in
    let narrow : max (unsigned_abs low) (unsigned_abs high) ≤ 2 ^ 62 = at.given.0 in
    let is : c.in-Some.high ≡ pos (max (unsigned_abs low) (unsigned_abs high)) = at.given.1 in
    let d = sizes_some c.args.self _ c.in-Some.high at (omega (arith, ints)) (omega (arith, ints)) in
    record { spans = d.0; refused = d.1 }

pub returns-in-None : goal.returns-in-None
returns-in-None c =
    let low = c.args.self.low in
    let high = c.args.self.high in
    let l : to_z w64 (of_z w64 c.args.self.low) ≡ c.args.self.low = omega (arith, ints) in
    let h : to_z w64 (of_z w64 c.args.self.high) ≡ c.args.self.high = omega (arith, ints) in
    let is_most = most_same _ _ _ _ _ c.max-most.ensures (c.unsigned_abs.ensures.value ∙ ap unsigned_abs l) (c.unsigned_abs-2.ensures.value ∙ ap unsigned_abs h) in
    let at = at_same _ _ c.in-None.ensures (pos (max (unsigned_abs low) (unsigned_abs high))) is_most in
    record { spans = tt; refused = (λ e. sizes_none c.args.self at, λ w. refl) }
