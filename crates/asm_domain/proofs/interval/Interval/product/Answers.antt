use Rattle.std.proofs.Common.{◌≡◌, to_z, of_z, w64, refl, arith}
use Rattle.std.proofs.lemmas.Int.{ints}
use Rattle.std.proofs.lemmas.Result.{err_from_is_err_and}
use Rattle.asm_domain.proofs.Products.{wide_at_low, wide_at_high, decide_product, wide_same, spans_same}
use Rattle.asm_domain.proofs.interval.Interval.product.Goals as goal

pub returns-in_err-at_low-clause-refused : goal.returns-in_err-at_low-clause-refused
returns-in_err-at_low-clause-refused c =
    let p = err_from_is_err_and c.from_residual.result c.from_residual.ensures.1 in
    let l : to_z w64 (of_z w64 c.args.self.low) ≡ c.args.self.low = omega (arith, ints) in
    rw p.1 (λ e. wide_at_low c.args.self c.args.other (wide_same c.args.other _ _ l (c.in_err-at_low.ensures.refused.0 refl)), λ w. refl)

pub returns-in_err-at_high-clause-refused : goal.returns-in_err-at_high-clause-refused
returns-in_err-at_high-clause-refused c =
    let p = err_from_is_err_and c.from_residual-in_err-at_high.result c.from_residual-in_err-at_high.ensures.1 in
    let h : to_z w64 (of_z w64 c.args.self.high) ≡ c.args.self.high = omega (arith, ints) in
    rw p.1 (λ e. wide_at_high c.args.self c.args.other (wide_same c.args.other _ _ h (c.in_err-at_high.ensures.refused.0 refl)), λ w. refl)

pub returns : goal.returns
returns c =
    let l : to_z w64 (of_z w64 c.args.self.low) ≡ c.args.self.low = omega (arith, ints) in
    let h : to_z w64 (of_z w64 c.args.self.high) ≡ c.args.self.high = omega (arith, ints) in
    let d = decide_product c.args.self c.args.other c.in_ok-at_low.at_low c.in_ok-at_high.at_high (spans_same c.args.other c.in_ok-at_low.at_low _ _ l c.in_ok-at_low.ensures.spans) (spans_same c.args.other c.in_ok-at_high.at_high _ _ h c.in_ok-at_high.ensures.spans) c.hull.result c.hull.ensures.spans c.hull.ensures.refused in
    record { spans = d.0; refused = d.1 }
