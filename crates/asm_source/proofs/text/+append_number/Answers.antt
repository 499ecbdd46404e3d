use Rattle.std.proofs.Common.{◌≡◌, ◌+◌, ◌%◌, [], ◌∷◌, ap, sym, ◌∙◌, arith}
use Rattle.std.specs.Fmt.{decimal}
use Rattle.std.proofs.lemmas.Fmt.{decimal_digit, decimal_step}
use Rattle.std.proofs.lemmas.Result.{err_from_is_err_and}
use Rattle.asm_source.proofs.Appending.{appends_stopped, appends_after, appends_whole}
use Rattle.asm_source.proofs.text.+append_number.Goals as goal

pub returns-then-number-lt10 : goal.returns-then-number-lt10
returns-then-number-lt10 t c =
    let n = c.args.number in
    let last : n % 10 ≡ n = omega arith in
    let is : decimal n ≡ (48 + n % 10) ∷ [] = decimal_digit n c.if-number-lt10.true ∙ ap (λ m. (48 + m) ∷ []) (sym last) in
    rw is (appends_whole _ _ _ c.push.result c.push.ensures.ok c.push.ensures.err)

pub returns-in_err-append_number : goal.returns-in_err-append_number
returns-in_err-append_number t c =
    let p = err_from_is_err_and c.from_residual.result c.from_residual.ensures.1 in
    rw (p.1, decimal_step c.args.number c.if-number-lt10.false c.ranges.number.fits) (appends_stopped _ _ _ _ _ c.in_err-append_number.ensures)

pub returns : goal.returns
returns t c =
    rw (decimal_step c.args.number c.if-number-lt10.false c.ranges.number.fits)
    (appends_after _ _ _ _ _ c.push-2.result c.in_ok-append_number.ensures.ok
    (appends_whole _ _ _ c.push-2.result c.push-2.ensures.ok c.push-2.ensures.err))
