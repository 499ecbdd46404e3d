use Rattle.std.proofs.Common.{◌∙◌, sym, ap, Ok}
use Rattle.std.proofs.lemmas.Result.{err_from_is_err_and}
use Rattle.asm_lex.proofs.Steps.{cuts_at_first, cuts_gap, cuts_token, cuts_bad}
use Rattle.asm_lex.proofs.cutting.lex.Goals as goal

pub pieces-init : goal.pieces-init
pieces-init c = rw c.new-tokens.ensures (cuts_at_first c.args.text.now)

pub returns-in_err-length : goal.returns-in_err-length
returns-in_err-length c =
    let p = err_from_is_err_and c.from_residual.result c.from_residual.ensures.1 in
    let e = cuts_bad c.args.text.now c.pieces.tokens c.pieces.at c.in_err-length.field-0.0 c.pieces.invariant c.pieces-test.true (sym c.in_err-length.ensures.taken) in
    rw (p.1, p.2) (λ h. e)

pub pieces-preserved-in_default-Gap : goal.pieces-preserved-in_default-Gap
pieces-preserved-in_default-Gap c =
    let n = c.in_ok-length.field-0.0 in
    cuts_gap c.args.text.now c.pieces.tokens c.pieces.at n c.pieces.invariant (sym c.in_ok-length.ensures.taken ∙ ap (λ z. Ok (n, z)) c.in_default-Gap.is-1)

pub pieces-preserved : goal.pieces-preserved
pieces-preserved c =
    let n = c.in_ok-length.field-0.0 in
    rw (c.in_ok-push-in_default-Token.ensures.ok)
    (cuts_token c.args.text.now c.pieces.tokens c.pieces.at n c.in_default-Token.kind c.pieces.invariant (sym c.in_ok-length.ensures.taken ∙ ap (λ z. Ok (n, z)) c.in_default-Token.is-1))
