use Rattle.asm_body.proofs.Valued.{small_number}
use Rattle.asm_body.proofs.taking.lexeme.Goals as goal

pub value_in-requires-clause-small : goal.value_in-requires-clause-small
value_in-requires-clause-small c = rw c.text_of-word.ensures (λ e. small_number _ c.args.token.now.kind c.requires.place.form c.requires.small e)
