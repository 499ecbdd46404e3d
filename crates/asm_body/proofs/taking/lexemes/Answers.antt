use Rattle.asm_body.proofs.Making.{in_at, small_at}
use Rattle.asm_body.proofs.taking.lexemes.Goals as goal

pub lexeme-requires-clause-place : goal.lexeme-requires-clause-place
lexeme-requires-clause-place c = in_at c.args.text.now c.args.tokens.now c.tokens.token-index _ c.requires.places c.tokens-test.true

pub lexeme-requires-clause-small : goal.lexeme-requires-clause-small
lexeme-requires-clause-small c = small_at c.args.text.now c.args.tokens.now c.tokens.token-index _ c.requires.small c.tokens-test.true
