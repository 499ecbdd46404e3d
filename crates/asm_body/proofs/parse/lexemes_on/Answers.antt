use Rattle.std.proofs.Common.{sym}
use Rattle.asm_body.proofs.Parsing.{places_on, small_on, to_end}
use Rattle.asm_body.proofs.parse.lexemes_on.Goals as goal

pub lexemes-requires-clause-places : goal.lexemes-requires-clause-places
lexemes-requires-clause-places c = rw (to_end c.args.from c.args.tokens.now) (places_on c.args.from c.args.text.now c.args.tokens.now c.requires.together)

pub lexemes-requires-clause-small : goal.lexemes-requires-clause-small
lexemes-requires-clause-small c = rw (to_end c.args.from c.args.tokens.now) (small_on c.args.from c.args.text.now c.args.tokens.now c.requires.together)

pub returns : goal.returns
returns c = rw (sym (to_end c.args.from c.args.tokens.now)) c.lexemes.ensures
