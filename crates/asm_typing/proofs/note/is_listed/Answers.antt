use Rattle.asm_typing.proofs.Lookups.{is_some-number_of}
use Rattle.asm_typing.proofs.note.is_listed.Goals as goal

pub returns : goal.returns
returns c = cc (is_some-number_of c.args.names.now c.args.name.now)
