use Rattle.asm_typing.proofs.Wanting.{missing_noted}
use Rattle.asm_typing.proofs.missing_pass.each_missing.Goals as goal

pub returns : goal.returns
returns c =
    missing_noted c.args.units.now c.args.known.now c.args.first.now c.undefined.new.first c.last_parts.new.first c.args.defined.now c.requires.known c.requires.defined c.in_ok-undefined.ensures c.in_ok-last_parts.ensures
