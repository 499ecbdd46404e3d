use Rattle.asm_resolve.proofs.Signing.{numbered, declared, few}
use Rattle.asm_resolve.proofs.signature.signature.Goals as goal

pub new-requires-clause-declared : goal.new-requires-clause-declared
new-requires-clause-declared c = declared c.args.units.now c.args.domains c.args.functions c.requires.domains c.requires.functions c.requires.faultless

pub new-requires-clause-numbered : goal.new-requires-clause-numbered
new-requires-clause-numbered c = numbered c.args.units.now c.args.domains c.args.functions c.requires.domains

pub new-requires-clause-few : goal.new-requires-clause-few
new-requires-clause-few c = few c.args.units.now c.args.domains c.args.functions c.requires.domains c.requires.functions c.requires.faultless
