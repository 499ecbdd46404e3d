use Rattle.asm_calls.proofs.Gathering.{rules_made}
use Rattle.asm_calls.proofs.gather.rules_among.Goals as goal

pub returns : goal.returns
returns c = rules_made c.args.known.now c.args.names.now c.args.units.now _ _ c.in_ok-callers.ensures c.in_ok-add_main.ensures
