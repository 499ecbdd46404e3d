use Rattle.asm_faults.specs.FunctionFaults.{unknown_domain, infinite_domain}
use Rattle.asm_declare.proofs.Owning.{two_noted}
use Rattle.asm_declare.proofs.own.note_argument.Goals as goal

pub returns : goal.returns
returns c = two_noted _ _ _ (unknown_domain c.args.numbers.now c.args.number c.args.argument.now) (infinite_domain c.args.number c.args.argument.now) c.in_ok-note_unknown.ensures c.in_ok-note_infinite.ensures
