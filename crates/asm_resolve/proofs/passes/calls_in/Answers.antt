use Rattle.std.proofs.Common.{◌≡◌, subst}
use Rattle.asm_sign.specs.Vocabulary.{Vocabulary}
use Rattle.asm_faults.specs.First.{noted}
use Rattle.asm_faults.specs.Calls.{call_faults}
use Rattle.asm_resolve.proofs.passes.calls_in.Goals as goal

pub returns : goal.returns
returns c = subst (λ (v : Vocabulary). c.calls.new.first ≡ noted c.args.first.now (call_faults v c.args.units.now)) c.in_ok-known.ensures c.in_ok-calls.ensures
