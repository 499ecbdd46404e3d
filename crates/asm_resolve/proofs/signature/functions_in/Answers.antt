use Rattle.asm_resolve.proofs.Passing.{none_noted}
use Rattle.asm_resolve.proofs.signature.functions_in.Goals as goal

pub returns-clause-faultless : goal.returns-clause-faultless
returns-clause-faultless c = none_noted c.new-first.result c.functions.new.first _ c.new-first.ensures c.in_ok-functions.ensures c.in_ok-settle.ensures.ok
