use Rattle.std.proofs.Common.{sym, ◌∙◌}
use Rattle.asm_calls.proofs.Bounding.{not_looping}
use Rattle.asm_calls.proofs.Chaining.{looping_far}
use Rattle.asm_calls.proofs.graphs.is_looping.Goals as goal

pub returns-then-not-is_in : goal.returns-then-not-is_in
returns-then-not-is_in c = λ far le. not_looping c.args.graph.now c.args.long.now c.args.number far c.requires (sym c.is_in.ensures ∙ c.if-not-is_in.true)

pub returns : goal.returns
returns c = looping_far c.args.graph.now c.args.number c.in_ok-found.found c.in_ok-found.ensures.value c.in_ok-found.ensures.never
