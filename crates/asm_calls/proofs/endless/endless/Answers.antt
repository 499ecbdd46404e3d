use Rattle.std.proofs.Common.{◌∙◌}
use Rattle.asm_calls.proofs.Bounding.{started, bounded_same}
use Rattle.asm_calls.proofs.endless.endless.Goals as goal

pub rounds-init : goal.rounds-init
rounds-init c = started c.args.graph.now _ (c.into_vec-row.ensures ∙ c.in_ok-long.ensures)

pub returns : goal.returns
returns c = bounded_same c.args.graph.now _ _ c.from_vec.ensures c.rounds.invariant
