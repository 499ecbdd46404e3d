use Rattle.std.proofs.Common.{◌≡◌, map, take}
use Rattle.asm_calls.specs.Graphs.{node_at}
use Rattle.asm_calls.proofs.graphs.function_graph.Given as goal

abbrev pub invariant-places : goal.invariant-places
invariant-places l = l.graph ≡ map (node_at l.definitions) (take l.place-index l.places)
