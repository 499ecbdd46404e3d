use Rattle.std.proofs.Common.{◌≡◌, map, take, Some}
use Rattle.asm_faults.specs.Calls.{node_of}
use Rattle.asm_calls.specs.declared.caller.Caller.{Caller}
use Rattle.asm_calls.proofs.graphs.rule_graph.Given as goal

abbrev pub invariant-rules : goal.invariant-rules
invariant-rules l = l.graph ≡ map (λ (c : Caller). node_of (Some c.calls)) (take l.rule-index l.rules)
