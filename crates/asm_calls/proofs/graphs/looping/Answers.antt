use Rattle.std.proofs.Common.{◌≡◌, ℕ, length, map, ap, ◌∙◌, arith}
use Rattle.std.specs.List.{range_with_len}
use Rattle.call_graph.specs.Calls.{leads}
use Rattle.asm_calls.proofs.Chaining.{grown}
use Rattle.asm_calls.proofs.graphs.looping.Goals as goal

pub nodes-init : goal.nodes-init
nodes-init c = λ far le. c.new-row.ensures

pub nodes-preserved : goal.nodes-preserved
nodes-preserved c =
    λ far le. grown (λ n. leads c.args.graph.now far n n) c.nodes.number c.nodes.row c.push.new.self c.in_ok-found.found (c.nodes.invariant far le) c.in_ok-push.ensures.ok (c.in_ok-found.ensures far le)

pub returns : goal.returns
returns c =
    λ far le. (let done : c.nodes.number ≡ length c.args.graph.now = omega arith in
    c.nodes.invariant far le ∙ ap (λ (k : ℕ). map (λ n. leads c.args.graph.now far n n) (range_with_len 0 k)) done)
