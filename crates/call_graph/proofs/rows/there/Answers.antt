use Rattle.std.proofs.Common.{◌≡◌, ◌<◌, List, length, get_or, ap, ◌∙◌, arith}
use Rattle.std.proofs.lemmas.List.{get_or_read}
use Rattle.call_graph.specs.declared.graph.Node.{Node}
use Rattle.call_graph.specs.Calls.{is_there, no_node}
use Rattle.call_graph.proofs.RowSteps.{grown}
use Rattle.call_graph.proofs.rows.there.Goals as goal

pub loop-node-preserved : goal.loop-node-preserved
loop-node-preserved c =
    let s = c.slice-node-items.ensures in
    let e = ap length s in
    let lt : c.loop-node.node-index < length c.slice-node-items.result.now = omega arith in
    let read : c.node-item.result ≡ get_or c.args.graph.now c.loop-node.node-index no_node =
    get_or_read c.slice-node-items.result.now c.loop-node.node-index c.node-item.result lt c.node-item.is no_node
    ∙ ap (λ (g : List Node). get_or g c.loop-node.node-index no_node) s in
    grown (is_there c.args.graph.now) c.loop-node.node-index c.loop-node.row.items c.push.new.self.items c.node-item.result.there
    c.loop-node.invariant
    c.in_ok-push.ensures.items
    (ap (λ (x : Node). x.there) read)
