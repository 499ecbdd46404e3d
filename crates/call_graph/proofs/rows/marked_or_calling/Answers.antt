use Rattle.std.proofs.Common.{◌≡◌, ◌<◌, ◌||◌, List, length, get_or, ap, ◌∙◌, arith}
use Rattle.std.proofs.lemmas.List.{get_or_read}
use Rattle.call_graph.specs.declared.graph.Node.{Node}
use Rattle.call_graph.specs.Calls.{no_node, is_in, calls_of}
use Rattle.call_graph.specs.Rows.{calls_into, is_marked_or_calls}
use Rattle.call_graph.proofs.RowSteps.{grown}
use Rattle.call_graph.proofs.rows.marked_or_calling.Goals as goal

pub loop-number-preserved : goal.loop-number-preserved
loop-number-preserved c =
    let s = c.slice-node-items.ensures in
    let e = ap length s in
    let lt : c.loop-number.number < length c.slice-node-items.result.now = omega arith in
    let read : c.node-item.result ≡ get_or c.args.graph.now c.loop-number.number no_node =
    get_or_read c.slice-node-items.result.now c.loop-number.number c.node-item.result lt c.node-item.is no_node
    ∙ ap (λ (g : List Node). get_or g c.loop-number.number no_node) s in
    grown (is_marked_or_calls c.args.graph.now c.args.row.now c.args.marked.now) c.loop-number.number c.loop-number.next.items c.push.new.self.items c.is_marked_or_calls.result
    c.loop-number.invariant
    c.in_ok-push.ensures.items
    (c.is_marked_or_calls.ensures ∙ ap (λ (x : Node). is_in c.args.marked.now c.loop-number.number || calls_into c.args.row.now c.args.marked.now (calls_of x)) read)
