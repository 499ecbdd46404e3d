use Rattle.std.proofs.Common.{[], ap, sym, ◌∙◌}
use Rattle.call_graph.specs.Calls.{has_chain}
use Rattle.call_graph.specs.Rows.{for_each, is_marked_or_calls}
use Rattle.call_graph.proofs.RowSteps.{chains_none, chains_one, chains_step}
use Rattle.call_graph.proofs.rows.chains.Goals as goal

pub returns-then-length-eq0 : goal.returns-then-length-eq0
returns-then-length-eq0 c =
    c.from_vec.ensures ∙ c.in_ok-all.ensures ∙ chains_none c.args.graph.now
    ∙ ap (λ k. for_each c.args.graph.now (has_chain c.args.graph.now k)) (sym c.if-length-eq0.true)

pub loop-init : goal.loop-init
loop-init c = c.in_ok-row.ensures ∙ chains_one c.args.graph.now

pub loop-preserved : goal.loop-preserved
loop-preserved c =
    chains_step c.args.graph.now c.loop.counter c.loop.row.items c.in_ok-row-2.row.items
    c.loop.auto.counter
    c.loop.invariant
    (c.in_ok-row-2.ensures ∙ ap (λ row. for_each c.args.graph.now (is_marked_or_calls c.args.graph.now row [])) c.deref.ensures.value)
