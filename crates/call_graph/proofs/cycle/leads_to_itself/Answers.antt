use Rattle.std.proofs.Common.{◌≡◌, ℕ, ◌-◌, [], take, false, ◌++◌, sym, ap, ◌∙◌}
use Rattle.call_graph.specs.Calls.{leads}
use Rattle.call_graph.proofs.Walks.{is_done, starts, skips, visited, fewer, finds, ends}
use Rattle.call_graph.proofs.cycle.leads_to_itself.Goals as goal

pub loop-next-init : goal.loop-next-init
loop-next-init c =
    starts c.args.graph.now c.args.node c.in_ok-visited.visited.items c.in_ok-ahead.ahead.items c.in_ok-visited.ensures (c.in_ok-ahead.ensures.items ∙ c.calls_at.ensures)

pub loop-next-preserved : goal.loop-next-preserved
loop-next-preserved c =
    visited c.args.graph.now c.args.node c.loop-next.visited.items c.loop-next.ahead.items c.pop.new.self.items c.extend_from_slice.new.self.items c.in-Some.next
    c.in-Some.ensures.items
    c.loop-next.invariant
    (sym (ap (λ r. is_done r c.in-Some.next) c.deref.ensures.value) ∙ sym c.is_done.ensures ∙ c.if-is_done.false)
    c.if-next-node.false
    (c.in_ok-extend_from_slice.ensures.items ∙ ap (λ x. c.pop.new.self.items ++ x) c.calls_at-in-Some.ensures)

pub loop-next-preserved-then-is_done : goal.loop-next-preserved-then-is_done
loop-next-preserved-then-is_done c =
    skips c.args.graph.now c.args.node c.loop-next.visited.items c.loop-next.ahead.items c.pop.new.self.items c.in-Some.next
    c.in-Some.ensures.items
    c.loop-next.invariant
    (sym (ap (λ r. is_done r c.in-Some.next) c.deref.ensures.value) ∙ sym c.is_done.ensures ∙ c.if-is_done.true)

pub loop-next-smaller : goal.loop-next-smaller
loop-next-smaller c =
    fewer c.args.graph.now c.loop-next.visited.items c.loop-next.ahead.items c.pop.new.self.items c.extend_from_slice.new.self.items c.in-Some.next
    c.in-Some.ensures.items
    (sym (ap (λ r. is_done r c.in-Some.next) c.deref.ensures.value) ∙ sym c.is_done.ensures ∙ c.if-is_done.false)
    (c.in_ok-extend_from_slice.ensures.items ∙ ap (λ x. c.pop.new.self.items ++ x) c.calls_at-in-Some.ensures)

pub returns-then-next-node-clause-value : goal.returns-then-next-node-clause-value
returns-then-next-node-clause-value c =
    finds c.args.graph.now c.args.node c.loop-next.visited.items c.loop-next.ahead.items c.pop.new.self.items c.in-Some.next
    c.in-Some.ensures.items
    c.loop-next.invariant
    c.if-next-node.true

pub returns : goal.returns
returns c = record {
  value = sym (never _);
  never = λ _. never;
}
  where
    empty : c.loop-next.ahead.items ≡ []
    empty = c.in_default.ensures.items ∙ ap (λ x. x ++ []) (c.in_default.ensures.rest ∙ ap (λ k. take (k - 1) c.loop-next.ahead.items) c.in_default.ensures.cases.0)

    never : (k : ℕ) → leads c.args.graph.now k c.args.node c.args.node ≡ false
    never = ends c.args.graph.now c.args.node c.loop-next.visited.items c.loop-next.ahead.items empty c.loop-next.invariant
