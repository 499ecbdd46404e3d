use Rattle.std.proofs.Common.{◌≡◌, ◌+◌, ◌*◌, All, take}
use Rattle.asm_node.specs.Env.{places_of}
use Rattle.asm_node.specs.Pool.{terms_of, HasTerm, HasGrown}
use Rattle.asm_node.specs.Stays.{stays}
use Rattle.asm_node.specs.Term.{close_all}
use Rattle.asm_node.specs.Tree.{plain, plain_all}
use Rattle.asm_node.specs.Weight.{nodes, nodes_all, weight_of}
use Rattle.asm_node.proofs.close_term.+close.Given as goal

abbrev pub decreases-close_below : goal.decreases-close_below
decreases-close_below l = 4 * nodes (plain l.term.now.value) + weight_of l.env.now + 1

abbrev pub decreases-close_each : goal.decreases-close_each
decreases-close_each l = 4 * nodes_all (plain_all l.terms.now) + weight_of l.env.now + 1

abbrev pub decreases-close_in : goal.decreases-close_in
decreases-close_in l = 4 * nodes (plain l.term.now.value) + weight_of l.env.now

abbrev pub decreases-close_under : goal.decreases-close_under
decreases-close_under l = 4 * nodes (plain l.term.now.value) + weight_of l.env.now + 1

abbrev pub decreases-close_variable : goal.decreases-close_variable
decreases-close_variable l = weight_of l.env.now + 2

-- the closed terms so far are nodes of the pool, which has grown
abbrev pub invariant-close_each-loop-term : goal.invariant-close_each-loop-term
invariant-close_each-loop-term l = record {
  nodes : All (λ t. HasTerm (terms_of l.pool) t.value) l.closed;
  terms : plain_all l.closed ≡ close_all (stays l.bound (places_of l.env)) (plain_all (take l.term-index l.terms));
  grown : HasGrown l.fn.pool l.pool;
}
