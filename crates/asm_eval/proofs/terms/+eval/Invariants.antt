use Rattle.std.proofs.Common.{◌≡◌, ◌+◌, ◌*◌, List, drop, length, ◌++◌}
use Rattle.asm_domain.specs.declared.value.Value.{Value}
use Rattle.asm_node.specs.Env.{places_of}
use Rattle.asm_node.specs.Machine.{tuples_of}
use Rattle.asm_node.specs.Model.{machine_of}
use Rattle.asm_node.specs.Tree.{plain, plain_all}
use Rattle.asm_node.specs.Term.{Outcome, Gives, and_then, put_tuple, guard_values}
use Rattle.asm_node.specs.Weight.{nodes, nodes_all, weight_of}
use Rattle.asm_eval.specs.Work.{work}
use Rattle.asm_eval.specs.World.{world_in, value_by, values_by}
use Rattle.asm_eval.proofs.terms.+eval.Given as goal

abbrev pub decreases-eval_terms : goal.decreases-eval_terms
decreases-eval_terms g l = work (machine_of l.world.now.model.now) l.left (8 * nodes_all (plain_all l.terms.now) + 2 * weight_of l.env.now + 2)

abbrev pub decreases-eval_guards : goal.decreases-eval_guards
decreases-eval_guards g l = work (machine_of l.world.now.model.now) l.left (8 * nodes (plain l.guard.now.value) + 2 * length l.binders.now + 2 * weight_of l.env.now + 6)

abbrev pub decreases-eval_at : goal.decreases-eval_at
decreases-eval_at g l = work (machine_of l.world.now.model.now) l.left (8 * nodes (plain l.term.now.value) + 2 * length l.binders.now + 2 * weight_of l.env.now + 4)

abbrev pub decreases-eval_read : goal.decreases-eval_read
decreases-eval_read g l = work (machine_of l.world.now.model.now) l.left 3

abbrev pub decreases-eval_call : goal.decreases-eval_call
decreases-eval_call g l = work (machine_of l.world.now.model.now) l.left 2

abbrev pub decreases-eval_term : goal.decreases-eval_term
decreases-eval_term g l = work (machine_of l.world.now.model.now) l.left (8 * nodes (plain l.term.now.value) + 2 * weight_of l.env.now + 1)

abbrev pub decreases-eval_with : goal.decreases-eval_with
decreases-eval_with g l = work (machine_of l.world.now.model.now) l.left (8 * nodes (plain l.term.now.value) + 2 * weight_of l.env.now + 4)

abbrev pub decreases-eval_variable : goal.decreases-eval_variable
decreases-eval_variable g l = work (machine_of l.world.now.model.now) l.left (2 * weight_of l.env.now)

-- the values so far and those of the terms that are left are those of all terms
abbrev pub invariant-eval_terms-loop-term : goal.invariant-eval_terms-loop-term
invariant-eval_terms-loop-term g l =
    let w = world_in (machine_of l.world.model.now) (g.S.Store.state l.world.store.now) l.world.input.now in
    values_by w l.left (places_of l.env) (plain_all l.terms) ≡ and_then (values_by w l.left (places_of l.env) (plain_all (drop l.term-index l.terms))) (λ vs. Gives (l.values ++ vs))

-- the guard's values so far and those for the tuples that are left are those for all tuples
abbrev pub invariant-eval_guards-loop-tuple : goal.invariant-eval_guards-loop-tuple
invariant-eval_guards-loop-tuple g l =
    let w = world_in (machine_of l.world.model.now) (g.S.Store.state l.world.store.now) l.world.input.now in
    let guard : List Value → Outcome Value = λ vs. value_by w l.left (put_tuple l.binders vs (places_of l.env)) (plain l.guard.value) in
    guard_values guard (tuples_of w.machine.signature l.binders) ≡ and_then (guard_values guard (drop l.tuple-index l.tuple-items)) (λ vs. Gives (l.values ++ vs))
