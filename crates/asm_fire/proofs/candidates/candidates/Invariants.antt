use Rattle.std.proofs.Common.{◌≡◌, drop, List, [], ℕ}
use Rattle.asm_domain.specs.declared.value.Value.{Value}
use Rattle.asm_node.specs.Env.{places_of}
use Rattle.asm_node.specs.Model.{machine_of}
use Rattle.asm_node.specs.Taking.{candidates}
use Rattle.asm_node.specs.Term.{Outcome, put_tuple, val}
use Rattle.asm_node.specs.Tree.{plain}
use Rattle.asm_eval.specs.World.{world_in}
use Rattle.asm_fire.proofs.candidates.candidates.Given as goal

-- the candidates so far and the tuples that are left give all candidates
abbrev pub invariant-loop-tuple : goal.invariant-loop-tuple
invariant-loop-tuple g l =
    let guard : List Value → Outcome Value = λ vs. val (world_in (machine_of l.world.model.now) (g.S.Store.state l.world.store.now) l.world.input.now) (put_tuple l.binders vs (places_of l.env)) (plain l.guard.value) in
    (words : List ℕ) → candidates l.place guard l.tuples [] words ≡ candidates l.place guard (drop l.tuple-index l.tuples) l.found words
