use Rattle.std.proofs.Common.{◌≡◌, ◌+◌, ◌*◌, ℕ, List, [], ◌∷◌, ◌++◌, drop}
use Rattle.std.specs.FinSet as set
use Rattle.asm_domain.specs.declared.value.Value.{Value}
use Rattle.asm_node.specs.declared.path.Step.TheVariants.{Bound}
use Rattle.asm_node.specs.Env.{places_of}
use Rattle.asm_node.specs.Machine.{tuples_of}
use Rattle.asm_node.specs.Model.{machine_of}
use Rattle.asm_node.specs.RuleTree.{plain_rule, plain_rules}
use Rattle.asm_node.specs.Taking.{Path, Pick, Attempt, taken, taken_all, bodies_within, guarded, each}
use Rattle.asm_node.specs.Term.{put_tuple, val}
use Rattle.asm_node.specs.Tree.{plain}
use Rattle.asm_node.specs.UpdateSet.{UpdateSet}
use Rattle.asm_eval.specs.World.{world_in}
use Rattle.asm_fire.specs.Chooser.{Stay}
use Rattle.asm_fire.specs.Work.{parts, parts_all, taking}
use Rattle.asm_fire.proofs.taking.+fire.Given as goal

abbrev pub decreases-fire_rule : goal.decreases-fire_rule
decreases-fire_rule g l = taking (machine_of l.world.now.model.now) l.count (8 * parts (plain_rule l.rule.now.value) + 1)

abbrev pub decreases-fire_part : goal.decreases-fire_part
decreases-fire_part g l = taking (machine_of l.world.now.model.now) l.count (8 * parts (plain_rule l.rule.now.value) + 2)

abbrev pub decreases-fire_after : goal.decreases-fire_after
decreases-fire_after g l = taking (machine_of l.world.now.model.now) l.count (8 * parts (plain_rule l.second.now.value) + 3)

abbrev pub decreases-fire_all : goal.decreases-fire_all
decreases-fire_all g l = taking (machine_of l.world.now.model.now) l.count (8 * parts_all (plain_rules l.rules.now) + 3)

abbrev pub decreases-fire_call : goal.decreases-fire_call
decreases-fire_call g l = taking (machine_of l.world.now.model.now) l.count 3

abbrev pub decreases-fire_chosen : goal.decreases-fire_chosen
decreases-fire_chosen g l = taking (machine_of l.world.now.model.now) l.count (8 * parts (plain_rule l.body.now.value) + 5)

abbrev pub decreases-fire_forall : goal.decreases-fire_forall
decreases-fire_forall g l = taking (machine_of l.world.now.model.now) l.count (8 * parts (plain_rule l.body.now.value) + 5)

abbrev pub decreases-fire_at : goal.decreases-fire_at
decreases-fire_at g l = taking (machine_of l.world.now.model.now) l.count (8 * parts (plain_rule l.body.now.value) + 4)

abbrev pub decreases-fire_guarded : goal.decreases-fire_guarded
decreases-fire_guarded g l = taking (machine_of l.world.now.model.now) l.count (8 * parts (plain_rule l.body.now.value) + 3)

abbrev pub decreases-fire_bound : goal.decreases-fire_bound
decreases-fire_bound g l = taking (machine_of l.world.now.model.now) l.count (8 * parts (plain_rule l.rule.now.value) + 3)

abbrev pub decreases-fire_with : goal.decreases-fire_with
decreases-fire_with g l = taking (machine_of l.world.now.model.now) l.count (8 * parts (plain_rule l.rule.now.value) + 3)

-- the set so far and the rules that are left give what all rules give
abbrev pub invariant-fire_all-loop-number : goal.invariant-fire_all-loop-number
invariant-fire_all-loop-number g l =
    let w = world_in (machine_of l.world.model.now) (g.S.Store.state l.world.store.now) l.world.input.now in
    ((pick : Pick (List ℕ)) (path : Path) → g.C.Chooser.ways l.initial.chooser pick path → taken_all pick (bodies_within pick l.count) path 0 w (places_of l.env) (plain_rules l.rules) set.empty (g.C.Chooser.words l.initial.chooser) ≡ taken_all pick (bodies_within pick l.count) path l.number w (places_of l.env) (plain_rules (drop l.number l.rules)) l.all (g.C.Chooser.words l.chooser))
    × Stay (g.C.Chooser.ways l.initial.chooser) (g.C.Chooser.ways l.chooser)
    × (g.C.Chooser.kept l.chooser ≡ g.C.Chooser.kept l.initial.chooser)

-- the set so far and the instances that are left give what all give
abbrev pub invariant-fire_forall-loop-tuple : goal.invariant-fire_forall-loop-tuple
invariant-fire_forall-loop-tuple g l =
    let w = world_in (machine_of l.world.model.now) (g.S.Store.state l.world.store.now) l.world.input.now in
    let one : Pick (List ℕ) → Path → List Value → List ℕ → Attempt (List ℕ) UpdateSet = λ pick path vs ws. guarded l.place (val w (put_tuple l.binders vs (places_of l.env)) (plain l.guard.value)) (taken pick (bodies_within pick l.count) (path ++ Bound vs ∷ []) w (put_tuple l.binders vs (places_of l.env)) (plain_rule l.body.value) ws) ws in
    ((pick : Pick (List ℕ)) (path : Path) → g.C.Chooser.ways l.initial.chooser pick path → each (one pick path) (tuples_of w.machine.signature l.binders) set.empty (g.C.Chooser.words l.initial.chooser) ≡ each (one pick path) (drop l.tuple-index l.tuple-items) l.all (g.C.Chooser.words l.chooser))
    × Stay (g.C.Chooser.ways l.initial.chooser) (g.C.Chooser.ways l.chooser)
    × (g.C.Chooser.kept l.chooser ≡ g.C.Chooser.kept l.initial.chooser)
