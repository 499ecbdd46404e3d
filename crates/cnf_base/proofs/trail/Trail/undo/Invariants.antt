use Rattle.std.proofs.Common.{◌≡◌, length, take}
use Rattle.cnf_base.specs.Known.{IsTold}
use Rattle.cnf_base.proofs.trail.Trail.undo.Given as goal

abbrev pub invariant-loop-self : goal.invariant-loop-self
invariant-loop-self l = IsTold l.self-inside.values.items l.self-inside.lits.items × (take l.count l.self-inside.lits.items ≡ take l.count l.initial.self-inside.lits.items) × (length l.self-inside.values.items ≡ length l.initial.self-inside.values.items)

abbrev pub decreases-loop-self : goal.decreases-loop-self
decreases-loop-self l = length l.self-inside.lits.items
