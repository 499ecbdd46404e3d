use Rattle.std.proofs.Common.{◌≡◌, ◌≤◌, ◌++◌, length, take, drop}
use Rattle.avalla_command.specs.Acts.{acts_of}
use Rattle.avalla_prepare.proofs.unfolding.add_again.Given as goal

-- the commands at the places so far were added
abbrev pub invariant-places : goal.invariant-places
invariant-places l = l.from ≤ l.to → l.to ≤ length (acts_of l.fn.order) → acts_of l.order ≡ acts_of l.fn.order ++ drop l.from (take l.place (acts_of l.fn.order))
