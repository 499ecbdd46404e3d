use Rattle.std.proofs.Common.{◌≡◌, ◌++◌, map, take}
use Rattle.asm_node.specs.declared.term.Binder.{Binder}
use Rattle.asm_node.proofs.close_term.bind.Given as goal

-- the variables of the binders so far are added
abbrev pub invariant-loop-binder : goal.invariant-loop-binder
invariant-loop-binder l = l.bound ≡ l.fn.bound ++ map (λ (b : Binder). b.variable) (take l.binder-index l.binders)
