use Rattle.std.proofs.Common.{◌≡◌, ◌∷◌, ◌++◌, map, take}
use Rattle.asm_eval.proofs.tuple.add.Given as goal

-- the tuples so far
abbrev pub invariant-loop-tuple : goal.invariant-loop-tuple
invariant-loop-tuple l = l.all ≡ l.fn.all ++ map (λ t. l.element ∷ t) (take l.tuple-index l.tuples)
