use Rattle.std.proofs.Common.{◌≡◌, ◌∷◌, map, take}
use Rattle.std.specs.List.{flat_map}
use Rattle.asm_domain.specs.Universe.{elements}
use Rattle.asm_eval.proofs.tuple.preceded.Given as goal

-- those of the elements so far
abbrev pub invariant-loop-rank : goal.invariant-loop-rank
invariant-loop-rank l = l.all ≡ flat_map (λ v. map (λ t. v ∷ t) l.tuples) (take l.rank (elements l.declared.domain))
