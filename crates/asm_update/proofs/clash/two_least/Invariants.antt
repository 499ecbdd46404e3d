use Rattle.std.proofs.Common.{◌≡◌, take, ◌∷◌}
use Rattle.std.specs.FinSet as set
use Rattle.std.specs.List.{filter}
use Rattle.std.specs.Option.{option_to_list}
use Rattle.asm_domain.specs.declared.value.Value.TheVariants.{Undef}
use Rattle.asm_domain.specs.Universe.{elements}
use Rattle.asm_node.proofs.UpdateSets.{of_list}
use Rattle.asm_update.proofs.clash.two_least.Given as goal

abbrev pub invariant-loop-rank : goal.invariant-loop-rank
invariant-loop-rank l =
    option_to_list l.first ≡ filter (λ v. set.contains (of_list l.pairs) (l.slot, v)) (Undef ∷ take l.rank (elements l.codomain))
