-- Whether a guard is true.
use Rattle.std.specs.Prelude.{ℕ, List, Bool as Truth}
use Rattle.asm_source.specs.declared.sources.Place.{Place}
use Rattle.asm_domain.specs.declared.value.Value.{Value}
use Rattle.asm_domain.specs.declared.value.Value.TheVariants.{Bool}
use Rattle.asm_node.specs.declared.stop.Stop.TheVariants.{UndefGuard}
use Rattle.asm_node.specs.Taking.{Attempt, Yields, Faults}

-- one that is `undef` is a fault
abbrev pub truth_of : Place → Value → List ℕ → Attempt (List ℕ) Truth
truth_of place (Bool b) words = Yields b words
truth_of place _ words = Faults (UndefGuard place) words
