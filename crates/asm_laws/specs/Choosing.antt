-- The two ways to choose: by words in the order of evaluation, and by paths.
use Rattle.std.specs.Prelude.{◌≡◌, ℕ, List, [], ◌∷◌, ◌++◌, Some, if◌then◌else◌, nat_lt, length, slice_index_or}
use Rattle.asm_domain.specs.declared.value.Value.{Value}
use Rattle.asm_domain.specs.Universe.{AreDistinct}
use Rattle.asm_node.specs.declared.stop.Stop.TheVariants.{Choice}
use Rattle.asm_node.specs.declared.term.Binder.{Binder}
use Rattle.asm_node.specs.RuleTree.{Rule}
use Rattle.asm_node.specs.Machine.{Machine, tuples_of}
use Rattle.asm_node.specs.Term.{World}
use Rattle.asm_node.specs.UpdateSet.{UpdateSet}
use Rattle.asm_node.specs.Taking.{Yields, Faults, Path, Pick, outcome, by_words, by_paths, Choosing}

-- no tuple of binders stands twice
abbrev pub TuplesDiffer : Machine → Type 0
TuplesDiffer m = (bs : List Binder) → AreDistinct (tuples_of m.signature bs)

-- the rule gives the set under some words, which it takes; whatever words follow are left
pub record GivesByWords (w : World) (r : Rule) (u : UpdateSet) : Type 0 where
  pub words : List ℕ
  pub gives : (rest : List ℕ) → outcome by_words w r (words ++ rest) ≡ Yields u rest

-- by words of which each is below the number of the candidates among which it chooses
abbrev pub by_small_words : Pick (List ℕ)
by_small_words path place found [] = Faults (Choice place) []
by_small_words path place found (word ∷ words) =
    if nat_lt word (length found) then Yields (slice_index_or found word []) words else Faults (Choice place) words

-- the rule gives the set under some such words, which it takes; whatever words follow are left
pub record GivesBySmallWords (w : World) (r : Rule) (u : UpdateSet) : Type 0 where
  pub words : List ℕ
  pub gives : (rest : List ℕ) → outcome by_small_words w r (words ++ rest) ≡ Yields u rest

-- the second chooses where the first chooses, and the same
abbrev pub GivesMore : Choosing → Choosing → Type 0
GivesMore first second = (path : Path) (tuple : List Value) → first path ≡ Some tuple → second path ≡ Some tuple

-- the rule gives the set under some choices at paths
pub record GivesByPaths (w : World) (r : Rule) (u : UpdateSet) : Type 0 where
  pub choosing : Choosing
  pub gives : outcome (by_paths choosing) w r tt ≡ Yields u tt
