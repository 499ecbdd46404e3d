-- The paths at which a rule chooses.
use Rattle.std.specs.Prelude.{◌≡◌, ⊤, IsSome, List, [], ◌∷◌}
use Rattle.asm_node.specs.RuleTree.{Rule}
use Rattle.asm_node.specs.Term.{World}
use Rattle.asm_node.specs.UpdateSet.{UpdateSet}
use Rattle.asm_node.specs.Taking.{Yields, Path, Choosing, outcome, by_paths}

-- something is chosen at each of the paths
abbrev pub AreChosen : Choosing → List Path → Type 0
AreChosen choosing [] = ⊤
AreChosen choosing (path ∷ paths) = IsSome (choosing path) × AreChosen choosing paths

-- the second chooses at each of the paths what the first chooses there
abbrev pub ChoosesAlike : Choosing → Choosing → List Path → Type 0
ChoosesAlike first second [] = ⊤
ChoosesAlike first second (path ∷ paths) = (second path ≡ first path) × ChoosesAlike first second paths

-- the rule chooses at these paths alone, so it gives the set under all that choose the same there
pub record AreSites (w : World) (r : Rule) (choosing : Choosing) (u : UpdateSet) (paths : List Path) : Type 0 where
  pub are_chosen : AreChosen choosing paths
  pub suffice : (other : Choosing) → ChoosesAlike choosing other paths → outcome (by_paths other) w r tt ≡ Yields u tt
