-- Blocks that have ended, as parts of the commands that are met so far.
use Rattle.std.specs.Prelude.{◌≡◌, ◌≤◌, ◌<◌, ℕ, ⊤, ◌+◌, ◌++◌, All, List, ◌∷◌, length, take, drop, fold, slice_get, option_to_list, Option, Some, None, bytes_eq, if◌then◌else◌}
use Rattle.std.specs.List.{flat_map}
use Rattle.asm_source.specs.declared.sources.Place.{Place}
use Rattle.asm_faults.specs.At.{Name}
use Rattle.asm_node.specs.Machine.{Machine}
use Rattle.asm_faults.specs.declared.error.ModelError.{ModelError}
use Rattle.asm_faults.specs.declared.error.ModelError.TheVariants as failure
use Rattle.asm_tree.specs.declared.script.RawCommand.{RawCommand}
use Rattle.asm_tree.specs.declared.script.RawScenarioCommand.{RawScenarioCommand}
use Rattle.asm_tree.specs.declared.script.RawScenarioCommand.TheVariants as scenario
use Rattle.asm_tree.specs.declared.term.RawName.{RawName}
use Rattle.avalla_command.specs.Acts.{Act, IsAct}
use Rattle.avalla_prepare.specs.declared.blocks.Ended.{Ended}
use Rattle.avalla_prepare.specs.declared.error.ScenarioError.{ScenarioError}
use Rattle.avalla_prepare.specs.declared.error.ScenarioError.TheVariants.{NoBlock, BadSet, Model, TooLong, Memory}
use Rattle.avalla_prepare.specs.Prepared.{AreActsOf}
use Rattle.avalla_prepare.specs.Scenario.{Block, block_named, block_of, unfolded, all_unfolded, missing_in, first_of, most_commands}

-- ---- names

-- a block of the name in place of an earlier one
abbrev pub later : Name → Option (ℕ × ℕ) → Ended → Option (ℕ × ℕ)
later name found b = if bytes_eq b.name.now name then Some (b.from, b.to) else found

-- the places of the commands of the latest block of a name, where the latest block is the last of the list
abbrev pub latest : List Ended → Name → Option (ℕ × ℕ)
latest blocks name = fold (later name) None blocks

-- the same after a command of a scenario, whose commands are at these places
abbrev pub latest_by : RawScenarioCommand → ℕ × ℕ → Name → Option (ℕ × ℕ) → Option (ℕ × ℕ)
latest_by (scenario.Plain c) places name found = found
latest_by (scenario.Block n cs) places name found = if bytes_eq n.text name then Some places else found

-- ---- one command of a scenario

-- the commands that are met by it
abbrev pub met_by : List Block → RawScenarioCommand → List RawCommand
met_by blocks (scenario.Plain c) = unfolded blocks c
met_by blocks (scenario.Block name cs) = all_unfolded blocks cs

-- the blocks that have ended after it
abbrev pub ended_by : List Block → RawScenarioCommand → List Block
ended_by blocks (scenario.Plain c) = blocks
ended_by blocks (scenario.Block name cs) = block_of blocks name cs ∷ blocks

-- the names of missing blocks in it
abbrev pub missing_by : List Block → RawScenarioCommand → List RawName
missing_by blocks (scenario.Plain c) = missing_in blocks c
missing_by blocks (scenario.Block name cs) = flat_map (missing_in blocks) cs

-- what was there before, else the first of the list
abbrev pub or_first : {A : Type 0} → Option A → List A → Option A
or_first (Some a) others = Some a
or_first None others = first_of others

-- ---- how many commands

-- as many places as the block has commands
abbrev pub IsSize : Option (ℕ × ℕ) → Option (List RawCommand) → Type 0
IsSize None None = ⊤
IsSize (Some p) (Some cs) = p.0 + length cs ≡ p.1
IsSize _ _ = ⊥

-- each block has as many places as commands
pub record AreSizes (blocks : List Block) (places : Name → Option (ℕ × ℕ)) : Type 0 where
  pub size : (name : Name) → IsSize (places name) (block_named blocks name)

-- the number, if no more than 100,000
abbrev pub Counts : Option ℕ → ℕ → Type 0
Counts (Some n) number = (n ≡ number) × (number ≤ most_commands)
Counts None number = most_commands < number

-- where so many commands are met that the scenario is too long, this is told; of want of memory nothing is said
abbrev pub EndsSurvey : ℕ → ℕ → ScenarioError → Type 0
EndsSurvey file met (TooLong n) = (n ≡ file) × (most_commands < met)
EndsSurvey file met Memory = ⊤
EndsSurvey file met (NoBlock name place) = ⊥
EndsSurvey file met (BadSet name place) = ⊥
EndsSurvey file met (Model e) = ⊥

-- a missing block of this name is told; of want of memory nothing is said
abbrev pub IsNoBlock : RawName → Place → ScenarioError → Type 0
IsNoBlock of place (NoBlock name at) = (name ≡ of.text) × (at ≡ place)
IsNoBlock of place Memory = ⊤
IsNoBlock of place (BadSet name at) = ⊥
IsNoBlock of place (Model e) = ⊥
IsNoBlock of place (TooLong n) = ⊥

-- a fault of a condition or a rule is told as it is
abbrev pub told : ModelError → ScenarioError
told (failure.Fault kind name place) = Model (failure.Fault kind name place)
told failure.Memory = Memory

-- ---- what the commands do

-- the act at a place, if there is one
abbrev pub at_place : List Act → ℕ → List Act
at_place acts place = option_to_list (slice_get acts place)

-- the acts at these places are what the commands do
pub record IsPart (m : Machine) (file : ℕ) (acts : List Act) (places : ℕ × ℕ) (cs : List RawCommand) : Type 0 where
  pub ordered : places.0 ≤ places.1
  pub within : places.1 ≤ length acts
  pub are : AreActsOf m file cs (drop places.0 (take places.1 acts))

abbrev pub IsPlaced : Machine → ℕ → List Act → Option (ℕ × ℕ) → Option (List RawCommand) → Type 0
IsPlaced m file acts None None = ⊤
IsPlaced m file acts (Some p) (Some cs) = IsPart m file acts p cs
IsPlaced m file acts _ _ = ⊥

-- the acts at the places of each block are what its commands do
pub record ArePlaced (m : Machine) (file : ℕ) (acts : List Act) (blocks : List Block) (places : Name → Option (ℕ × ℕ)) : Type 0 where
  pub placed : (name : Name) → IsPlaced m file acts (places name) (block_named blocks name)

-- what the commands do was added at the end, and is the model's if all acts before were so
pub record Grows (m : Machine) (file : ℕ) (cs : List RawCommand) (acts_before acts : List Act) : Type 0 where
  pub more : List Act
  pub acts_are : acts ≡ acts_before ++ more
  pub are : AreActsOf m file cs more
  pub sound : All (IsAct m) acts_before → All (IsAct m) more
