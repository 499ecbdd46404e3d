-- The commands of a scenario in the order in which they are met, where blocks are replaced by their commands.
use Rattle.std.specs.Prelude.{ℕ, Bool as Truth, ◌||◌, nat_lt, List, [], ◌∷◌, ◌++◌, length, Option, Some, None, bytes_eq, if◌then◌else◌}
use Rattle.std.specs.List.{flat_map}
use Rattle.std.specs.Option.{unwrap_or}
use Rattle.asm_tree.specs.declared.script.RawCommand.{RawCommand}
use Rattle.asm_tree.specs.declared.script.RawCommand.TheVariants as command
use Rattle.asm_tree.specs.declared.script.RawScenario.{RawScenario}
use Rattle.asm_tree.specs.declared.script.RawScenarioCommand.{RawScenarioCommand}
use Rattle.asm_tree.specs.declared.script.RawScenarioCommand.TheVariants as scenario
use Rattle.asm_tree.specs.declared.term.RawName.{RawName}
use Rattle.asm_faults.specs.At.{Name}

-- a block that has ended: its name, and its commands, in which no block is left
pub record Block : Type 0 where
  pub name : Name
  pub commands : List RawCommand

-- the commands of the latest block of a name, where the latest block is the first of the list
abbrev pub block_named : List Block → Name → Option (List RawCommand)
block_named [] name = None
block_named (b ∷ blocks) name = if bytes_eq b.name name then Some b.commands else block_named blocks name

-- ---- the commands that are met

-- `execblock` stands for the commands of the block, and for none where there is no such block
abbrev pub unfolded : List Block → RawCommand → List RawCommand
unfolded blocks (command.ExecBlock name) = unwrap_or (block_named blocks name.text) []
unfolded blocks c = c ∷ []

abbrev pub all_unfolded : List Block → List RawCommand → List RawCommand
all_unfolded blocks cs = flat_map (unfolded blocks) cs

abbrev pub block_of : List Block → RawName → List RawCommand → Block
block_of blocks name cs = record { name = name.text; commands = all_unfolded blocks cs }

-- a block runs where it stands, and its name serves from its end on
abbrev pub met_after : List Block → List RawScenarioCommand → List RawCommand
met_after blocks [] = []
met_after blocks (scenario.Plain c ∷ others) = unfolded blocks c ++ met_after blocks others
met_after blocks (scenario.Block name cs ∷ others) = all_unfolded blocks cs ++ met_after (block_of blocks name cs ∷ blocks) others

abbrev pub commands_met : RawScenario → List RawCommand
commands_met s = met_after [] s.commands

-- ---- the commands that are written

abbrev pub written_in : RawScenarioCommand → List RawCommand
written_in (scenario.Plain c) = c ∷ []
written_in (scenario.Block name cs) = cs

abbrev pub commands_written : RawScenario → List RawCommand
commands_written s = flat_map written_in s.commands

-- ---- too long, and missing blocks

abbrev pub block_in : RawScenarioCommand → List RawName
block_in (scenario.Plain c) = []
block_in (scenario.Block name cs) = name ∷ []

abbrev pub most_blocks : ℕ
most_blocks = 64

abbrev pub most_commands : ℕ
most_commands = 100000

-- more than 64 blocks, or more than 100,000 commands are met
abbrev pub is_too_long : RawScenario → Truth
is_too_long s = nat_lt most_blocks (length (flat_map block_in s.commands)) || nat_lt most_commands (length (commands_met s))

abbrev pub unless_found : RawName → Option (List RawCommand) → List RawName
unless_found name None = name ∷ []
unless_found name (Some cs) = []

-- the name of a block that hasn't ended before
abbrev pub missing_in : List Block → RawCommand → List RawName
missing_in blocks (command.ExecBlock name) = unless_found name (block_named blocks name.text)
missing_in blocks c = []

abbrev pub missing_after : List Block → List RawScenarioCommand → List RawName
missing_after blocks [] = []
missing_after blocks (scenario.Plain c ∷ others) = missing_in blocks c ++ missing_after blocks others
missing_after blocks (scenario.Block name cs ∷ others) = flat_map (missing_in blocks) cs ++ missing_after (block_of blocks name cs ∷ blocks) others

abbrev pub first_of : {A : Type 0} → List A → Option A
first_of [] = None
first_of (a ∷ others) = Some a

-- the first name after an `execblock` of which no block has ended before
abbrev pub missing_block : RawScenario → Option RawName
missing_block s = first_of (missing_after [] s.commands)
