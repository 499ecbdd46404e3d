-- What a play prints, and how it ends.
use Rattle.std.specs.Prelude.{ℕ, List, ◌++◌, Result, Ok, Err, codes}
use Rattle.asm_source.specs.declared.sources.Source.{Source}
use Rattle.asm_node.specs.declared.stop.Stop.{Stop}
use Rattle.asm_node.specs.Machine.{Machine, State, no_input}
use Rattle.asm_node.specs.Step.{initial, broken}
use Rattle.asm_run.specs.Printed.{numbered_state}
use Rattle.asm_text.specs.Texts.{line, stop_line}
use Rattle.avalla_play.specs.declared.playing.Played.{Played}
use Rattle.avalla_play.specs.declared.playing.Played.TheVariants.{Passed, Stopped}
use Rattle.avalla_command.specs.Acts.{Act}
use Rattle.avalla_play.specs.Moves.{Point, Ended, Move, after, then_move, unless_broken, all_acted}

-- a text, how the play ends that it tells of, and the choice words that are left then
pub record Printed : Type 0 where
  pub text : List ℕ
  pub end : Played
  pub words : List ℕ

-- where no command is left, the play has passed
abbrev pub passed_unless : List ℕ → Result Point Ended → Printed
passed_unless text (Ok p) = record { text = text ++ line (codes "passed"); end = Passed; words = p.words }
passed_unless text (Err ended) = record { text = text; end = ended.end; words = ended.words }

abbrev pub finished : Move → Printed
finished m = passed_unless m.text m.to

-- state 0, in which nothing is set and no check was met
abbrev pub first_point : State → List ℕ → Point
first_point s words = record { number = 0; state = s; input = no_input; words = words; checks = 0 }

-- state 0 is printed, also where an invariant is false in it, and then what the commands do
abbrev pub from_start : Machine → List Source → ℕ → List Act → Point → Move
from_start m sources budget acts p =
    after (numbered_state m 0 p.state) (then_move (unless_broken m sources (broken m p.state) p) (all_acted m sources budget acts))

-- where an initial value is bad no state is printed
abbrev pub begun : Machine → List Source → List ℕ → Result State Stop → (State → Printed) → Printed
begun m sources words (Ok s) more = more s
begun m sources words (Err e) more = record { text = stop_line m.signature sources e; end = Stopped e; words = words }

-- the play of these commands from the initial state, with this budget for each `step until`
abbrev pub play_of : Machine → List Source → List Act → List ℕ → ℕ → Printed
play_of m sources acts words budget = begun m sources words (initial m) (λ s. finished (from_start m sources budget acts (first_point s words)))
