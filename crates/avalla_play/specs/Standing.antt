-- Where the code of a play stands, and what its calls answer.
use Rattle.std.specs.Prelude.{◌≡◌, ⊤, ℕ, Bool as Truth, true, false, List, [], Option, Some, None, Result, Ok, Err, if◌then◌else◌}
use Rattle.asm_domain.specs.declared.value.Value.{Value}
use Rattle.asm_source.specs.declared.sources.Source.{Source}
use Rattle.asm_node.specs.declared.stop.Stop.TheVariants as stop
use Rattle.asm_node.specs.Machine.{Machine}
use Rattle.asm_node.specs.Step.{IsInput}
use Rattle.asm_node.specs.Term.{Outcome, Gives, Needs, and_then}
use Rattle.asm_node.specs.Tree.{Tree}
use Rattle.asm_node.specs.Values.{is_true}
use Rattle.asm_text.specs.Texts.{stop_line}
use Rattle.avalla_play.specs.declared.judging.Verdict.{Verdict}
use Rattle.avalla_play.specs.declared.judging.Verdict.TheVariants.{Met, Unmet, Lacks}
use Rattle.avalla_play.specs.declared.playing.Played.{Played}
use Rattle.avalla_play.specs.declared.playing.Played.TheVariants.{Stopped}
use Rattle.avalla_play.specs.declared.stage.Stage.{Stage}
use Rattle.avalla_play.specs.Moves.{Point, Ended, Move, after, ends, judged, stays, step, then_move, worth}

-- the point at which a stage stands, with the words that are left
abbrev pub point_of : Stage → List ℕ → Point
point_of s words = record { number = s.number; state = s.session.state; input = s.input; words = words; checks = s.checks }

-- a step of the machine may be made from here: no invariant is false
pub record IsReady (m : Machine) (s : Stage) : Type 0 where
  pub machine : s.session.machine ≡ m
  pub going : s.session.stopped ≡ None
  pub input : IsInput m s.input

-- a move reaches the stage, and the play goes on from it
pub record Reaches (m : Machine) (s : Stage) (words : List ℕ) (to : Result Point Ended) : Type 0 where
  pub leads : to ≡ Ok (point_of s words)
  pub ready : IsReady m s

-- how the play ends after a move, and the words that are left then; where it doesn't end, the stage that is reached
abbrev pub Lands : Option Played → Machine → Stage → List ℕ → Result Point Ended → Type 0
Lands None m s words to = Reaches m s words to
Lands (Some end) m s words to = to ≡ Err (record { end = end; words = words })

-- ---- false invariants

-- the line of a false invariant
abbrev pub told : Machine → List Source → Option ℕ → List ℕ
told m sources (Some n) = stop_line m.signature sources (stop.Invariant n)
told m sources None = []

-- a false invariant ends the play
abbrev pub end_at : Option ℕ → Option Played
end_at (Some n) = Some (Stopped (stop.Invariant n))
end_at None = None

-- ---- conditions

-- whether a condition of this value is true
abbrev pub truth_of : Outcome Value → Outcome Truth
truth_of o = and_then o (λ v. Gives (is_true v))

abbrev pub verdict_of : Truth → Verdict
verdict_of true = Met
verdict_of false = Unmet

-- what is said of a condition
abbrev pub said : Verdict → Outcome Truth
said Met = Gives true
said Unmet = Gives false
said (Lacks l) = Needs l

-- ---- turns of `step until`

-- tests a condition, and takes a step and does more where it isn't true
abbrev pub tested : Machine → List Source → Tree → Point → (Point → Move) → Move
tested m sources t p more = judged m sources p.words (worth m t p) (λ holds. if holds then stays p else then_move (step m sources m.main p) more)

-- one test, and the step after it
abbrev pub turn_of : Machine → List Source → Tree → Point → Move
turn_of m sources t p = judged m sources p.words (worth m t p) (λ holds. if holds then stays p else step m sources m.main p)

-- what is left to do after a turn: more, or nothing, since the condition is true or the play has ended
abbrev pub rest_of : Option (Option Played) → Stage → List ℕ → (Point → Move) → Move
rest_of None s words more = more (point_of s words)
rest_of (Some None) s words more = stays (point_of s words)
rest_of (Some (Some end)) s words more = ends [] end words

-- the stage after a turn, where the play hasn't ended
abbrev pub IsReadyAfter : Option (Option Played) → Machine → Stage → Type 0
IsReadyAfter None m s = IsReady m s
IsReadyAfter (Some None) m s = IsReady m s
IsReadyAfter (Some (Some end)) m s = ⊤

-- what a turn comes to, whatever is to be done after it
pub record Turns (answer : Option (Option Played)) (m : Machine) (s : Stage) (words : List ℕ) (sources : List Source) (t : Tree) (p : Point) : Type 0 where
  pub comes_to : (more : Point → Move) → tested m sources t p more ≡ after (turn_of m sources t p).text (rest_of answer s words more)
  pub ready : IsReadyAfter answer m s
