-- What each command of a scenario does from where a play stands.
use Rattle.std.specs.Prelude.{ℕ, zero, suc, ◌+◌, Bool as Truth, true, false, not, List, [], ◌∷◌, ◌++◌, Option, Some, None, Result, Ok, Err, codes, if◌then◌else◌}
use Rattle.std.specs.FinMap as finite
use Rattle.std.specs.Fmt.{decimal}
use Rattle.asm_domain.specs.declared.value.Value.{Value}
use Rattle.asm_source.specs.declared.sources.Source.{Source}
use Rattle.asm_sign.specs.Vocabulary.{Vocabulary, function_at}
use Rattle.asm_node.specs.declared.stop.Stop.{Stop}
use Rattle.asm_node.specs.declared.stop.Stop.TheVariants as stop
use Rattle.asm_node.specs.Machine.{Machine, State, Input, has_kind, is_shared}
use Rattle.asm_node.specs.RuleTree.{Rule}
use Rattle.asm_node.specs.Step.{next, broken}
use Rattle.asm_node.specs.Term.{Outcome, Gives, Needs, val, nowhere}
use Rattle.asm_node.specs.Tree.{Tree}
use Rattle.asm_node.specs.Values.{is_true}
use Rattle.asm_run.specs.Printed.{numbered_state}
use Rattle.asm_text.specs.Texts.{line, stop_line}
use Rattle.avalla_play.specs.declared.playing.Played.{Played}
use Rattle.avalla_play.specs.declared.playing.Played.TheVariants.{CheckFailed, Stopped, Budget}
use Rattle.avalla_command.specs.Acts.{Act, Sets, Steps, StepsUntil, Checks, Executes}

-- where a play stands: the state and its number, the pending input, the choice words that are left, and how many checks have passed
pub record Point : Type 0 where
  pub number : ℕ
  pub state : State
  pub input : Input
  pub words : List ℕ
  pub checks : ℕ

-- how a play ends, and the choice words that are left then
pub record Ended : Type 0 where
  pub end : Played
  pub words : List ℕ

-- what is printed on the way, and the point that is reached or how the play ends there
pub record Move : Type 0 where
  pub text : List ℕ
  pub to : Result Point Ended

abbrev pub stays : Point → Move
stays p = record { text = []; to = Ok p }

abbrev pub ends : List ℕ → Played → List ℕ → Move
ends text end words = record { text = text; to = Err (record { end = end; words = words }) }

-- text before a move
abbrev pub after : List ℕ → Move → Move
after text m = record { text = text ++ m.text; to = m.to }

abbrev pub onward : Result Point Ended → (Point → Move) → Move
onward (Ok p) more = more p
onward (Err ended) more = record { text = []; to = Err ended }

-- one move, then another from the point that it reaches; the end of a play ends both
abbrev pub then_move : Move → (Point → Move) → Move
then_move m more = after m.text (onward m.to more)

-- a stop ends the play and takes no word
abbrev pub stops : Machine → List Source → Stop → List ℕ → Move
stops m sources e words = ends (stop_line m.signature sources e) (Stopped e) words

-- ---- steps

-- after a step an input keeps its monitored values alone
abbrev pub kept : Vocabulary → Input → Input
kept v i = finite.retain_keys i (λ l. not (has_kind is_shared (function_at v l)))

-- a false invariant ends the play
abbrev pub unless_broken : Machine → List Source → Option ℕ → Point → Move
unless_broken m sources (Some n) p = stops m sources (stop.Invariant n) p.words
unless_broken m sources None p = stays p

-- the point in the next state
abbrev pub point_after : Machine → Point → State × List ℕ → Point
point_after m p q = record { number = p.number + 1; state = q.0; input = kept m.signature p.input; words = q.1; checks = p.checks }

-- the state to which a step leads is printed, also where an invariant is false in it; a step that stops leads nowhere
abbrev pub moved : Machine → List Source → Point → Result (State × List ℕ) Stop → Move
moved m sources p (Ok q) = after (numbered_state m (p.number + 1) q.0) (unless_broken m sources (broken m q.0) (point_after m p q))
moved m sources p (Err e) = stops m sources e p.words

-- a step of a rule under the pending input
abbrev pub step : Machine → List Source → Rule → Point → Move
step m sources r p = moved m sources p (next m p.state p.input p.words r)

-- ---- conditions

-- what a condition comes to: it reads monitored functions from the pending input and all others from the state
abbrev pub worth : Machine → Tree → Point → Outcome Value
worth m t p = val (record { machine = m; state = p.state; input = p.input }) nowhere t

-- goes on with whether the condition is true, which `undef` isn't; where it needs an input that isn't set the play stops
abbrev pub judged : Machine → List Source → List ℕ → Outcome Value → (Truth → Move) → Move
judged m sources words (Gives v) more = more (is_true v)
judged m sources words (Needs l) more = stops m sources (stop.Input l) words

-- ---- commands

-- all steps that the budget allows are taken
abbrev pub spent_line : ℕ → List ℕ
spent_line budget = line (codes "stop: budget " ++ (decimal budget ++ codes " used up"))

abbrev pub spent : ℕ → List ℕ → Move
spent budget words = ends (spent_line budget) Budget words

-- tests the condition, and takes a step and tests again while it isn't true, at most so many times
abbrev pub steps_until : Machine → List Source → ℕ → Tree → ℕ → Point → Move
steps_until m sources budget t zero p = judged m sources p.words (worth m t p) (λ holds. if holds then stays p else spent budget p.words)
steps_until m sources budget t (suc left) p =
    judged m sources p.words (worth m t p) (λ holds. if holds then stays p else then_move (step m sources m.main p) (steps_until m sources budget t left))

-- the line of a check
abbrev pub check_line : ℕ → List ℕ → List ℕ
check_line number verdict = line (codes "check " ++ (decimal number ++ verdict))

-- a check that passes is counted; one that fails ends the play
abbrev pub checked : Point → Truth → Move
checked p true =
    record { text = check_line (p.checks + 1) (codes " passed"); to = Ok (record { number = p.number; state = p.state; input = p.input; words = p.words; checks = p.checks + 1 }) }
checked p false = ends (check_line (p.checks + 1) (codes " failed") ++ line (codes "failed")) (CheckFailed (p.checks + 1)) p.words

-- the pending input gives a slot a value, in place of an earlier one
abbrev pub with_setting : Point → ℕ → Value → Point
with_setting p l v = record { number = p.number; state = p.state; input = finite.insert p.input l v; words = p.words; checks = p.checks }

-- one command
abbrev pub acted : Machine → List Source → ℕ → Act → Point → Move
acted m sources budget (Sets l v) p = stays (with_setting p l v)
acted m sources budget Steps p = step m sources m.main p
acted m sources budget (StepsUntil t) p = steps_until m sources budget t budget p
acted m sources budget (Checks t) p = judged m sources p.words (worth m t p) (checked p)
acted m sources budget (Executes r) p = step m sources r p

-- commands one after the other
abbrev pub all_acted : Machine → List Source → ℕ → List Act → Point → Move
all_acted m sources budget [] p = stays p
all_acted m sources budget (a ∷ acts) p = then_move (acted m sources budget a p) (all_acted m sources budget acts)
