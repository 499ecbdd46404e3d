-- What the words of a command line ask.
use Rattle.std.specs.Prelude.{ℕ, ◌+◌, ◌-◌, ◌*◌, ◌==◌, Bool, false, ◌&&◌, not, List, [], ◌∷◌, if◌then◌else◌, nat_le, nat_eq, map, Option, Some, None, IsNone, codes, bytes_eq, fold}
use Rattle.std.specs.List.{starts_with, list_all, slice_split}
use Rattle.std.specs.Option.{option_map, unwrap_or}
use denote.Ref.{Bor}
use Rattle.asm_cli.specs.declared.option.Options as option
use Rattle.asm_cli.specs.declared.command.Run.{Run}
use Rattle.asm_cli.specs.declared.command.ScenarioPlay.{ScenarioPlay}
use Rattle.asm_cli.specs.declared.command.Task.{Task}
use Rattle.asm_cli.specs.declared.command.Task.TheVariants as task

-- a word that isn't empty and isn't an option
abbrev pub is_position : List ℕ → Bool
is_position word = not (bytes_eq word []) && not (starts_with nat_eq word (codes "--"))

-- goes on with the value, if there is one
abbrev pub and_then : {A B : Type 0} → Option A → (A → Option B) → Option B
and_then None f = None
and_then (Some a) f = f a

-- ---- numbers

abbrev pub is_digit : ℕ → Bool
is_digit b = nat_le 48 b && nat_le b 57

abbrev pub with_digit : ℕ → ℕ → ℕ
with_digit n b = 10 * n + (b - 48)

-- the number that decimal digits write
abbrev pub number_of : List ℕ → ℕ
number_of digits = fold with_digit 0 digits

abbrev pub leads_with_zero : List ℕ → Bool
leads_with_zero (b ∷ c ∷ bs) = nat_eq b 48
leads_with_zero _ = false

-- digits, at least one, that don't begin with 0 where there are more
abbrev pub is_number : List ℕ → Bool
is_number word = not (bytes_eq word []) && (list_all is_digit word && not (leads_with_zero word))

abbrev pub at_most : ℕ → ℕ → Option ℕ
at_most limit n = if nat_le n limit then Some n else None

-- the number that the word writes, if it is one and is at most the limit
abbrev pub number_up_to : ℕ → List ℕ → Option ℕ
number_up_to limit word = if is_number word then at_most limit (number_of word) else None

-- the numbers, if each of the words writes one that is at most the limit
abbrev pub numbers_among : ℕ → List (List ℕ) → Option (List ℕ)
numbers_among limit [] = Some []
numbers_among limit (word ∷ words) = and_then (number_up_to limit word) (λ n. option_map (λ ns. n ∷ ns) (numbers_among limit words))

-- the numbers that stand between single commas
abbrev pub numbers_up_to : ℕ → List ℕ → Option (List ℕ)
numbers_up_to limit word = numbers_among limit (slice_split (λ b. b == 44) word)

-- ---- options

-- the greatest number of steps, the greatest budget, and the greatest choice word
abbrev pub most_steps : ℕ
most_steps = 100000

abbrev pub most_budget : ℕ
most_budget = 10000000

abbrev pub most_choice : ℕ
most_choice = 4294967295

-- the options of runs and plays, where they are given
pub record Options : Type 0 where
  pub steps : Option ℕ
  pub choices : Option (List ℕ)
  pub budget : Option ℕ

abbrev pub no_options : Options
no_options = record { steps = None; choices = None; budget = None }

-- an option is given at most once
abbrev pub once : {A : Type 0} → Option A → Option A → Option A
once (Some a) value = None
once None value = value

abbrev pub with_steps : Options → Option ℕ → Option Options
with_steps o value = option_map (λ n. record { steps = Some n; choices = o.choices; budget = o.budget }) (once o.steps value)

abbrev pub with_choices : Options → Option (List ℕ) → Option Options
with_choices o value = option_map (λ ws. record { steps = o.steps; choices = Some ws; budget = o.budget }) (once o.choices value)

abbrev pub with_budget : Options → Option ℕ → Option Options
with_budget o value = option_map (λ n. record { steps = o.steps; choices = o.choices; budget = Some n }) (once o.budget value)

-- one more option: `--steps N` with N at most 100,000, `--choices W,W,..` with each W at most 4,294,967,295, or `--budget N` with N at most 10,000,000
abbrev pub with_option : Options → List ℕ → List ℕ → Option Options
with_option o name value =
    if bytes_eq name (codes "--steps") then with_steps o (number_up_to most_steps value)
    else (if bytes_eq name (codes "--choices") then with_choices o (numbers_up_to most_choice value)
    else (if bytes_eq name (codes "--budget") then with_budget o (number_up_to most_budget value)
    else None))

-- options and their values, each in a word of its own
abbrev pub options_from : Options → List (List ℕ) → Option Options
options_from o [] = Some o
options_from o (name ∷ []) = None
options_from o (name ∷ value ∷ words) = and_then (with_option o name value) (λ p. options_from p words)

-- ---- commands

-- a run: the model, the input file where one is named, the number of steps where it is given, and the choice words
pub record Plan : Type 0 where
  pub model : List ℕ
  pub inputs : Option (List ℕ)
  pub steps : Option ℕ
  pub choices : List ℕ

-- a play: the scenario, the choice words, and the greatest number of steps of each `step until`
pub record PlayPlan : Type 0 where
  pub scenario : List ℕ
  pub choices : List ℕ
  pub budget : ℕ

-- what a command line asks: a run of a model, the canonical text of a file, the check of a model, or the play of a scenario
pub data Asked : Type 0 where
  ToRun : (plan : Plan) → Asked
  ToFormat : (model : List ℕ) → Asked
  ToCheck : (model : List ℕ) → Asked
  ToPlay : (plan : PlayPlan) → Asked

-- an option that a command doesn't take
abbrev pub unless_given : Option ℕ → Asked → Option Asked
unless_given (Some n) asked = None
unless_given None asked = Some asked

-- a run takes no budget
abbrev pub planned : List ℕ → Option (List ℕ) → Options → Option Asked
planned model inputs o = unless_given o.budget (ToRun (record { model = model; inputs = inputs; steps = o.steps; choices = unwrap_or o.choices [] }))

-- a run of the model with these options behind its files
abbrev pub run_with : List ℕ → Option (List ℕ) → List (List ℕ) → Option Asked
run_with model inputs words = and_then (options_from no_options words) (planned model inputs)

-- behind the model: an input file, where a word isn't an option, and then options
abbrev pub run_of_model : List ℕ → List (List ℕ) → Option Asked
run_of_model model [] = run_with model None []
run_of_model model (word ∷ words) = if is_position word then run_with model (Some word) words else run_with model None (word ∷ words)

-- `run MODEL [INPUTS] [--steps N] [--choices W,W,..]`, options in any order
abbrev pub run_asked : List (List ℕ) → Option Asked
run_asked [] = None
run_asked (model ∷ words) = if is_position model then run_of_model model words else None

-- the budget where none is given
abbrev pub usual_budget : ℕ
usual_budget = 1000

-- a play takes no number of steps
abbrev pub play_planned : List ℕ → Options → Option Asked
play_planned scenario o = unless_given o.steps (ToPlay (record { scenario = scenario; choices = unwrap_or o.choices []; budget = unwrap_or o.budget usual_budget }))

-- `play SCENARIO [--choices W,W,..] [--budget N]`, options in any order
abbrev pub play_asked : List (List ℕ) → Option Asked
play_asked [] = None
play_asked (scenario ∷ words) = if is_position scenario then and_then (options_from no_options words) (play_planned scenario) else None

-- one file alone
abbrev pub file_asked : (List ℕ → Asked) → List (List ℕ) → Option Asked
file_asked task (model ∷ []) = if is_position model then Some (task model) else None
file_asked task _ = None

-- a command and the words behind it
abbrev pub command_asked : List ℕ → List (List ℕ) → Option Asked
command_asked word words =
    if bytes_eq word (codes "run") then run_asked words
    else (if bytes_eq word (codes "format") then file_asked ToFormat words
    else (if bytes_eq word (codes "check") then file_asked ToCheck words
    else (if bytes_eq word (codes "play") then play_asked words
    else None)))

-- `check MODEL`, `format MODEL`, a run or a play; nothing else is asked
abbrev pub asked_of : List (List ℕ) → Option Asked
asked_of [] = None
asked_of (word ∷ words) = command_asked word words

-- the words aren't in the grammar
abbrev pub IsBadWords : List (List ℕ) → Type 0
IsBadWords words = IsNone (asked_of words)

-- what references to texts point to
abbrev pub texts : List (Bor (List ℕ)) → List (List ℕ)
texts words = map (λ word. word.now) words

-- what the program's values ask
abbrev pub options_seen : option.Options → Options
options_seen o = record { steps = o.steps; choices = o.choices; budget = o.budget }

abbrev pub name_seen : Option (Bor (List ℕ)) → Option (List ℕ)
name_seen name = option_map (λ word. word.now) name

abbrev pub plan_seen : Run → Plan
plan_seen run = record { model = run.model.now; inputs = name_seen run.inputs; steps = run.steps; choices = run.choices }

abbrev pub play_plan_seen : ScenarioPlay → PlayPlan
play_plan_seen plan = record { scenario = plan.scenario.now; choices = plan.choices; budget = plan.budget }

abbrev pub seen : Task → Asked
seen (task.Run run) = ToRun (plan_seen run)
seen (task.Format model) = ToFormat model.now
seen (task.Check model) = ToCheck model.now
seen (task.Play plan) = ToPlay (play_plan_seen plan)
