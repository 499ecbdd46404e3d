-- What a command line prints, and with which code.
use Rattle.std.specs.Prelude.{◌≡◌, ◌⊎◌, ℕ, List, [], ◌++◌, length, Option, Some, None, Result, Ok, Err, unwrap_or, codes}
use Rattle.asm_io.specs.Outside.{Files, Adds, AddsPart}
use Rattle.asm_source.specs.declared.sources.Place.{Place}
use Rattle.asm_source.specs.declared.sources.Source.{Source}
use Rattle.asm_lex.specs.declared.token.Token.{Token}
use Rattle.asm_tree.specs.declared.script.RawInputs.{RawInputs}
use Rattle.asm_tree.specs.declared.script.RawScenario.{RawScenario}
use Rattle.asm_tree.specs.declared.term.RawName.{RawName}
use Rattle.asm_tree.specs.declared.unit.LoadedUnit.{LoadedUnit}
use Rattle.asm_tree.specs.declared.unit.RawUnit.{RawUnit}
use Rattle.asm_canonical.specs.Units.{canonical}
use Rattle.asm_node.specs.declared.stop.Stop.{Stop}
use Rattle.asm_node.specs.Machine.{Machine, Input}
use Rattle.asm_unit.specs.declared.error.LoadError.{LoadError}
use Rattle.asm_unit.specs.Loading.{Outcome, ended, units_in, unit_in, tokens_in}
use Rattle.avalla_parse.specs.Parsed.{parsed_inputs}
use Rattle.asm_faults.specs.declared.fault.Fault.{Fault}
use Rattle.asm_faults.specs.Check.{model_fault}
use Rattle.asm_resolve.specs.Resolved.{file_of}
use Rattle.asm_renaming.specs.Coded.{coded_machine}
use Rattle.asm_bind.specs.Given.{inputs_of}
use Rattle.asm_run.specs.declared.run.RunEnd.{RunEnd}
use Rattle.asm_run.specs.declared.run.RunEnd.TheVariants.{Done, Stopped}
use Rattle.asm_run.specs.Printed.{Printed, run_of}
use Rattle.avalla_play.specs.declared.playing.Played.{Played}
use Rattle.avalla_play.specs.declared.playing.Played.TheVariants.{Passed, CheckFailed, Budget}
use Rattle.avalla_play.specs.declared.playing.Played.TheVariants as play
use Rattle.avalla_prepare.specs.declared.error.ScenarioError.{ScenarioError}
use Rattle.avalla_prepare.specs.Prepared.{scenario_fault}
use Rattle.asm_cli.specs.Counts.{counts_of, counts_text}
use Rattle.asm_cli.specs.Fault.{model_fault_text, bad_set_text}
use Rattle.asm_cli.specs.Plays.{AreUnitsOfPlay, IsFaultOfPlay, IsChecked, loaded_for, play_under, says_play}
use Rattle.asm_cli.specs.Words.{Asked, ToRun, ToFormat, ToCheck, ToPlay, Plan, PlayPlan, IsBadWords, asked_of}
use Rattle.asm_cli.specs.Saying.{read_as}
pub use Rattle.asm_cli.specs.Saying.{Saying, SaysBytes, Says, says_end, says_outcome, most_input_bytes}

-- ---- models

-- what a model's files come to
abbrev pub loaded : Files → List ℕ → Outcome (List LoadedUnit)
loaded files model = units_in files model []

-- what a file comes to without its imports
abbrev pub alone : Files → List ℕ → Outcome RawUnit
alone files model = unit_in files model []

-- ---- input files

-- a file that gives no input
abbrev pub nothing_given : RawInputs
nothing_given = record { steps = [] }

-- the settings of the file that was read last, of which these are the tokens
abbrev pub settings_of : ℕ → Outcome (List Token) → Outcome RawInputs
settings_of file o = read_as parsed_inputs file o

-- the settings of the input file, which is read after these files; where none is named nothing is given
abbrev pub settings : Files → Option (List ℕ) → List Source → Outcome RawInputs
settings files None sources = ended sources nothing_given
settings files (Some name) sources = settings_of (length sources) (tokens_in files most_input_bytes name sources)

-- ---- what is printed

-- 0 where all steps were made, 4 after a stop
abbrev pub end_code : RunEnd → ℕ
end_code Done = 0
end_code (Stopped e) = 4

-- the canonical text of a unit
abbrev pub says_canonical : List Source → RawUnit → Saying
says_canonical sources unit text code = SaysBytes (canonical unit) 0 text code

-- the line of the first fault of a model, or its counts where there is none
abbrev pub says_faulted : List Source → List LoadedUnit → Option Fault → Saying
says_faulted sources units None text code = Says (counts_text (counts_of units)) 0 text code
says_faulted sources units (Some f) text code = Says (model_fault_text sources f.kind f.name (record { file = file_of units f.unit; at = f.at })) 3 text code

-- what the check of a model finds
abbrev pub says_checked : List Source → List LoadedUnit → Saying
says_checked sources units text code = says_faulted sources units (model_fault units) text code

-- how many steps are made: as many as the plan says, else as many as the input file has
abbrev pub steps_of : Plan → RawInputs → ℕ
steps_of plan raw = unwrap_or plan.steps (length raw.steps)

-- the run of a machine under inputs
abbrev pub run_under : Plan → Machine → List Source → RawInputs → List Input → Printed
run_under plan m sources raw inputs = run_of m sources inputs plan.choices (steps_of plan raw)

-- what a run prints, and its code
pub record SaysRun (run : Printed) (text : List ℕ) (code : ℕ) : Type 0 where
  pub text_is : text ≡ run.text
  pub code_is : code ≡ end_code run.end

-- the place of a bad setting's name in the file of this number
abbrev pub set_place : ℕ → RawName → Place
set_place file name = record { file = file; at = name.at }

-- the run under the inputs that the settings of the file of this number give, or the line of the first bad setting
abbrev pub says_bound : Plan → Machine → ℕ → List Source → RawInputs → Result (List Input) RawName → Saying
says_bound plan m file sources raw (Ok inputs) text code = SaysRun (run_under plan m sources raw inputs) text code
says_bound plan m file sources raw (Err name) text code = Says (bad_set_text sources (set_place file name) name.text) 3 text code

abbrev pub says_given : Plan → Machine → ℕ → List Source → RawInputs → Saying
says_given plan m file sources raw text code = says_bound plan m file sources raw (inputs_of m.signature raw) text code

-- the run of a machine, of which these files were read, under the settings of the input file, or the line of what is wrong first with that
abbrev pub says_settled : Plan → Machine → Files → List Source → Saying
says_settled plan m files sources text code = says_outcome (says_given plan m (length sources)) (settings files plan.inputs sources) text code

-- the run of the model of these units, in which nothing is wrong, or the line of the first thing that is
abbrev pub says_sound : Plan → Files → List Source → List LoadedUnit → Option Fault → Saying
says_sound plan files sources units None text code = says_settled plan (coded_machine units) files sources text code
says_sound plan files sources units (Some f) text code = Says (model_fault_text sources f.kind f.name (record { file = file_of units f.unit; at = f.at })) 3 text code

-- what the run of a model of these units prints
abbrev pub says_run : Plan → Files → List Source → List LoadedUnit → Saying
says_run plan files sources units text code = says_sound plan files sources units (model_fault units) text code

-- what a command prints over these files: the run of a model, the canonical text of one file, what the check of a model finds, or the play of a scenario
abbrev pub says_task : Asked → Files → Saying
says_task (ToRun plan) files text code = says_outcome (says_run plan files) (loaded files plan.model) text code
says_task (ToFormat model) files text code = says_outcome says_canonical (alone files model) text code
says_task (ToCheck model) files text code = says_outcome says_checked (loaded files model) text code
says_task (ToPlay plan) files text code = says_play plan files text code

abbrev pub says_asked : Option Asked → Files → Saying
says_asked None files text code = Says (codes "asmeta: bad arguments") 2 text code
says_asked (Some asked) files text code = says_task asked files text code

-- what these words print over these files, and with which code
abbrev pub answer : List (List ℕ) → Files → Saying
answer words files text code = says_asked (asked_of words) files text code

-- these words print one text over these files, with one code
abbrev pub OneAnswer : Type 0
OneAnswer = (words : List (List ℕ)) (files : Files) (t u : List ℕ) (k l : ℕ) → answer words files t k → answer words files u l → (t ≡ u) × (k ≡ l)

-- ---- causes of the codes

-- the units of a model in which nothing is wrong
pub record IsModel (files : Files) (model : List ℕ) (units : List LoadedUnit) : Type 0 where
  pub units_are : (loaded files model).end ≡ Ok units
  pub no_fault : model_fault units ≡ None

-- the settings of a run's input file
abbrev pub settings_for : Files → Plan → Outcome RawInputs
settings_for files plan = settings files plan.inputs (loaded files plan.model).sources

-- the fault is the first of the files of a model, or, where nothing is wrong with the model, that of the input file
abbrev pub IsFaultOfRun : Plan → Files → LoadError → Type 0
IsFaultOfRun plan files fault =
    ((loaded files plan.model).end ≡ Err fault)
    ⊎ ((units : List LoadedUnit) × IsModel files plan.model units × ((settings_for files plan).end ≡ Err fault))

-- this is the first fault of a file that the command reads
abbrev pub IsFirstFault : Asked → Files → LoadError → Type 0
IsFirstFault (ToRun plan) files fault = IsFaultOfRun plan files fault
IsFirstFault (ToFormat model) files fault = (alone files model).end ≡ Err fault
IsFirstFault (ToCheck model) files fault = (loaded files model).end ≡ Err fault
IsFirstFault (ToPlay plan) files fault = IsFaultOfPlay plan files fault

-- a file that the command reads has a fault
pub record IsRefused (words : List (List ℕ)) (files : Files) : Type 0 where
  pub asked : Asked
  pub fault : LoadError
  pub asked_is : asked_of words ≡ Some asked
  pub is_first : IsFirstFault asked files fault

-- the units of the model that a command looks at whole
abbrev pub AreLoaded : Asked → Files → List LoadedUnit → Type 0
AreLoaded (ToRun plan) files units = (loaded files plan.model).end ≡ Ok units
AreLoaded (ToFormat model) files units = ⊥
AreLoaded (ToCheck model) files units = (loaded files model).end ≡ Ok units
AreLoaded (ToPlay plan) files units = AreUnitsOfPlay plan files units

-- something is wrong with the model to run, to check or to play
pub record IsFaulty (words : List (List ℕ)) (files : Files) : Type 0 where
  pub asked : Asked
  pub units : List LoadedUnit
  pub fault : Fault
  pub asked_is : asked_of words ≡ Some asked
  pub are_loaded : AreLoaded asked files units
  pub fault_is : model_fault units ≡ Some fault

-- the input file of a run of a model is read
pub record IsRead (words : List (List ℕ)) (files : Files) (plan : Plan) (units : List LoadedUnit) (raw : RawInputs) : Type 0 where
  pub asked_is : asked_of words ≡ Some (ToRun plan)
  pub model : IsModel files plan.model units
  pub settings_are : (settings_for files plan).end ≡ Ok raw

-- a setting of the input file is bad
pub record HasBadSet (words : List (List ℕ)) (files : Files) : Type 0 where
  pub plan : Plan
  pub units : List LoadedUnit
  pub raw : RawInputs
  pub name : RawName
  pub is_read : IsRead words files plan units raw
  pub is_bad : inputs_of (coded_machine units).signature raw ≡ Err name

-- something is wrong with the scenario to play
pub record HasBadScenario (words : List (List ℕ)) (files : Files) : Type 0 where
  pub plan : PlayPlan
  pub raw : RawScenario
  pub units : List LoadedUnit
  pub error : ScenarioError
  pub asked_is : asked_of words ≡ Some (ToPlay plan)
  pub is_checked : IsChecked plan files raw units
  pub fault_is : scenario_fault (coded_machine units) 0 raw ≡ Some error

-- a file has a fault, a model has one, a setting is bad, or something is wrong with a scenario
abbrev pub HasFileFault : List (List ℕ) → Files → Type 0
HasFileFault words files = IsRefused words files ⊎ (IsFaulty words files ⊎ (HasBadSet words files ⊎ HasBadScenario words files))

-- the run that the words ask ends so
pub record EndsIn (words : List (List ℕ)) (files : Files) (end : RunEnd) : Type 0 where
  pub plan : Plan
  pub units : List LoadedUnit
  pub raw : RawInputs
  pub inputs : List Input
  pub is_read : IsRead words files plan units raw
  pub are_given : inputs_of (coded_machine units).signature raw ≡ Ok inputs
  pub end_is : (run_under plan (coded_machine units) (settings_for files plan).sources raw inputs).end ≡ end

-- the play that the words ask ends so
pub record PlaysTo (words : List (List ℕ)) (files : Files) (end : Played) : Type 0 where
  pub plan : PlayPlan
  pub raw : RawScenario
  pub units : List LoadedUnit
  pub asked_is : asked_of words ≡ Some (ToPlay plan)
  pub is_checked : IsChecked plan files raw units
  pub is_right : scenario_fault (coded_machine units) 0 raw ≡ None
  pub end_is : (play_under plan (loaded_for files plan raw).sources units raw).end ≡ end

-- the file to format is a unit
pub record IsFormatted (words : List (List ℕ)) (files : Files) : Type 0 where
  pub model : List ℕ
  pub unit : RawUnit
  pub asked_is : asked_of words ≡ Some (ToFormat model)
  pub unit_is : (alone files model).end ≡ Ok unit

-- nothing is wrong with the model to check
pub record IsFaultless (words : List (List ℕ)) (files : Files) : Type 0 where
  pub model : List ℕ
  pub units : List LoadedUnit
  pub asked_is : asked_of words ≡ Some (ToCheck model)
  pub is_model : IsModel files model units

-- the run makes all its steps, the file to format is a unit, nothing is wrong with the model to check, or the scenario passes
abbrev pub IsDone : List (List ℕ) → Files → Type 0
IsDone words files = EndsIn words files Done ⊎ (IsFormatted words files ⊎ (IsFaultless words files ⊎ PlaysTo words files Passed))

-- a check of the scenario fails
abbrev pub HasFailed : List (List ℕ) → Files → Type 0
HasFailed words files = (number : ℕ) × PlaysTo words files (CheckFailed number)

-- the run or the play ends in a stop, or the play has used up its budget
abbrev pub IsStopped : List (List ℕ) → Files → Type 0
IsStopped words files = ((e : Stop) × (EndsIn words files (Stopped e) ⊎ PlaysTo words files (play.Stopped e))) ⊎ PlaysTo words files Budget

-- each code has its cause, and there is no other code
pub data HasCause (words : List (List ℕ)) (files : Files) (code : ℕ) : Type 0 where
  bad_words : IsBadWords words → code ≡ 2 → HasCause words files code
  file_fault : HasFileFault words files → code ≡ 3 → HasCause words files code
  stops : IsStopped words files → code ≡ 4 → HasCause words files code
  fails : HasFailed words files → code ≡ 1 → HasCause words files code
  done : IsDone words files → code ≡ 0 → HasCause words files code

-- ---- what stands written

-- what was written is a text of this relation with this code
pub record Prints (before now : Option (List ℕ)) (says : Saying) (code : ℕ) : Type 0 where
  pub text : List ℕ
  pub adds : Adds before now text
  pub is_said : says text code

-- what was written is nothing, or a prefix of such a text
pub record PrintsPart (before now : Option (List ℕ)) (says : Saying) : Type 0 where
  pub text : List ℕ
  pub adds : AddsPart before now text
  pub is_said : (text ≡ []) ⊎ ((code : ℕ) × says text code)
