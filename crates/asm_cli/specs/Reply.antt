-- What a call that prints an answer does.
use Rattle.std.specs.Prelude.{◌≡◌, ◌≢◌, ◌≤◌, ℕ, List, Option}
use Rattle.asm_io.specs.Outside.{Files, Told, Rose}
use Rattle.asm_cli.specs.declared.exit.Exit.{Exit}
use Rattle.asm_cli.specs.declared.exit.Exit.TheVariants.{ReadFault, WriteFault, Memory}
use Rattle.asm_source.specs.declared.sources.Source.{Source}
use Rattle.asm_unit.specs.declared.error.LoadError.{LoadError}
use Rattle.asm_unit.specs.declared.error.LoadError.TheVariants.{Absent, TooLong, Read, Lex, Parse, ImportCycle, TooManyFiles}
use Rattle.asm_unit.specs.declared.error.LoadError.TheVariants as load
use Rattle.asm_faults.specs.declared.error.ModelError.TheVariants as resolve
use Rattle.avalla_prepare.specs.declared.error.ScenarioError.{ScenarioError}
use Rattle.avalla_prepare.specs.declared.error.ScenarioError.TheVariants.{NoBlock, BadSet, Model}
use Rattle.avalla_prepare.specs.declared.error.ScenarioError.TheVariants as scenario
use Rattle.asm_cli.specs.Fault.{fault_text, scenario_fault_text}
use Rattle.asm_cli.specs.Exit.{OnCode, OnFault}
use Rattle.asm_cli.specs.Answer.{Saying, Says, Prints, PrintsPart}

-- It prints a text of this relation with its code, or ends without a code after a prefix of one. It reads nothing.
pub record Replies {K : Type 0} (written : K → Option (List ℕ)) (faults : K → ℕ) (old new : K) (says : Saying) (exit : Exit) : Type 0 where
  pub answer : OnCode exit (Prints (written old) (written new) says)
  pub prefix : OnFault exit (PrintsPart (written old) (written new) says)
  pub no_read : exit ≡ ReadFault → ⊥
  pub write_fault : exit ≡ WriteFault → Rose (faults old) (faults new)
  pub later : faults old ≤ faults new

-- It ends so and does nothing.
pub record EndsQuiet {K : Type 0} (written : K → Option (List ℕ)) (faults : K → ℕ) (old new : K) (end exit : Exit) : Type 0 where
  pub exit_is : exit ≡ end
  pub same : new ≡ old

-- It prints the line of a file's fault; after an outside fault or want of memory it ends without a code.
abbrev pub Refuses : {K : Type 0} → (K → Option (List ℕ)) → (K → ℕ) → K → K → List Source → LoadError → Exit → Type 0
Refuses written faults old new sources (Absent name) exit = Replies written faults old new (Says (fault_text sources (Absent name)) 3) exit
Refuses written faults old new sources (TooLong name) exit = Replies written faults old new (Says (fault_text sources (TooLong name)) 3) exit
Refuses written faults old new sources (Read name) exit = EndsQuiet written faults old new ReadFault exit
Refuses written faults old new sources (Lex place e) exit = Replies written faults old new (Says (fault_text sources (Lex place e)) 3) exit
Refuses written faults old new sources (Parse place e) exit = Replies written faults old new (Says (fault_text sources (Parse place e)) 3) exit
Refuses written faults old new sources (ImportCycle name) exit = Replies written faults old new (Says (fault_text sources (ImportCycle name)) 3) exit
Refuses written faults old new sources (TooManyFiles name) exit = Replies written faults old new (Says (fault_text sources (TooManyFiles name)) 3) exit
Refuses written faults old new sources load.Memory exit = EndsQuiet written faults old new Memory exit

-- It prints the line of what is wrong with a scenario; after want of memory it ends without a code.
abbrev pub RefusesScenario : {K : Type 0} → (K → Option (List ℕ)) → (K → ℕ) → K → K → List Source → ScenarioError → Exit → Type 0
RefusesScenario written faults old new sources (NoBlock name place) exit = Replies written faults old new (Says (scenario_fault_text sources (NoBlock name place)) 3) exit
RefusesScenario written faults old new sources (BadSet name place) exit = Replies written faults old new (Says (scenario_fault_text sources (BadSet name place)) 3) exit
RefusesScenario written faults old new sources (Model (resolve.Fault kind name place)) exit = Replies written faults old new (Says (scenario_fault_text sources (Model (resolve.Fault kind name place))) 3) exit
RefusesScenario written faults old new sources (Model resolve.Memory) exit = EndsQuiet written faults old new Memory exit
RefusesScenario written faults old new sources (scenario.TooLong file) exit = Replies written faults old new (Says (scenario_fault_text sources (scenario.TooLong file)) 3) exit
RefusesScenario written faults old new sources scenario.Memory exit = EndsQuiet written faults old new Memory exit

-- It reads from a shelf, and prints a text of this relation with its code, or ends without a code after a prefix of one. No code is that of bad words, and none is greater than 4.
pub record Serves {S K : Type 0} (files : S → Option Files) (failed : S → ℕ) (written : K → Option (List ℕ)) (faults : K → ℕ) (shelf_old shelf_new : S) (old new : K) (says : Files → Saying) (exit : Exit) : Type 0 where
  pub answer : Told (files shelf_old) (λ held. OnCode exit (Prints (written old) (written new) (says held)))
  pub prefix : Told (files shelf_old) (λ held. OnFault exit (PrintsPart (written old) (written new) (says held)))
  pub good_words : OnCode exit (λ code. code ≢ 2)
  pub few_codes : OnCode exit (λ code. code ≤ 4)
  pub read_fault : exit ≡ ReadFault → Rose (failed shelf_old) (failed shelf_new)
  pub write_fault : exit ≡ WriteFault → Rose (faults old) (faults new)
  pub same_files : files shelf_new ≡ files shelf_old
  pub shelf_later : failed shelf_old ≤ failed shelf_new
  pub sink_later : faults old ≤ faults new
