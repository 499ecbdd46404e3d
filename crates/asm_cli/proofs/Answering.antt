-- What follows from an answer.
use Rattle.std.proofs.Common.{◌≡◌, ◌↔◌, ℕ, List, [], ◌∷◌, ◌++◌, length, Option, Some, None, Result, Ok, Err, refl, sym, ap, ◌∙◌, subst, inl, inr, arith}
use Rattle.std.specs.Prelude.{IsNone, is_some, codes}
use Rattle.asm_io.specs.Outside.{Files}
use Rattle.asm_source.specs.declared.sources.Source.{Source}
use Rattle.asm_tree.specs.declared.script.RawInputs.{RawInputs}
use Rattle.asm_tree.specs.declared.script.RawScenario.{RawScenario}
use Rattle.asm_tree.specs.declared.term.RawName.{RawName}
use Rattle.asm_tree.specs.declared.unit.LoadedUnit.{LoadedUnit}
use Rattle.asm_tree.specs.declared.unit.RawUnit.{RawUnit}
use Rattle.asm_canonical.specs.Units.{canonical}
use Rattle.asm_node.specs.Machine.{Machine, Input}
use Rattle.asm_unit.specs.declared.error.LoadError.{LoadError}
use Rattle.asm_faults.specs.declared.fault.Fault.{Fault}
use Rattle.asm_faults.specs.Check.{model_fault}
use Rattle.asm_resolve.specs.Resolved.{file_of}
use Rattle.asm_renaming.specs.Coded.{coded_machine}
use Rattle.asm_bind.specs.Given.{inputs_of}
use Rattle.asm_run.specs.declared.run.RunEnd.{RunEnd}
use Rattle.asm_run.specs.declared.run.RunEnd.TheVariants.{Done, Stopped}
use Rattle.avalla_play.specs.declared.playing.Played.{Played}
use Rattle.avalla_play.specs.declared.playing.Played.TheVariants as play
use Rattle.avalla_prepare.specs.declared.error.ScenarioError.{ScenarioError}
use Rattle.avalla_prepare.specs.Prepared.{scenario_fault}
use Rattle.asm_cli.specs.Counts.{counts_of, counts_text}
use Rattle.asm_cli.specs.Fault.{fault_text, model_fault_text, bad_set_text, scenario_fault_text}
use Rattle.asm_cli.specs.Plays.{scenario_in, loaded_by, loaded_for, play_under, says_play, says_scenario, says_loaded, says_sound_play, says_prepared, IsLoaded, IsChecked, IsFaultOfPlay}
use Rattle.asm_cli.specs.Plays as plays
use Rattle.asm_cli.specs.Words.{Asked, ToRun, ToFormat, ToCheck, ToPlay, Plan, PlayPlan, asked_of}
use Rattle.asm_cli.specs.Answer.{Says, says_bound, says_given, says_sound, says_run, says_canonical, says_faulted, says_checked, says_end, says_task, says_asked, answer, loaded, alone, settings, settings_for, run_under, set_place, end_code, OneAnswer, IsModel, IsRead, IsFirstFault, AreLoaded, HasFileFault, HasCause, HasFailed, EndsIn, PlaysTo, IsDone, IsStopped}
use Rattle.asm_cli.specs.Answer as cause

never : {A : Type 0} (x : A) → None ≡ Some x → ⊥
never x e = cc

same_some : {A : Type 0} (x y : A) → Some x ≡ Some y → x ≡ y
same_some x y e = cc

-- ---- there is one answer

one_line : (line t u : List ℕ) (meant k l : ℕ) → Says line meant t k → Says line meant u l → (t ≡ u) × (k ≡ l)
one_line line t u meant k l a b = (a.text_is ∙ sym b.text_is, a.code_is ∙ sym b.code_is)

module _ (t u : List ℕ) (k l : ℕ) where
  one_bound : (plan : Plan) (m : Machine) (file : ℕ) (sources : List Source) (raw : RawInputs) (r : Result (List Input) RawName) → says_bound plan m file sources raw r t k → says_bound plan m file sources raw r u l → (t ≡ u) × (k ≡ l)
  one_bound plan m file sources raw (Ok inputs) a b = (a.text_is ∙ sym b.text_is, a.code_is ∙ sym b.code_is)
  one_bound plan m file sources raw (Err name) a b = one_line (bad_set_text sources (set_place file name) name.text) t u 3 k l a b

  one_given : (plan : Plan) (m : Machine) (file : ℕ) (sources : List Source) (end : Result RawInputs LoadError) → says_end (says_given plan m file) sources end t k → says_end (says_given plan m file) sources end u l → (t ≡ u) × (k ≡ l)
  one_given plan m file sources (Ok raw) a b = one_bound plan m file sources raw (inputs_of m.signature raw) a b
  one_given plan m file sources (Err e) a b = one_line (fault_text sources e) t u 3 k l a b

  one_sound : (plan : Plan) (files : Files) (sources : List Source) (units : List LoadedUnit) (o : Option Fault) → says_sound plan files sources units o t k → says_sound plan files sources units o u l → (t ≡ u) × (k ≡ l)
  one_sound plan files sources units None a b =
      one_given plan (coded_machine units) (length sources) (settings files plan.inputs sources).sources (settings files plan.inputs sources).end a b
  one_sound plan files sources units (Some f) a b = one_line (model_fault_text sources f.kind f.name (record { file = file_of units f.unit; at = f.at })) t u 3 k l a b

  one_run : (plan : Plan) (files : Files) (sources : List Source) (end : Result (List LoadedUnit) LoadError) → says_end (says_run plan files) sources end t k → says_end (says_run plan files) sources end u l → (t ≡ u) × (k ≡ l)
  one_run plan files sources (Ok units) a b = one_sound plan files sources units (model_fault units) a b
  one_run plan files sources (Err e) a b = one_line (fault_text sources e) t u 3 k l a b

  one_faulted : (sources : List Source) (units : List LoadedUnit) (o : Option Fault) → says_faulted sources units o t k → says_faulted sources units o u l → (t ≡ u) × (k ≡ l)
  one_faulted sources units None a b = one_line (counts_text (counts_of units)) t u 0 k l a b
  one_faulted sources units (Some f) a b = one_line (model_fault_text sources f.kind f.name (record { file = file_of units f.unit; at = f.at })) t u 3 k l a b

  one_checked : (sources : List Source) (end : Result (List LoadedUnit) LoadError) → says_end says_checked sources end t k → says_end says_checked sources end u l → (t ≡ u) × (k ≡ l)
  one_checked sources (Ok units) a b = one_faulted sources units (model_fault units) a b
  one_checked sources (Err e) a b = one_line (fault_text sources e) t u 3 k l a b

  one_canonical : (sources : List Source) (end : Result RawUnit LoadError) → says_end says_canonical sources end t k → says_end says_canonical sources end u l → (t ≡ u) × (k ≡ l)
  one_canonical sources (Ok unit) a b = (a.text_is ∙ sym b.text_is, a.code_is ∙ sym b.code_is)
  one_canonical sources (Err e) a b = one_line (fault_text sources e) t u 3 k l a b

  one_prepared : (plan : PlayPlan) (sources : List Source) (units : List LoadedUnit) (raw : RawScenario) (o : Option ScenarioError) → says_prepared plan sources units raw o t k → says_prepared plan sources units raw o u l → (t ≡ u) × (k ≡ l)
  one_prepared plan sources units raw None a b = (a.text_is ∙ sym b.text_is, a.code_is ∙ sym b.code_is)
  one_prepared plan sources units raw (Some e) a b = one_line (scenario_fault_text sources e) t u 3 k l a b

  one_sound_play : (plan : PlayPlan) (sources : List Source) (units : List LoadedUnit) (raw : RawScenario) (o : Option Fault) → says_sound_play plan sources units raw o t k → says_sound_play plan sources units raw o u l → (t ≡ u) × (k ≡ l)
  one_sound_play plan sources units raw None a b = one_prepared plan sources units raw (scenario_fault (coded_machine units) 0 raw) a b
  one_sound_play plan sources units raw (Some f) a b = one_line (model_fault_text sources f.kind f.name (record { file = file_of units f.unit; at = f.at })) t u 3 k l a b

  one_loaded : (plan : PlayPlan) (raw : RawScenario) (sources : List Source) (end : Result (List LoadedUnit) LoadError) → says_end (says_loaded plan raw) sources end t k → says_end (says_loaded plan raw) sources end u l → (t ≡ u) × (k ≡ l)
  one_loaded plan raw sources (Ok units) a b = one_sound_play plan sources units raw (model_fault units) a b
  one_loaded plan raw sources (Err e) a b = one_line (fault_text sources e) t u 3 k l a b

  one_scenario : (plan : PlayPlan) (files : Files) (sources : List Source) (end : Result RawScenario LoadError) → says_end (says_scenario plan files) sources end t k → says_end (says_scenario plan files) sources end u l → (t ≡ u) × (k ≡ l)
  one_scenario plan files sources (Ok raw) a b = one_loaded plan raw (loaded_by files plan.scenario sources raw).sources (loaded_by files plan.scenario sources raw).end a b
  one_scenario plan files sources (Err e) a b = one_line (fault_text sources e) t u 3 k l a b

  one_task : (files : Files) (asked : Asked) → says_task asked files t k → says_task asked files u l → (t ≡ u) × (k ≡ l)
  one_task files (ToRun plan) a b = one_run plan files (loaded files plan.model).sources (loaded files plan.model).end a b
  one_task files (ToFormat model) a b = one_canonical (alone files model).sources (alone files model).end a b
  one_task files (ToCheck model) a b = one_checked (loaded files model).sources (loaded files model).end a b
  one_task files (ToPlay plan) a b = one_scenario plan files (scenario_in files plan.scenario).sources (scenario_in files plan.scenario).end a b

  one_asked : (files : Files) (o : Option Asked) → says_asked o files t k → says_asked o files u l → (t ≡ u) × (k ≡ l)
  one_asked files None a b = one_line (codes "asmeta: bad arguments") t u 2 k l a b
  one_asked files (Some asked) a b = one_task files asked a b

pub one_answer : OneAnswer
one_answer words files t u k l a b = one_asked t u k l files (asked_of words) a b

-- ---- each answer has a cause

module _ (words : List (List ℕ)) (files : Files) where
  of_refused : (asked : Asked) (e : LoadError) (k : ℕ) → asked_of words ≡ Some asked → IsFirstFault asked files e → k ≡ 3 → HasCause words files k
  of_refused asked e k is first code = cause.file_fault (inl record { asked = asked; fault = e; asked_is = is; is_first = first }) code

  -- ---- runs

  module _ (plan : Plan) (text : List ℕ) (k : ℕ) (is : asked_of words ≡ Some (ToRun plan)) where
    of_end : (end : RunEnd) → EndsIn words files end → k ≡ end_code end → HasCause words files k
    of_end Done e code = cause.done (inl e) code
    of_end (Stopped s) e code = cause.stops (inl (s, inl e)) code

    of_bound : (units : List LoadedUnit) (raw : RawInputs) → IsRead words files plan units raw → (r : Result (List Input) RawName) → inputs_of (coded_machine units).signature raw ≡ r
        → says_bound plan (coded_machine units) (length (loaded files plan.model).sources) (settings_for files plan).sources raw r text k → HasCause words files k
    of_bound units raw read (Ok inputs) given a =
        of_end (run_under plan (coded_machine units) (settings_for files plan).sources raw inputs).end
        (record { plan = plan; units = units; raw = raw; inputs = inputs; is_read = read; are_given = given; end_is = refl }) a.code_is
    of_bound units raw read (Err name) given a = cause.file_fault (inr (inr (inl record { plan = plan; units = units; raw = raw; name = name; is_read = read; is_bad = given }))) a.code_is

    of_given : (units : List LoadedUnit) → IsModel files plan.model units → (end : Result RawInputs LoadError) → (settings_for files plan).end ≡ end
        → says_end (says_given plan (coded_machine units) (length (loaded files plan.model).sources)) (settings_for files plan).sources end text k → HasCause words files k
    of_given units model (Ok raw) are a =
        of_bound units raw (record { asked_is = is; model = model; settings_are = are }) (inputs_of (coded_machine units).signature raw) refl a
    of_given units model (Err e) are a = of_refused (ToRun plan) e k is (inr (units, model, are)) a.code_is

    of_sound : (units : List LoadedUnit) → (loaded files plan.model).end ≡ Ok units → (o : Option Fault) → model_fault units ≡ o
        → says_sound plan files (loaded files plan.model).sources units o text k → HasCause words files k
    of_sound units are None none a = of_given units (record { units_are = are; no_fault = none }) (settings_for files plan).end refl a
    of_sound units are (Some f) some a =
        cause.file_fault (inr (inl record { asked = ToRun plan; units = units; fault = f; asked_is = is; are_loaded = are; fault_is = some })) a.code_is

    of_run : (end : Result (List LoadedUnit) LoadError) → (loaded files plan.model).end ≡ end → says_end (says_run plan files) (loaded files plan.model).sources end text k → HasCause words files k
    of_run (Ok units) are a = of_sound units are (model_fault units) refl a
    of_run (Err e) are a = of_refused (ToRun plan) e k is (inl are) a.code_is

  -- ---- other commands

  of_unit : (model : List ℕ) (text : List ℕ) (k : ℕ) → asked_of words ≡ Some (ToFormat model) → (end : Result RawUnit LoadError) → (alone files model).end ≡ end
      → says_end says_canonical (alone files model).sources end text k → HasCause words files k
  of_unit model text k is (Ok unit) are a = cause.done (inr (inl record { model = model; unit = unit; asked_is = is; unit_is = are })) a.code_is
  of_unit model text k is (Err e) are a = of_refused (ToFormat model) e k is are a.code_is

  of_faulted : (model text : List ℕ) (k : ℕ) → asked_of words ≡ Some (ToCheck model) → (units : List LoadedUnit) → (loaded files model).end ≡ Ok units → (o : Option Fault) → model_fault units ≡ o
      → says_faulted (loaded files model).sources units o text k → HasCause words files k
  of_faulted model text k is units are None none a = cause.done (inr (inr (inl record { model = model; units = units; asked_is = is; is_model = record { units_are = are; no_fault = none } }))) a.code_is
  of_faulted model text k is units are (Some f) some a =
      cause.file_fault (inr (inl record { asked = ToCheck model; units = units; fault = f; asked_is = is; are_loaded = are; fault_is = some })) a.code_is

  of_checked : (model text : List ℕ) (k : ℕ) → asked_of words ≡ Some (ToCheck model) → (end : Result (List LoadedUnit) LoadError) → (loaded files model).end ≡ end
      → says_end says_checked (loaded files model).sources end text k → HasCause words files k
  of_checked model text k is (Ok units) are a = of_faulted model text k is units are (model_fault units) refl a
  of_checked model text k is (Err e) are a = of_refused (ToCheck model) e k is are a.code_is

  -- ---- plays

  module _ (plan : PlayPlan) (text : List ℕ) (k : ℕ) (is : asked_of words ≡ Some (ToPlay plan)) where
    of_played : (end : Played) → PlaysTo words files end → k ≡ plays.end_code end → HasCause words files k
    of_played play.Passed e code = cause.done (inr (inr (inr e))) code
    of_played (play.CheckFailed number) e code = cause.fails (number, e) code
    of_played (play.Stopped s) e code = cause.stops (inl (s, inr e)) code
    of_played play.Budget e code = cause.stops (inr e) code

    of_prepared : (raw : RawScenario) (units : List LoadedUnit) → IsChecked plan files raw units → (o : Option ScenarioError) → scenario_fault (coded_machine units) 0 raw ≡ o
        → says_prepared plan (loaded_for files plan raw).sources units raw o text k → HasCause words files k
    of_prepared raw units checked None right a =
        of_played (play_under plan (loaded_for files plan raw).sources units raw).end
        (record { plan = plan; raw = raw; units = units; asked_is = is; is_checked = checked; is_right = right; end_is = refl }) a.code_is
    of_prepared raw units checked (Some e) wrong a =
        cause.file_fault (inr (inr (inr record { plan = plan; raw = raw; units = units; error = e; asked_is = is; is_checked = checked; fault_is = wrong }))) a.code_is

    of_sound_play : (raw : RawScenario) (units : List LoadedUnit) → IsLoaded plan files raw units → (o : Option Fault) → model_fault units ≡ o
        → says_sound_play plan (loaded_for files plan raw).sources units raw o text k → HasCause words files k
    of_sound_play raw units are None none a = of_prepared raw units (record { is_loaded = are; no_fault = none }) (scenario_fault (coded_machine units) 0 raw) refl a
    of_sound_play raw units are (Some f) some a =
        cause.file_fault (inr (inl record { asked = ToPlay plan; units = units; fault = f; asked_is = is; are_loaded = (raw, are); fault_is = some })) a.code_is

    of_loaded_play : (raw : RawScenario) → (scenario_in files plan.scenario).end ≡ Ok raw → (end : Result (List LoadedUnit) LoadError) → (loaded_for files plan raw).end ≡ end
        → says_end (says_loaded plan raw) (loaded_for files plan raw).sources end text k → HasCause words files k
    of_loaded_play raw spelled (Ok units) are a = of_sound_play raw units (record { scenario_is = spelled; units_are = are }) (model_fault units) refl a
    of_loaded_play raw spelled (Err e) are a = of_refused (ToPlay plan) e k is (inr (raw, spelled, are)) a.code_is

    of_scenario : (end : Result RawScenario LoadError) → (scenario_in files plan.scenario).end ≡ end → says_end (says_scenario plan files) (scenario_in files plan.scenario).sources end text k → HasCause words files k
    of_scenario (Ok raw) are a = of_loaded_play raw are (loaded_for files plan raw).end refl a
    of_scenario (Err e) are a = of_refused (ToPlay plan) e k is (inl are) a.code_is

  of_task : (text : List ℕ) (k : ℕ) (asked : Asked) → asked_of words ≡ Some asked → says_task asked files text k → HasCause words files k
  of_task text k (ToRun plan) is a = of_run plan text k is (loaded files plan.model).end refl a
  of_task text k (ToFormat model) is a = of_unit model text k is (alone files model).end refl a
  of_task text k (ToCheck model) is a = of_checked model text k is (loaded files model).end refl a
  of_task text k (ToPlay plan) is a = of_scenario plan text k is (scenario_in files plan.scenario).end refl a

  none_is : {A : Type 0} {o : Option A} → o ≡ None → IsNone o
  none_is is = ap is_some is

  of_words : (text : List ℕ) (k : ℕ) (o : Option Asked) → asked_of words ≡ o → says_asked o files text k → HasCause words files k
  of_words text k None is a = cause.bad_words (none_is is) a.code_is
  of_words text k (Some asked) is a = of_task text k asked is a

  pub case_of : (text : List ℕ) (k : ℕ) → answer words files text k → HasCause words files k
  case_of text k a = of_words text k (asked_of words) refl a

  -- ---- each cause has an answer

  abbrev Answered : ℕ → Type 0
  Answered k = (text : List ℕ) × answer words files text k

  answered : (asked : Asked) (text : List ℕ) (k : ℕ) → asked_of words ≡ Some asked → says_task asked files text k → Answered k
  answered asked text k is a = (text, subst (λ (o : Option Asked). says_asked o files text k) (sym is) a)

  module _ (plan : Plan) (text : List ℕ) (k : ℕ) (is : asked_of words ≡ Some (ToRun plan)) where
    answered_run : (end : Result (List LoadedUnit) LoadError) → (loaded files plan.model).end ≡ end → says_end (says_run plan files) (loaded files plan.model).sources end text k → Answered k
    answered_run end are a = answered (ToRun plan) text k is (subst (λ (e : Result (List LoadedUnit) LoadError). says_end (says_run plan files) (loaded files plan.model).sources e text k) (sym are) a)

    answered_sound : (units : List LoadedUnit) → (loaded files plan.model).end ≡ Ok units → (o : Option Fault) → model_fault units ≡ o → says_sound plan files (loaded files plan.model).sources units o text k → Answered k
    answered_sound units are o found a =
        answered_run (Ok units) are (subst (λ (f : Option Fault). says_sound plan files (loaded files plan.model).sources units f text k) (sym found) a)

    answered_given : (units : List LoadedUnit) → IsModel files plan.model units → (end : Result RawInputs LoadError) → (settings_for files plan).end ≡ end
        → says_end (says_given plan (coded_machine units) (length (loaded files plan.model).sources)) (settings_for files plan).sources end text k → Answered k
    answered_given units model end are a =
        answered_sound units model.units_are None model.no_fault
        (subst (λ (e : Result RawInputs LoadError). says_end (says_given plan (coded_machine units) (length (loaded files plan.model).sources)) (settings_for files plan).sources e text k) (sym are) a)

    answered_bound : (units : List LoadedUnit) (raw : RawInputs) → IsRead words files plan units raw → (r : Result (List Input) RawName) → inputs_of (coded_machine units).signature raw ≡ r
        → says_bound plan (coded_machine units) (length (loaded files plan.model).sources) (settings_for files plan).sources raw r text k → Answered k
    answered_bound units raw read r given a =
        answered_given units read.model (Ok raw) read.settings_are
        (subst (λ (o : Result (List Input) RawName). says_bound plan (coded_machine units) (length (loaded files plan.model).sources) (settings_for files plan).sources raw o text k) (sym given) a)

  answered_unit : (model : List ℕ) (text : List ℕ) (k : ℕ) → asked_of words ≡ Some (ToFormat model) → (end : Result RawUnit LoadError) → (alone files model).end ≡ end
      → says_end says_canonical (alone files model).sources end text k → Answered k
  answered_unit model text k is end are a = answered (ToFormat model) text k is (subst (λ (e : Result RawUnit LoadError). says_end says_canonical (alone files model).sources e text k) (sym are) a)

  answered_checked : (model text : List ℕ) (k : ℕ) → asked_of words ≡ Some (ToCheck model) → (end : Result (List LoadedUnit) LoadError) → (loaded files model).end ≡ end
      → says_end says_checked (loaded files model).sources end text k → Answered k
  answered_checked model text k is end are a = answered (ToCheck model) text k is (subst (λ (e : Result (List LoadedUnit) LoadError). says_end says_checked (loaded files model).sources e text k) (sym are) a)

  answered_faulted : (model text : List ℕ) (k : ℕ) → asked_of words ≡ Some (ToCheck model) → (units : List LoadedUnit) → (loaded files model).end ≡ Ok units → (o : Option Fault) → model_fault units ≡ o
      → says_faulted (loaded files model).sources units o text k → Answered k
  answered_faulted model text k is units are o found a =
      answered_checked model text k is (Ok units) are (subst (λ (f : Option Fault). says_faulted (loaded files model).sources units f text k) (sym found) a)

  -- the text of a line
  abbrev with_end : List ℕ → List ℕ
  with_end line = line ++ 10 ∷ []

  line_of : (line : List ℕ) (code : ℕ) → Says line code (with_end line) code
  line_of line code = record { text_is = refl; code_is = refl }

  run_refused : (plan : Plan) (e : LoadError) → asked_of words ≡ Some (ToRun plan) → IsFirstFault (ToRun plan) files e → Answered 3
  run_refused plan e is (inl first) =
      answered_run plan (with_end (fault_text (loaded files plan.model).sources e)) 3 is (Err e) first (line_of (fault_text (loaded files plan.model).sources e) 3)
  run_refused plan e is (inr (units, model, first)) =
      answered_given plan (with_end (fault_text (settings_for files plan).sources e)) 3 is units model (Err e) first (line_of (fault_text (settings_for files plan).sources e) 3)

  -- ---- plays

  module _ (plan : PlayPlan) (text : List ℕ) (k : ℕ) (is : asked_of words ≡ Some (ToPlay plan)) where
    answered_scenario : (end : Result RawScenario LoadError) → (scenario_in files plan.scenario).end ≡ end → says_end (says_scenario plan files) (scenario_in files plan.scenario).sources end text k → Answered k
    answered_scenario end are a = answered (ToPlay plan) text k is (subst (λ (e : Result RawScenario LoadError). says_end (says_scenario plan files) (scenario_in files plan.scenario).sources e text k) (sym are) a)

    answered_loaded : (raw : RawScenario) → (scenario_in files plan.scenario).end ≡ Ok raw → (end : Result (List LoadedUnit) LoadError) → (loaded_for files plan raw).end ≡ end
        → says_end (says_loaded plan raw) (loaded_for files plan raw).sources end text k → Answered k
    answered_loaded raw spelled end are a =
        answered_scenario (Ok raw) spelled (subst (λ (e : Result (List LoadedUnit) LoadError). says_end (says_loaded plan raw) (loaded_for files plan raw).sources e text k) (sym are) a)

    answered_sound_play : (raw : RawScenario) (units : List LoadedUnit) → IsLoaded plan files raw units → (o : Option Fault) → model_fault units ≡ o
        → says_sound_play plan (loaded_for files plan raw).sources units raw o text k → Answered k
    answered_sound_play raw units loaded o found a =
        answered_loaded raw loaded.scenario_is (Ok units) loaded.units_are
        (subst (λ (f : Option Fault). says_sound_play plan (loaded_for files plan raw).sources units raw f text k) (sym found) a)

    answered_prepared : (raw : RawScenario) (units : List LoadedUnit) → IsChecked plan files raw units → (o : Option ScenarioError) → scenario_fault (coded_machine units) 0 raw ≡ o
        → says_prepared plan (loaded_for files plan raw).sources units raw o text k → Answered k
    answered_prepared raw units checked o found a =
        answered_sound_play raw units checked.is_loaded None checked.no_fault
        (subst (λ (e : Option ScenarioError). says_prepared plan (loaded_for files plan raw).sources units raw e text k) (sym found) a)

  play_refused : (plan : PlayPlan) (e : LoadError) → asked_of words ≡ Some (ToPlay plan) → IsFaultOfPlay plan files e → Answered 3
  play_refused plan e is (inl first) =
      answered_scenario plan (with_end (fault_text (scenario_in files plan.scenario).sources e)) 3 is (Err e) first (line_of (fault_text (scenario_in files plan.scenario).sources e) 3)
  play_refused plan e is (inr (raw, spelled, first)) =
      answered_loaded plan (with_end (fault_text (loaded_for files plan raw).sources e)) 3 is raw spelled (Err e) first (line_of (fault_text (loaded_for files plan raw).sources e) 3)

  refused_answered : (asked : Asked) (e : LoadError) → asked_of words ≡ Some asked → IsFirstFault asked files e → Answered 3
  refused_answered (ToRun plan) e is first = run_refused plan e is first
  refused_answered (ToFormat model) e is first = answered_unit model (with_end (fault_text (alone files model).sources e)) 3 is (Err e) first (line_of (fault_text (alone files model).sources e) 3)
  refused_answered (ToCheck model) e is first = answered_checked model (with_end (fault_text (loaded files model).sources e)) 3 is (Err e) first (line_of (fault_text (loaded files model).sources e) 3)
  refused_answered (ToPlay plan) e is first = play_refused plan e is first

  abbrev fault_line : List Source → List LoadedUnit → Fault → List ℕ
  fault_line sources units f = model_fault_text sources f.kind f.name (record { file = file_of units f.unit; at = f.at })

  faulty_answered : (asked : Asked) (units : List LoadedUnit) (f : Fault) → asked_of words ≡ Some asked → AreLoaded asked files units → model_fault units ≡ Some f → Answered 3
  faulty_answered (ToRun plan) units f is are found =
      answered_sound plan (with_end (fault_line (loaded files plan.model).sources units f)) 3 is units are (Some f) found (line_of (fault_line (loaded files plan.model).sources units f) 3)
  faulty_answered (ToFormat x) units f is are found = absurd are
  faulty_answered (ToCheck x) units f is are found =
      answered_faulted x (with_end (fault_line (loaded files x).sources units f)) 3 is units are (Some f) found (line_of (fault_line (loaded files x).sources units f) 3)
  faulty_answered (ToPlay plan) units f is (raw, loaded) found =
      answered_sound_play plan (with_end (fault_line (loaded_for files plan raw).sources units f)) 3 is raw units loaded (Some f) found (line_of (fault_line (loaded_for files plan raw).sources units f) 3)

  fault_answered : HasFileFault words files → Answered 3
  fault_answered (inl f) = refused_answered f.asked f.fault f.asked_is f.is_first
  fault_answered (inr (inl f)) = faulty_answered f.asked f.units f.fault f.asked_is f.are_loaded f.fault_is
  fault_answered (inr (inr (inl f))) =
      answered_bound f.plan (with_end (bad_set_text (settings_for files f.plan).sources (set_place (length (loaded files f.plan.model).sources) f.name) f.name.text)) 3 f.is_read.asked_is f.units f.raw f.is_read (Err f.name) f.is_bad
      (line_of (bad_set_text (settings_for files f.plan).sources (set_place (length (loaded files f.plan.model).sources) f.name) f.name.text) 3)
  fault_answered (inr (inr (inr f))) =
      answered_prepared f.plan (with_end (scenario_fault_text (loaded_for files f.plan f.raw).sources f.error)) 3 f.asked_is f.raw f.units f.is_checked (Some f.error) f.fault_is
      (line_of (scenario_fault_text (loaded_for files f.plan f.raw).sources f.error) 3)

  run_answered : (end : RunEnd) → EndsIn words files end → Answered (end_code end)
  run_answered end e =
      answered_bound e.plan (run_under e.plan (coded_machine e.units) (settings_for files e.plan).sources e.raw e.inputs).text (end_code end) e.is_read.asked_is e.units e.raw e.is_read (Ok e.inputs) e.are_given
      (record { text_is = refl; code_is = ap end_code (sym e.end_is) })

  play_answered : (end : Played) → PlaysTo words files end → Answered (plays.end_code end)
  play_answered end e =
      answered_prepared e.plan (play_under e.plan (loaded_for files e.plan e.raw).sources e.units e.raw).text (plays.end_code end) e.asked_is e.raw e.units e.is_checked None e.is_right
      (record { text_is = refl; code_is = ap plays.end_code (sym e.end_is) })

  stop_answered : IsStopped words files → Answered 4
  stop_answered (inl (s, inl e)) = run_answered (Stopped s) e
  stop_answered (inl (s, inr e)) = play_answered (play.Stopped s) e
  stop_answered (inr e) = play_answered play.Budget e

  fail_answered : HasFailed words files → Answered 1
  fail_answered (number, e) = play_answered (play.CheckFailed number) e

  done_answered : IsDone words files → Answered 0
  done_answered (inl e) = run_answered Done e
  done_answered (inr (inl f)) = answered_unit f.model (canonical f.unit) 0 f.asked_is (Ok f.unit) f.unit_is (record { text_is = refl; code_is = refl })
  done_answered (inr (inr (inl f))) = answered_faulted f.model (with_end (counts_text (counts_of f.units))) 0 f.asked_is f.units f.is_model.units_are None f.is_model.no_fault (line_of (counts_text (counts_of f.units)) 0)
  done_answered (inr (inr (inr e))) = play_answered play.Passed e

  same_code : (text : List ℕ) (k l : ℕ) → answer words files text k → Answered l → k ≡ l
  same_code text k l a b = (one_answer words files text b.0 k l a b.1).1

  -- ---- which code comes where

  three_of : (k : ℕ) → HasCause words files k → k ≡ 3 → HasFileFault words files
  three_of k (cause.bad_words is code) e = absurd (omega arith)
  three_of k (cause.file_fault f code) e = f
  three_of k (cause.stops s code) e = absurd (omega arith)
  three_of k (cause.fails f code) e = absurd (omega arith)
  three_of k (cause.done d code) e = absurd (omega arith)

  pub three_iff : (text : List ℕ) (k : ℕ) → answer words files text k → (k ≡ 3) ↔ HasFileFault words files
  three_iff text k a = (three_of k (case_of text k a), λ f. same_code text k 3 a (fault_answered f))

  four_of : (k : ℕ) → HasCause words files k → k ≡ 4 → IsStopped words files
  four_of k (cause.bad_words is code) e = absurd (omega arith)
  four_of k (cause.file_fault f code) e = absurd (omega arith)
  four_of k (cause.stops s code) e = s
  four_of k (cause.fails f code) e = absurd (omega arith)
  four_of k (cause.done d code) e = absurd (omega arith)

  pub four_iff : (text : List ℕ) (k : ℕ) → answer words files text k → (k ≡ 4) ↔ IsStopped words files
  four_iff text k a = (four_of k (case_of text k a), λ s. same_code text k 4 a (stop_answered s))

  one_of : (k : ℕ) → HasCause words files k → k ≡ 1 → HasFailed words files
  one_of k (cause.bad_words is code) e = absurd (omega arith)
  one_of k (cause.file_fault f code) e = absurd (omega arith)
  one_of k (cause.stops s code) e = absurd (omega arith)
  one_of k (cause.fails f code) e = f
  one_of k (cause.done d code) e = absurd (omega arith)

  pub one_iff : (text : List ℕ) (k : ℕ) → answer words files text k → (k ≡ 1) ↔ HasFailed words files
  one_iff text k a = (one_of k (case_of text k a), λ f. same_code text k 1 a (fail_answered f))

  zero_of : (k : ℕ) → HasCause words files k → k ≡ 0 → IsDone words files
  zero_of k (cause.bad_words is code) e = absurd (omega arith)
  zero_of k (cause.file_fault f code) e = absurd (omega arith)
  zero_of k (cause.stops s code) e = absurd (omega arith)
  zero_of k (cause.fails f code) e = absurd (omega arith)
  zero_of k (cause.done d code) e = d

  pub zero_iff : (text : List ℕ) (k : ℕ) → answer words files text k → (k ≡ 0) ↔ IsDone words files
  zero_iff text k a = (zero_of k (case_of text k a), λ d. same_code text k 0 a (done_answered d))
