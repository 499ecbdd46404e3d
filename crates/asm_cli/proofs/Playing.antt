-- What is printed of a scenario, by what became of its model and of its commands.
use Rattle.std.proofs.Common.{◌≡◌, ◌≢◌, ◌∙◌, ℕ, ◌≤◌, ◌^◌, ◌<◌, List, [], ◌++◌, length, Option, Some, None, refl, sym, ap, subst, inl, arith}
use Rattle.std.specs.Prelude.{All, Ok}
use Rattle.std.specs.Option.{option_map}
use Rattle.std.proofs.lemmas.List.Elements.{All-append}
use Rattle.asm_io.specs.Writes.{Writes}
use Rattle.asm_run.specs.declared.error.OutError.TheVariants.{Write}
use Rattle.asm_source.specs.declared.sources.Place.{Place}
use Rattle.asm_source.specs.declared.sources.Source.{Source}
use Rattle.asm_tree.specs.declared.script.RawScenario.{RawScenario}
use Rattle.asm_tree.specs.declared.unit.LoadedUnit.{LoadedUnit}
use Rattle.asm_faults.specs.declared.fault.Fault.{Fault as Found}
use Rattle.asm_faults.specs.declared.fault.ModelFault.{ModelFault}
use Rattle.asm_faults.specs.Check.{model_fault}
use Rattle.asm_renaming.specs.Coded.{coded_machine}
use Rattle.asm_faults.specs.declared.error.ModelError.{ModelError}
use Rattle.asm_faults.specs.declared.error.ModelError.TheVariants as resolve
use Rattle.asm_resolve.specs.Resolved.{told_of}
use Rattle.asm_unit.specs.Loading.{AddsFiles}
use Rattle.avalla_play.specs.declared.playing.Played.{Played}
use Rattle.avalla_play.specs.declared.playing.Played.TheVariants.{Passed, CheckFailed, Stopped, Budget}
use Rattle.avalla_play.specs.Printed.{Printed}
use Rattle.avalla_prepare.specs.declared.error.ScenarioError.{ScenarioError}
use Rattle.avalla_prepare.specs.declared.error.ScenarioError.TheVariants.{NoBlock, BadSet, Model, TooLong, Memory}
use Rattle.avalla_prepare.specs.Prepared.{Tells, scenario_fault}
use Rattle.asm_cli.specs.declared.exit.Exit.{Exit}
use Rattle.asm_cli.specs.declared.exit.Exit.TheVariants as ending
use Rattle.asm_cli.specs.Fault.{model_fault_text, scenario_fault_text}
use Rattle.asm_cli.specs.Reply.{Replies, RefusesScenario, EndsQuiet}
use Rattle.asm_cli.specs.Saying.{Saying, Says, most_input_bytes}
use Rattle.asm_cli.specs.Plays.{SaysPlay, end_code, play_under, says_prepared, says_sound_play, says_loaded}
use Rattle.asm_cli.specs.Words.{PlayPlan}
use Rattle.asm_cli.proofs.Checking.{nothing_said}
use Rattle.asm_cli.proofs.Serving.{IsGood, good_line}
use Rattle.asm_text.specs.Texts.{AreShort}

never : {A : Type 0} (x : A) → None ≡ Some x → ⊥
never x e = cc

same_some : {A : Type 0} (x y : A) → Some x ≡ Some y → x ≡ y
same_some x y e = cc

-- ---- no code is that of bad words

end_is_good : (end : Played) (k : ℕ) → k ≡ end_code end → (k ≢ 2) × (k ≤ 4)
end_is_good Passed k code = ((λ is. absurd (omega (arith, code, is))), omega (arith, code))
end_is_good (CheckFailed n) k code = ((λ is. absurd (omega (arith, code, is))), omega (arith, code))
end_is_good (Stopped e) k code = ((λ is. absurd (omega (arith, code, is))), omega (arith, code))
end_is_good Budget k code = ((λ is. absurd (omega (arith, code, is))), omega (arith, code))

module _ (plan : PlayPlan) (raw : RawScenario) (sources : List Source) (units : List LoadedUnit) where
  prepared_good : (o : Option ScenarioError) → IsGood (says_prepared plan sources units raw o)
  prepared_good None t k s = end_is_good _ k s.code_is
  prepared_good (Some e) t k s = good_line (scenario_fault_text sources e) t k s

  sound_good : (o : Option Found) → IsGood (says_sound_play plan sources units raw o)
  sound_good None t k s = prepared_good (scenario_fault (coded_machine units) 0 raw) t k s
  sound_good (Some f) t k s = good_line _ t k s

  pub loaded_good : IsGood (says_loaded plan raw sources units)
  loaded_good t k s = sound_good (model_fault units) t k s

-- ---- the model

module _ {K : Type 0} (written : K → Option (List ℕ)) (faults : K → ℕ) (old new : K) (plan : PlayPlan) (raw : RawScenario) (sources : List Source) (units : List LoadedUnit) (exit : Exit) where
  -- nothing is wrong with the model
  pub loaded_sound : model_fault units ≡ None → Replies written faults old new (says_prepared plan sources units raw (scenario_fault (coded_machine units) 0 raw)) exit → Replies written faults old new (says_loaded plan raw sources units) exit
  loaded_sound none r = subst (λ (o : Option Found). Replies written faults old new (says_sound_play plan sources units raw o) exit) (sym none) r

  says_told : ModelError → Saying
  says_told (resolve.Fault kind name place) text code = Says (model_fault_text sources kind name place) 3 text code
  says_told resolve.Memory text code = Unit {0}

  loaded_fault_by : (o : Option Found) (kind : ModelFault) (name : List ℕ) (place : Place) → option_map (told_of units) o ≡ Some (resolve.Fault kind name place)
      → Replies written faults old new (Says (model_fault_text sources kind name place) 3) exit → Replies written faults old new (says_sound_play plan sources units raw o) exit
  unfolding says_told
  loaded_fault_by None kind name place told r = absurd (never (resolve.Fault kind name place) told)
  loaded_fault_by (Some f) kind name place told r =
      subst (λ (e : ModelError). Replies written faults old new (says_told e) exit) (sym (same_some (told_of units f) (resolve.Fault kind name place) told)) r

  -- something is wrong with the model
  pub loaded_fault : (kind : ModelFault) (name : List ℕ) (place : Place) → option_map (told_of units) (model_fault units) ≡ Some (resolve.Fault kind name place)
      → Replies written faults old new (Says (model_fault_text sources kind name place) 3) exit → Replies written faults old new (says_loaded plan raw sources units) exit
  loaded_fault kind name place told r = loaded_fault_by (model_fault units) kind name place told r

  -- ---- the commands

  abbrev prepared_so : Option ScenarioError → Type 0
  prepared_so o = Replies written faults old new (says_prepared plan sources units raw o) exit

  -- nothing is wrong with the scenario
  pub prepared_played : (play : Printed) → scenario_fault (coded_machine units) 0 raw ≡ None → play ≡ play_under plan sources units raw → Replies written faults old new (SaysPlay play) exit
      → prepared_so (scenario_fault (coded_machine units) 0 raw)
  prepared_played play none is r =
      subst prepared_so (sym none) (subst (λ (p : Printed). Replies written faults old new (SaysPlay p) exit) is r)

  wrong_so : (o : Option ScenarioError) (e : ScenarioError) → o ≡ Some e → Replies written faults old new (Says (scenario_fault_text sources e) 3) exit → prepared_so o
  wrong_so o e told r = subst prepared_so (sym told) r

  quiet_so : (o : Option ScenarioError) → EndsQuiet written faults old new ending.Memory exit → prepared_so o
  quiet_so o q =
      subst (λ (x : Exit). Replies written faults old new (says_prepared plan sources units raw o) x) (sym q.exit_is)
      (subst (λ (k : K). Replies written faults old k (says_prepared plan sources units raw o) ending.Memory) (sym q.same) (nothing_said written faults old (says_prepared plan sources units raw o)))

  -- something is wrong with the scenario
  pub prepared_wrong : (o : Option ScenarioError) (e : ScenarioError) → Tells o e → RefusesScenario written faults old new sources e exit → prepared_so o
  prepared_wrong o (NoBlock name place) told r = wrong_so o (NoBlock name place) told r
  prepared_wrong o (BadSet name place) told r = wrong_so o (BadSet name place) told r
  prepared_wrong o (Model (resolve.Fault kind name place)) told r = wrong_so o (Model (resolve.Fault kind name place)) told r
  prepared_wrong o (Model resolve.Memory) told r = quiet_so o r
  prepared_wrong o (TooLong file) told r = wrong_so o (TooLong file) told r
  prepared_wrong o Memory told r = quiet_so o r

-- a play is printed
pub play_said : {K : Type 0} (written : K → Option (List ℕ)) (faults : K → ℕ) (old new : K) (play other : Printed) (end : Played) (k : ℕ) → Writes written faults old new play.text Write (Ok end) → end ≡ play.end → play ≡ other → k ≡ end_code end
    → Replies written faults old new (SaysPlay other) (ending.Code k)
play_said written faults old new play other end k w is same code = record {
  answer = record { text = play.text; adds = w.ok; is_said = record { text_is = ap (λ (p : Printed). p.text) same; code_is = code ∙ ap end_code (is ∙ ap (λ (p : Printed). p.end) same) } };
  prefix = tt;
  no_read = λ e. cc;
  write_fault = λ e. absurd (cc e);
  later = w.later;
}

-- ---- what was read

-- files that are short stay so where short ones are added
pub short_more : (limit : ℕ) (before now : List Source) → limit ≤ most_input_bytes → AreShort before → AddsFiles limit before now → AreShort now
short_more limit before now few short adds =
    subst AreShort (sym adds.now_is)
    (All-append (λ (source : Source). length source.text < 2 ^ 31) before adds.added short (λ i source within. (let at = adds.short i source within in omega (arith, at, few))))

-- short files that are the first ones
pub short_first : (before now : List Source) → before ≡ [] → AddsFiles most_input_bytes before now → AreShort now
short_first before now none adds =
    subst AreShort (sym (adds.now_is ∙ ap (λ (sources : List Source). sources ++ adds.added) none)) (λ i source within. (let at = adds.short i source within in omega (arith, at)))
