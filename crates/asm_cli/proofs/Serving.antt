-- Calls that read from a shelf and print answers.
use Rattle.std.proofs.Common.{◌≡◌, ◌≢◌, ◌≤◌, ◌∙◌, ℕ, List, [], Option, Some, None, Result, Ok, Err, refl, sym, ap, subst, inl, inr, arith}
use Rattle.std.specs.Option.{option_map}
use Rattle.asm_io.specs.Outside.{Files, AddsPart, Rose}
use Rattle.asm_source.specs.declared.sources.Source.{Source}
use Rattle.asm_source.specs.declared.sources.Place.{Place}
use Rattle.asm_io.specs.Writes.{Writes}
use Rattle.asm_io.proofs.Printing.{part_of_none, rose_after}
use Rattle.asm_node.specs.Machine.{Machine, Input}
use Rattle.asm_tree.specs.declared.script.RawInputs.{RawInputs}
use Rattle.asm_tree.specs.declared.term.RawName.{RawName}
use Rattle.asm_tree.specs.declared.unit.LoadedUnit.{LoadedUnit}
use Rattle.asm_unit.specs.declared.error.LoadError.{LoadError}
use Rattle.asm_unit.specs.declared.error.LoadError.TheVariants.{Absent, TooLong, Read, Lex, Parse, ImportCycle, TooManyFiles}
use Rattle.asm_unit.specs.declared.error.LoadError.TheVariants as load
use Rattle.asm_unit.specs.Loading.{Outcome, ended, refused, Fails, OnRead}
use Rattle.asm_bind.specs.declared.error.BadSet.TheVariants as bad
use Rattle.asm_bind.specs.Given.{inputs_of, Tells as TellsSet}
use Rattle.asm_faults.specs.declared.fault.Fault.{Fault as Found}
use Rattle.asm_faults.specs.declared.fault.ModelFault.{ModelFault}
use Rattle.asm_faults.specs.Check.{model_fault}
use Rattle.asm_faults.specs.declared.error.ModelError.{ModelError}
use Rattle.asm_faults.specs.declared.error.ModelError.TheVariants.{Fault, Memory}
use Rattle.asm_resolve.specs.Resolved.{told_of}
use Rattle.asm_run.specs.declared.run.RunEnd.{RunEnd}
use Rattle.asm_run.specs.declared.run.RunEnd.TheVariants.{Done, Stopped}
use Rattle.asm_run.specs.declared.error.OutError.TheVariants.{Write}
use Rattle.asm_run.specs.Printed.{Printed}
use Rattle.asm_cli.specs.declared.exit.Exit.{Exit}
use Rattle.asm_cli.specs.declared.exit.Exit.TheVariants as ends
use Rattle.asm_cli.specs.Exit.{OnCode, OnFault}
use Rattle.asm_cli.specs.Fault.{fault_text, model_fault_text, bad_set_text}
use Rattle.asm_cli.specs.Words.{Plan}
use Rattle.asm_cli.specs.Answer.{Saying, Says, Prints, PrintsPart, says_outcome, says_bound, says_given, says_sound, says_run, set_place, end_code, SaysRun}
use Rattle.asm_cli.specs.Reply.{Replies, Refuses, EndsQuiet, Serves}
use Rattle.asm_cli.proofs.Replying.{on_code, on_fault, prints_more, part_more}

same_some : {A : Type 0} (x y : A) → Some x ≡ Some y → x ≡ y
same_some x y e = cc

never : {A : Type 0} (x : A) → None ≡ Some x → ⊥
never x e = cc

-- ---- no code is that of bad words

-- a relation with no text of bad words, and with codes up to 4
abbrev pub IsGood : Saying → Type 0
IsGood says = (t : List ℕ) (k : ℕ) → says t k → (k ≢ 2) × (k ≤ 4)

pub good_line : (line : List ℕ) → IsGood (Says line 3)
good_line line t k s = (let code = s.code_is in ((λ is. absurd (omega (arith, code, is))), omega (arith, code)))

end_is_good : (end : RunEnd) (k : ℕ) → k ≡ end_code end → (k ≢ 2) × (k ≤ 4)
end_is_good Done k code = ((λ is. absurd (omega (arith, code, is))), omega (arith, code))
end_is_good (Stopped e) k code = ((λ is. absurd (omega (arith, code, is))), omega (arith, code))

bound_good : (plan : Plan) (m : Machine) (file : ℕ) (sources : List Source) (raw : RawInputs) (r : Result (List Input) RawName) → IsGood (says_bound plan m file sources raw r)
bound_good plan m file sources raw (Ok inputs) t k s = end_is_good _ k s.code_is
bound_good plan m file sources raw (Err name) t k s = good_line (bad_set_text sources (set_place file name) name.text) t k s

pub given_good : (plan : Plan) (m : Machine) (file : ℕ) (sources : List Source) (raw : RawInputs) → IsGood (says_given plan m file sources raw)
given_good plan m file sources raw = bound_good plan m file sources raw (inputs_of m.signature raw)

-- ---- a call that reads, and then one that prints

module _ {S K : Type 0} (files : S → Option Files) (failed : S → ℕ) (written : K → Option (List ℕ)) (faults : K → ℕ) (shelf mid : S) (old new : K) (exit : Exit) (same : files mid ≡ files shelf) (later : failed shelf ≤ failed mid) where
  -- what was read goes on as the reply says
  pub serves : (P : Saying) (Q : Files → Saying) → ((held : Files) → files shelf ≡ Some held → (t : List ℕ) (k : ℕ) → P t k → Q held t k) → IsGood P
      → Replies written faults old new P exit → Serves files failed written faults shelf mid old new Q exit
  serves P Q wider good r = record {
    answer = λ held told. on_code exit (Prints (written old) (written new) (Q held)) r.answer (λ k p. record { text = p.text; adds = p.adds; is_said = wider held told p.text k p.is_said });
    prefix = λ held told. on_fault exit (PrintsPart (written old) (written new) (Q held)) r.prefix (λ p. record { text = p.text; adds = p.adds; is_said = elim p.is_said [ inl e ↦ inl e | inr q ↦ inr (q.0, wider held told p.text q.0 q.1) ] });
    good_words = on_code exit (λ k. k ≢ 2) r.answer (λ k p. (good p.text k p.is_said).0);
    few_codes = on_code exit (λ k. k ≤ 4) r.answer (λ k p. (good p.text k p.is_said).1);
    read_fault = λ is. absurd (r.no_read is);
    write_fault = r.write_fault;
    same_files = same;
    shelf_later = later;
    sink_later = r.later;
  }

  module _ {A : Type 0} (says : Files → List Source → A → Saying) (o : Files → Outcome A) (now : List Source) where
    -- what came of reading is known
    pub serves_end : (a : A) → ((held : Files) → files shelf ≡ Some held → o held ≡ ended now a) → (P : Saying) → ((held : Files) → (t : List ℕ) (k : ℕ) → P t k → says held now a t k) → IsGood P
        → Replies written faults old new P exit → Serves files failed written faults shelf mid old new (λ held. says_outcome (says held) (o held)) exit
    serves_end a came P wider good r =
        serves P (λ held. says_outcome (says held) (o held))
        (λ held told t k p. subst (λ (q : Outcome A). says_outcome (says held) q t k) (sym (came held told)) (wider held t k p)) good r

    line_served : (e : LoadError) → ((held : Files) → files shelf ≡ Some held → o held ≡ refused now e) → Replies written faults old new (Says (fault_text now e) 3) exit
        → Serves files failed written faults shelf mid old new (λ held. says_outcome (says held) (o held)) exit
    line_served e came r =
        serves (Says (fault_text now e) 3) (λ held. says_outcome (says held) (o held))
        (λ held told t k p. subst (λ (q : Outcome A). says_outcome (says held) q t k) (sym (came held told)) p) (good_line (fault_text now e)) r

    -- nothing is printed and there is no code
    quiet_served : (end : Exit) → OnCode end (λ k. ⊥) → (end ≡ ends.ReadFault → Rose (failed shelf) (failed mid)) → (end ≡ ends.WriteFault → ⊥) → EndsQuiet written faults old new end exit
        → Serves files failed written faults shelf mid old new (λ held. says_outcome (says held) (o held)) exit
    quiet_served end no_code read no_write q = subst (λ (x : Exit). Serves files failed written faults shelf mid old new (λ held. says_outcome (says held) (o held)) x) (sym q.exit_is) (record {
      answer = λ held told. on_code end (Prints (written old) (written new) (says_outcome (says held) (o held))) no_code (λ k no. absurd no);
      prefix = λ held told. none end held;
      good_words = on_code end (λ k. k ≢ 2) no_code (λ k no. absurd no);
      few_codes = on_code end (λ k. k ≤ 4) no_code (λ k no. absurd no);
      read_fault = read;
      write_fault = λ is. absurd (no_write is);
      same_files = same;
      shelf_later = later;
      sink_later = subst (λ (x : K). faults old ≤ faults x) (sym q.same) (omega arith);
    })
      where
        printed : (held : Files) → PrintsPart (written old) (written new) (says_outcome (says held) (o held))
        printed held = record { text = []; adds = subst (λ (x : K). AddsPart (written old) (written x) []) (sym q.same) (part_of_none (written old) []); is_said = inl refl }

        none : (x : Exit) (held : Files) → OnFault x (PrintsPart (written old) (written new) (says_outcome (says held) (o held)))
        none (ends.Code k) held = tt
        none ends.ReadFault held = printed held
        none ends.WriteFault held = printed held
        none ends.Memory held = printed held

    -- a file has a fault
    pub refuses_served : (e : LoadError) → ((held : Files) → files shelf ≡ Some held → Fails (o held) now e) → OnRead e (Rose (failed shelf) (failed mid)) → Refuses written faults old new now e exit
        → Serves files failed written faults shelf mid old new (λ held. says_outcome (says held) (o held)) exit
    refuses_served (Absent n) came read r = line_served (Absent n) came r
    refuses_served (TooLong n) came read r = line_served (TooLong n) came r
    refuses_served (Read n) came read r = quiet_served ends.ReadFault tt (λ _. read) (λ e. cc) r
    refuses_served (Lex place e) came read r = line_served (Lex place e) came r
    refuses_served (Parse place e) came read r = line_served (Parse place e) came r
    refuses_served (ImportCycle n) came read r = line_served (ImportCycle n) came r
    refuses_served (TooManyFiles n) came read r = line_served (TooManyFiles n) came r
    refuses_served load.Memory came read r = quiet_served ends.Memory tt (λ e. absurd (cc e)) (λ e. cc) r

-- ---- a call that reads, and then one that reads and prints

module _ {S K : Type 0} (files : S → Option Files) (failed : S → ℕ) (written : K → Option (List ℕ)) (faults : K → ℕ) (shelf mid last : S) (old new : K) (exit : Exit) (same : files mid ≡ files shelf) (later : failed shelf ≤ failed mid) where
  pub serves_then : {A : Type 0} (says : Files → List Source → A → Saying) (o : Files → Outcome A) (now : List Source) (a : A) → ((held : Files) → files shelf ≡ Some held → o held ≡ ended now a)
      → Serves files failed written faults mid last old new (λ held. says held now a) exit → Serves files failed written faults shelf last old new (λ held. says_outcome (says held) (o held)) exit
  serves_then says o now a came s =
      let wider : (held : Files) → files shelf ≡ Some held → (t : List ℕ) (c : ℕ) → says held now a t c → says_outcome (says held) (o held) t c =
      (λ held told t c p. subst (λ (x : Outcome _). says_outcome (says held) x t c) (sym (came held told)) p) in
      record {
        answer = λ held told. on_code exit _ (s.answer held (same ∙ told)) (λ k p. prints_more (written old) (written new) (says held now a) (says_outcome (says held) (o held)) k (wider held told) p);
        prefix = λ held told. on_fault exit _ (s.prefix held (same ∙ told)) (λ p. part_more (written old) (written new) (says held now a) (says_outcome (says held) (o held)) (wider held told) p);
        good_words = s.good_words;
        few_codes = s.few_codes;
        read_fault = λ is. rose_after (failed shelf) (failed mid) (failed last) later (s.read_fault is);
        write_fault = s.write_fault;
        same_files = s.same_files ∙ same;
        shelf_later = (let further = s.shelf_later in omega (arith, later, further));
        sink_later = s.sink_later;
      }

-- ---- what is said of a run

module _ {K : Type 0} (written : K → Option (List ℕ)) (faults : K → ℕ) (old new : K) (exit : Exit) where
  -- a setting is bad
  pub bad_said : (plan : Plan) (m : Machine) (file : ℕ) (sources : List Source) (raw : RawInputs) (at : ℕ) (name : List ℕ) → TellsSet (bad.At at name) (inputs_of m.signature raw)
      → Replies written faults old new (Says (bad_set_text sources (record { file = file; at = at }) name) 3) exit → Replies written faults old new (says_given plan m file sources raw) exit
  bad_said plan m file sources raw at name is r = subst (λ (o : Result (List Input) RawName). Replies written faults old new (says_bound plan m file sources raw o) exit) (sym is) r

-- a run is printed
pub run_said : {K : Type 0} (written : K → Option (List ℕ)) (faults : K → ℕ) (old new : K) (run other : Printed) (end : RunEnd) (k : ℕ) → Writes written faults old new run.text Write (Ok end) → end ≡ run.end → run ≡ other → k ≡ end_code end
    → Replies written faults old new (SaysRun other) (ends.Code k)
run_said written faults old new run other end k w is same code = record {
  answer = record { text = run.text; adds = w.ok; is_said = record { text_is = ap (λ (p : Printed). p.text) same; code_is = code ∙ ap end_code (is ∙ ap (λ (p : Printed). p.end) same) } };
  prefix = tt;
  no_read = λ e. cc;
  write_fault = λ e. absurd (cc e);
  later = w.later;
}

module _ {S K : Type 0} (files : S → Option Files) (failed : S → ℕ) (written : K → Option (List ℕ)) (faults : K → ℕ) (shelf mid : S) (old new : K) (exit : Exit) (plan : Plan) (sources : List Source) (units : List LoadedUnit) where
  abbrev runs_so : Option Found → Type 0
  runs_so o = Serves files failed written faults shelf mid old new (λ held. says_sound plan held sources units o) exit

  -- nothing is wrong with the model
  pub sound_served : model_fault units ≡ None → runs_so None → Serves files failed written faults shelf mid old new (λ held. says_run plan held sources units) exit
  sound_served none r = subst runs_so (sym none) r

  fault_by : (o : Option Found) (kind : ModelFault) (name : List ℕ) (place : Place) → option_map (told_of units) o ≡ Some (Fault kind name place) → files mid ≡ files shelf → failed shelf ≤ failed mid
      → Replies written faults old new (Says (model_fault_text sources kind name place) 3) exit → runs_so o
  fault_by None kind name place told same later r = absurd (never (Fault kind name place) told)
  fault_by (Some f) kind name place told same later r =
      let e : told_of units f ≡ Fault kind name place = same_some (told_of units f) (Fault kind name place) told in
      serves files failed written faults shelf mid old new exit same later (Says (model_fault_text sources kind name place) 3) (λ held. says_sound plan held sources units (Some f))
      (λ held is t k p. subst (λ (x : ModelError). says_told x t k) (sym e) p) (good_line (model_fault_text sources kind name place)) r
    where
      says_told : ModelError → Saying
      says_told (Fault kind name place) t k = Says (model_fault_text sources kind name place) 3 t k
      says_told Memory t k = Unit {0}

  -- something is wrong with the model
  pub fault_served : (kind : ModelFault) (name : List ℕ) (place : Place) → option_map (told_of units) (model_fault units) ≡ Some (Fault kind name place) → files mid ≡ files shelf → failed shelf ≤ failed mid
      → Replies written faults old new (Says (model_fault_text sources kind name place) 3) exit → Serves files failed written faults shelf mid old new (λ held. says_run plan held sources units) exit
  fault_served kind name place told same later r = fault_by (model_fault units) kind name place told same later r
