-- Machines that mean the same have the same runs.
use Rattle.std.proofs.Common.{◌≡◌, ◌∙◌, ℕ, zero, suc, ◌+◌, List, ◌++◌, length, Option, Some, None, Result, Ok, Err, refl, sym, ap, subst}
use Rattle.std.specs.Prelude.{codes}
use Rattle.std.specs.Fmt.{decimal}
use Rattle.asm_io.specs.Outside.{Files}
use Rattle.asm_source.specs.declared.sources.Source.{Source}
use Rattle.asm_node.specs.declared.stop.Stop.{Stop}
use Rattle.asm_node.specs.declared.stop.Stop.TheVariants.{Invariant}
use Rattle.asm_node.specs.Machine.{Machine, State, Input}
use Rattle.asm_node.specs.Step.{initial, broken}
use Rattle.asm_tree.specs.declared.script.RawInputs.{RawInputs}
use Rattle.asm_tree.specs.declared.term.RawName.{RawName}
use Rattle.asm_tree.specs.declared.unit.LoadedUnit.{LoadedUnit}
use Rattle.asm_faults.specs.Model.{IsNumbering}
use Rattle.asm_unit.specs.declared.error.LoadError.{LoadError}
use Rattle.asm_bind.specs.Given.{inputs_of}
use Rattle.asm_renaming.specs.Coded.{code, coded_machine}
use Rattle.asm_renaming.specs.Meaning.{MeansTheSame, NumbersAreFree}
use Rattle.asm_faults.specs.Model.{IsModelOf}
use Rattle.asm_text.specs.Texts.{line, state_text, stop_line}
use Rattle.asm_sign.specs.Vocabulary.{Vocabulary}
use Rattle.asm_run.specs.declared.run.RunEnd.TheVariants as run_end
use Rattle.asm_run.specs.Printed.{Printed, after, ended, stopped, numbered_state, unless_broken, go_on, first_input, further_inputs, run_from, begun, run_of}
use Rattle.asm_cli.specs.declared.exit.Exit.{Exit}
use Rattle.asm_cli.specs.Words.{Plan}
use Rattle.asm_cli.specs.Answer.{SaysRun, says_end, says_bound, says_given, says_settled, settings, steps_of}
use Rattle.asm_cli.specs.Reply.{Serves}
use Rattle.asm_cli.proofs.Replying.{on_code, on_fault, prints_more, part_more}

module _ (m n : Machine) (same : MeansTheSame m n) (sources : List Source) where
  stops_so : (e : Stop) → stopped m sources e ≡ stopped n sources e
  stops_so e = λ i. stops (same.signature i)
    where
      stops : Vocabulary → Printed
      stops v = record { text = stop_line v sources e; end = run_end.Stopped e }

  states_so : (number : ℕ) (s : State) → numbered_state m number s ≡ numbered_state n number s
  states_so number s = ap (λ (v : Vocabulary). line (codes "state " ++ decimal number) ++ state_text v s) same.signature

  broken_by : (o : Option ℕ) (a b : Printed) → a ≡ b → unless_broken m sources o a ≡ unless_broken n sources o b
  broken_by None a b e = e
  broken_by (Some k) a b e = stops_so (Invariant k)

  broken_so : (o p : Option ℕ) → o ≡ p → (a b : Printed) → a ≡ b → unless_broken m sources o a ≡ unless_broken n sources p b
  broken_so o p is a b e = ap (λ (q : Option ℕ). unless_broken m sources q a) is ∙ broken_by p a b e

  goes_by : (r : Result (State × List ℕ) Stop) (f g : State → List ℕ → Printed) → ((t : State) (ws : List ℕ) → f t ws ≡ g t ws) → go_on m sources r f ≡ go_on n sources r g
  goes_by (Ok p) f g e = e p.0 p.1
  goes_by (Err stop) f g e = stops_so stop

  goes_so : (r q : Result (State × List ℕ) Stop) → r ≡ q → (f g : State → List ℕ → Printed) → ((t : State) (ws : List ℕ) → f t ws ≡ g t ws) → go_on m sources r f ≡ go_on n sources q g
  goes_so r q is f g e = ap (λ (x : Result (State × List ℕ) Stop). go_on m sources x f) is ∙ goes_by q f g e

  after_so : (a b : List ℕ) (p q : Printed) → a ≡ b → p ≡ q → after a p ≡ after b q
  after_so a b p q first rest = λ i. after (first i) (rest i)

  runs_so : (number : ℕ) (s : State) (inputs : List Input) (words : List ℕ) (left : ℕ) → run_from m sources number s inputs words left ≡ run_from n sources number s inputs words left
  runs_so number s inputs words zero =
      after_so _ _ _ _ (states_so number s) (broken_so (broken m s) (broken n s) (same.invariants s) ended ended refl)
  runs_so number s inputs words (suc left) =
      after_so _ _ _ _ (states_so number s) (broken_so (broken m s) (broken n s) (same.invariants s) _ _
      (goes_so _ _ (same.steps s (first_input inputs) words) _ _ (λ t rest. runs_so (number + 1) t (further_inputs inputs) rest left)))

  begins_by : (r : Result State Stop) (f g : State → Printed) → ((s : State) → f s ≡ g s) → begun m sources r f ≡ begun n sources r g
  begins_by (Ok s) f g e = e s
  begins_by (Err stop) f g e = stops_so stop

  pub same_run : (inputs : List Input) (words : List ℕ) (steps : ℕ) → run_of m sources inputs words steps ≡ run_of n sources inputs words steps
  same_run inputs words steps =
      ap (λ (r : Result State Stop). begun m sources r (λ s. run_from m sources 0 s inputs words steps)) same.begins
      ∙ begins_by (initial n) _ _ (λ s. runs_so 0 s inputs words steps)

module _ (m n : Machine) (same : MeansTheSame m n) (plan : Plan) where
  bound_so : (file : ℕ) (sources : List Source) (raw : RawInputs) (r : Result (List Input) RawName) (t : List ℕ) (k : ℕ) → says_bound plan m file sources raw r t k → says_bound plan n file sources raw r t k
  bound_so file sources raw (Ok inputs) t k s = subst (λ (p : Printed). SaysRun p t k) (same_run m n same sources inputs plan.choices (steps_of plan raw)) s
  bound_so file sources raw (Err name) t k s = s

  given_so : (file : ℕ) (sources : List Source) (raw : RawInputs) (t : List ℕ) (k : ℕ) → says_given plan m file sources raw t k → says_given plan n file sources raw t k
  given_so file sources raw t k s =
      bound_so file sources raw (inputs_of n.signature raw) t k (subst (λ (v : Vocabulary). says_bound plan m file sources raw (inputs_of v raw) t k) same.signature s)

  end_so : (file : ℕ) (sources : List Source) (end : Result RawInputs LoadError) (t : List ℕ) (k : ℕ) → says_end (says_given plan m file) sources end t k → says_end (says_given plan n file) sources end t k
  end_so file sources (Ok raw) t k s = given_so file sources raw t k s
  end_so file sources (Err e) t k s = s

  pub settled_so : (files : Files) (sources : List Source) (t : List ℕ) (k : ℕ) → says_settled plan m files sources t k → says_settled plan n files sources t k
  settled_so files sources t k s = end_so (length sources) (settings files plan.inputs sources).sources (settings files plan.inputs sources).end t k s

-- the machine of a model means the same as the one whose variables have their names' codes
coded_so : (units : List LoadedUnit) (m : Machine) → IsNumbering code → NumbersAreFree → IsModelOf units m → MeansTheSame m (coded_machine units)
coded_so units m codes free is = subst (λ (x : Machine). MeansTheSame x (coded_machine units)) (sym is.machine_is) (free units is.number code is.is_numbering codes).machines

module _ {S K : Type 0} (files : S → Option Files) (failed : S → ℕ) (written : K → Option (List ℕ)) (faults : K → ℕ) (shelf mid : S) (old new : K) (exit : Exit) (plan : Plan) (sources : List Source) where
  -- which numbers variables have makes no difference
  pub coded_served : (units : List LoadedUnit) (m : Machine) → IsNumbering code → NumbersAreFree → IsModelOf units m
      → Serves files failed written faults shelf mid old new (λ held. says_settled plan m held sources) exit → Serves files failed written faults shelf mid old new (λ held. says_settled plan (coded_machine units) held sources) exit
  coded_served units m codes free is s =
      let so = settled_so m (coded_machine units) (coded_so units m codes free is) plan in
      record {
        answer = λ held told. on_code exit _ (s.answer held told) (λ k p. prints_more (written old) (written new) (says_settled plan m held sources) (says_settled plan (coded_machine units) held sources) k (so held sources) p);
        prefix = λ held told. on_fault exit _ (s.prefix held told) (λ p. part_more (written old) (written new) (says_settled plan m held sources) (says_settled plan (coded_machine units) held sources) (so held sources) p);
        good_words = s.good_words;
        few_codes = s.few_codes;
        read_fault = s.read_fault;
        write_fault = s.write_fault;
        same_files = s.same_files;
        shelf_later = s.shelf_later;
        sink_later = s.sink_later;
      }
