-- Machines that mean the same have the same plays, and a scenario has the same faults over them.
use Rattle.std.proofs.Common.{◌≡◌, ◌∙◌, ℕ, zero, suc, ◌+◌, Bool as Truth, true, false, List, [], ◌∷◌, ◌++◌, Option, Some, None, Result, Ok, Err, if◌then◌else◌, refl, sym, ap, subst}
use Rattle.std.specs.Prelude.{⊤, codes, map}
use Rattle.std.specs.List.{flat_map}
use Rattle.std.specs.Fmt.{decimal}
use Rattle.asm_source.specs.declared.sources.Source.{Source}
use Rattle.asm_domain.specs.declared.value.Value.{Value}
use Rattle.asm_sign.specs.declared.function.DeclaredDomain.{DeclaredDomain}
use Rattle.asm_sign.specs.Vocabulary.{Vocabulary}
use Rattle.asm_node.specs.declared.stop.Stop.{Stop}
use Rattle.asm_node.specs.declared.stop.Stop.TheVariants as stop
use Rattle.asm_node.specs.declared.term.Binder.{Binder}
use Rattle.asm_node.specs.declared.term_type.TermType.{TermType}
use Rattle.asm_node.specs.Machine.{Machine, Macro, State, Input}
use Rattle.asm_node.specs.RuleTree.{Rule}
use Rattle.asm_node.specs.Step.{initial, next, broken}
use Rattle.asm_node.specs.Term.{Outcome, Gives, Needs, val, nowhere}
use Rattle.asm_node.specs.Tree.{Tree}
use Rattle.asm_node.specs.Types.{domain_type}
use Rattle.asm_node.specs.Values.{is_true}
use Rattle.asm_tree.specs.declared.rule.RawRule.{RawRule}
use Rattle.asm_tree.specs.declared.script.RawCommand.{RawCommand}
use Rattle.asm_tree.specs.declared.script.RawCommand.TheVariants as command
use Rattle.asm_tree.specs.declared.script.RawScenario.{RawScenario}
use Rattle.asm_tree.specs.declared.term.RawBinder.{RawBinder}
use Rattle.asm_tree.specs.declared.term.RawName.{RawName}
use Rattle.asm_tree.specs.declared.term.RawTerm.{RawTerm}
use Rattle.asm_tree.specs.declared.unit.LoadedUnit.{LoadedUnit}
use Rattle.asm_faults.specs.declared.fault.Fault.{Fault}
use Rattle.asm_faults.specs.At.{Name}
use Rattle.asm_faults.specs.Bodies as bodies
use Rattle.asm_faults.specs.Bodies.{RuleHead}
use Rattle.asm_faults.specs.First.{first_fault}
use Rattle.asm_faults.specs.Ranges as ranges
use Rattle.asm_faults.specs.Files.{DeclaredRule, rules}
use Rattle.asm_faults.specs.FunctionFaults.{signature_of, number_or_whole}
use Rattle.asm_faults.specs.Model.{IsNumbering, binders_of, machine_of, macro_of, rule_of, tree_of}
use Rattle.asm_bind.specs.Given.{given_or_name}
use Rattle.asm_renaming.specs.Coded.{code, coded_machine}
use Rattle.asm_renaming.specs.Meaning.{MeansTheSame, NumbersAreFree, ScriptsAgree, ScriptNumbersAreFree}
use Rattle.asm_faults.specs.Model.{IsModelOf}
use Rattle.asm_run.specs.Printed.{numbered_state}
use Rattle.asm_script.specs.Script.{AreNamedAlike, IsConditionOf, IsRuleOf, head_of, heads_in, rule_names}
use Rattle.asm_text.specs.Texts.{line, state_text, stop_line}
use Rattle.avalla_play.specs.declared.playing.Played.{Played}
use Rattle.avalla_play.specs.declared.playing.Played.TheVariants as played
use Rattle.avalla_command.specs.Acts.{Act, Sets, Steps, StepsUntil, Checks, Executes}
use Rattle.avalla_play.specs.Moves.{Point, Ended, Move, stays, ends, after, onward, then_move, stops, kept, unless_broken, point_after, moved, step, worth, judged, spent, steps_until, checked, with_setting, acted, all_acted}
use Rattle.avalla_play.specs.Printed.{Printed, finished, first_point, from_start, begun, play_of}
use Rattle.avalla_prepare.specs.declared.error.ScenarioError.{ScenarioError}
use Rattle.avalla_prepare.specs.Prepared.{IsActOf, AreActsOf, command_faults, model_faults, or_missing, or_too_long, scenario_fault}
use Rattle.avalla_prepare.specs.Scenario.{commands_met, commands_written, is_too_long, missing_block}
use Rattle.asm_cli.specs.Plays.{coded_act, coded_acts, setting_act}

-- ---- acts that do the same over two machines

-- conditions that are worth the same
abbrev pub SameWorth : Machine → Machine → Tree → Tree → Type 0
SameWorth m n t u = (p : Point) → worth m t p ≡ worth n u p

-- rules that take the same steps
abbrev pub SameSteps : Machine → Machine → Rule → Rule → Type 0
SameSteps m n r q = (s : State) (i : Input) (words : List ℕ) → next m s i words r ≡ next n s i words q

abbrev pub SameAct : Machine → Machine → Act → Act → Type 0
SameAct m n (Sets slot value) b = b ≡ Sets slot value
SameAct m n Steps b = b ≡ Steps
SameAct m n (StepsUntil t) b = (u : Tree) × (b ≡ StepsUntil u) × SameWorth m n t u
SameAct m n (Checks t) b = (u : Tree) × (b ≡ Checks u) × SameWorth m n t u
SameAct m n (Executes r) b = (q : Rule) × (b ≡ Executes q) × SameSteps m n r q

abbrev pub SameActs : Machine → Machine → List Act → List Act → Type 0
SameActs m n [] [] = ⊤
SameActs m n (a ∷ xs) (b ∷ ys) = SameAct m n a b × SameActs m n xs ys
SameActs m n _ _ = ⊥

-- ---- plays

module _ (m n : Machine) (same : MeansTheSame m n) (sources : List Source) where
  stops_so : (e : Stop) (words : List ℕ) → stops m sources e words ≡ stops n sources e words
  stops_so e words = λ i. ends (stop_line (same.signature i) sources e) (played.Stopped e) words

  states_so : (number : ℕ) (s : State) → numbered_state m number s ≡ numbered_state n number s
  states_so number s = ap (λ (v : Vocabulary). line (codes "state " ++ decimal number) ++ state_text v s) same.signature

  broken_by : (o : Option ℕ) (p q : Point) → p ≡ q → unless_broken m sources o p ≡ unless_broken n sources o q
  broken_by None p q e = ap stays e
  broken_by (Some k) p q e = stops_so (stop.Invariant k) p.words ∙ ap (λ (z : Point). stops n sources (stop.Invariant k) z.words) e

  broken_so : (s : State) (p q : Point) → p ≡ q → unless_broken m sources (broken m s) p ≡ unless_broken n sources (broken n s) q
  broken_so s p q e = ap (λ (o : Option ℕ). unless_broken m sources o p) (same.invariants s) ∙ broken_by (broken n s) p q e

  after_so : (a b : List ℕ) (x y : Move) → a ≡ b → x ≡ y → after a x ≡ after b y
  after_so a b x y first rest = λ i. after (first i) (rest i)

  points_so : (p : Point) (q : State × List ℕ) → point_after m p q ≡ point_after n p q
  points_so p q = ap (λ (v : Vocabulary). record { number = p.number + 1; state = q.0; input = kept v p.input; words = q.1; checks = p.checks }) same.signature

  moved_by : (p : Point) (r : Result (State × List ℕ) Stop) → moved m sources p r ≡ moved n sources p r
  moved_by p (Ok q) = after_so _ _ _ _ (states_so (p.number + 1) q.0) (broken_so q.0 _ _ (points_so p q))
  moved_by p (Err e) = stops_so e p.words

  step_so : (r q : Rule) → SameSteps m n r q → (p : Point) → step m sources r p ≡ step n sources q p
  step_so r q alike p = ap (moved m sources p) (alike p.state p.input p.words) ∙ moved_by p (next n p.state p.input p.words q)

  main_so : (p : Point) → step m sources m.main p ≡ step n sources n.main p
  main_so p = step_so m.main n.main same.steps p

  onward_so : (r : Result Point Ended) (f g : Point → Move) → ((p : Point) → f p ≡ g p) → onward r f ≡ onward r g
  onward_so (Ok p) f g e = e p
  onward_so (Err end) f g e = refl

  then_so : (x y : Move) (f g : Point → Move) → x ≡ y → ((p : Point) → f p ≡ g p) → then_move x f ≡ then_move y g
  then_so x y f g first rest = ap (λ (z : Move). then_move z f) first ∙ ap (after y.text) (onward_so y.to f g rest)

  judged_by : (words : List ℕ) (o : Outcome Value) (f g : Truth → Move) → ((b : Truth) → f b ≡ g b) → judged m sources words o f ≡ judged n sources words o g
  judged_by words (Gives v) f g e = e (is_true v)
  judged_by words (Needs l) f g e = stops_so (stop.Input l) words

  judged_so : (t u : Tree) → SameWorth m n t u → (p : Point) (f g : Truth → Move) → ((b : Truth) → f b ≡ g b) → judged m sources p.words (worth m t p) f ≡ judged n sources p.words (worth n u p) g
  judged_so t u alike p f g e = ap (λ (o : Outcome Value). judged m sources p.words o f) (alike p) ∙ judged_by p.words (worth n u p) f g e

  either_so : (x y z : Move) → y ≡ z → (b : Truth) → (if b then x else y) ≡ (if b then x else z)
  either_so x y z e true = refl
  either_so x y z e false = e

  until_so : (budget : ℕ) (t u : Tree) → SameWorth m n t u → (left : ℕ) (p : Point) → steps_until m sources budget t left p ≡ steps_until n sources budget u left p
  until_so budget t u alike zero p = judged_so t u alike p _ _ (λ b. refl)
  until_so budget t u alike (suc left) p =
      judged_so t u alike p _ _ (either_so (stays p) _ _ (then_so _ _ _ _ (main_so p) (until_so budget t u alike left)))

  act_so : (budget : ℕ) (a b : Act) → SameAct m n a b → (p : Point) → acted m sources budget a p ≡ acted n sources budget b p
  act_so budget (Sets slot value) b is p = ap (λ (c : Act). acted n sources budget c p) (sym is)
  act_so budget Steps b is p = main_so p ∙ ap (λ (c : Act). acted n sources budget c p) (sym is)
  act_so budget (StepsUntil t) b (u, is, alike) p = until_so budget t u alike budget p ∙ ap (λ (c : Act). acted n sources budget c p) (sym is)
  act_so budget (Checks t) b (u, is, alike) p = judged_so t u alike p (checked p) (checked p) (λ x. refl) ∙ ap (λ (c : Act). acted n sources budget c p) (sym is)
  act_so budget (Executes r) b (q, is, alike) p = step_so r q alike p ∙ ap (λ (c : Act). acted n sources budget c p) (sym is)

  acts_so : (budget : ℕ) (xs ys : List Act) → SameActs m n xs ys → (p : Point) → all_acted m sources budget xs p ≡ all_acted n sources budget ys p
  acts_so budget [] [] alike p = refl
  acts_so budget (a ∷ xs) (b ∷ ys) (first, rest) p = then_so _ _ _ _ (act_so budget a b first p) (acts_so budget xs ys rest)
  acts_so budget [] (b ∷ ys) alike p = absurd alike
  acts_so budget (a ∷ xs) [] alike p = absurd alike

  starts_so : (budget : ℕ) (xs ys : List Act) → SameActs m n xs ys → (p : Point) → from_start m sources budget xs p ≡ from_start n sources budget ys p
  starts_so budget xs ys alike p =
      after_so _ _ _ _ (states_so 0 p.state) (then_so _ _ _ _ (broken_so p.state p p refl) (acts_so budget xs ys alike))

  begins_by : (words : List ℕ) (r : Result State Stop) (f g : State → Printed) → ((s : State) → f s ≡ g s) → begun m sources words r f ≡ begun n sources words r g
  begins_by words (Ok s) f g e = e s
  begins_by words (Err e) f g is = λ i. record { text = stop_line (same.signature i) sources e; end = played.Stopped e; words = words }

  pub same_play : (xs ys : List Act) → SameActs m n xs ys → (words : List ℕ) (budget : ℕ) → play_of m sources xs words budget ≡ play_of n sources ys words budget
  same_play xs ys alike words budget =
      ap (λ (r : Result State Stop). begun m sources words r (λ s. finished (from_start m sources budget xs (first_point s words)))) same.begins
      ∙ begins_by words (initial n) _ _ (λ s. ap finished (starts_so budget xs ys alike (first_point s words)))

-- ---- the commands of a scenario over a model, and over the one whose variables have their names' codes

named_so : (number : Name → ℕ) (units : List LoadedUnit) (rs : List DeclaredRule) → map (λ (r : DeclaredRule). r.name.text) rs ≡ map (λ (x : Macro). x.name) (map (macro_of number (signature_of units) units) rs)
named_so number units [] = refl
named_so number units (r ∷ rs) = ap (λ (xs : List Name). r.name.text ∷ xs) (named_so number units rs)

module _ (units : List LoadedUnit) (number : Name → ℕ) (is : IsNumbering number) (codes_apart : IsNumbering code) (scripts : ScriptNumbersAreFree) where
  condition_so : (raw : RawTerm) (tree : Tree) → IsConditionOf (signature_of units) raw tree → SameWorth (machine_of number units) (coded_machine units) tree (tree_of code (signature_of units) raw)
  condition_so raw tree c p =
      ap (λ (t : Tree). worth (machine_of number units) t p) c.tree_is
      ∙ (scripts units number code c.number code is codes_apart c.is_numbering codes_apart).conditions p.state p.input raw

  rule_so : (raw : RawRule) (tree : Rule) → IsRuleOf (machine_of number units) 0 raw tree → SameSteps (machine_of number units) (coded_machine units) tree (rule_of code (signature_of units) units 0 raw)
  rule_so raw tree r s i words =
      ap (next (machine_of number units) s i words) (r.tree_is units (named_so number units (rules units)))
      ∙ (scripts units number code r.number code is codes_apart r.is_numbering codes_apart).rules s i words 0 raw

  act_of_command : (c : RawCommand) (act : Act) → IsActOf (machine_of number units) 0 c act → SameAct (machine_of number units) (coded_machine units) act (coded_act units c)
  act_of_command (command.Set set) act a =
      subst (λ (x : Act). SameAct (machine_of number units) (coded_machine units) x (setting_act (given_or_name (signature_of units) set))) (sym a.act_is)
      (ap setting_act a.gives)
  act_of_command command.Step act a = subst (λ (x : Act). SameAct (machine_of number units) (coded_machine units) x Steps) (sym a) refl
  act_of_command (command.StepUntil t) act a =
      subst (λ (x : Act). SameAct (machine_of number units) (coded_machine units) x (coded_act units (command.StepUntil t))) (sym a.act_is)
      (tree_of code (signature_of units) t, refl, condition_so t a.condition a.is_condition)
  act_of_command (command.Check t) act a =
      subst (λ (x : Act). SameAct (machine_of number units) (coded_machine units) x (coded_act units (command.Check t))) (sym a.act_is)
      (tree_of code (signature_of units) t, refl, condition_so t a.condition a.is_condition)
  act_of_command (command.Exec r) act a =
      subst (λ (x : Act). SameAct (machine_of number units) (coded_machine units) x (coded_act units (command.Exec r))) (sym a.act_is)
      (rule_of code (signature_of units) units 0 r, refl, rule_so r a.rule a.is_rule)
  act_of_command (command.ExecBlock name) act a = absurd a

  acts_of_commands : (cs : List RawCommand) (acts : List Act) → AreActsOf (machine_of number units) 0 cs acts → SameActs (machine_of number units) (coded_machine units) acts (map (coded_act units) cs)
  acts_of_commands [] [] are = tt
  acts_of_commands (c ∷ cs) (act ∷ acts) (first, rest) = (act_of_command c act first, acts_of_commands cs acts rest)
  acts_of_commands [] (act ∷ acts) are = absurd are
  acts_of_commands (c ∷ cs) [] are = absurd are

-- which numbers the variables of a model and of a scenario have makes no difference to a play
pub coded_play : (units : List LoadedUnit) (m : Machine) → IsModelOf units m → IsNumbering code → NumbersAreFree → ScriptNumbersAreFree → (sources : List Source) (raw : RawScenario) (acts : List Act) → AreActsOf m 0 (commands_met raw) acts
    → (words : List ℕ) (budget : ℕ) → play_of m sources acts words budget ≡ play_of (coded_machine units) sources (coded_acts units raw) words budget
coded_play units m is codes_apart free scripts sources raw acts are words budget =
    ap (λ (x : Machine). play_of x sources acts words budget) is.machine_is
    ∙ same_play (machine_of is.number units) (coded_machine units) (free units is.number code is.is_numbering codes_apart).machines sources acts (coded_acts units raw)
    (acts_of_commands units is.number is.is_numbering codes_apart scripts (commands_met raw) acts (subst (λ (x : Machine). AreActsOf x 0 (commands_met raw) acts) is.machine_is are)) words budget

-- ---- faults

module _ (number other : Name → ℕ) (units : List LoadedUnit) where
  abbrev domains_known : List DeclaredDomain
  domains_known = (signature_of units).domains

  types_so : (ps : List RawBinder) → map (λ (b : Binder). domain_type domains_known b.domain) (binders_of number (signature_of units) ps) ≡ map (λ (b : Binder). domain_type domains_known b.domain) (binders_of other (signature_of units) ps)
  types_so [] = refl
  types_so (p ∷ ps) = ap (λ (ts : List (Option TermType)). domain_type domains_known (number_or_whole domains_known p.domain) ∷ ts) (types_so ps)

  heads_by : (rs : List DeclaredRule) → map (head_of (signature_of units)) (map (macro_of number (signature_of units) units) rs) ≡ map (head_of (signature_of units)) (map (macro_of other (signature_of units) units) rs)
  heads_by [] = refl
  heads_by (r ∷ rs) = λ i. record { name = r.name.text; types = types_so r.parameters i } ∷ heads_by rs i

  heads_so : heads_in (machine_of number units) ≡ heads_in (machine_of other units)
  heads_so = heads_by (rules units)

  command_so : (c : RawCommand) → command_faults (machine_of number units) 0 c ≡ command_faults (machine_of other units) 0 c
  command_so (command.Set set) = refl
  command_so command.Step = refl
  command_so (command.StepUntil t) = refl
  command_so (command.Check t) = refl
  command_so (command.Exec r) =
      ap (λ (hs : List RuleHead). model_faults 0 (first_fault (bodies.rule_faults (signature_of units) hs 0 r [] ∷ ranges.rule_faults (signature_of units) 0 r [] ∷ []))) heads_so
  command_so (command.ExecBlock name) = refl

  scenario_so : (raw : RawScenario) → scenario_fault (machine_of number units) 0 raw ≡ scenario_fault (machine_of other units) 0 raw
  scenario_so raw = λ i. or_too_long 0 (is_too_long raw) (or_missing 0 (missing_block raw) (flat_map (λ c. command_so c i) (commands_written raw)))

-- and none to what is wrong with a scenario
pub coded_fault : (units : List LoadedUnit) (m : Machine) → IsModelOf units m → (raw : RawScenario) → scenario_fault m 0 raw ≡ scenario_fault (coded_machine units) 0 raw
coded_fault units m is raw = ap (λ (x : Machine). scenario_fault x 0 raw) is.machine_is ∙ scenario_so is.number code units raw
