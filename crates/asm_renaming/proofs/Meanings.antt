-- The machines of files under two numberings mean the same, and over them the rules and conditions of a script under any two.
use Rattle.std.proofs.Common.{◌≡◌, ℕ, suc, not, if◌then◌else◌, List, [], ◌∷◌, map, nat_eq, Option, Some, None, slice_get, refl, sym, ap, ◌∙◌}
use Rattle.std.specs.List.{find}
use Rattle.std.specs.Option.{option_map}
use Rattle.std.specs.FinMap as finite
use Rattle.asm_domain.specs.declared.value.Value.{Value}
use Rattle.asm_sign.specs.Kind.{is_kept}
use Rattle.asm_sign.specs.Vocabulary.{Vocabulary, locations, function_at}
use Rattle.asm_node.specs.Machine.{Machine, Definition, State, Input, no_input, has_kind}
use Rattle.asm_node.specs.Machine as machine
use Rattle.asm_node.specs.Term.{Outcome, calls_of}
use Rattle.asm_node.specs.UpdateSet.{UpdateSet}
use Rattle.asm_node.specs.Taking.{Attempt, by_words}
use Rattle.asm_node.specs.Step.{with_shared, alone, answer, may_have, initial_value, initial_from, initial, started, next, ended, holds, first_false}
use Rattle.asm_node.specs.Values.{is_true}
use Rattle.asm_tree.specs.declared.term.RawTerm.{RawTerm}
use Rattle.asm_tree.specs.declared.rule.RawRule.{RawRule}
use Rattle.asm_tree.specs.declared.unit.RawFunction.{RawFunction}
use Rattle.asm_tree.specs.declared.unit.RawInvariant.{RawInvariant}
use Rattle.asm_tree.specs.declared.unit.RawMain.{RawMain}
use Rattle.asm_tree.specs.declared.unit.LoadedUnit.{LoadedUnit}
use Rattle.asm_faults.specs.At.{Name}
use Rattle.asm_faults.specs.Files.{Of, initials, invariants, named_of, to_list}
use Rattle.asm_faults.specs.FunctionFaults.{signature_of}
use Rattle.asm_faults.specs.Model.{IsNumbering, tree_of, rule_of, definition_of, file_of, first_or_skip, machine_in}
use Rattle.asm_renaming.specs.Meaning.{MeansTheSame, NumberingsAgree, ScriptsAgree}
use Rattle.asm_renaming.proofs.Evaluating.{Numberings, find-map, calls-same, body-same, raw-val-same}
use Rattle.asm_renaming.proofs.Attempts.{outcome-same}

module _ (v : Vocabulary) (units : List LoadedUnit) (two : Numberings) where
  abbrev m : Machine
  m = machine_in two.first v units

  abbrev m' : Machine
  m' = machine_in two.second v units

  -- ---- initial states

  definition-same : (o : Option (Of RawFunction)) (vs : List Value) → initial_value m (option_map (definition_of two.first v units) o) vs ≡ initial_value m' (option_map (definition_of two.second v units) o) vs
  definition-same None vs = refl
  definition-same (Some p) vs =
      ap (λ (o : Outcome Value). answer o)
      (body-same v units two no_input finite.empty (calls_of (alone m)) (calls_of (alone m'))
      (calls-same v units two no_input finite.empty 32) p vs)

  initial-same : (f : ℕ) (vs : List Value) → initial_value m (machine.definition_of m.initial_terms f) vs ≡ initial_value m' (machine.definition_of m'.initial_terms f) vs
  initial-same f vs =
      let found : Option (Of RawFunction) = find (λ p. nat_eq (definition_of two.first v units p).function f) (initials units) in
      ap (λ (o : Option Definition). initial_value m o vs) (find-map (definition_of two.first v units) (λ d. nat_eq d.function f) (initials units))
      ∙ (definition-same found vs
      ∙ sym (ap (λ (o : Option Definition). initial_value m' o vs) (find-map (definition_of two.second v units) (λ d. nat_eq d.function f) (initials units))))

  from-same : (l : ℕ) (locations : List (ℕ × List Value)) → initial_from m l locations ≡ initial_from m' l locations
  from-same l [] = refl
  from-same l (location ∷ others) = λ i.
      if has_kind is_kept (slice_get v.functions location.0)
      then (l, initial-same location.0 location.1 i) ∷ from-same (suc l) others i
      else from-same (suc l) others i

  begins-same : initial m ≡ initial m'
  begins-same =
      ap (λ (values : List (ℕ × Value)). started (finite.from_entries values) (find (λ e. not (may_have m (function_at v e.0) e.1)) values)) (from-same 0 (locations v))

  -- ---- steps

  pub next-same : (p : Numberings) (s : State) (input : Input) (words : List ℕ) (file : ℕ) (r : RawRule) → next m s input words (rule_of p.first v units file r) ≡ next m' s input words (rule_of p.second v units file r)
  next-same p s input words file r =
      let t : State = with_shared v input s in
      ap (λ (a : Attempt (List ℕ) UpdateSet). ended (record { machine = m; state = t; input = input }) a) (outcome-same v units two input by_words p file r t words)

  main-same : (mains : List (Of RawMain)) (s : State) (input : Input) (words : List ℕ)
      → next m s input words (first_or_skip two.first v units (map (λ (p : Of RawMain). rule_of two.first v units (file_of two.first v units p.0) p.1.rule) mains))
      ≡ next m' s input words (first_or_skip two.second v units (map (λ (p : Of RawMain). rule_of two.second v units (file_of two.second v units p.0) p.1.rule) mains))
  main-same [] s input words = refl
  main-same (p ∷ ps) s input words = next-same two s input words (file_of two.first v units p.0) p.1.rule

  -- ---- invariants

  pub holds-same : (s : State) (t : RawTerm) → holds m s (tree_of two.first v t) ≡ holds m' s (tree_of two.second v t)
  holds-same s t = ap (λ (o : Outcome Value). is_true (answer o)) (raw-val-same v units two no_input two s t)

  first-same : (s : State) (n : ℕ) (is : List (Of RawInvariant))
      → first_false m s n (map (λ (p : Of RawInvariant). tree_of two.first v p.1.term) is) ≡ first_false m' s n (map (λ (p : Of RawInvariant). tree_of two.second v p.1.term) is)
  first-same s n [] = refl
  first-same s n (p ∷ ps) = λ i. if holds-same s p.1.term i then first-same s (suc n) ps i else Some n

  pub machines-same : MeansTheSame m m'
  machines-same = record {
    signature = refl;
    begins = begins-same;
    steps = λ s input words. main-same (named_of (λ u. to_list u.main) units) s input words;
    invariants = λ s. first-same s 1 (invariants units);
  }

abbrev numberings : (number other : Name → ℕ) → IsNumbering number → IsNumbering other → Numberings
numberings number other is other_is = record { first = number; second = other; first_is = is; second_is = other_is }

pub scripts_agree : (units : List LoadedUnit) (number other script other_script : Name → ℕ) → IsNumbering number → IsNumbering other → IsNumbering script → IsNumbering other_script → ScriptsAgree units number other script other_script
scripts_agree units number other script other_script is other_is script_is other_script_is =
    let files = numberings number other is other_is in
    let scripts = numberings script other_script script_is other_script_is in
    record {
      rules = next-same (signature_of units) units files scripts;
      conditions = λ s i t. raw-val-same (signature_of units) units files i scripts s t;
    }

-- a script with the numberings of the files
pub numberings_agree : (units : List LoadedUnit) (number other : Name → ℕ) → IsNumbering number → IsNumbering other → NumberingsAgree units number other
numberings_agree units number other is other_is =
    let files = numberings number other is other_is in
    record {
      machines = machines-same (signature_of units) units files;
      rules = next-same (signature_of units) units files files;
      conditions = holds-same (signature_of units) units files;
    }
