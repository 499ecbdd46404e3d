-- What calls functions or rules, as it stands in the files.
use Rattle.std.specs.Prelude.{ℕ, false, List, map, codes}
use Rattle.std.specs.List.{flat_map, list_any, enumerate_from}
use Rattle.asm_sign.specs.Kind.{is_dynamic}
use Rattle.asm_sign.specs.Vocabulary.{Vocabulary}
use Rattle.asm_node.specs.Machine.{is_monitored}
use Rattle.asm_tree.specs.declared.term.RawName.{RawName}
use Rattle.asm_tree.specs.declared.rule.RawRule.{RawRule}
use Rattle.asm_tree.specs.declared.unit.RawDefinition.{RawDefinition}
use Rattle.asm_tree.specs.declared.unit.RawFunction.{RawFunction}
use Rattle.asm_tree.specs.declared.unit.RawInvariant.{RawInvariant}
use Rattle.asm_tree.specs.declared.unit.RawUnit.{RawUnit}
use Rattle.asm_tree.specs.declared.unit.LoadedUnit.{LoadedUnit}
use Rattle.asm_faults.specs.At.{Name}
use Rattle.asm_faults.specs.Files.{Of, DeclaredRule, rules, definition_in, invariant_in, rule_in}
use Rattle.asm_calls.specs.declared.caller.Caller.{Caller}
use Rattle.asm_calls.specs.declared.gather.Part.{Part}
use Rattle.asm_calls.specs.declared.gather.Part.TheVariants as part
use Rattle.asm_calls.specs.declared.read.Read.{Read}
use Rattle.asm_calls.specs.Called.{functions_in, rules_in}

-- a term with these reads
abbrev pub reader : ℕ → ℕ → Name → List Read → Caller
reader n at name reads =
    record {
      unit = n;
      at = at;
      name = name;
      calls = map (λ (r : Read). r.number) reads;
      dynamic = list_any (λ (r : Read). is_dynamic r.kind) reads;
      monitored = list_any (λ (r : Read). is_monitored r.kind) reads;
    }

-- a definition or an initial value, at the name of its function
abbrev pub function_caller : Vocabulary → Of RawFunction → Caller
function_caller v p = reader p.0 p.1.name.at p.1.name.text (functions_in v p.1.term)

-- an invariant, at the word
abbrev pub invariant_caller : Vocabulary → Of RawInvariant → Caller
invariant_caller v p = reader p.0 p.1.at (codes "invariant") (functions_in v p.1.term)

abbrev pub rule_caller_at : List Name → ℕ → RawName → RawRule → Caller
rule_caller_at names n name body = record { unit = n; at = name.at; name = name.text; calls = rules_in names body; dynamic = false; monitored = false }

-- a rule, at its name, with those of these rules that it calls
abbrev pub rule_caller : List Name → DeclaredRule → Caller
rule_caller names r = rule_caller_at names r.unit r.name r.body

abbrev pub rule_names : List LoadedUnit → List Name
rule_names units = map (λ (r : DeclaredRule). r.name.text) (rules units)

-- things of the unit of a number
abbrev pub of_unit : {A : Type 0} → ℕ → List A → List (Of A)
of_unit n items = map (λ item. (n, item)) items

-- the definitions of units, the first of which has this number
abbrev pub definitions_from : ℕ → List LoadedUnit → List (Of RawDefinition)
definitions_from n units = flat_map (λ (p : ℕ × RawUnit). of_unit p.0 p.1.definitions) (enumerate_from n (map (λ (u : LoadedUnit). u.unit) units))

-- what is gathered of a definition
abbrev pub callers_in : Part → Vocabulary → List Name → Of RawDefinition → List Caller
callers_in part.Functions v names d = map (function_caller v) (definition_in d)
callers_in part.Invariants v names d = map (invariant_caller v) (invariant_in d)
callers_in part.Rules v names d = map (rule_caller names) (rule_in d)
