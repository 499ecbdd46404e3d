-- Who calls whom, who reads what, and what is wrong with that.
use Rattle.std.specs.Prelude.{ℕ, Bool as Truth, true, false, ◌&&◌, if◌then◌else◌, List, [], ◌∷◌, ◌++◌, map, length, Option, Some, None, codes}
use Rattle.std.specs.List.{flat_map, find, position, list_any, enumerate_from}
use Rattle.std.specs.Option.{option_map}
use Rattle.asm_sign.specs.declared.function.Function.{Function}
use Rattle.asm_sign.specs.declared.function.FunKind.{FunKind}
use Rattle.asm_sign.specs.declared.function.FunKind.TheVariants.{Static}
use Rattle.asm_sign.specs.Kind.{is_dynamic}
use Rattle.asm_sign.specs.Vocabulary.{Vocabulary}
use Rattle.asm_node.specs.Machine.{is_monitored}
use Rattle.asm_tree.specs.declared.term.RawName.{RawName}
use Rattle.asm_tree.specs.declared.term.RawTerm.{RawTerm, RawTerm-F, fold-RawTerm}
use Rattle.asm_tree.specs.declared.term.RawTermKind.TheOpen.{RawTermKind-F, RawBind-F, RawCase-F}
use Rattle.asm_tree.specs.declared.rule.RawRule.{RawRule, RawRule-F, fold-RawRule}
use Rattle.asm_tree.specs.declared.rule.RawRuleKind.TheOpen.{RawRuleKind-F, RawRuleCase-F}
use Rattle.asm_tree.specs.declared.unit.RawFunction.{RawFunction}
use Rattle.asm_tree.specs.declared.unit.RawInvariant.{RawInvariant}
use Rattle.asm_tree.specs.declared.unit.LoadedUnit.{LoadedUnit}
use Rattle.call_graph.specs.declared.graph.Node.{Node}
use Rattle.call_graph.specs.Calls.{has_chain, leads, touches}
use Rattle.asm_faults.specs.declared.fault.Fault.{Fault}
use Rattle.asm_faults.specs.declared.fault.ModelFault.{ModelFault}
use Rattle.asm_faults.specs.declared.fault.ModelFault.TheVariants.{Cycle, CallsTooDeep, ForbiddenRead}
use Rattle.asm_faults.specs.At.{Name, fault_at, token}
use Rattle.asm_faults.specs.Files.{Of, to_list, has_name, DeclaredRule, rules, definitions, initials, invariants}
use Rattle.asm_faults.specs.Terms.{function_place, function_named}

-- ---- what terms and rules call

abbrev pub Names : Type 0
Names = List Name

abbrev pub called_kind : RawTermKind-F Names Names Names Names → Names
called_kind (RawTermKind-F.Number x) = []
called_kind (RawTermKind-F.Truth b) = []
called_kind RawTermKind-F.Undef = []
called_kind (RawTermKind-F.Variable x) = []
called_kind (RawTermKind-F.Element e) = []
called_kind (RawTermKind-F.Call f ts) = f ∷ flat_map (λ t. t) ts
called_kind (RawTermKind-F.Unary o t) = t
called_kind (RawTermKind-F.Binary o t u) = t ++ u
called_kind (RawTermKind-F.Cond g t u) = g ++ (t ++ u)
called_kind (RawTermKind-F.Switch t cases u) = t ++ (flat_map (λ c. c) cases ++ u)
called_kind (RawTermKind-F.Let bs t) = flat_map (λ b. b) bs ++ t
called_kind (RawTermKind-F.Quant q bs g) = g

-- the functions that a term reads itself
abbrev pub called : RawTerm → Names
called = fold-RawTerm Names Names Names Names called_kind
    (λ (b : RawBind-F Names Names Names Names). b.term)
    (λ (c : RawCase-F Names Names Names Names). c.label ++ c.value)
    (λ (t : RawTerm-F Names Names Names Names). t.kind)

abbrev pub called_rules_kind : RawRuleKind-F Names Names Names → Names
called_rules_kind RawRuleKind-F.Skip = []
called_rules_kind (RawRuleKind-F.Update f ts t) = []
called_rules_kind (RawRuleKind-F.Par ps) = flat_map (λ p. p) ps
called_rules_kind (RawRuleKind-F.Seq ps) = flat_map (λ p. p) ps
called_rules_kind (RawRuleKind-F.If g p q) = p ++ q
called_rules_kind (RawRuleKind-F.Switch t cases q) = flat_map (λ c. c) cases ++ q
called_rules_kind (RawRuleKind-F.Let bs p) = p
called_rules_kind (RawRuleKind-F.Forall bs g p) = p
called_rules_kind (RawRuleKind-F.Choose bs g p q) = p ++ q
called_rules_kind (RawRuleKind-F.Call r ts) = r ∷ []

-- the rules that a rule calls itself
abbrev pub called_rules : RawRule → Names
called_rules = fold-RawRule Names Names Names called_rules_kind
    (λ (r : RawRule-F Names Names Names). r.kind)
    (λ (c : RawRuleCase-F Names Names Names). c.rule)

-- ---- the graphs of calls

-- the numbers of those names that have one
abbrev pub numbers_of : (Name → Option ℕ) → Names → List ℕ
numbers_of number names = flat_map (λ name. to_list (number name)) names

abbrev pub node_of : Option (List ℕ) → Node
node_of None = record { there = false; calls = [] }
node_of (Some calls) = record { there = true; calls = calls }

abbrev pub definition_named : List LoadedUnit → Name → Option (Of RawFunction)
definition_named units f = find (λ (p : Of RawFunction). has_name f p.1.name) (definitions units)

-- a function of the vocabulary is there where it has a definition, and calls what that reads
abbrev pub function_node : Vocabulary → List LoadedUnit → Function → Node
function_node v units f = node_of (option_map (λ (p : Of RawFunction). numbers_of (function_place v) (called p.1.term)) (definition_named units f.name))

abbrev pub function_graph : Vocabulary → List LoadedUnit → List Node
function_graph v units = map (function_node v units) v.functions

abbrev pub rule_place : List LoadedUnit → Name → Option ℕ
rule_place units r = position (λ (q : DeclaredRule). has_name r q.name) (rules units)

abbrev pub rule_node : List LoadedUnit → DeclaredRule → Node
rule_node units r = node_of (Some (numbers_of (rule_place units) (called_rules r.body)))

abbrev pub rule_graph : List LoadedUnit → List Node
rule_graph units = map (rule_node units) (rules units)

-- ---- calls

-- a name of a unit, and the number of what it names
abbrev pub Thing : Type 0
Thing = Of RawName × ℕ

-- the definitions, each with the number of its function
abbrev pub defined_things : Vocabulary → List LoadedUnit → List Thing
defined_things v units = flat_map (λ (p : Of RawFunction). map (λ number. ((p.0, p.1.name), number)) (to_list (function_place v p.1.name.text))) (definitions units)

abbrev pub rule_things : List LoadedUnit → List Thing
rule_things units = map (λ (p : ℕ × DeclaredRule). ((p.1.unit, p.1.name), p.0)) (enumerate_from 0 (rules units))

abbrev pub faults_where : ModelFault → (ℕ → Truth) → List Thing → List Fault
faults_where kind test things = flat_map (λ (t : Thing). if test t.1 then fault_at kind t.0.0 t.0.1 ∷ [] else []) things

abbrev pub cycles : List Node → List Thing → List Fault
cycles g things = faults_where Cycle (λ number. leads g (length g) number number) things

-- more than 32 that call one another begin here
abbrev pub deep : List Node → List Thing → List Fault
deep g things = faults_where CallsTooDeep (has_chain g 33) things

abbrev pub or_next : List Fault → List Fault → List Fault
or_next [] next = next
or_next (f ∷ faults) next = f ∷ faults

-- definitions or rules that call themselves through each other; without any, chains of more than 32
abbrev pub call_faults : Vocabulary → List LoadedUnit → List Fault
call_faults v units =
    or_next (cycles (function_graph v units) (defined_things v units) ++ cycles (rule_graph units) (rule_things units))
    (deep (function_graph v units) (defined_things v units) ++ deep (rule_graph units) (rule_things units))

-- ---- reads

module _ (v : Vocabulary) (units : List LoadedUnit) where
  -- a term reads a function of such a kind itself, or through definitions, no chain of which is longer than 32
  abbrev pub reads : (FunKind → Truth) → RawTerm → Truth
  reads kinds t = list_any (touches (function_graph v units) (map (λ (f : Function). kinds f.kind) v.functions) 32) (numbers_of (function_place v) (called t))

  abbrev pub is_static : Option Function → Truth
  is_static None = false
  is_static (Some f) = by_kind f.kind
    where
      by_kind : FunKind → Truth
      by_kind Static = true
      by_kind kind = false

  abbrev pub static_faults : Of RawFunction → List Fault
  static_faults (n, f) = if is_static (function_named v f.name.text) && reads is_dynamic f.term then fault_at ForbiddenRead n f.name ∷ [] else []

  abbrev pub initial_faults : Of RawFunction → List Fault
  initial_faults (n, f) = if reads is_dynamic f.term then fault_at ForbiddenRead n f.name ∷ [] else []

  abbrev pub invariant_faults : Of RawInvariant → List Fault
  invariant_faults (n, i) = if reads is_monitored i.term then token ForbiddenRead n i.at (codes "invariant") ∷ [] else []

  -- a static definition or an initial term reads a dynamic function, or an invariant a monitored one
  abbrev pub read_faults : List Fault
  read_faults =
      flat_map static_faults (definitions units)
      ++ (flat_map initial_faults (initials units)
      ++ flat_map invariant_faults (invariants units))
