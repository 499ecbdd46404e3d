-- Cycles and long chains of a model's definitions and rules.
use Rattle.std.proofs.Common.{◌≡◌, ℕ, ◌≤◌, length, Bool as Truth, true, false, ◌||◌, List, [], ◌∷◌, ◌++◌, map, Option, Some, refl, sym, ap, ◌∙◌, subst, arith}
use Rattle.asm_sign.specs.Vocabulary.{Vocabulary}
use Rattle.asm_tree.specs.declared.unit.LoadedUnit.{LoadedUnit}
use Rattle.call_graph.specs.declared.graph.Node.{Node}
use Rattle.call_graph.specs.Calls.{has_chain, leads}
use Rattle.call_graph.specs.Rows.{for_each}
use Rattle.asm_faults.specs.declared.fault.Fault.{Fault}
use Rattle.asm_faults.specs.declared.fault.ModelFault.{ModelFault}
use Rattle.asm_faults.specs.declared.fault.ModelFault.TheVariants.{Cycle, CallsTooDeep}
use Rattle.asm_faults.specs.First.{noted}
use Rattle.asm_faults.specs.Files.{definitions, rules}
use Rattle.asm_faults.specs.Terms.{function_place}
use Rattle.asm_faults.specs.Calls.{node_of, function_graph, rule_graph, defined_things, rule_things, cycles, deep, or_next, call_faults}
use Rattle.asm_faults.proofs.Noting.{noted_append}
use Rattle.asm_calls.specs.declared.caller.Caller.{Caller}
use Rattle.asm_calls.specs.Callers.{rule_caller, rule_names}
use Rattle.asm_calls.specs.Graphs.{IsPlaced, node_at, in_row, marked_faults, are_some, both_marked, cycles_marked, chains_marked}
use Rattle.asm_calls.proofs.Agreeing.{chain_same, leads_same}
use Rattle.asm_calls.proofs.Chaining.{leads_past, chain_past}
use Rattle.asm_calls.proofs.Graphing.{rules_graph}
use Rattle.asm_calls.proofs.Marking.{definitions_marked, rules_marked}
use Rattle.asm_calls.proofs.Placing.{readers, names_in, agree, graph_short}
use Rattle.asm_calls.proofs.Rows.{in_row_of}

-- ---- two lists of faults

pub some_append : (xs ys : List Fault) → are_some xs || are_some ys ≡ are_some (xs ++ ys)
some_append [] ys = refl
some_append (x ∷ xs) ys = refl

pub both_noted : (first second last : Option Fault) (xs ys : List Fault) → second ≡ noted first xs → last ≡ noted second ys → last ≡ noted first (xs ++ ys)
both_noted first second last xs ys a b = b ∙ ap (λ (f : Option Fault). noted f ys) a ∙ sym (noted_append first xs ys)

-- where there are cycles
pub stopped : (first last : Option Fault) (xs ys : List Fault) (b : Truth) → last ≡ noted first xs → b ≡ are_some xs → b ≡ true → last ≡ noted first (or_next xs ys)
stopped first last [] ys b e s t = let wrong : false ≡ true = sym s ∙ t in absurd (cc (wrong))
stopped first last (x ∷ xs) ys b e s t = e

-- where there are none
pub passed : (first second last : Option Fault) (xs ys : List Fault) (b : Truth) → second ≡ noted first xs → b ≡ are_some xs → b ≡ false → last ≡ noted second ys → last ≡ noted first (or_next xs ys)
passed first second last [] ys b e s t f = f ∙ ap (λ (o : Option Fault). noted o ys) e
passed first second last (x ∷ xs) ys b e s t f = let wrong : true ≡ false = sym s ∙ t in absurd (cc (wrong))

-- ---- the whole

module _ (v : Vocabulary) (units : List LoadedUnit) where
  abbrev pub called : List Caller
  called = map (rule_caller (rule_names units)) (rules units)

  module _ (places : List (Option ℕ)) (are : IsPlaced v (readers v units) places) where
    abbrev pub made : List Node
    made = map (node_at (readers v units)) places

    cycles_same : cycles_marked v (length (function_graph v units)) (readers v units) made called (rule_graph units) ≡ cycles (function_graph v units) (defined_things v units) ++ cycles (rule_graph units) (rule_things units)
    cycles_same =
        let g : List Node = function_graph v units in
        let h : List Node = rule_graph units in
        let one : ℕ → Truth = λ n. leads g (length g) n n in
        let own : ℕ → Truth = λ n. leads made (length g) n n in
        let other : ℕ → Truth = λ n. leads h (length h) n n in
        λ j. definitions_marked Cycle (for_each made own) one v
        (λ x n e. in_row_of made own (λ m le. leads_past made (length g) m m le) n ∙ leads_same (function_place v) (names_in units) g made (agree v units places are) (length g) n x n e) (definitions units) j
        ++ rules_marked Cycle (for_each h other) other (in_row_of h other (λ n le. leads_past h (length h) n n le)) (rule_names units) (rules units) j

    chains_same : chains_marked v (readers v units) made called (rule_graph units) ≡ deep (function_graph v units) (defined_things v units) ++ deep (rule_graph units) (rule_things units)
    chains_same =
        let g : List Node = function_graph v units in
        let h : List Node = rule_graph units in
        λ j. definitions_marked CallsTooDeep (for_each made (has_chain made 33)) (has_chain g 33) v
        (λ x n e. in_row_of made (has_chain made 33) (λ m le. chain_past made 33 m (omega arith) le) n ∙ chain_same (function_place v) (names_in units) g made (agree v units places are) 33 x n e) (definitions units) j
        ++ rules_marked CallsTooDeep (for_each h (has_chain h 33)) (has_chain h 33) (in_row_of h (has_chain h 33) (λ n le. chain_past h 33 n (omega arith) le)) (rule_names units) (rules units) j

  pub calls_noted : (first last : Option Fault) (ds rs : List Caller) (places held : List (Option ℕ)) (g h : List Node)
      → ds ≡ readers v units → rs ≡ called → IsPlaced v ds places → held ≡ places → g ≡ map (node_at ds) held → h ≡ map (λ (c : Caller). node_of (Some c.calls)) rs
      → ((far : ℕ) → length g ≤ far → last ≡ noted first (or_next (cycles_marked v far ds g rs h) (chains_marked v ds g rs h))) → last ≡ noted first (call_faults v units)
  calls_noted first last ds rs places held g h d r placed held_is g_is h_is e =
      let are : IsPlaced v (readers v units) places = subst (λ (cs : List Caller). IsPlaced v cs places) d placed in
      let whole : ℕ = length (function_graph v units) in
      let graph : g ≡ made places are = g_is ∙ (λ j. map (node_at (d j)) (held_is j)) in
      let other : h ≡ rule_graph units = h_is ∙ ap (map (λ (c : Caller). node_of (Some c.calls))) r ∙ rules_graph units in
      let short : length g ≤ whole = subst (λ (k : List Node). length k ≤ whole) (sym graph) (graph_short v units places are) in
      e whole short
      ∙ (λ j. noted first (or_next (cycles_marked v whole (d j) (graph j) (r j) (other j)) (chains_marked v (d j) (graph j) (r j) (other j))))
      ∙ (λ j. noted first (or_next (cycles_same places are j) (chains_same places are j)))

-- ---- the rows of two graphs

pub cycle_rows : (v : Vocabulary) (far : ℕ) (ds : List Caller) (g : List Node) (rs : List Caller) (h : List Node) (row other : List Truth)
    → row ≡ for_each g (λ n. leads g far n n) → other ≡ for_each h (λ n. leads h (length h) n n) → both_marked v Cycle ds row rs other ≡ cycles_marked v far ds g rs h
cycle_rows v far ds g rs h row other a b = λ j. both_marked v Cycle ds (a j) rs (b j)

pub chain_rows : (v : Vocabulary) (ds : List Caller) (g : List Node) (rs : List Caller) (h : List Node) (row other : List Truth)
    → row ≡ for_each g (has_chain g 33) → other ≡ for_each h (has_chain h 33) → both_marked v CallsTooDeep ds row rs other ≡ chains_marked v ds g rs h
chain_rows v ds g rs h row other a b = λ j. both_marked v CallsTooDeep ds (a j) rs (b j)

-- ---- two groups of callers

module _ (v : Vocabulary) (kind : ModelFault) (ds : List Caller) (row : List Truth) (rs : List Caller) (other : List Truth) (marks : List Truth) (marks_are : marks ≡ map (λ (c : Caller). in_row row (function_place v c.name)) ds) where
  pub both_faults : (first second last : Option Fault) → second ≡ noted first (marked_faults kind marks 0 ds) → last ≡ noted second (marked_faults kind other 0 rs) → last ≡ noted first (both_marked v kind ds row rs other)
  both_faults first second last a b =
      both_noted first second last (marked_faults kind marks 0 ds) (marked_faults kind other 0 rs) a b
      ∙ ap (λ (ms : List Truth). noted first (marked_faults kind ms 0 ds ++ marked_faults kind other 0 rs)) marks_are

  pub both_found : (some more found : Truth) → some ≡ are_some (marked_faults kind marks 0 ds) → more ≡ are_some (marked_faults kind other 0 rs) → found ≡ some || more → found ≡ are_some (both_marked v kind ds row rs other)
  both_found some more found a b e =
      e ∙ (λ j. a j || b j) ∙ some_append (marked_faults kind marks 0 ds) (marked_faults kind other 0 rs)
      ∙ ap (λ (ms : List Truth). are_some (marked_faults kind ms 0 ds ++ marked_faults kind other 0 rs)) marks_are
