-- What definitions, initial values and invariants read.
use Rattle.std.proofs.Common.{◌≡◌, ℕ, Bool as Truth, false, ◌&&◌, ◌||◌, List, [], ◌∷◌, ◌++◌, map, Option, Some, None, refl, sym, ap, ◌∙◌, subst, arith}
use Rattle.std.specs.List.{flat_map, list_any}
use Rattle.std.proofs.lemmas.List.{get_or_past, length-map}
use Rattle.asm_sign.specs.declared.function.Function.{Function}
use Rattle.asm_sign.specs.declared.function.FunKind.{FunKind}
use Rattle.asm_sign.specs.declared.function.FunKind.TheVariants as kind
use Rattle.asm_sign.specs.Vocabulary.{Vocabulary}
use Rattle.asm_tree.specs.declared.term.RawTerm.{RawTerm}
use Rattle.asm_tree.specs.declared.unit.RawFunction.{RawFunction}
use Rattle.asm_tree.specs.declared.unit.RawInvariant.{RawInvariant}
use Rattle.asm_tree.specs.declared.unit.LoadedUnit.{LoadedUnit}
use Rattle.call_graph.specs.declared.graph.Node.{Node}
use Rattle.call_graph.specs.Calls.{is_in, touches}
use Rattle.call_graph.specs.Rows.{for_each}
use Rattle.asm_faults.specs.declared.fault.Fault.{Fault}
use Rattle.asm_faults.specs.declared.fault.ModelFault.TheVariants.{ForbiddenRead}
use Rattle.asm_faults.specs.At.{Name}
use Rattle.asm_faults.specs.First.{noted}
use Rattle.asm_faults.specs.Files.{Of, definitions, initials, invariants}
use Rattle.asm_faults.specs.Terms.{function_place, function_named}
use Rattle.asm_faults.specs.Calls as calls
use Rattle.asm_faults.specs.Calls.{Names, numbers_of, called, function_graph, reads, static_faults, initial_faults, invariant_faults, read_faults}
use Rattle.asm_faults.proofs.Noting.{noted_append}
use Rattle.asm_calls.specs.declared.caller.Caller.{Caller}
use Rattle.asm_calls.specs.declared.read.Reading.{Reading}
use Rattle.asm_calls.specs.declared.read.Reading.TheVariants.{Dynamic, Monitored}
use Rattle.asm_calls.specs.Called.{found_of, read_of, functions_in}
use Rattle.asm_calls.specs.Callers.{reader, function_caller, invariant_caller}
use Rattle.asm_calls.specs.Graphs.{IsPlaced, node_at, reads_at, reads_row, reads_by, static_marked, reading_marked}
use Rattle.asm_calls.specs.Reads.{is_static, kinds_of}
use Rattle.asm_calls.proofs.Agreeing.{touch_any}
use Rattle.asm_calls.proofs.Chaining.{touch_past}
use Rattle.asm_calls.proofs.Marking.{marked_map, fault_if}
use Rattle.asm_calls.proofs.Placing.{readers, names_in, marks, numbers_read, reader_reads, agree, own_marks}
use Rattle.asm_calls.proofs.Rows.{in_row_of}

flat-map : {A B C : Type 0} (h : B → List C) (f : A → B) (xs : List A) → flat_map h (map f xs) ≡ flat_map (λ x. h (f x)) xs
flat-map h f [] = refl
flat-map h f (x ∷ xs) = ap (λ ys. h (f x) ++ ys) (flat-map h f xs)

static_same : (v : Vocabulary) (units : List LoadedUnit) (o : Option Function) → is_static o ≡ calls.is_static v units o
static_same v units None = refl
static_same v units (Some f) = by f.kind
  where
    by : (k : FunKind) → is_static (Some (record { name = f.name; kind = k; domains = f.domains; codomain = f.codomain })) ≡ calls.is_static v units (Some (record { name = f.name; kind = k; domains = f.domains; codomain = f.codomain }))
    by kind.Static = refl
    by kind.Derived = refl
    by kind.Controlled = refl
    by kind.Out = refl
    by kind.Shared = refl
    by kind.Monitored = refl

module _ (v : Vocabulary) (units : List LoadedUnit) (places : List (Option ℕ)) (are : IsPlaced v (readers v units) places) where
  abbrev pub made : List Node
  made = map (node_at (readers v units)) places

  abbrev pub own : Reading → List Truth
  own r = map (reads_at r (readers v units)) places

  -- for each function, whether its definition reads such a function, itself or through others
  abbrev pub row_of : Reading → List Truth
  row_of r = for_each made (touches made (own r) 31)

  in_row : (r : Reading) (n : ℕ) → is_in (row_of r) n ≡ touches made (own r) 31 n
  in_row r n =
      in_row_of made (touches made (own r) 31)
      (λ m le. (let one = length-map places (node_at (readers v units)) in
      let other = length-map places (reads_at r (readers v units)) in
      touch_past made (own r) 31 m le (get_or_past (own r) m false (omega arith))))
      n

  -- what the reader of a term reads, itself or by the row, is what the term reads
  reads_names : (r : Reading) (n at : ℕ) (name : Name) (xs : Names) → reads_by r (row_of r) (reader n at name (found_of (read_of v) xs)) ≡ list_any (touches (function_graph v units) (marks v (kinds_of r)) 32) (numbers_of (function_place v) xs)
  reads_names r n at name xs =
      (λ j. reader_reads v r n at name xs j || list_any (λ (m : ℕ). in_row r m j) (numbers_read v xs j))
      ∙ sym (touch_any (function_place v) (names_in units) (function_graph v units) made (agree v units places are) (marks v (kinds_of r)) (own r) (own_marks v units places are r) 31 xs)

  reads_dynamic : (n at : ℕ) (name : Name) (t : RawTerm) → reads_by Dynamic (row_of Dynamic) (reader n at name (functions_in v t)) ≡ reads v units (kinds_of Dynamic) t
  unfolding functions_in
  reads_dynamic n at name t = reads_names Dynamic n at name (called t)

  reads_monitored : (n at : ℕ) (name : Name) (t : RawTerm) → reads_by Monitored (row_of Monitored) (reader n at name (functions_in v t)) ≡ reads v units (kinds_of Monitored) t
  unfolding functions_in
  reads_monitored n at name t = reads_names Monitored n at name (called t)

  pub statics : (ds : List (Of RawFunction)) → static_marked v Dynamic (row_of Dynamic) (map (function_caller v) ds) ≡ flat_map (static_faults v units) ds
  statics ds =
      marked_map ForbiddenRead (λ (c : Caller). is_static (function_named v c.name) && reads_by Dynamic (row_of Dynamic) c) (map (function_caller v) ds)
      ∙ flat-map (λ (c : Caller). fault_if ForbiddenRead (is_static (function_named v c.name) && reads_by Dynamic (row_of Dynamic) c) c) (function_caller v) ds
      ∙ (λ j. flat_map (λ (p : Of RawFunction). fault_if ForbiddenRead (static_same v units (function_named v p.1.name.text) j && reads_dynamic p.0 p.1.name.at p.1.name.text p.1.term j) (function_caller v p)) ds)

  pub starts : (ds : List (Of RawFunction)) → reading_marked Dynamic (row_of Dynamic) (map (function_caller v) ds) ≡ flat_map (initial_faults v units) ds
  starts ds =
      marked_map ForbiddenRead (reads_by Dynamic (row_of Dynamic)) (map (function_caller v) ds)
      ∙ flat-map (λ (c : Caller). fault_if ForbiddenRead (reads_by Dynamic (row_of Dynamic) c) c) (function_caller v) ds
      ∙ (λ j. flat_map (λ (p : Of RawFunction). fault_if ForbiddenRead (reads_dynamic p.0 p.1.name.at p.1.name.text p.1.term j) (function_caller v p)) ds)

  pub conditions : (is : List (Of RawInvariant)) → reading_marked Monitored (row_of Monitored) (map (invariant_caller v) is) ≡ flat_map (invariant_faults v units) is
  conditions is =
      marked_map ForbiddenRead (reads_by Monitored (row_of Monitored)) (map (invariant_caller v) is)
      ∙ flat-map (λ (c : Caller). fault_if ForbiddenRead (reads_by Monitored (row_of Monitored) c) c) (invariant_caller v) is
      ∙ (λ j. flat_map (λ (p : Of RawInvariant). fault_if ForbiddenRead (reads_monitored p.0 p.1.at (invariant_caller v p).name p.1.term j) (invariant_caller v p)) is)

module _ (v : Vocabulary) (units : List LoadedUnit) where
  pub reads_noted : (first second last : Option Fault) (places held : List (Option ℕ)) (g : List Node) (ds is cs : List Caller)
      → ds ≡ readers v units → is ≡ map (function_caller v) (initials units) → cs ≡ map (invariant_caller v) (invariants units)
      → IsPlaced v ds places → held ≡ places → g ≡ map (node_at ds) held
      → second ≡ noted first (static_marked v Dynamic (reads_row Dynamic ds held g) ds ++ reading_marked Dynamic (reads_row Dynamic ds held g) is)
      → last ≡ noted second (reading_marked Monitored (reads_row Monitored ds held g) cs)
      → last ≡ noted first (read_faults v units)
  reads_noted first second last places held g ds is cs d i s placed held_is g_is a b =
      let are : IsPlaced v (readers v units) places = subst (λ (xs : List Caller). IsPlaced v xs places) d placed in
      let graph : g ≡ made v units places are = g_is ∙ (λ j. map (node_at (d j)) (held_is j)) in
      let dynamic : reads_row Dynamic ds held g ≡ row_of v units places are Dynamic = λ j. reads_row Dynamic (d j) (held_is j) (graph j) in
      let monitored : reads_row Monitored ds held g ≡ row_of v units places are Monitored = λ j. reads_row Monitored (d j) (held_is j) (graph j) in
      let xs : List Fault = flat_map (static_faults v units) (definitions units) in
      let ys : List Fault = flat_map (initial_faults v units) (initials units) in
      let zs : List Fault = flat_map (invariant_faults v units) (invariants units) in
      let one : static_marked v Dynamic (reads_row Dynamic ds held g) ds ≡ xs = (λ j. static_marked v Dynamic (dynamic j) (d j)) ∙ statics v units places are (definitions units) in
      let two : reading_marked Dynamic (reads_row Dynamic ds held g) is ≡ ys = (λ j. reading_marked Dynamic (dynamic j) (i j)) ∙ starts v units places are (initials units) in
      let three : reading_marked Monitored (reads_row Monitored ds held g) cs ≡ zs = (λ j. reading_marked Monitored (monitored j) (s j)) ∙ conditions v units places are (invariants units) in
      b ∙ (λ j. noted (a j) (three j)) ∙ (λ j. noted (noted first (one j ++ two j)) zs)
      ∙ ap (λ (f : Option Fault). noted f zs) (noted_append first xs ys)
      ∙ sym (noted_append (noted first xs) ys zs) ∙ sym (noted_append first xs (ys ++ zs))
