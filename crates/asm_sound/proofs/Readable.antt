-- Where no forbidden read is found, definitions, initial terms and invariants read functions of allowed kinds alone.
use Rattle.std.proofs.Common.{◌≡◌, ℕ, suc, zero, Bool as Truth, true, false, true≢false, not, ◌&&◌, List, [], ◌∷◌, Option, Some, None, if◌then◌else◌, slice_get, All, refl, sym, ap, subst, ◌∙◌}
use Rattle.std.specs.Prelude.{map, codes}
use Rattle.std.specs.List.{flat_map, list_any}
use Rattle.std.specs.Option.{unwrap_or, option_map}
use Rattle.std.proofs.lemmas.Option.{get_or_from_slice_get, slice_get-map}
use Rattle.asm_sign.specs.declared.function.Function.{Function}
use Rattle.asm_sign.specs.declared.function.FunKind.{FunKind}
use Rattle.asm_sign.specs.declared.function.FunKind.TheVariants.{Static, Derived, Controlled, Out, Shared, Monitored}
use Rattle.asm_sign.specs.Kind.{is_dynamic}
use Rattle.asm_sign.specs.Vocabulary.{Vocabulary}
use Rattle.asm_node.specs.declared.term_type.TermType.TheVariants.{Boolean}
use Rattle.asm_node.specs.Machine.{Definition, is_monitored}
use Rattle.asm_node.specs.Tree.{Tree}
use Rattle.asm_node.specs.Reads.{may_be_read, IsReadable}
use Rattle.asm_node.specs.WellFormed.{any_kind, is_defined, may_read}
use Rattle.asm_tree.specs.declared.term.RawName.{RawName}
use Rattle.asm_tree.specs.declared.term.RawTerm.{RawTerm}
use Rattle.asm_tree.specs.declared.unit.RawFunction.{RawFunction}
use Rattle.asm_tree.specs.declared.unit.RawInvariant.{RawInvariant}
use Rattle.asm_tree.specs.declared.unit.LoadedUnit.{LoadedUnit}
use Rattle.call_graph.specs.declared.graph.Node.{Node}
use Rattle.call_graph.specs.Calls.{calls_at, is_in, touches}
use Rattle.asm_faults.specs.declared.fault.Fault.{Fault}
use Rattle.asm_faults.specs.declared.fault.ModelFault.TheVariants.{Unknown, ForbiddenRead}
use Rattle.asm_faults.specs.At.{Name, fault_at, token}
use Rattle.asm_faults.specs.DomainFaults.{is_listed}
use Rattle.asm_faults.specs.Files.{Of, definitions}
use Rattle.asm_faults.specs.Terms.{judged, function_place, function_named, asked}
use Rattle.asm_faults.specs.Bodies.{invariant_faults}
use Rattle.asm_faults.specs.Calls.{called, numbers_of, function_graph, call_faults, reads, is_static, static_faults, initial_faults}
use Rattle.asm_faults.specs.Calls as calls
use Rattle.asm_faults.specs.Model.{function_number, definition_of, tree_of}
use Rattle.asm_sound.proofs.Inductions.{Every}
use Rattle.asm_sound.proofs.Scopes.{none_right, fails}
use Rattle.asm_sound.proofs.TypedTerms.{no_some, asked_own, function_found}
use Rattle.asm_sound.proofs.Heads.{none_at, all_found, some_is}
use Rattle.asm_sound.proofs.Definitions.{place_of_named}
use Rattle.asm_sound.proofs.Called.{IsNamed, term_reads, term_declares}
use Rattle.asm_sound.proofs.Chains.{or_left, or_right, each_fails, every_zip, of_names, Placed, IsKnownBody, machine, read_within, no_chain, definitions_end}

touch_here : (g : List Node) (marked : List Truth) (n f : ℕ) → touches g marked n f ≡ false → is_in marked f ≡ false
unfolding touches
touch_here g marked zero f e = e
touch_here g marked (suc n) f e = or_left (is_in marked f) (list_any (touches g marked n) (calls_at g f)) e

touch_next : (g : List Node) (marked : List Truth) (n f : ℕ) (cs : List ℕ) → calls_at g f ≡ cs → touches g marked (suc n) f ≡ false → Every (λ (c : ℕ). touches g marked n c ≡ false) cs
unfolding touches
touch_next g marked n f cs is e = each_fails (touches g marked n) cs (ap (list_any (touches g marked n)) (sym is) ∙ or_right (is_in marked f) (list_any (touches g marked n) (calls_at g f)) e)

and_false : (a b : Truth) → (a && b) ≡ false → a ≡ true → b ≡ false
and_false true b e is = e
and_false false b e is = absurd (true≢false (sym is))

-- what holds of what each item is made into holds of all that is made
all_made : {A B : Type 0} (P : B → Type 0) (h : A → B) (xs : List A) → ((k : ℕ) (x : A) → slice_get xs k ≡ Some x → P (h x)) → All P (map h xs)
all_made {A} {B} P h xs f = all_found P (map h xs) (λ k y is. by k y (slice_get xs k) refl (sym (slice_get-map h xs k) ∙ is))
  where
    by : (k : ℕ) (y : B) (o : Option A) → slice_get xs k ≡ o → option_map h o ≡ Some y → P y
    by k y None at is = absurd (no_some y is)
    by k y (Some x) at is = subst P (some_is (h x) y is) (f k x at)

module _ (number : Name → ℕ) (v : Vocabulary) (units : List LoadedUnit) (placed : Placed v) (fine : (k : ℕ) (p : Of RawFunction) → slice_get (definitions units) k ≡ Some p → IsKnownBody v p) (ends : call_faults v units ≡ []) where
  abbrev marks : (FunKind → Truth) → List Truth
  marks kinds = map (λ (f : Function). kinds f.kind) v.functions

  abbrev Untouched : (FunKind → Truth) → ℕ → ℕ → Type 0
  Untouched kinds n f = touches (function_graph v units) (marks kinds) n f ≡ false

  unmarked : (kinds : FunKind → Truth) (n f : ℕ) (g : Function) → slice_get v.functions f ≡ Some g → Untouched kinds n f → not (kinds g.kind) ≡ true
  unmarked kinds n f g is e =
      ap not (sym (get_or_from_slice_get (marks kinds) f (kinds g.kind) false (slice_get-map (λ (h : Function). kinds h.kind) v.functions f ∙ ap (option_map (λ (h : Function). kinds h.kind)) is)) ∙ touch_here (function_graph v units) (marks kinds) n f e)

  -- a term that reads no function of some kinds
  pub reads_none : (kinds : FunKind → Truth) (n : ℕ) (t : RawTerm) → Every (IsNamed v n) (called t) → reads v units kinds t ≡ false → IsReadable (machine number v units placed fine) (λ kind. not (kinds kind)) (tree_of number v t)
  reads_none kinds n t named e =
      term_reads number v (may_be_read (machine number v units placed fine) (λ kind. not (kinds kind)) 32) t
      (every_zip (IsNamed v n) (λ (c : Name). (k : ℕ) → function_place v c ≡ Some k → Untouched kinds 32 k) (λ (c : Name). may_be_read (machine number v units placed fine) (λ kind. not (kinds kind)) 32 (function_number number v c))
      (λ c is safe. (let place = place_of_named v c is.0 is.1 in
      subst (may_be_read (machine number v units placed fine) (λ kind. not (kinds kind)) 32) (sym (ap (λ (o : Option ℕ). unwrap_or o 0) place.1))
      (read_within number v units placed fine (λ kind. not (kinds kind)) (Untouched kinds) (unmarked kinds) (λ m f cs is_calls safe_here. touch_next (function_graph v units) (marks kinds) m f cs is_calls safe_here) 32 place.0 is.0 place.2
      (no_chain number v units placed fine ends place.0 is.0 place.2) (safe place.0 place.1))))
      (called t) named (of_names (Untouched kinds 32) (function_place v) (called t) (each_fails (touches (function_graph v units) (marks kinds) 32) (numbers_of (function_place v) (called t)) e)))

  -- a term that may read functions of each kind
  pub reads_any : (n : ℕ) (t : RawTerm) → Every (IsNamed v n) (called t) → IsReadable (machine number v units placed fine) any_kind (tree_of number v t)
  reads_any n t named =
      term_reads number v (may_be_read (machine number v units placed fine) any_kind 32) t
      (every_zip (IsNamed v n) (IsNamed v n) (λ (c : Name). may_be_read (machine number v units placed fine) any_kind 32 (function_number number v c))
      (λ c is _. (let place = place_of_named v c is.0 is.1 in
      subst (may_be_read (machine number v units placed fine) any_kind 32) (sym (ap (λ (o : Option ℕ). unwrap_or o 0) place.1)) (definitions_end number v units placed fine ends place.0 is.0 place.2)))
      (called t) named named)

  abbrev static_kind : FunKind → Truth
  static_kind Static = true
  static_kind kind = false

  definition_readable : (p : Of RawFunction) → IsKnownBody v p → static_faults v units p ≡ [] → (kind : FunKind) → (is_static v units (function_named v p.1.name.text) ≡ static_kind kind) → IsReadable (machine number v units placed fine) (may_read kind) (tree_of number v p.1.term)
  definition_readable (n, f) body none Static is =
      reads_none is_dynamic n f.term body.reads
      (and_false (is_static v units (function_named v f.name.text)) (reads v units is_dynamic f.term) (fails (is_static v units (function_named v f.name.text) && reads v units is_dynamic f.term) (fault_at ForbiddenRead n f.name) none) is)
  definition_readable (n, f) body none Derived is = reads_any n f.term body.reads
  definition_readable (n, f) body none Controlled is = reads_any n f.term body.reads
  definition_readable (n, f) body none Out is = reads_any n f.term body.reads
  definition_readable (n, f) body none Shared is = reads_any n f.term body.reads
  definition_readable (n, f) body none Monitored is = reads_any n f.term body.reads

  -- a definition of a static function reads no dynamic one
  pub definitions_readable : flat_map (static_faults v units) (definitions units) ≡ []
      → All (λ (d : Definition). (g : Function) → slice_get v.functions d.function ≡ Some g → IsReadable (machine number v units placed fine) (may_read g.kind) d.body) (map (definition_of number v units) (definitions units))
  definitions_readable none =
      all_made (λ (d : Definition). (g : Function) → slice_get v.functions d.function ≡ Some g → IsReadable (machine number v units placed fine) (may_read g.kind) d.body) (definition_of number v units) (definitions units)
      (λ k p at g is. (let body = fine k p at in
      let same : body.function ≡ g = some_is body.function g (sym (function_found number v p.1.name.text body.function body.is_function) ∙ is) in
      definition_readable p body (none_at (static_faults v units) (definitions units) k p none at) g.kind (ap (is_static v units) (body.is_function ∙ ap (λ (h : Function). Some h) same))))

  -- an initial term reads no dynamic function
  pub initials_readable : (fs : List (Of RawFunction)) → ((k : ℕ) (p : Of RawFunction) → slice_get fs k ≡ Some p → IsKnownBody v p) → flat_map (initial_faults v units) fs ≡ []
      → All (λ (d : Definition). IsReadable (machine number v units placed fine) is_defined d.body) (map (definition_of number v units) fs)
  initials_readable fs known none =
      all_made (λ (d : Definition). IsReadable (machine number v units placed fine) is_defined d.body) (definition_of number v units) fs
      (λ k p at. reads_none is_dynamic p.0 p.1.term (known k p at).reads (fails (reads v units is_dynamic p.1.term) (fault_at ForbiddenRead p.0 p.1.name) (none_at (initial_faults v units) fs k p none at)))

  -- an invariant reads no monitored function
  pub invariants_readable : (declared : List Name) (is : List (Of RawInvariant)) → flat_map (invariant_faults v declared) is ≡ [] → flat_map (calls.invariant_faults v units) is ≡ []
      → All (λ (t : Tree). IsReadable (machine number v units placed fine) (λ kind. not (is_monitored kind)) t) (map (λ (p : Of RawInvariant). tree_of number v p.1.term) is)
  invariants_readable declared is well none =
      all_made (λ (t : Tree). IsReadable (machine number v units placed fine) (λ kind. not (is_monitored kind)) t) (λ (p : Of RawInvariant). tree_of number v p.1.term) is
      (λ k p at. reads_none is_monitored p.0 p.1.term (named k p at) (fails (reads v units is_monitored p.1.term) (token ForbiddenRead p.0 p.1.at (codes "invariant")) (none_at (calls.invariant_faults v units) is k p none at)))
    where
      unless : ℕ → RawName → List Fault
      unless n name = if is_listed declared name.text then [] else fault_at Unknown n name ∷ []

      named : (k : ℕ) (p : Of RawInvariant) → slice_get is k ≡ Some p → Every (IsNamed v p.0) (called p.1.term)
      named k p at =
          term_declares v p.0 p.1.term []
          (asked_own v p.0 (Some Boolean) [] (judged v p.0 p.1.term) (none_right (flat_map (unless p.0) p.1.over) (asked v p.0 (Some Boolean) [] (judged v p.0 p.1.term)) (none_at (invariant_faults v declared) is k p well at)))
