-- Where nothing is wrong in a term and no interval in it is refused, its tree has the range that the check says.
use Rattle.std.proofs.Common.{◌≡◌, ℕ, ℤ, pos, ◌≤ℤ◌, false, List, [], ◌∷◌, ◌++◌, length, Option, Some, None, refl, sym, ap, subst, ◌∙◌}
use Rattle.std.specs.Prelude.{map}
use Rattle.std.specs.List.{flat_map}
use Rattle.std.specs.Int.Signed.{≤ℤ_refl}
use Rattle.asm_domain.specs.declared.value.Value.{Value}
use Rattle.asm_domain.specs.declared.value.Value.TheVariants.{Undef, Bool, Int, Elem}
use Rattle.asm_domain.proofs.Spanning.{AreBounds}
use Rattle.asm_sign.specs.declared.function.Function.{Function}
use Rattle.asm_sign.specs.Vocabulary.{Vocabulary}
use Rattle.asm_node.specs.declared.term_type.TermType.{TermType}
use Rattle.asm_node.specs.declared.term_type.TermType.TheVariants.{Boolean}
use Rattle.asm_node.specs.Types.{domain_type}
use Rattle.asm_node.specs.Tree as tree
use Rattle.asm_node.specs.Tree.{Tree, Trees}
use Rattle.asm_node.specs.Ranges.{Range, NoNumber, Ranges, constant_numbers, put_range, IsCodomainRange, HasRange}
use Rattle.asm_node.specs.RuleRanges.{AreRanged}
use Rattle.asm_tree.specs.declared.term.RawBinder.{RawBinder}
use Rattle.asm_tree.specs.declared.term.RawBind.{RawBind, RawBind-F}
use Rattle.asm_tree.specs.declared.term.RawCase.{RawCase, RawCase-F}
use Rattle.asm_tree.specs.declared.term.RawTerm.{RawTerm, RawTerm-F}
use Rattle.asm_tree.specs.declared.term.RawTermKind.{RawTermKind-F}
use Rattle.asm_faults.specs.declared.fault.Fault.{Fault}
use Rattle.asm_faults.specs.declared.fault.ModelFault.TheVariants.{Unknown, RangeTooWide}
use Rattle.asm_faults.specs.At.{Name, token}
use Rattle.asm_faults.specs.DomainFaults.{repeats}
use Rattle.asm_faults.specs.FunctionFaults.{unknown_domain}
use Rattle.asm_faults.specs.Terms as typing
use Rattle.asm_faults.specs.Terms.{Judged, judged, judge_kind, LetBound, asked, asked_each, alike, or_else, unary_asks, asks, element_type, element_faults, arity_faults, call_faults, function_named, variables_of, binder_faults, infinite_faults, let_faults}
use Rattle.asm_faults.specs.Ranges as spread
use Rattle.asm_faults.specs.Ranges.{Spread, Between, Scope, Measured, Bound, Kind, measured, measure_kind, is_refused, unless_refused, refused, each, case_faults, either, either_case, within, within_let, bind_faults, codomain_spread}
use Rattle.asm_faults.specs.Model.{IsNumbering, function_number, trees_of, is_case, switch_tree, let_tree, tree_kind, tree_of}
use Rattle.asm_sound.proofs.Inductions.{Every, Form, Parts, at_form, induct, folded_form, fold_at}
use Rattle.asm_sound.proofs.Folding.{judged_form, judged_at, tree_form, tree_at}
use Rattle.asm_sound.proofs.Scopes.{full, none_left, none_right, fails}
use Rattle.asm_sound.proofs.TypedTerms.{IsReady, asked_own, function_found}
use Rattle.asm_sound.proofs.Spreads.{spread_of, bounded, unless_same, two_ranged, one_ranged, either_ranged}
use Rattle.asm_sound.proofs.RangedScopes.{domain_range, Agrees, agrees_more, bound_in}

-- ---- intervals by the forms of terms

module _ (v : Vocabulary) (n : ℕ) where
  abbrev measure_bind : RawBind-F (Kind v n) Bound (Measured × Measured) Measured → Bound
  measure_bind b = (b.variable.text, b.term)

  abbrev measure_case : RawCase-F (Kind v n) Bound (Measured × Measured) Measured → Measured × Measured
  measure_case c = (c.label, c.value)

  abbrev measure_term : RawTerm-F (Kind v n) Bound (Measured × Measured) Measured → Measured
  measure_term t = t.kind t.at t.first

  abbrev pub measured_form : Form → RawTermKind-F (Kind v n) Bound (Measured × Measured) Measured
  measured_form = folded_form (Kind v n) Bound (Measured × Measured) Measured (measure_kind v n) measure_bind measure_case measure_term

  pub measured_at : (at : ℕ) (first : Name) (k : Form) → measured v n (at_form at first k) ≡ measure_kind v n (measured_form k) at first
  measured_at = fold_at (Kind v n) Bound (Measured × Measured) Measured (measure_kind v n) measure_bind measure_case measure_term

-- ---- numbers

one_number : (z : ℤ) → AreBounds (constant_numbers (Int z)) z z
one_number z = record { least = refl; greatest = refl; between = λ y e. subst (λ (w : ℤ). (z ≤ℤ w) × (w ≤ℤ z)) e (≤ℤ_refl z, ≤ℤ_refl z) }

-- ---- terms

module _ (number : Name → ℕ) (numbering : IsNumbering number) (v : Vocabulary) (ready : IsReady v) (n : ℕ) where
  -- the range of a tree has the bounds of an interval
  abbrev pub Ranged : Ranges → Spread → Tree → Type 0
  Ranged rs s u = (r : Range) × (spread_of r ≡ s) × HasRange v rs u r

  -- the tree has the range that is measured, in each scope in which nothing is wrong with the term
  abbrev pub Sound : Judged → Measured → Tree → Type 0
  Sound j m u = (types : typing.Scope) (scope : Scope) (rs : Ranges) → Agrees number scope rs → j.faults types ≡ [] → m.faults scope ≡ [] → Ranged rs (m.spread scope) u

  abbrev pub SoundTerm : RawTerm → Type 0
  SoundTerm t = Sound (judged v n t) (measured v n t) (tree_of number v t)

  -- a spread that isn't refused, where nothing is
  stays : (s : Spread) (at : ℕ) (first : Name) → refused v n s at first ≡ [] → is_refused s ≡ false
  stays s at first e = fails (is_refused s) (token RangeTooWide n at first) e

  pub arguments_ranged : (asking : List (Option TermType)) (ts : List RawTerm) → Every SoundTerm ts → (types : typing.Scope) (scope : Scope) (rs : Ranges) → Agrees number scope rs
      → asked_each v n asking types (map (judged v n) ts) ≡ [] → each scope (map (measured v n) ts) ≡ [] → AreRanged v rs (trees_of number v (map (tree_of number v) ts))
  arguments_ranged asking [] sound types scope rs agrees e d = ([], tt)
  arguments_ranged [] (t ∷ ts) sound types scope rs agrees e d =
      let own : List Fault = asked v n None types (judged v n t) in
      let others : List Fault = asked_each v n [] types (map (judged v n) ts) in
      let here : List Fault = (measured v n t).faults scope in
      let r = sound.0 types scope rs agrees (asked_own v n None types (judged v n t) (none_left own others e)) (none_left here (each scope (map (measured v n) ts)) d) in
      let q = arguments_ranged [] ts sound.1 types scope rs agrees (none_right own others e) (none_right here (each scope (map (measured v n) ts)) d) in
      (r.0 ∷ q.0, (r.2, q.1))
  arguments_ranged (a ∷ asking) (t ∷ ts) sound types scope rs agrees e d =
      let own : List Fault = asked v n a types (judged v n t) in
      let others : List Fault = asked_each v n asking types (map (judged v n) ts) in
      let here : List Fault = (measured v n t).faults scope in
      let r = sound.0 types scope rs agrees (asked_own v n a types (judged v n t) (none_left own others e)) (none_left here (each scope (map (measured v n) ts)) d) in
      let q = arguments_ranged asking ts sound.1 types scope rs agrees (none_right own others e) (none_right here (each scope (map (measured v n) ts)) d) in
      (r.0 ∷ q.0, (r.2, q.1))

  call_ranged : (at : ℕ) (f : Name) (ts : List RawTerm) → Every SoundTerm ts → (types : typing.Scope) (scope : Scope) (rs : Ranges) → Agrees number scope rs
      → (o : Option Function) → function_named v f ≡ o → call_faults v n at f types (map (judged v n) ts) o ≡ [] → each scope (map (measured v n) ts) ≡ []
      → Ranged rs (codomain_spread v o) (tree.Get (function_number number v f) (trees_of number v (map (tree_of number v) ts)))
  call_ranged at f ts sound types scope rs agrees None is e d = absurd (full (token Unknown n at f) (asked_each v n [] types (map (judged v n) ts)) e)
  call_ranged at f ts sound types scope rs agrees (Some g) is e d =
      let js : List Judged = map (judged v n) ts in
      let asking : List (Option TermType) = map (domain_type v.domains) g.domains in
      let others = none_right (arity_faults v n at f (length g.domains) (length js)) (asked_each v n asking types js) e in
      let r = domain_range v g.codomain in (
        r.0,
        r.1,
        (arguments_ranged asking ts sound types scope rs agrees others d, subst (λ (o : Option Function). IsCodomainRange v o r.0) (sym (function_found number v f g is)) r.2),
      )

  element_ranged : (at : ℕ) (x : Name) (rs : Ranges) (o : Value) → element_faults v n at x (element_type o) ≡ [] → Ranged rs spread.NoNumber (tree.Const o)
  element_ranged at x rs Undef e = absurd (full (token Unknown n at x) [] e)
  element_ranged at x rs (Bool b) e = absurd (full (token Unknown n at x) [] e)
  element_ranged at x rs (Int z) e = absurd (full (token Unknown n at x) [] e)
  element_ranged at x rs (Elem d k) e = (NoNumber, refl, (λ z is. is, tt))

  -- a test of two terms has no number
  pub test_ranged : (rs : Ranges) (t label : Tree) (r q : Range) → HasRange v rs t r → HasRange v rs label q → HasRange v rs (is_case number v t label) NoNumber
  test_ranged rs t label r q a b = (r ∷ q ∷ [], (a, (b, tt)), (λ z is. is), tt)

  -- a conditional's range holds those of both branches
  cond_ranged : (rs : Ranges) (g t u : Tree) (q : Range) → HasRange v rs g q → (a b : Spread) → Ranged rs a t → Ranged rs b u → Ranged rs (either a b) (tree.Cond g t u)
  cond_ranged rs g t u q has a b r s =
      let h = either_ranged r.0 s.0 in
      (h.0, h.1 ∙ (λ i. either (r.1 i) (s.1 i)), ((q, has), (r.0, s.0, r.2, s.2, h.2)))

  abbrev judged_case : RawCase → Judged × Judged
  judged_case c = (judged v n c.label, judged v n c.value)

  abbrev measured_case : RawCase → Measured × Measured
  measured_case c = (measured v n c.label, measured v n c.value)

  abbrev case_trees : RawCase → Tree × Tree
  case_trees c = (tree_of number v c.label, tree_of number v c.value)

  switch_ranged : (u : Tree) (r : Range) (cs : List RawCase) → Every (λ (c : RawCase). SoundTerm c.label × SoundTerm c.value) cs → (k : Judged) (m : Measured) (other : Tree) → Sound k m other
      → (types : typing.Scope) (scope : Scope) (rs : Ranges) → Agrees number scope rs → HasRange v rs u r → (label value : Option TermType)
      → typing.case_faults v n label value types (map judged_case cs) k ≡ [] → case_faults scope (map measured_case cs) ≡ [] → m.faults scope ≡ []
      → Ranged rs (either_case scope (map measured_case cs) m) (switch_tree number v u (map case_trees cs) other)
  switch_ranged u r [] sound k m other last types scope rs agrees has label value e d f = last types scope rs agrees (asked_own v n value types k e) f
  switch_ranged u r (c ∷ cs) sound k m other last types scope rs agrees has label value e d f =
      let l : Judged = judged v n c.label in
      let j : Judged = judged v n c.value in
      let later : List Fault = typing.case_faults v n (or_else label (l.type types)) (or_else value (j.type types)) types (map judged_case cs) k in
      let of_label = none_left (asked v n label types l) (asked v n value types j ++ later) e in
      let rest = none_right (asked v n label types l) (asked v n value types j ++ later) e in
      let of_value = none_left (asked v n value types j) later rest in
      let lm : List Fault = (measured v n c.label).faults scope in
      let jm : List Fault = (measured v n c.value).faults scope in
      let laters : List Fault = case_faults scope (map measured_case cs) in
      let here = none_left (lm ++ jm) laters d in
      let p = sound.0.0 types scope rs agrees (asked_own v n label types l of_label) (none_left lm jm here) in
      let q = sound.0.1 types scope rs agrees (asked_own v n value types j of_value) (none_right lm jm here) in
      cond_ranged rs (is_case number v u (tree_of number v c.label)) (tree_of number v c.value) (switch_tree number v u (map case_trees cs) other) NoNumber
      (test_ranged rs u (tree_of number v c.label) r p.0 has p.2) ((measured v n c.value).spread scope) (either_case scope (map measured_case cs) m) q
      (switch_ranged u r cs sound.1 k m other last types scope rs agrees has (or_else label (l.type types)) (or_else value (j.type types)) (none_right (asked v n value types j) later rest) (none_right (lm ++ jm) laters d) f)

  abbrev judged_bind : RawBind → LetBound v n
  judged_bind b = (b.variable, judged v n b.term)

  abbrev measured_bind : RawBind → Bound
  measured_bind b = (b.variable.text, measured v n b.term)

  let_ranged : (bs : List RawBind) → Every (λ (b : RawBind). SoundTerm b.term) bs → (j : Judged) (m : Measured) (u : Tree) → Sound j m u → (types : typing.Scope) (scope : Scope) (rs : Ranges) → Agrees number scope rs
      → typing.bind_faults v n (map judged_bind bs) types ≡ [] → j.faults (typing.within_let v n (map judged_bind bs) types) ≡ []
      → bind_faults (map measured_bind bs) scope ≡ [] → m.faults (within_let (map measured_bind bs) scope) ≡ []
      → Ranged rs (m.spread (within_let (map measured_bind bs) scope)) (let_tree number v (map (λ (b : RawBind). (b.variable.text, tree_of number v b.term)) bs) u)
  let_ranged [] sound j m u body types scope rs agrees e d f g = body types scope rs agrees d g
  let_ranged (b ∷ bs) sound j m u body types scope rs agrees e d f g =
      let typed : typing.Scope = types ++ record { name = b.variable.text; type = (judged v n b.term).type types } ∷ [] in
      let own : Spread = (measured v n b.term).spread scope in
      let inner : Scope = scope ++ record { name = b.variable.text; spread = own } ∷ [] in
      let first : List Fault = (judged v n b.term).faults types in
      let later : List Fault = typing.bind_faults v n (map judged_bind bs) typed in
      let first_measured : List Fault = (measured v n b.term).faults scope in
      let later_measured : List Fault = bind_faults (map measured_bind bs) inner in
      let r = sound.0 types scope rs agrees (none_left first later e) (none_left first_measured later_measured f) in
      let q = let_ranged bs sound.1 j m u body typed inner (put_range (number b.variable.text) r.0 rs) (agrees_more number numbering scope rs b.variable.text r.0 own r.1 agrees) (none_right first later e) d (none_right first_measured later_measured f) g in
      (q.0, q.1, (r.0, r.2, q.2))

  form_ranged : (at : ℕ) (first : Name) (k : Form) → Parts SoundTerm k → Sound (judge_kind v n (judged_form v n k) at first) (measure_kind v n (measured_form v n k) at first) (tree_kind number v (tree_form number v k))
  form_ranged at first (RawTermKind-F.Number x) h types scope rs agrees e d =
      let fine = stays (Between (pos x) (pos x)) at first d in
      let r = bounded (constant_numbers (Int (pos x))) (pos x) (pos x) (one_number (pos x)) fine in
      (r.0, r.1 ∙ sym (unless_same (Between (pos x) (pos x)) fine), (r.2, r.3))
  form_ranged at first (RawTermKind-F.Truth b) h types scope rs agrees e d = (NoNumber, refl, (λ z is. is, tt))
  form_ranged at first RawTermKind-F.Undef h types scope rs agrees e d =
      let r = bounded (constant_numbers (Int (pos 0))) (pos 0) (pos 0) (one_number (pos 0)) refl in
      (r.0, r.1, (tt, r.3))
  form_ranged at first (RawTermKind-F.Variable x) h types scope rs agrees e d = (rs (number x), agrees x, refl)
  form_ranged at first (RawTermKind-F.Element x) h types scope rs agrees e d = element_ranged at x rs (typing.element_in v.domains x) e
  form_ranged at first (RawTermKind-F.Call g ts) h types scope rs agrees e d = call_ranged at g ts h types scope rs agrees (function_named v g) refl e d
  form_ranged at first (RawTermKind-F.Unary o t) h types scope rs agrees e d =
      let j : Judged = judged v n t in
      let m : Measured = measured v n t in
      let given : Spread = spread.of_one o (m.spread scope) in
      let r = h types scope rs agrees (asked_own v n (unary_asks v n o) types j e) (none_left (m.faults scope) (refused v n given at first) d) in
      let fine = stays given at first (none_right (m.faults scope) (refused v n given at first) d) in
      let a = one_ranged number v o r.0 (ap (λ (s : Spread). is_refused (spread.of_one o s)) r.1 ∙ fine) in
      (a.0, a.1 ∙ ap (spread.of_one o) r.1 ∙ sym (unless_same given fine), (r.0 ∷ [], (r.2, tt), a.2, a.3))
  form_ranged at first (RawTermKind-F.Binary o t u) h types scope rs agrees e d =
      let j : Judged = judged v n t in
      let k : Judged = judged v n u in
      let m : Measured = measured v n t in
      let l : Measured = measured v n u in
      let both : Option TermType = or_else (asks v n o) (j.type types) in
      let of_first = none_left (asked v n (asks v n o) types j) (asked v n both types k ++ []) e in
      let of_second = none_left (asked v n both types k) [] (none_right (asked v n (asks v n o) types j) (asked v n both types k ++ []) e) in
      let given : Spread = spread.of_two o (m.spread scope) (l.spread scope) in
      let parts = none_left (m.faults scope ++ l.faults scope) (refused v n given at first) d in
      let r = h.0 types scope rs agrees (asked_own v n (asks v n o) types j of_first) (none_left (m.faults scope) (l.faults scope) parts) in
      let q = h.1 types scope rs agrees (asked_own v n both types k of_second) (none_right (m.faults scope) (l.faults scope) parts) in
      let fine = stays given at first (none_right (m.faults scope ++ l.faults scope) (refused v n given at first) d) in
      let same : spread.of_two o (spread_of r.0) (spread_of q.0) ≡ given = λ i. spread.of_two o (r.1 i) (q.1 i) in
      let a = two_ranged number v o r.0 q.0 (ap is_refused same ∙ fine) in
      (a.0, a.1 ∙ same ∙ sym (unless_same given fine), (r.0 ∷ q.0 ∷ [], (r.2, (q.2, tt)), a.2, a.3))
  form_ranged at first (RawTermKind-F.Cond g t u) h types scope rs agrees e d =
      let i : Judged = judged v n g in
      let j : Judged = judged v n t in
      let k : Judged = judged v n u in
      let gm : Measured = measured v n g in
      let m : Measured = measured v n t in
      let l : Measured = measured v n u in
      let of_guard = none_left (asked v n (Some Boolean) types i) (alike v n None types (j ∷ k ∷ [])) e in
      let rest = none_right (asked v n (Some Boolean) types i) (alike v n None types (j ∷ k ∷ [])) e in
      let of_first = none_left (asked v n None types j) (asked v n (j.type types) types k ++ []) rest in
      let of_second = none_left (asked v n (j.type types) types k) [] (none_right (asked v n None types j) (asked v n (j.type types) types k ++ []) rest) in
      let branches = none_right (gm.faults scope) (m.faults scope ++ l.faults scope) d in
      let q = h.0 types scope rs agrees (asked_own v n (Some Boolean) types i of_guard) (none_left (gm.faults scope) (m.faults scope ++ l.faults scope) d) in
      let r = h.1 types scope rs agrees (asked_own v n None types j of_first) (none_left (m.faults scope) (l.faults scope) branches) in
      let s = h.2 types scope rs agrees (asked_own v n (j.type types) types k of_second) (none_right (m.faults scope) (l.faults scope) branches) in
      cond_ranged rs (tree_of number v g) (tree_of number v t) (tree_of number v u) q.0 q.2 (m.spread scope) (l.spread scope) r s
  form_ranged at first (RawTermKind-F.Switch t cs u) h types scope rs agrees e d =
      let j : Judged = judged v n t in
      let k : Judged = judged v n u in
      let m : Measured = measured v n t in
      let l : Measured = measured v n u in
      let cases : List Fault = typing.case_faults v n (j.type types) None types (map judged_case cs) k in
      let measured_cases : List Fault = case_faults scope (map measured_case cs) in
      let rest = none_right (m.faults scope) (measured_cases ++ l.faults scope) d in
      let r = h.0 types scope rs agrees (none_left (j.faults types) cases e) (none_left (m.faults scope) (measured_cases ++ l.faults scope) d) in
      switch_ranged (tree_of number v t) r.0 cs h.1 k l (tree_of number v u) h.2 types scope rs agrees r.2 (j.type types) None (none_right (j.faults types) cases e) (none_left measured_cases (l.faults scope) rest) (none_right measured_cases (l.faults scope) rest)
  form_ranged at first (RawTermKind-F.Let bs t) h types scope rs agrees e d =
      let j : Judged = judged v n t in
      let m : Measured = measured v n t in
      let bound : List (LetBound v n) = map judged_bind bs in
      let bound_measured : List Bound = map measured_bind bs in
      let own = none_left (let_faults v n bound types) (j.faults (typing.within_let v n bound types)) e in
      let body = none_right (let_faults v n bound types) (j.faults (typing.within_let v n bound types)) e in
      let terms = none_right (repeats [] (map (λ (b : LetBound v n). (n, b.0)) bound)) (typing.bind_faults v n bound types) own in
      let_ranged bs h.0 j m (tree_of number v t) h.1 types scope rs agrees terms body
      (none_left (bind_faults bound_measured scope) (m.faults (within_let bound_measured scope)) d) (none_right (bind_faults bound_measured scope) (m.faults (within_let bound_measured scope)) d)
  form_ranged at first (RawTermKind-F.Quant q bs g) h types scope rs agrees e d =
      let j : Judged = judged v n g in
      let typed : typing.Scope = typing.within v n bs types in
      let guard : List Fault = asked v n (Some Boolean) typed j in
      let own = none_left (binder_faults v n bs) (infinite_faults v n bs ++ guard) e in
      let others = none_right (binder_faults v n bs) (infinite_faults v n bs ++ guard) e in
      let known = none_right (repeats [] (variables_of v n bs)) (flat_map (λ (b : RawBinder). unknown_domain v.domains n b.domain) bs) own in
      let inner = bound_in number numbering v n ready.few bs scope rs agrees known (none_left (infinite_faults v n bs) guard others) in
      let r = h typed (within v bs scope) inner.0 inner.2 (asked_own v n (Some Boolean) typed j (none_right (infinite_faults v n bs) guard others)) d in
      (NoNumber, refl, ((inner.0, r.0, inner.1, r.2), refl))

  -- where nothing is wrong in a term and no interval in it is refused, its tree has the range that is measured
  pub term_ranged : (t : RawTerm) → SoundTerm t
  term_ranged =
      induct SoundTerm (λ at first k h.
      subst (λ (u : Tree). Sound (judged v n (at_form at first k)) (measured v n (at_form at first k)) u) (sym (tree_at number v at first k))
      (subst (λ (m : Measured). Sound (judged v n (at_form at first k)) m (tree_kind number v (tree_form number v k))) (sym (measured_at v n at first k))
      (subst (λ (j : Judged). Sound j (measure_kind v n (measured_form v n k) at first) (tree_kind number v (tree_form number v k))) (sym (judged_at v n at first k)) (form_ranged at first k h))))

  pub terms_ranged : (ts : List RawTerm) → Every SoundTerm ts
  terms_ranged [] = tt
  terms_ranged (t ∷ ts) = (term_ranged t, terms_ranged ts)
