-- Faults where marks are true.
use Rattle.std.proofs.Common.{◌≡◌, ℕ, zero, suc, ◌+◌, ◌<◌, Bool, true, false, ◌||◌, if◌then◌else◌, List, [], ◌∷◌, ◌++◌, length, map, drop, get_or, slice_get, Option, Some, None, refl, sym, ap, ◌∙◌, drop-cons, add-one, append-nil, arith}
use Rattle.std.specs.List.{flat_map, enumerate_from}
use Rattle.std.proofs.lemmas.Grind.{flat_map-append}
use Rattle.asm_sign.specs.Vocabulary.{Vocabulary}
use Rattle.asm_tree.specs.declared.unit.RawFunction.{RawFunction}
use Rattle.call_graph.specs.Calls.{is_in}
use Rattle.asm_faults.specs.declared.fault.ModelFault.{ModelFault}
use Rattle.asm_faults.specs.declared.fault.Fault.{Fault}
use Rattle.asm_faults.specs.At.{Name, token, fault_at}
use Rattle.asm_faults.specs.First.{noted}
use Rattle.asm_faults.specs.Files.{Of, DeclaredRule, to_list}
use Rattle.asm_faults.specs.Terms.{function_place}
use Rattle.asm_faults.specs.Calls.{Thing, faults_where}
use Rattle.asm_faults.proofs.Noting.{noted_append}
use Rattle.asm_calls.specs.declared.caller.Caller.{Caller}
use Rattle.asm_calls.specs.Callers.{function_caller, rule_caller}
use Rattle.asm_calls.specs.Graphs.{in_row, marked_faults, are_some}

-- ---- one more caller

pub marked_step : (kind : ModelFault) (marks : List Bool) (cs : List Caller) (i : ℕ) (d : Caller) (first : Option Fault) → i < length cs
    → noted first (marked_faults kind marks i (drop i cs)) ≡ noted (noted first (if is_in marks i then token kind (get_or cs i d).unit (get_or cs i d).at (get_or cs i d).name ∷ [] else [])) (marked_faults kind marks (i + 1) (drop (i + 1) cs))
marked_step kind marks cs i d first h =
    rw (drop-cons cs i d)
    (noted_append first (if is_in marks i then token kind (get_or cs i d).unit (get_or cs i d).at (get_or cs i d).name ∷ [] else []) (marked_faults kind marks (i + 1) (drop (suc i) cs))
    ∙ ap (λ (n : ℕ). noted (noted first (if is_in marks i then token kind (get_or cs i d).unit (get_or cs i d).at (get_or cs i d).name ∷ [] else [])) (marked_faults kind marks (i + 1) (drop n cs))) (sym (add-one i)))

some_more : (b m : Bool) (f : Fault) (faults : List Fault) → b || are_some ((if m then f ∷ [] else []) ++ faults) ≡ (b || m) || are_some faults
some_more true m f faults = refl
some_more false true f faults = refl
some_more false false f faults = refl

pub found_step : (b : Bool) (kind : ModelFault) (marks : List Bool) (cs : List Caller) (i : ℕ) (d : Caller) → i < length cs
    → b || are_some (marked_faults kind marks i (drop i cs)) ≡ (b || is_in marks i) || are_some (marked_faults kind marks (i + 1) (drop (i + 1) cs))
found_step b kind marks cs i d h =
    rw (drop-cons cs i d)
    (some_more b (is_in marks i) (token kind (get_or cs i d).unit (get_or cs i d).at (get_or cs i d).name) (marked_faults kind marks (i + 1) (drop (suc i) cs))
    ∙ ap (λ (n : ℕ). (b || is_in marks i) || are_some (marked_faults kind marks (i + 1) (drop n cs))) (sym (add-one i)))

pub none_more : (b : Bool) → b || false ≡ b
none_more true = refl
none_more false = refl

pub ruleset notings = (marked_step, found_step, none_more)

-- ---- marks of each caller

-- the fault of a caller, where a test holds of it
abbrev pub fault_if : ModelFault → Bool → Caller → List Fault
fault_if kind b c = if b then token kind c.unit c.at c.name ∷ [] else []

marked_from : (kind : ModelFault) (marks : List Bool) (test : Caller → Bool) (k : ℕ) (cs : List Caller) → ((i : ℕ) (c : Caller) → slice_get cs i ≡ Some c → is_in marks (k + i) ≡ test c)
    → marked_faults kind marks k cs ≡ flat_map (λ c. fault_if kind (test c) c) cs
marked_from kind marks test k [] h = refl
marked_from kind marks test k (c ∷ cs) h =
    let here : is_in marks k ≡ test c = ap (is_in marks) (omega arith) ∙ h 0 c refl in
    (λ j. fault_if kind (here j) c ++ marked_from kind marks test (k + 1) cs (λ i x e. ap (is_in marks) (omega arith) ∙ h (suc i) x e) j)

in_map : (test : Caller → Bool) (cs : List Caller) (i : ℕ) (c : Caller) → slice_get cs i ≡ Some c → is_in (map test cs) i ≡ test c
in_map test [] i c e = absurd (cc (e))
in_map test (x ∷ cs) zero c e = let same : x ≡ c = cc in ap test same
in_map test (x ∷ cs) (suc i) c e = in_map test cs i c e

pub marked_map : (kind : ModelFault) (test : Caller → Bool) (cs : List Caller) → marked_faults kind (map test cs) 0 cs ≡ flat_map (λ c. fault_if kind (test c) c) cs
marked_map kind test cs = marked_from kind (map test cs) test 0 cs (λ i c e. ap (is_in (map test cs)) (omega arith) ∙ in_map test cs i c e)

-- ---- definitions and rules

rules_from : (kind : ModelFault) (row : List Bool) (test : ℕ → Bool) → ((n : ℕ) → is_in row n ≡ test n) → (names : List Name) (k : ℕ) (rs : List DeclaredRule)
    → marked_faults kind row k (map (rule_caller names) rs) ≡ faults_where kind test (map (λ (p : ℕ × DeclaredRule). ((p.1.unit, p.1.name), p.0)) (enumerate_from k rs))
rules_from kind row test same names k [] = refl
rules_from kind row test same names k (r ∷ rs) = λ j. fault_if kind (same k j) (rule_caller names r) ++ rules_from kind row test same names (k + 1) rs j

pub rules_marked : (kind : ModelFault) (row : List Bool) (test : ℕ → Bool) → ((n : ℕ) → is_in row n ≡ test n) → (names : List Name) (rs : List DeclaredRule)
    → marked_faults kind row 0 (map (rule_caller names) rs) ≡ faults_where kind test (map (λ (p : ℕ × DeclaredRule). ((p.1.unit, p.1.name), p.0)) (enumerate_from 0 rs))
rules_marked kind row test same names rs = rules_from kind row test same names 0 rs

module _ (kind : ModelFault) (row : List Bool) (test : ℕ → Bool) (v : Vocabulary) where
  one_thing : (p : Of RawFunction) (o : Option ℕ) → ((n : ℕ) → o ≡ Some n → is_in row n ≡ test n)
      → fault_if kind (in_row row o) (function_caller v p) ≡ faults_where kind test (map (λ (number : ℕ). let thing : Thing = ((p.0, p.1.name), number) in thing) (to_list o))
  one_thing p None same = refl
  one_thing p (Some n) same = ap (λ (b : Bool). fault_if kind b (function_caller v p)) (same n refl) ∙ sym (append-nil (fault_if kind (test n) (function_caller v p)))

  things_marked : ((x : Name) (n : ℕ) → function_place v x ≡ Some n → is_in row n ≡ test n) → (ds : List (Of RawFunction))
      → flat_map (λ c. fault_if kind (in_row row (function_place v c.name)) c) (map (function_caller v) ds)
      ≡ faults_where kind test (flat_map (λ (p : Of RawFunction). map (λ (number : ℕ). let thing : Thing = ((p.0, p.1.name), number) in thing) (to_list (function_place v p.1.name.text))) ds)
  things_marked same [] = refl
  things_marked same (p ∷ ds) =
      let here : List Thing = map (λ (number : ℕ). let thing : Thing = ((p.0, p.1.name), number) in thing) (to_list (function_place v p.1.name.text)) in
      let rest : List Thing = flat_map (λ (q : Of RawFunction). map (λ (number : ℕ). let thing : Thing = ((q.0, q.1.name), number) in thing) (to_list (function_place v q.1.name.text))) ds in
      (λ j. one_thing p (function_place v p.1.name.text) (same p.1.name.text) j ++ things_marked same ds j)
      ∙ sym (flat_map-append (λ (t : Thing). if test t.1 then fault_at kind t.0.0 t.0.1 ∷ [] else []) here rest)

  pub definitions_marked : ((x : Name) (n : ℕ) → function_place v x ≡ Some n → is_in row n ≡ test n) → (ds : List (Of RawFunction))
      → marked_faults kind (map (λ (c : Caller). in_row row (function_place v c.name)) (map (function_caller v) ds)) 0 (map (function_caller v) ds)
      ≡ faults_where kind test (flat_map (λ (p : Of RawFunction). map (λ (number : ℕ). let thing : Thing = ((p.0, p.1.name), number) in thing) (to_list (function_place v p.1.name.text))) ds)
  definitions_marked same ds = marked_map kind (λ (c : Caller). in_row row (function_place v c.name)) (map (function_caller v) ds) ∙ things_marked same ds
