-- The functions that a term reads, by its variants, as what stands behind other numbers.
use Rattle.std.proofs.Common.{◌≡◌, ℕ, ◌+◌, ◌<◌, Bool as Truth, List, [], ◌++◌, length, drop, get_or, refl, ap, sym, ◌∙◌, append_assoc, append-nil}
use Rattle.std.specs.Prelude.{map}
use Rattle.std.specs.List.{flat_map}
use Rattle.asm_sign.specs.Vocabulary.{Vocabulary}
use Rattle.asm_tree.specs.declared.operator.Op.{Op}
use Rattle.asm_tree.specs.declared.operator.UnaryOp.{UnaryOp}
use Rattle.asm_tree.specs.declared.operator.Quantifier.{Quantifier}
use Rattle.asm_tree.specs.declared.term.RawBinder.{RawBinder}
use Rattle.asm_tree.specs.declared.term.RawTerm.{RawTerm, fold_out-RawTerm}
use Rattle.asm_tree.specs.declared.term.RawTermKind.{fold-roll-RawTermKind}
use Rattle.asm_tree.specs.declared.term.RawTermKind.TheVariants as term_kind
use Rattle.asm_tree.specs.declared.term.RawTermKind.TheOpen.{RawTermKind-F}
use Rattle.asm_tree.specs.declared.term.RawCase.{RawCase, fold_out-RawCase}
use Rattle.asm_tree.specs.declared.term.RawBind.{RawBind, fold_out-RawBind}
use Rattle.asm_faults.specs.At.{Name}
use Rattle.asm_faults.specs.Files.{to_list}
use Rattle.asm_faults.specs.Calls.{Names, called, called_kind}
use Rattle.asm_calls.specs.declared.read.Read.{Read}
use Rattle.asm_calls.specs.Called.{found_of, read_of, bind_step, case_step, term_step, kind_called, bind_called, case_called, functions_in, functions_of_kind, functions_in_bind, functions_in_case}
use Rattle.asm_calls.proofs.Numbering.{of_two, of_each, each_step}

pub of_term : (v : Vocabulary) (t : RawTerm) → functions_in v t ≡ functions_of_kind v t.kind
unfolding functions_in functions_of_kind
of_term v t = ap (found_of (read_of v)) (fold_out-RawTerm Names Names Names Names called_kind bind_step case_step term_step t)

of_bind : (v : Vocabulary) (b : RawBind) → functions_in_bind v b ≡ functions_in v b.term
unfolding functions_in functions_in_bind
of_bind v b = ap (found_of (read_of v)) (fold_out-RawBind Names Names Names Names called_kind bind_step case_step term_step b)

of_case : (v : Vocabulary) (c : RawCase) (s : List Read) → s ++ functions_in_case v c ≡ (s ++ functions_in v c.label) ++ functions_in v c.value
unfolding functions_in functions_in_case
of_case v c s =
    ap (λ (names : Names). s ++ found_of (read_of v) names) (fold_out-RawCase Names Names Names Names called_kind bind_step case_step term_step c)
    ∙ of_two (read_of v) s (called c.label) (called c.value)

-- ---- lists

pub terms_step : (v : Vocabulary) (xs : List RawTerm) (i : ℕ) (d : RawTerm) (s : List Read) → i < length xs → s ++ flat_map (functions_in v) (drop i xs) ≡ (s ++ functions_in v (get_or xs i d)) ++ flat_map (functions_in v) (drop (i + 1) xs)
terms_step v xs i d s h = each_step (functions_in v) xs i d s h

pub cases_step : (v : Vocabulary) (xs : List RawCase) (i : ℕ) (d : RawCase) (s : List Read) → i < length xs
    → s ++ flat_map (functions_in_case v) (drop i xs) ≡ ((s ++ functions_in v (get_or xs i d).label) ++ functions_in v (get_or xs i d).value) ++ flat_map (functions_in_case v) (drop (i + 1) xs)
cases_step v xs i d s h = each_step (functions_in_case v) xs i d s h ∙ ap (λ (z : List Read). z ++ flat_map (functions_in_case v) (drop (i + 1) xs)) (of_case v (get_or xs i d) s)

pub binds_step : (v : Vocabulary) (xs : List RawBind) (i : ℕ) (d : RawBind) (s : List Read) → i < length xs
    → s ++ flat_map (functions_in_bind v) (drop i xs) ≡ (s ++ functions_in v (get_or xs i d).term) ++ flat_map (functions_in_bind v) (drop (i + 1) xs)
binds_step v xs i d s h = each_step (functions_in_bind v) xs i d s h ∙ ap (λ (z : List Read). (s ++ z) ++ flat_map (functions_in_bind v) (drop (i + 1) xs)) (of_bind v (get_or xs i d))

pub none_left : (s : List Read) → s ++ [] ≡ s
none_left s = append-nil s

pub ruleset steps = (terms_step, cases_step, binds_step, none_left)

-- ---- variants

pub form_number : (v : Vocabulary) (x : ℕ) (s : List Read) → s ++ functions_of_kind v (term_kind.Number x) ≡ s
unfolding functions_of_kind
form_number v x s = ap (λ (names : Names). s ++ found_of (read_of v) names) (ap kind_called (sym (term_kind.rolls-Number x)) ∙ fold-roll-RawTermKind Names Names Names Names called_kind bind_step case_step term_step (RawTermKind-F.Number x)) ∙ append-nil s

pub form_truth : (v : Vocabulary) (b : Truth) (s : List Read) → s ++ functions_of_kind v (term_kind.Truth b) ≡ s
unfolding functions_of_kind
form_truth v b s = ap (λ (names : Names). s ++ found_of (read_of v) names) (ap kind_called (sym (term_kind.rolls-Truth b)) ∙ fold-roll-RawTermKind Names Names Names Names called_kind bind_step case_step term_step (RawTermKind-F.Truth b)) ∙ append-nil s

pub form_undef : (v : Vocabulary) (s : List Read) → s ++ functions_of_kind v term_kind.Undef ≡ s
unfolding functions_of_kind
form_undef v s = ap (λ (names : Names). s ++ found_of (read_of v) names) (ap kind_called (sym term_kind.rolls-Undef) ∙ fold-roll-RawTermKind Names Names Names Names called_kind bind_step case_step term_step RawTermKind-F.Undef) ∙ append-nil s

pub form_variable : (v : Vocabulary) (x : Name) (s : List Read) → s ++ functions_of_kind v (term_kind.Variable x) ≡ s
unfolding functions_of_kind
form_variable v x s = ap (λ (names : Names). s ++ found_of (read_of v) names) (ap kind_called (sym (term_kind.rolls-Variable x)) ∙ fold-roll-RawTermKind Names Names Names Names called_kind bind_step case_step term_step (RawTermKind-F.Variable x)) ∙ append-nil s

pub form_element : (v : Vocabulary) (x : Name) (s : List Read) → s ++ functions_of_kind v (term_kind.Element x) ≡ s
unfolding functions_of_kind
form_element v x s = ap (λ (names : Names). s ++ found_of (read_of v) names) (ap kind_called (sym (term_kind.rolls-Element x)) ∙ fold-roll-RawTermKind Names Names Names Names called_kind bind_step case_step term_step (RawTermKind-F.Element x)) ∙ append-nil s

pub form_call : (v : Vocabulary) (f : Name) (ts : List RawTerm) (s : List Read) → s ++ functions_of_kind v (term_kind.Call f ts) ≡ (s ++ to_list (read_of v f)) ++ flat_map (functions_in v) ts
unfolding functions_of_kind functions_in functions_in_bind functions_in_case
form_call v f ts s =
    ap (λ (names : Names). s ++ found_of (read_of v) names) (ap kind_called (sym (term_kind.rolls-Call f ts)) ∙ fold-roll-RawTermKind Names Names Names Names called_kind bind_step case_step term_step (RawTermKind-F.Call f ts))
    ∙ ap (λ (z : List Read). s ++ (to_list (read_of v f) ++ z)) (of_each (read_of v) called ts)
    ∙ sym (append_assoc s (to_list (read_of v f)) (flat_map (functions_in v) ts))

pub form_unary : (v : Vocabulary) (o : UnaryOp) (t : RawTerm) (s : List Read) → s ++ functions_of_kind v (term_kind.Unary o t) ≡ s ++ functions_in v t
unfolding functions_of_kind functions_in functions_in_bind functions_in_case
form_unary v o t s =
    ap (λ (names : Names). s ++ found_of (read_of v) names) (ap kind_called (sym (term_kind.rolls-Unary o t)) ∙ fold-roll-RawTermKind Names Names Names Names called_kind bind_step case_step term_step (RawTermKind-F.Unary o t))
    ∙ refl

pub form_binary : (v : Vocabulary) (o : Op) (t u : RawTerm) (s : List Read) → s ++ functions_of_kind v (term_kind.Binary o t u) ≡ (s ++ functions_in v t) ++ functions_in v u
unfolding functions_of_kind functions_in functions_in_bind functions_in_case
form_binary v o t u s =
    ap (λ (names : Names). s ++ found_of (read_of v) names) (ap kind_called (sym (term_kind.rolls-Binary o t u)) ∙ fold-roll-RawTermKind Names Names Names Names called_kind bind_step case_step term_step (RawTermKind-F.Binary o t u))
    ∙ of_two (read_of v) s (called t) (called u)

pub form_cond : (v : Vocabulary) (g t u : RawTerm) (s : List Read) → s ++ functions_of_kind v (term_kind.Cond g t u) ≡ ((s ++ functions_in v g) ++ functions_in v t) ++ functions_in v u
unfolding functions_of_kind functions_in functions_in_bind functions_in_case
form_cond v g t u s =
    ap (λ (names : Names). s ++ found_of (read_of v) names) (ap kind_called (sym (term_kind.rolls-Cond g t u)) ∙ fold-roll-RawTermKind Names Names Names Names called_kind bind_step case_step term_step (RawTermKind-F.Cond g t u))
    ∙ of_two (read_of v) s (called g) (called t ++ called u)
    ∙ of_two (read_of v) (s ++ functions_in v g) (called t) (called u)

pub form_switch : (v : Vocabulary) (t : RawTerm) (cs : List RawCase) (u : RawTerm) (s : List Read) → s ++ functions_of_kind v (term_kind.Switch t cs u) ≡ ((s ++ functions_in v t) ++ flat_map (functions_in_case v) cs) ++ functions_in v u
unfolding functions_of_kind functions_in functions_in_bind functions_in_case
form_switch v t cs u s =
    ap (λ (names : Names). s ++ found_of (read_of v) names) (ap kind_called (sym (term_kind.rolls-Switch t cs u)) ∙ fold-roll-RawTermKind Names Names Names Names called_kind bind_step case_step term_step (RawTermKind-F.Switch t cs u))
    ∙ of_two (read_of v) s (called t) (flat_map (λ (names : Names). names) (map case_called cs) ++ called u)
    ∙ of_two (read_of v) (s ++ functions_in v t) (flat_map (λ (names : Names). names) (map case_called cs)) (called u)
    ∙ ap (λ (z : List Read). ((s ++ functions_in v t) ++ z) ++ functions_in v u) (of_each (read_of v) case_called cs)

pub form_let : (v : Vocabulary) (bs : List RawBind) (t : RawTerm) (s : List Read) → s ++ functions_of_kind v (term_kind.Let bs t) ≡ (s ++ flat_map (functions_in_bind v) bs) ++ functions_in v t
unfolding functions_of_kind functions_in functions_in_bind functions_in_case
form_let v bs t s =
    ap (λ (names : Names). s ++ found_of (read_of v) names) (ap kind_called (sym (term_kind.rolls-Let bs t)) ∙ fold-roll-RawTermKind Names Names Names Names called_kind bind_step case_step term_step (RawTermKind-F.Let bs t))
    ∙ of_two (read_of v) s (flat_map (λ (names : Names). names) (map bind_called bs)) (called t)
    ∙ ap (λ (z : List Read). (s ++ z) ++ functions_in v t) (of_each (read_of v) bind_called bs)

pub form_quant : (v : Vocabulary) (q : Quantifier) (bs : List RawBinder) (g : RawTerm) (s : List Read) → s ++ functions_of_kind v (term_kind.Quant q bs g) ≡ s ++ functions_in v g
unfolding functions_of_kind functions_in functions_in_bind functions_in_case
form_quant v q bs g s =
    ap (λ (names : Names). s ++ found_of (read_of v) names) (ap kind_called (sym (term_kind.rolls-Quant q bs g)) ∙ fold-roll-RawTermKind Names Names Names Names called_kind bind_step case_step term_step (RawTermKind-F.Quant q bs g))
    ∙ refl

pub ruleset forms = (form_number, form_truth, form_undef, form_variable, form_element, form_call, form_unary, form_binary, form_cond, form_switch, form_let, form_quant)
