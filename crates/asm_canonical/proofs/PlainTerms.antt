-- A term without places, by its variants.
use Rattle.std.proofs.Common.{◌≡◌, ℕ, List, [], Bool, ap, sym, ◌∙◌}
use Rattle.std.specs.Prelude.{map}
use Rattle.asm_tree.specs.declared.operator.Op.{Op}
use Rattle.asm_tree.specs.declared.operator.UnaryOp.{UnaryOp}
use Rattle.asm_tree.specs.declared.operator.Quantifier.{Quantifier}
use Rattle.asm_tree.specs.declared.term.RawBinder.{RawBinder}
use Rattle.asm_tree.specs.declared.term.RawTerm.{RawTerm, fold_out-RawTerm}
use Rattle.asm_tree.specs.declared.term.RawTermKind.{RawTermKind, fold-roll-RawTermKind}
use Rattle.asm_tree.specs.declared.term.RawTermKind.TheVariants as term_kind
use Rattle.asm_tree.specs.declared.term.RawTermKind.TheOpen.{RawTermKind-F}
use Rattle.asm_tree.specs.declared.term.RawCase.{RawCase, fold_out-RawCase}
use Rattle.asm_tree.specs.declared.term.RawBind.{RawBind, fold_out-RawBind}
use Rattle.asm_canonical.specs.Placeless.{plain_name, plain_term, plain_term_kind, plain_bind, plain_case, kind_step, bind_step, case_step, term_step}

pub plain_of : (t : RawTerm) → plain_term t ≡ record { at = 0; first = []; kind = plain_term_kind t.kind }
plain_of t = fold_out-RawTerm RawTermKind RawBind RawCase RawTerm kind_step bind_step case_step term_step t

pub plain_of_bind : (b : RawBind) → plain_bind b ≡ record { variable = plain_name b.variable; term = plain_term b.term }
plain_of_bind b = fold_out-RawBind RawTermKind RawBind RawCase RawTerm kind_step bind_step case_step term_step b

pub plain_of_case : (c : RawCase) → plain_case c ≡ record { label = plain_term c.label; value = plain_term c.value }
plain_of_case c = fold_out-RawCase RawTermKind RawBind RawCase RawTerm kind_step bind_step case_step term_step c

pub plain_number : (n : ℕ) → plain_term_kind (term_kind.Number n) ≡ kind_step (RawTermKind-F.Number n)
plain_number n = ap plain_term_kind (sym (term_kind.rolls-Number n)) ∙ fold-roll-RawTermKind RawTermKind RawBind RawCase RawTerm kind_step bind_step case_step term_step (RawTermKind-F.Number n)

pub plain_truth : (b : Bool) → plain_term_kind (term_kind.Truth b) ≡ kind_step (RawTermKind-F.Truth b)
plain_truth b = ap plain_term_kind (sym (term_kind.rolls-Truth b)) ∙ fold-roll-RawTermKind RawTermKind RawBind RawCase RawTerm kind_step bind_step case_step term_step (RawTermKind-F.Truth b)

pub plain_undef : plain_term_kind term_kind.Undef ≡ kind_step RawTermKind-F.Undef
plain_undef = ap plain_term_kind (sym term_kind.rolls-Undef) ∙ fold-roll-RawTermKind RawTermKind RawBind RawCase RawTerm kind_step bind_step case_step term_step RawTermKind-F.Undef

pub plain_variable : (v : List ℕ) → plain_term_kind (term_kind.Variable v) ≡ kind_step (RawTermKind-F.Variable v)
plain_variable v = ap plain_term_kind (sym (term_kind.rolls-Variable v)) ∙ fold-roll-RawTermKind RawTermKind RawBind RawCase RawTerm kind_step bind_step case_step term_step (RawTermKind-F.Variable v)

pub plain_element : (e : List ℕ) → plain_term_kind (term_kind.Element e) ≡ kind_step (RawTermKind-F.Element e)
plain_element e = ap plain_term_kind (sym (term_kind.rolls-Element e)) ∙ fold-roll-RawTermKind RawTermKind RawBind RawCase RawTerm kind_step bind_step case_step term_step (RawTermKind-F.Element e)

pub plain_call : (f : List ℕ) (xs : List RawTerm) → plain_term_kind (term_kind.Call f xs) ≡ kind_step (RawTermKind-F.Call f (map plain_term xs))
plain_call f xs = ap plain_term_kind (sym (term_kind.rolls-Call f xs)) ∙ fold-roll-RawTermKind RawTermKind RawBind RawCase RawTerm kind_step bind_step case_step term_step (RawTermKind-F.Call f xs)

pub plain_unary : (o : UnaryOp) (x : RawTerm) → plain_term_kind (term_kind.Unary o x) ≡ kind_step (RawTermKind-F.Unary o (plain_term x))
plain_unary o x = ap plain_term_kind (sym (term_kind.rolls-Unary o x)) ∙ fold-roll-RawTermKind RawTermKind RawBind RawCase RawTerm kind_step bind_step case_step term_step (RawTermKind-F.Unary o x)

pub plain_binary : (o : Op) (x y : RawTerm) → plain_term_kind (term_kind.Binary o x y) ≡ kind_step (RawTermKind-F.Binary o (plain_term x) (plain_term y))
plain_binary o x y = ap plain_term_kind (sym (term_kind.rolls-Binary o x y)) ∙ fold-roll-RawTermKind RawTermKind RawBind RawCase RawTerm kind_step bind_step case_step term_step (RawTermKind-F.Binary o x y)

pub plain_cond : (g x y : RawTerm) → plain_term_kind (term_kind.Cond g x y) ≡ kind_step (RawTermKind-F.Cond (plain_term g) (plain_term x) (plain_term y))
plain_cond g x y = ap plain_term_kind (sym (term_kind.rolls-Cond g x y)) ∙ fold-roll-RawTermKind RawTermKind RawBind RawCase RawTerm kind_step bind_step case_step term_step (RawTermKind-F.Cond g x y)

pub plain_switch : (x : RawTerm) (cs : List RawCase) (y : RawTerm) → plain_term_kind (term_kind.Switch x cs y) ≡ kind_step (RawTermKind-F.Switch (plain_term x) (map plain_case cs) (plain_term y))
plain_switch x cs y = ap plain_term_kind (sym (term_kind.rolls-Switch x cs y)) ∙ fold-roll-RawTermKind RawTermKind RawBind RawCase RawTerm kind_step bind_step case_step term_step (RawTermKind-F.Switch x cs y)

pub plain_let : (bs : List RawBind) (x : RawTerm) → plain_term_kind (term_kind.Let bs x) ≡ kind_step (RawTermKind-F.Let (map plain_bind bs) (plain_term x))
plain_let bs x = ap plain_term_kind (sym (term_kind.rolls-Let bs x)) ∙ fold-roll-RawTermKind RawTermKind RawBind RawCase RawTerm kind_step bind_step case_step term_step (RawTermKind-F.Let bs x)

pub plain_quant : (q : Quantifier) (bs : List RawBinder) (x : RawTerm) → plain_term_kind (term_kind.Quant q bs x) ≡ kind_step (RawTermKind-F.Quant q bs (plain_term x))
plain_quant q bs x = ap plain_term_kind (sym (term_kind.rolls-Quant q bs x)) ∙ fold-roll-RawTermKind RawTermKind RawBind RawCase RawTerm kind_step bind_step case_step term_step (RawTermKind-F.Quant q bs x)
