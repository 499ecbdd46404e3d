-- The document of a term, by its variants.
use Rattle.std.proofs.Common.{◌≡◌, ℕ, List, Bool, ap, sym, ◌∙◌}
use Rattle.std.specs.Prelude.{map}
use Rattle.asm_tree.specs.declared.operator.Op.{Op}
use Rattle.asm_tree.specs.declared.operator.UnaryOp.{UnaryOp}
use Rattle.asm_tree.specs.declared.operator.Quantifier.{Quantifier}
use Rattle.asm_tree.specs.declared.term.RawBinder.{RawBinder}
use Rattle.asm_tree.specs.declared.term.RawTerm.{RawTerm, fold_out-RawTerm}
use Rattle.asm_tree.specs.declared.term.RawTermKind.{fold-roll-RawTermKind}
use Rattle.asm_tree.specs.declared.term.RawTermKind.TheVariants as term_kind
use Rattle.asm_tree.specs.declared.term.RawTermKind.TheOpen.{RawTermKind-F}
use Rattle.asm_tree.specs.declared.term.RawCase.{RawCase, fold_out-RawCase}
use Rattle.asm_tree.specs.declared.term.RawBind.{RawBind, fold_out-RawBind}
use Rattle.asm_canonical.specs.Document.{Item, Doc}
use Rattle.asm_canonical.specs.Terms.{term_doc, kind_doc, bind_doc, case_doc, kind_step, bind_step, case_step, term_step}

pub doc_term : (t : RawTerm) → term_doc t ≡ kind_doc t.kind
doc_term t = fold_out-RawTerm Doc (List Item) (List Item) Doc kind_step bind_step case_step term_step t

pub doc_bind : (b : RawBind) → bind_doc b ≡ bind_step (record { variable = b.variable; term = term_doc b.term })
doc_bind b = fold_out-RawBind Doc (List Item) (List Item) Doc kind_step bind_step case_step term_step b

pub doc_case : (c : RawCase) → case_doc c ≡ case_step (record { label = term_doc c.label; value = term_doc c.value })
doc_case c = fold_out-RawCase Doc (List Item) (List Item) Doc kind_step bind_step case_step term_step c

pub doc_number : (n : ℕ) → kind_doc (term_kind.Number n) ≡ kind_step (RawTermKind-F.Number n)
doc_number n = ap kind_doc (sym (term_kind.rolls-Number n)) ∙ fold-roll-RawTermKind Doc (List Item) (List Item) Doc kind_step bind_step case_step term_step (RawTermKind-F.Number n)

pub doc_truth : (b : Bool) → kind_doc (term_kind.Truth b) ≡ kind_step (RawTermKind-F.Truth b)
doc_truth b = ap kind_doc (sym (term_kind.rolls-Truth b)) ∙ fold-roll-RawTermKind Doc (List Item) (List Item) Doc kind_step bind_step case_step term_step (RawTermKind-F.Truth b)

pub doc_undef : kind_doc term_kind.Undef ≡ kind_step RawTermKind-F.Undef
doc_undef = ap kind_doc (sym term_kind.rolls-Undef) ∙ fold-roll-RawTermKind Doc (List Item) (List Item) Doc kind_step bind_step case_step term_step RawTermKind-F.Undef

pub doc_variable : (v : List ℕ) → kind_doc (term_kind.Variable v) ≡ kind_step (RawTermKind-F.Variable v)
doc_variable v = ap kind_doc (sym (term_kind.rolls-Variable v)) ∙ fold-roll-RawTermKind Doc (List Item) (List Item) Doc kind_step bind_step case_step term_step (RawTermKind-F.Variable v)

pub doc_element : (e : List ℕ) → kind_doc (term_kind.Element e) ≡ kind_step (RawTermKind-F.Element e)
doc_element e = ap kind_doc (sym (term_kind.rolls-Element e)) ∙ fold-roll-RawTermKind Doc (List Item) (List Item) Doc kind_step bind_step case_step term_step (RawTermKind-F.Element e)

pub doc_call : (f : List ℕ) (xs : List RawTerm) → kind_doc (term_kind.Call f xs) ≡ kind_step (RawTermKind-F.Call f (map term_doc xs))
doc_call f xs = ap kind_doc (sym (term_kind.rolls-Call f xs)) ∙ fold-roll-RawTermKind Doc (List Item) (List Item) Doc kind_step bind_step case_step term_step (RawTermKind-F.Call f xs)

pub doc_unary : (o : UnaryOp) (x : RawTerm) → kind_doc (term_kind.Unary o x) ≡ kind_step (RawTermKind-F.Unary o (term_doc x))
doc_unary o x = ap kind_doc (sym (term_kind.rolls-Unary o x)) ∙ fold-roll-RawTermKind Doc (List Item) (List Item) Doc kind_step bind_step case_step term_step (RawTermKind-F.Unary o x)

pub doc_binary : (o : Op) (x y : RawTerm) → kind_doc (term_kind.Binary o x y) ≡ kind_step (RawTermKind-F.Binary o (term_doc x) (term_doc y))
doc_binary o x y = ap kind_doc (sym (term_kind.rolls-Binary o x y)) ∙ fold-roll-RawTermKind Doc (List Item) (List Item) Doc kind_step bind_step case_step term_step (RawTermKind-F.Binary o x y)

pub doc_cond : (g x y : RawTerm) → kind_doc (term_kind.Cond g x y) ≡ kind_step (RawTermKind-F.Cond (term_doc g) (term_doc x) (term_doc y))
doc_cond g x y = ap kind_doc (sym (term_kind.rolls-Cond g x y)) ∙ fold-roll-RawTermKind Doc (List Item) (List Item) Doc kind_step bind_step case_step term_step (RawTermKind-F.Cond g x y)

pub doc_switch : (x : RawTerm) (cs : List RawCase) (y : RawTerm) → kind_doc (term_kind.Switch x cs y) ≡ kind_step (RawTermKind-F.Switch (term_doc x) (map case_doc cs) (term_doc y))
doc_switch x cs y = ap kind_doc (sym (term_kind.rolls-Switch x cs y)) ∙ fold-roll-RawTermKind Doc (List Item) (List Item) Doc kind_step bind_step case_step term_step (RawTermKind-F.Switch x cs y)

pub doc_let : (bs : List RawBind) (x : RawTerm) → kind_doc (term_kind.Let bs x) ≡ kind_step (RawTermKind-F.Let (map bind_doc bs) (term_doc x))
doc_let bs x = ap kind_doc (sym (term_kind.rolls-Let bs x)) ∙ fold-roll-RawTermKind Doc (List Item) (List Item) Doc kind_step bind_step case_step term_step (RawTermKind-F.Let bs x)

pub doc_quant : (q : Quantifier) (bs : List RawBinder) (x : RawTerm) → kind_doc (term_kind.Quant q bs x) ≡ kind_step (RawTermKind-F.Quant q bs (term_doc x))
doc_quant q bs x = ap kind_doc (sym (term_kind.rolls-Quant q bs x)) ∙ fold-roll-RawTermKind Doc (List Item) (List Item) Doc kind_step bind_step case_step term_step (RawTermKind-F.Quant q bs x)
