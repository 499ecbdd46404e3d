-- Trees of nodes that hold lists of nodes.
use Rattle.std.proofs.Common.{◌≡◌, ℕ, zero, suc, ◌≤◌, ◌<◌, List, [], ◌∷◌, ◌++◌, refl, ap, ◌∙◌, arith, length, get_or}
use mathlib.Core.Former.{Count}
use Rattle.std.specs.declared.rc.Rc.{Rc}
use Rattle.std.specs.declared.alloc.Global.{Global}
use Rattle.asm_node.specs.declared.operator.Op.{Op}
use Rattle.asm_node.specs.declared.term.Term.{Term}
use Rattle.asm_node.specs.declared.term.TermKind.{TermKind, Row_of-TermKind-Get-1-1, end_of-TermKind-Get-1-1, more_of-TermKind-Get-1-1, items-the_row-TermKind-Get-1-1, items_hidden-the_row-TermKind-Get-1-1-0}
use Rattle.asm_node.specs.declared.term.TermKind as node
use Rattle.asm_node.specs.Term.{Places, close, close_all}
use Rattle.asm_node.specs.Tree.{Get, Oper, none, more, plain, plain_kind, plain_row, plain_all}
use Rattle.asm_node.specs.Weight.{nodes, nodes_all}

-- a row of nodes has the trees of its list
plain_row-items : {n : Count} (row : Row_of-TermKind-Get-1-1 n) → plain_row row ≡ plain_all (items-the_row-TermKind-Get-1-1 n row)
plain_row-items end_of-TermKind-Get-1-1 = refl
plain_row-items (more_of-TermKind-Get-1-1 _ _ t row) = ap (more (plain_kind t)) (plain_row-items row)

abbrev pub row_of : TermKind → (n : Count) × Row_of-TermKind-Get-1-1 n
row_of (node.Get' _ _ row) = (_, row)
row_of (node.Oper' _ _ row) = (_, row)
row_of _ = (_, end_of-TermKind-Get-1-1)

pub plain_kind-Get : (f : ℕ) (xs : List (Rc Term Global)) → plain_kind (node.Get f xs) ≡ Get f (plain_all xs)
plain_kind-Get f xs = ap (Get f) (plain_row-items (row_of (node.Get f xs)).1 ∙ ap plain_all (items_hidden-the_row-TermKind-Get-1-1-0 xs))

pub plain_kind-Oper : (o : Op) (xs : List (Rc Term Global)) → plain_kind (node.Oper o xs) ≡ Oper o (plain_all xs)
plain_kind-Oper o xs = ap (Oper o) (plain_row-items (row_of (node.Oper o xs)).1 ∙ ap plain_all (items_hidden-the_row-TermKind-Get-1-1-0 xs))

-- a term of a list has no more nodes than the list
pub nodes-item : (ts : List (Rc Term Global)) (k : ℕ) (t : Rc Term Global) → k < length ts → t ≡ get_or ts k t → nodes (plain t.value) ≤ nodes_all (plain_all ts)
nodes-item [] k t h is = absurd (omega arith)
nodes-item (x ∷ ts) zero t h is = rw is (omega arith)
nodes-item (x ∷ ts) (suc k) t h is = omega (arith, nodes-item ts k t (omega arith) is)

-- one more term is closed
pub closes-push : (e : Places) (closed xs : List (Rc Term Global)) (one x : Rc Term Global) → plain_all closed ≡ close_all e (plain_all xs) → plain one.value ≡ close e (plain x.value)
    → plain_all (closed ++ one ∷ []) ≡ close_all e (plain_all (xs ++ x ∷ []))
closes-push e [] [] one x same is = λ i. more (is i) none
closes-push e [] (y ∷ xs) one x same is = absurd (cc (same))
closes-push e (c ∷ closed) [] one x same is = absurd (cc (same))
closes-push e (c ∷ closed) (y ∷ xs) one x same is =
    let head : plain c.value ≡ close e (plain y.value) = cc (same) in
    let rest : plain_all closed ≡ close_all e (plain_all xs) = cc (same) in
    λ i. more (head i) (closes-push e closed xs one x rest is i)
