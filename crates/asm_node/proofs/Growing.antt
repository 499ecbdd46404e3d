-- Nodes stay in a pool that grows.
use Rattle.std.proofs.Common.{◌≡◌, ℕ, zero, suc, List, [], ◌∷◌, ◌++◌, slice_get, slice_index_or, Some, All, refl, sym, ap, ◌∙◌, subst, append_assoc, arith}
use Rattle.std.proofs.lemmas.List.Elements.{All-append}
use Rattle.std.specs.declared.rc.Rc.{Rc}
use Rattle.std.specs.declared.alloc.Global.{Global}
use mathlib.Core.Former.{Count}
use Rattle.std.specs.Prelude.{⊤}
use Rattle.asm_node.specs.declared.operator.Op.{Op}
use Rattle.asm_node.specs.declared.pool.Pool.{Pool}
use Rattle.asm_node.specs.declared.term.Term.{Term}
use Rattle.asm_node.specs.declared.term.TermKind.{Row_of-TermKind-Get-1-1, end_of-TermKind-Get-1-1, more_of-TermKind-Get-1-1, items-the_row-TermKind-Get-1-1, items_hidden-the_row-TermKind-Get-1-1-0}
use Rattle.asm_node.specs.declared.term.TermKind as node
use Rattle.asm_node.specs.Pool.{terms_of, HasTerm, HasTerms, HasRow, HasGrown}
use Rattle.asm_node.proofs.Trees.{row_of}

pub front_stays : {A : Type 0} (xs ys : List A) (k : ℕ) (x : A) → slice_get xs k ≡ Some x → slice_get (xs ++ ys) k ≡ Some x
front_stays [] ys k x is = absurd (cc (is))
front_stays (y ∷ xs) ys zero x is = is
front_stays (y ∷ xs) ys (suc k) x is = front_stays xs ys k x is

append_none : {A : Type 0} (xs : List A) → xs ≡ xs ++ []
append_none [] = refl
append_none (x ∷ xs) = λ i. x ∷ append_none xs i

pub same_pool : (p : Pool) → HasGrown p p
same_pool p = record { further = []; terms = append_none (terms_of p); rules = refl }

pub grown_on : {p q r : Pool} → HasGrown p q → HasGrown q r → HasGrown p r
grown_on {p = p} one two = record {
  further = one.further ++ two.further;
  terms = two.terms ∙ ap (λ ts. ts ++ two.further) one.terms ∙ append_assoc (terms_of p) one.further two.further;
  rules = two.rules ∙ one.rules;
}

pub term_stays : {p q : Pool} (t : Term) → HasGrown p q → HasTerm (terms_of p) t → HasTerm (terms_of q) t
term_stays {p = p} t more has = subst (λ ts. HasTerm ts t) (sym more.terms) (front_stays (terms_of p) more.further t.id t has)

pub terms_stay : {p q : Pool} (ts : List (Rc Term Global)) → HasGrown p q → All (λ t. HasTerm (terms_of p) t.value) ts → All (λ t. HasTerm (terms_of q) t.value) ts
terms_stay ts more has = λ k t lt. term_stays (slice_index_or ts k t).value more (has k t lt)

-- one more node is added
pub nodes_push : {p q : Pool} (ts : List (Rc Term Global)) (t : Rc Term Global) → HasGrown p q → All (λ t. HasTerm (terms_of p) t.value) ts → HasTerm (terms_of q) t.value → All (λ t. HasTerm (terms_of q) t.value) (ts ++ t ∷ [])
nodes_push {p = p} {q = q} ts t more has new =
    All-append (λ (t : Rc Term Global). HasTerm (terms_of q) t.value) ts (t ∷ []) (terms_stay ts more has) (one new)
  where
    one : HasTerm (terms_of q) t.value → All (λ t. HasTerm (terms_of q) t.value) (t ∷ [])
    one new zero d lt = new
    one new (suc k) d lt = absurd (omega (arith, lt))

abbrev HasEach : List Term → List (Rc Term Global) → Type 0
HasEach terms [] = ⊤
HasEach terms (t ∷ ts) = HasTerm terms t.value × HasEach terms ts

has_each : (terms : List Term) (ts : List (Rc Term Global)) → All (λ t. HasTerm terms t.value) ts → HasEach terms ts
has_each terms [] has = tt
has_each terms (t ∷ ts) has = (has 0 t (omega arith), has_each terms ts (λ k d lt. has (suc k) d (omega (arith, lt))))

row_has : (terms : List Term) {n : Count} (row : Row_of-TermKind-Get-1-1 n) → HasEach terms (items-the_row-TermKind-Get-1-1 n row) → HasRow terms row
row_has terms end_of-TermKind-Get-1-1 has = tt
row_has terms (more_of-TermKind-Get-1-1 _ id t ts) has = (has.0, row_has terms ts has.1)

-- the children of a node with a list
pub children-Get : (terms : List Term) (f : ℕ) (ts : List (Rc Term Global)) → All (λ t. HasTerm terms t.value) ts → HasTerms terms (node.Get f ts)
children-Get terms f ts has = row_has terms (row_of (node.Get f ts)).1 (subst (HasEach terms) (sym (items_hidden-the_row-TermKind-Get-1-1-0 ts)) (has_each terms ts has))

pub children-Oper : (terms : List Term) (o : Op) (ts : List (Rc Term Global)) → All (λ t. HasTerm terms t.value) ts → HasTerms terms (node.Oper o ts)
children-Oper terms o ts has = row_has terms (row_of (node.Oper o ts)).1 (subst (HasEach terms) (sym (items_hidden-the_row-TermKind-Get-1-1-0 ts)) (has_each terms ts has))
