-- The documents of terms.
use Rattle.std.specs.Prelude.{ℕ, List, [], ◌∷◌, ◌++◌, Bool, true, false, nat_lt, map, codes, if◌then◌else◌}
use Rattle.std.specs.Fmt.{decimal}
use Rattle.asm_tree.specs.declared.operator.Op.{Op}
use Rattle.asm_tree.specs.declared.operator.Op.TheVariants as op
use Rattle.asm_tree.specs.declared.operator.UnaryOp.{UnaryOp}
use Rattle.asm_tree.specs.declared.operator.UnaryOp.TheVariants as unary
use Rattle.asm_tree.specs.declared.operator.Quantifier.{Quantifier}
use Rattle.asm_tree.specs.declared.operator.Quantifier.TheVariants as quantifier
use Rattle.asm_tree.specs.declared.term.RawBinder.{RawBinder}
use Rattle.asm_tree.specs.declared.term.RawTerm.{RawTerm, RawTerm-F, fold-RawTerm}
use Rattle.asm_tree.specs.declared.term.RawTermKind.{RawTermKind, fold-RawTermKind}
use Rattle.asm_tree.specs.declared.term.RawTermKind.TheOpen.{RawTermKind-F}
use Rattle.asm_tree.specs.declared.term.RawCase.{RawCase, RawCase-F, fold-RawCase}
use Rattle.asm_tree.specs.declared.term.RawBind.{RawBind, RawBind-F, fold-RawBind}
use Rattle.asm_canonical.specs.Document.{Item, Gap, One, Doc, text_in, word, spaced, behind_gaps, commas, parenthesized, parenthesized_if, arguments}

-- ---- the table of operators

-- 1 binds loosest; 10 are the names with their operands in parentheses
abbrev pub level : Op → ℕ
level op.Iff = 1
level op.Implies = 2
level op.Or = 3
level op.Xor = 3
level op.And = 4
level op.Equal = 6
level op.NotEqual = 6
level op.Less = 6
level op.LessEqual = 6
level op.Greater = 6
level op.GreaterEqual = 6
level op.Plus = 7
level op.Minus = 7
level op.Times = 8
level op.Mod = 8
level op.Idiv = 10
level op.Min = 10
level op.Max = 10

-- the loosest operators that a left operand may have without parentheses: its own level where operators of that level
-- group to the left, else the next one
abbrev pub left_level : Op → ℕ
left_level op.Iff = 1
left_level op.Implies = 3
left_level op.Or = 3
left_level op.Xor = 3
left_level op.And = 4
left_level op.Equal = 7
left_level op.NotEqual = 7
left_level op.Less = 7
left_level op.LessEqual = 7
left_level op.Greater = 7
left_level op.GreaterEqual = 7
left_level op.Plus = 7
left_level op.Minus = 7
left_level op.Times = 8
left_level op.Mod = 8
left_level op.Idiv = 1
left_level op.Min = 1
left_level op.Max = 1

-- the same for a right operand: its own level only for `implies`, which groups to the right
abbrev pub right_level : Op → ℕ
right_level op.Iff = 2
right_level op.Implies = 2
right_level op.Or = 4
right_level op.Xor = 4
right_level op.And = 5
right_level op.Equal = 7
right_level op.NotEqual = 7
right_level op.Less = 7
right_level op.LessEqual = 7
right_level op.Greater = 7
right_level op.GreaterEqual = 7
right_level op.Plus = 8
right_level op.Minus = 8
right_level op.Times = 9
right_level op.Mod = 9
right_level op.Idiv = 1
right_level op.Min = 1
right_level op.Max = 1

abbrev pub sign : Op → List ℕ
sign op.Iff = codes "iff"
sign op.Implies = codes "implies"
sign op.Or = codes "or"
sign op.Xor = codes "xor"
sign op.And = codes "and"
sign op.Equal = codes "="
sign op.NotEqual = codes "!="
sign op.Less = codes "<"
sign op.LessEqual = codes "<="
sign op.Greater = codes ">"
sign op.GreaterEqual = codes ">="
sign op.Plus = codes "+"
sign op.Minus = codes "-"
sign op.Times = codes "*"
sign op.Mod = codes "mod"
sign op.Idiv = codes "idiv"
sign op.Min = codes "min"
sign op.Max = codes "max"

-- it stands between its operands
abbrev pub is_infix : Op → Bool
is_infix o = nat_lt (level o) 10

-- ---- terms

abbrev pub infixed : Op → Doc → Doc → Doc
infixed o x y l = parenthesized_if (nat_lt (level o) l) (spaced (x (left_level o) ∷ word (sign o) ∷ y (right_level o) ∷ []))

abbrev pub prefixed : Op → Doc → Doc → List Item
prefixed o x y = word (sign o) ++ parenthesized (x (left_level o) ++ (One (codes ",") ∷ Gap ∷ y (right_level o)))

abbrev pub binary : Op → Doc → Doc → Doc
binary o x y l = if is_infix o then infixed o x y l else prefixed o x y

abbrev pub unary_operation : UnaryOp → Doc → Doc
unary_operation unary.Not x l = parenthesized_if (nat_lt 5 l) (spaced (word (codes "not") ∷ x 5 ∷ []))
unary_operation unary.Negate x l = parenthesized_if (nat_lt 9 l) (word (codes "-") ++ x 9)
unary_operation unary.Abs x l = word (codes "abs") ++ parenthesized (x 1)
unary_operation unary.IsDefined x l = word (codes "isDef") ++ parenthesized (x 1)
unary_operation unary.IsUndefined x l = word (codes "isUndef") ++ parenthesized (x 1)

abbrev pub truth : Bool → List ℕ
truth true = codes "true"
truth false = codes "false"

abbrev pub binder_doc : RawBinder → List Item
binder_doc b = spaced (word b.variable.text ∷ word (codes "in") ∷ word b.domain.text ∷ [])

abbrev pub binders_doc : List RawBinder → List Item
binders_doc bs = commas (map binder_doc bs)

abbrev pub quantifier_doc : Quantifier → List Item
quantifier_doc quantifier.Forall = word (codes "forall")
quantifier_doc quantifier.Exist = word (codes "exist")
quantifier_doc quantifier.ExistUnique = spaced (word (codes "exist") ∷ word (codes "unique") ∷ [])

abbrev pub quantifier_words : Quantifier → List ℕ
quantifier_words q = text_in (quantifier_doc q)

abbrev pub kind_step : RawTermKind-F Doc (List Item) (List Item) Doc → Doc
kind_step (RawTermKind-F.Number n) l = word (decimal n)
kind_step (RawTermKind-F.Truth b) l = word (truth b)
kind_step RawTermKind-F.Undef l = word (codes "undef")
kind_step (RawTermKind-F.Variable v) l = word v
kind_step (RawTermKind-F.Element e) l = word e
kind_step (RawTermKind-F.Call f xs) l = word f ++ arguments (map (λ (x : Doc). x 1) xs)
kind_step (RawTermKind-F.Unary o x) l = unary_operation o x l
kind_step (RawTermKind-F.Binary o x y) l = binary o x y l
kind_step (RawTermKind-F.Cond g x y) l = spaced (word (codes "if") ∷ g 1 ∷ word (codes "then") ∷ x 1 ∷ word (codes "else") ∷ y 1 ∷ word (codes "endif") ∷ [])
kind_step (RawTermKind-F.Switch x cs y) l = spaced (word (codes "switch") ∷ (x 1 ++ (behind_gaps cs ++ (Gap ∷ spaced (word (codes "otherwise") ∷ y 1 ∷ word (codes "endswitch") ∷ [])))) ∷ [])
kind_step (RawTermKind-F.Let bs x) l = spaced (word (codes "let") ∷ parenthesized (commas bs) ∷ word (codes "in") ∷ x 1 ∷ word (codes "endlet") ∷ [])
kind_step (RawTermKind-F.Quant q bs x) l = parenthesized (spaced (quantifier_doc q ∷ binders_doc bs ∷ word (codes "with") ∷ x 1 ∷ []))

abbrev pub bind_step : RawBind-F Doc (List Item) (List Item) Doc → List Item
bind_step b = spaced (word b.variable.text ∷ word (codes "=") ∷ b.term 1 ∷ [])

abbrev pub case_step : RawCase-F Doc (List Item) (List Item) Doc → List Item
case_step c = spaced (word (codes "case") ∷ c.label 1 ∷ word (codes ":") ∷ c.value 1 ∷ [])

abbrev pub term_step : RawTerm-F Doc (List Item) (List Item) Doc → Doc
term_step t = t.kind

-- a term on one line, where operators of this level and tighter ones need no parentheses
abbrev pub term_doc : RawTerm → Doc
term_doc = fold-RawTerm Doc (List Item) (List Item) Doc kind_step bind_step case_step term_step

abbrev pub kind_doc : RawTermKind → Doc
kind_doc = fold-RawTermKind Doc (List Item) (List Item) Doc kind_step bind_step case_step term_step

abbrev pub case_doc : RawCase → List Item
case_doc = fold-RawCase Doc (List Item) (List Item) Doc kind_step bind_step case_step term_step

abbrev pub bind_doc : RawBind → List Item
bind_doc = fold-RawBind Doc (List Item) (List Item) Doc kind_step bind_step case_step term_step

-- a whole term
abbrev pub whole_term : RawTerm → List Item
whole_term x = term_doc x 1
