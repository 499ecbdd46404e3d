-- Pieces of a text, as the printer appends them.
use Rattle.std.specs.Prelude.{ℕ, ◌==◌, List, [], ◌∷◌, ◌++◌, Bool, true, false, codes, nat_lt, map, Option, Some, None, if◌then◌else◌}
use Rattle.asm_tree.specs.declared.operator.Op.{Op}
use Rattle.asm_tree.specs.declared.operator.UnaryOp.{UnaryOp}
use Rattle.asm_tree.specs.declared.operator.UnaryOp.TheVariants as unary
use Rattle.asm_tree.specs.declared.term.RawName.{RawName}
use Rattle.asm_tree.specs.declared.unit.RawPart.{RawPart}
use Rattle.asm_tree.specs.declared.term.RawBinder.{RawBinder}
use Rattle.asm_tree.specs.declared.term.RawTerm.{RawTerm}
use Rattle.asm_tree.specs.declared.rule.RawRule.{RawRule}
use Rattle.asm_tree.specs.declared.rule.RawRuleCase.{RawRuleCase}
use Rattle.asm_canonical.specs.Document.{Item, Line, item_text, text_in, commas, further}
use Rattle.asm_canonical.specs.Terms.{level, sign, is_infix, binders_doc, whole_term}
use Rattle.asm_canonical.specs.Rules.{rule_doc, case_doc}
use Rattle.asm_canonical.specs.Units.{part_doc}

abbrev pub line_text : ℕ → List ℕ
line_text n = item_text (Line n)

abbrev pub mark_text : Bool → List ℕ → List ℕ
mark_text true m = m
mark_text false m = []

abbrev pub separator_text : ℕ → List ℕ
separator_text n = if n == 0 then [] else codes ", "

-- what is left of a list with commas where n items were written
abbrev pub listed : ℕ → List (List Item) → List ℕ
listed n ds = if n == 0 then text_in (commas ds) else text_in (further (codes ",") ds)

-- ---- before, between and behind the operands of an operator

abbrev pub before_both : Op → ℕ → List ℕ
before_both o l = if is_infix o then mark_text (nat_lt (level o) l) (codes "(") else sign o ++ codes "("

abbrev pub middle : Op → List ℕ
middle o = if is_infix o then codes " " ++ (sign o ++ codes " ") else codes ", "

abbrev pub behind_both : Op → ℕ → List ℕ
behind_both o l = if is_infix o then mark_text (nat_lt (level o) l) (codes ")") else codes ")"

abbrev pub before_one : UnaryOp → ℕ → List ℕ
before_one unary.Not l = mark_text (nat_lt 5 l) (codes "(") ++ codes "not "
before_one unary.Negate l = mark_text (nat_lt 9 l) (codes "(") ++ codes "-"
before_one unary.Abs l = codes "abs("
before_one unary.IsDefined l = codes "isDef("
before_one unary.IsUndefined l = codes "isUndef("

abbrev pub operand_level : UnaryOp → ℕ
operand_level unary.Not = 5
operand_level unary.Negate = 9
operand_level unary.Abs = 1
operand_level unary.IsDefined = 1
operand_level unary.IsUndefined = 1

abbrev pub behind_one : UnaryOp → ℕ → List ℕ
behind_one unary.Not l = mark_text (nat_lt 5 l) (codes ")")
behind_one unary.Negate l = mark_text (nat_lt 9 l) (codes ")")
behind_one unary.Abs l = codes ")"
behind_one unary.IsDefined l = codes ")"
behind_one unary.IsUndefined l = codes ")"

-- ---- rules

abbrev pub quantified_text : List ℕ → List RawBinder → RawTerm → List ℕ
quantified_text w bs g = w ++ (text_in (binders_doc bs) ++ (codes " with " ++ (text_in (whole_term g) ++ codes " do")))

-- each on a line of its own, at a level
abbrev pub rules_doc : ℕ → List RawRule → List Item
rules_doc n [] = []
rules_doc n (r ∷ rs) = Line n ∷ (rule_doc r n ++ rules_doc n rs)

abbrev pub cases_doc : ℕ → List RawRuleCase → List Item
cases_doc n [] = []
cases_doc n (c ∷ cs) = Line n ∷ (case_doc c n ++ cases_doc n cs)

-- ---- lists of texts

abbrev pub joint : ℕ → List ℕ → List ℕ
joint n w = if n == 0 then [] else w

-- each behind this text
abbrev pub behind_each : List ℕ → List (List ℕ) → List ℕ
behind_each w [] = []
behind_each w (t ∷ ts) = w ++ (t ++ behind_each w ts)

-- with this text between them
abbrev pub strung : List ℕ → List (List ℕ) → List ℕ
strung w [] = []
strung w (t ∷ ts) = t ++ behind_each w ts

-- what is left of them where n were written
abbrev pub left_of : List ℕ → ℕ → List (List ℕ) → List ℕ
left_of w n ts = if n == 0 then strung w ts else behind_each w ts

abbrev pub name_text : RawName → List ℕ
name_text n = n.text

abbrev pub names_text : List ℕ → List RawName → List ℕ
names_text w ns = strung w (map name_text ns)

abbrev pub part_text : RawPart → List ℕ
part_text p = text_in (part_doc p)

abbrev pub invariant_name_text : Option RawName → List ℕ
invariant_name_text None = []
invariant_name_text (Some n) = n.text ++ codes " "

abbrev pub parts_text : List RawPart → List ℕ
parts_text ps = strung (codes "/") (map part_text ps)
