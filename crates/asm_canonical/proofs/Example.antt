-- A text worked out by hand: an update under a guard.
use Rattle.std.proofs.Common.{◌≡◌, ℕ, List, [], ◌∷◌, ◌++◌, true, ap, ◌∙◌, Some}
use Rattle.std.specs.Prelude.{codes}
use Rattle.asm_tree.specs.declared.operator.Op.TheVariants as op
use Rattle.asm_tree.specs.declared.operator.UnaryOp.TheVariants as unary
use Rattle.asm_tree.specs.declared.term.RawName.{RawName}
use Rattle.asm_tree.specs.declared.term.RawTerm.{RawTerm}
use Rattle.asm_tree.specs.declared.term.RawTermKind.{RawTermKind}
use Rattle.asm_tree.specs.declared.term.RawTermKind.TheVariants as term_kind
use Rattle.asm_tree.specs.declared.rule.RawRule.{RawRule}
use Rattle.asm_tree.specs.declared.rule.RawRuleKind.{RawRuleKind}
use Rattle.asm_tree.specs.declared.rule.RawRuleKind.TheVariants as rule_kind
use Rattle.asm_tree.specs.declared.unit.RawFunctionKind.TheVariants as function_kind
use Rattle.asm_tree.specs.declared.unit.RawDeclaration.TheVariants as declaration_of
use Rattle.asm_tree.specs.declared.unit.RawUnitKind.TheVariants as unit_kind
use Rattle.asm_tree.specs.declared.unit.RawUnit.{RawUnit}
use Rattle.asm_canonical.specs.Document.{Doc, Item, Line, One, word, spaced, text_in}
use Rattle.asm_canonical.specs.Terms.{term_doc, whole_term, binary, unary_operation}
use Rattle.asm_canonical.specs.Rules.{rule_doc, inner_then}
use Rattle.asm_canonical.specs.Units.{canonical, content_doc, main_doc, init_doc, declaration_doc}
use Rattle.asm_canonical.proofs.TermDocuments.{doc_term, doc_truth, doc_call, doc_unary, doc_binary}
use Rattle.asm_canonical.proofs.RuleDocuments.{doc_rule, doc_skip, doc_update, doc_if}

abbrev named : List ℕ → RawName
named w = record { at = 0; text = w }

abbrev term : RawTermKind → RawTerm
term k = record { at = 0; first = []; kind = k }

abbrev rule : RawRuleKind → RawRule
rule k = record { at = 0; kind = k }

abbrev x : RawTerm
x = term (term_kind.Call (codes "x") [])

abbrev yes : RawTerm
yes = term (term_kind.Truth true)

-- a document that is the same at each level
abbrev always : List Item → Doc
always d l = d

doc_x : term_doc x ≡ always (word (codes "x"))
doc_x = doc_term x ∙ doc_call (codes "x") []

doc_yes : term_doc yes ≡ always (word (codes "true"))
doc_yes = doc_term yes ∙ doc_truth true

abbrev equal : RawTerm
equal = term (term_kind.Binary op.Equal x yes)

doc_equal : term_doc equal ≡ binary op.Equal (always (word (codes "x"))) (always (word (codes "true")))
doc_equal = doc_term equal ∙ doc_binary op.Equal x yes ∙ ap (λ (d : Doc). binary op.Equal d (term_doc yes)) doc_x ∙ ap (λ (d : Doc). binary op.Equal (always (word (codes "x"))) d) doc_yes

abbrev negated : RawTermKind → RawTerm
negated k = term (term_kind.Unary unary.Not (term k))

doc_negated : (k : RawTermKind) → term_doc (negated k) ≡ unary_operation unary.Not (term_doc (term k))
doc_negated k = doc_term (negated k) ∙ doc_unary unary.Not (term k)

-- operands are in parentheses where they need them, and there alone
pub grouped : text_in (whole_term (negated (term_kind.Binary op.And equal x))) ≡ codes "not (x = true and x)"
grouped = ap (λ (d : Doc). text_in (d 1)) (doc_negated (term_kind.Binary op.And equal x)
    ∙ ap (unary_operation unary.Not) (doc_term (term (term_kind.Binary op.And equal x)) ∙ doc_binary op.And equal x ∙ ap (λ (d : Doc). binary op.And d (term_doc x)) doc_equal ∙ ap (binary op.And (binary op.Equal (always (word (codes "x"))) (always (word (codes "true"))))) doc_x))

pub plain : text_in (whole_term (negated (term_kind.Binary op.Equal x yes))) ≡ codes "not x = true"
plain = ap (λ (d : Doc). text_in (d 1)) (doc_negated (term_kind.Binary op.Equal x yes) ∙ ap (unary_operation unary.Not) doc_equal)

-- ---- a whole unit

abbrev update : RawRule
update = rule (rule_kind.Update (codes "x") [] (negated (term_kind.Call (codes "x") [])))

abbrev conditional : RawRule
conditional = rule (rule_kind.If equal update (rule rule_kind.Skip))

abbrev unit : RawUnit
unit = record {
  kind = unit_kind.Asm;
  name = named (codes "t");
  imports = [];
  declarations = declaration_of.Function function_kind.Controlled (named (codes "x")) [] (named (codes "Boolean")) ∷ [];
  definitions = [];
  main = Some (record { name = named (codes "r_Main"); rule = conditional });
  init = Some (record { name = named (codes "s0"); functions = record { name = named (codes "x"); parameters = []; term = yes } ∷ [] });
}

doc_update_x : rule_doc update ≡ always (spaced (word (codes "x") ∷ word (codes ":=") ∷ spaced (word (codes "not") ∷ word (codes "x") ∷ []) ∷ []))
doc_update_x = doc_rule update ∙ doc_update (codes "x") [] (negated (term_kind.Call (codes "x") []))
    ∙ ap (λ (d : Doc). always (spaced (word (codes "x") ∷ word (codes ":=") ∷ d 1 ∷ []))) (doc_negated (term_kind.Call (codes "x") []) ∙ ap (unary_operation unary.Not) doc_x)

doc_skip_rule : rule_doc (rule rule_kind.Skip) ≡ always (word (codes "skip"))
doc_skip_rule = doc_rule (rule rule_kind.Skip) ∙ doc_skip

-- the rule and the whole text, from the documents of the guard and of the two branches
abbrev branching : Doc → Doc → Doc → Doc
branching g d e n = spaced (word (codes "if") ∷ g 1 ∷ (One (codes "then") ∷ inner_then n d (One (codes "else") ∷ inner_then n e (word (codes "endif")))) ∷ [])

abbrev filled : Doc
filled = branching (binary op.Equal (always (word (codes "x"))) (always (word (codes "true")))) (always (spaced (word (codes "x") ∷ word (codes ":=") ∷ spaced (word (codes "not") ∷ word (codes "x") ∷ []) ∷ []))) (always (word (codes "skip")))

doc_conditional : rule_doc conditional ≡ filled
doc_conditional = doc_rule conditional ∙ doc_if equal update (rule rule_kind.Skip)
    ∙ ap (λ (g : Doc). branching g (rule_doc update) (rule_doc (rule rule_kind.Skip))) doc_equal
    ∙ ap (λ (d : Doc). branching (binary op.Equal (always (word (codes "x"))) (always (word (codes "true")))) d (rule_doc (rule rule_kind.Skip))) doc_update_x
    ∙ ap (λ (d : Doc). branching (binary op.Equal (always (word (codes "x"))) (always (word (codes "true")))) (always (spaced (word (codes "x") ∷ word (codes ":=") ∷ spaced (word (codes "not") ∷ word (codes "x") ∷ []) ∷ []))) d) doc_skip_rule

abbrev around : Doc → Doc → List ℕ
around d e = text_in (spaced (word (codes "asm") ∷ (One (codes "t") ∷ Line 0 ∷ One (codes "signature") ∷ One (codes ":") ∷ Line 1 ∷ []
    ++ (spaced (word (codes "controlled") ∷ word (codes "x") ∷ word (codes ":") ∷ word (codes "Boolean") ∷ [])
    ++ (Line 0 ∷ One (codes "definitions") ∷ One (codes ":") ∷ Line 0 ∷ []
    ++ (spaced (word (codes "main") ∷ word (codes "rule") ∷ word (codes "r_Main") ∷ (One (codes "=") ∷ Line 1 ∷ d 1) ∷ [])
    ++ (Line 0 ∷ spaced (word (codes "default") ∷ word (codes "init") ∷ (One (codes "s0") ∷ One (codes ":") ∷ Line 1 ∷ (spaced (word (codes "function") ∷ word (codes "x") ∷ word (codes "=") ∷ e 1 ∷ []) ++ [])) ∷ [])))))) ∷ [])) ++ codes "\n"

pub whole : canonical unit ≡ codes "asm t\nsignature:\n  controlled x : Boolean\ndefinitions:\nmain rule r_Main =\n  if x = true then\n    x := not x\n  else\n    skip\n  endif\ndefault init s0:\n  function x = true\n"
unfolding canonical content_doc main_doc init_doc declaration_doc
whole = ap (λ (d : Doc). around d (term_doc yes)) doc_conditional ∙ ap (around filled) doc_yes
