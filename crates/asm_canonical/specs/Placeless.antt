-- Trees without places: each place is 0, and each first token is the empty text.
use Rattle.std.specs.Prelude.{[], map}
use Rattle.std.specs.Option.{option_map}
use Rattle.asm_tree.specs.declared.term.RawName.{RawName}
use Rattle.asm_tree.specs.declared.term.RawBinder.{RawBinder}
use Rattle.asm_tree.specs.declared.term.RawTerm.{RawTerm, RawTerm-F, fold-RawTerm}
use Rattle.asm_tree.specs.declared.term.RawTermKind.{RawTermKind, fold-RawTermKind}
use Rattle.asm_tree.specs.declared.term.RawTermKind.TheVariants as term_kind
use Rattle.asm_tree.specs.declared.term.RawTermKind.TheOpen.{RawTermKind-F}
use Rattle.asm_tree.specs.declared.term.RawCase.{RawCase, RawCase-F, fold-RawCase}
use Rattle.asm_tree.specs.declared.term.RawBind.{RawBind, RawBind-F, fold-RawBind}
use Rattle.asm_tree.specs.declared.rule.RawRule.{RawRule, RawRule-F, fold-RawRule}
use Rattle.asm_tree.specs.declared.rule.RawRuleKind.{RawRuleKind, fold-RawRuleKind}
use Rattle.asm_tree.specs.declared.rule.RawRuleKind.TheVariants as rule_kind
use Rattle.asm_tree.specs.declared.rule.RawRuleKind.TheOpen.{RawRuleKind-F}
use Rattle.asm_tree.specs.declared.rule.RawRuleCase.{RawRuleCase, RawRuleCase-F, fold-RawRuleCase}
use Rattle.asm_tree.specs.declared.unit.RawPath.{RawPath}
use Rattle.asm_tree.specs.declared.unit.RawDeclaration.{RawDeclaration}
use Rattle.asm_tree.specs.declared.unit.RawDeclaration.TheVariants as declaration_of
use Rattle.asm_tree.specs.declared.unit.RawInt.{RawInt}
use Rattle.asm_tree.specs.declared.unit.RawFunction.{RawFunction}
use Rattle.asm_tree.specs.declared.unit.RawInvariant.{RawInvariant}
use Rattle.asm_tree.specs.declared.unit.RawDefinition.{RawDefinition}
use Rattle.asm_tree.specs.declared.unit.RawDefinition.TheVariants as definition_of
use Rattle.asm_tree.specs.declared.unit.RawMain.{RawMain}
use Rattle.asm_tree.specs.declared.unit.RawInit.{RawInit}
use Rattle.asm_tree.specs.declared.unit.RawUnit.{RawUnit}

abbrev pub plain_name : RawName → RawName
plain_name n = record { at = 0; text = n.text }

abbrev pub plain_binder : RawBinder → RawBinder
plain_binder b = record { variable = plain_name b.variable; domain = plain_name b.domain }

-- ---- terms

abbrev pub kind_step : RawTermKind-F RawTermKind RawBind RawCase RawTerm → RawTermKind
kind_step (RawTermKind-F.Number n) = term_kind.Number n
kind_step (RawTermKind-F.Truth b) = term_kind.Truth b
kind_step RawTermKind-F.Undef = term_kind.Undef
kind_step (RawTermKind-F.Variable v) = term_kind.Variable v
kind_step (RawTermKind-F.Element e) = term_kind.Element e
kind_step (RawTermKind-F.Call f xs) = term_kind.Call f xs
kind_step (RawTermKind-F.Unary o x) = term_kind.Unary o x
kind_step (RawTermKind-F.Binary o x y) = term_kind.Binary o x y
kind_step (RawTermKind-F.Cond g x y) = term_kind.Cond g x y
kind_step (RawTermKind-F.Switch x cs y) = term_kind.Switch x cs y
kind_step (RawTermKind-F.Let bs x) = term_kind.Let bs x
kind_step (RawTermKind-F.Quant q bs x) = term_kind.Quant q (map plain_binder bs) x

abbrev pub bind_step : RawBind-F RawTermKind RawBind RawCase RawTerm → RawBind
bind_step b = record { variable = plain_name b.variable; term = b.term }

abbrev pub case_step : RawCase-F RawTermKind RawBind RawCase RawTerm → RawCase
case_step c = record { label = c.label; value = c.value }

abbrev pub term_step : RawTerm-F RawTermKind RawBind RawCase RawTerm → RawTerm
term_step t = record { at = 0; first = []; kind = t.kind }

abbrev pub plain_term : RawTerm → RawTerm
plain_term = fold-RawTerm RawTermKind RawBind RawCase RawTerm kind_step bind_step case_step term_step

abbrev pub plain_term_kind : RawTermKind → RawTermKind
plain_term_kind = fold-RawTermKind RawTermKind RawBind RawCase RawTerm kind_step bind_step case_step term_step

abbrev pub plain_case : RawCase → RawCase
plain_case = fold-RawCase RawTermKind RawBind RawCase RawTerm kind_step bind_step case_step term_step

abbrev pub plain_bind : RawBind → RawBind
plain_bind = fold-RawBind RawTermKind RawBind RawCase RawTerm kind_step bind_step case_step term_step

-- ---- rules

abbrev pub rule_kind_step : RawRuleKind-F RawRuleKind RawRule RawRuleCase → RawRuleKind
rule_kind_step RawRuleKind-F.Skip = rule_kind.Skip
rule_kind_step (RawRuleKind-F.Update f xs y) = rule_kind.Update f (map plain_term xs) (plain_term y)
rule_kind_step (RawRuleKind-F.Par rs) = rule_kind.Par rs
rule_kind_step (RawRuleKind-F.Seq rs) = rule_kind.Seq rs
rule_kind_step (RawRuleKind-F.If g p q) = rule_kind.If (plain_term g) p q
rule_kind_step (RawRuleKind-F.Switch x cs q) = rule_kind.Switch (plain_term x) cs q
rule_kind_step (RawRuleKind-F.Let bs p) = rule_kind.Let (map plain_bind bs) p
rule_kind_step (RawRuleKind-F.Forall bs g p) = rule_kind.Forall (map plain_binder bs) (plain_term g) p
rule_kind_step (RawRuleKind-F.Choose bs g p q) = rule_kind.Choose (map plain_binder bs) (plain_term g) p q
rule_kind_step (RawRuleKind-F.Call r xs) = rule_kind.Call r (map plain_term xs)

abbrev pub rule_step : RawRule-F RawRuleKind RawRule RawRuleCase → RawRule
rule_step r = record { at = 0; kind = r.kind }

abbrev pub rule_case_step : RawRuleCase-F RawRuleKind RawRule RawRuleCase → RawRuleCase
rule_case_step c = record { label = plain_term c.label; rule = c.rule }

abbrev pub plain_rule : RawRule → RawRule
plain_rule = fold-RawRule RawRuleKind RawRule RawRuleCase rule_kind_step rule_step rule_case_step

abbrev pub plain_rule_kind : RawRuleKind → RawRuleKind
plain_rule_kind = fold-RawRuleKind RawRuleKind RawRule RawRuleCase rule_kind_step rule_step rule_case_step

abbrev pub plain_rule_case : RawRuleCase → RawRuleCase
plain_rule_case = fold-RawRuleCase RawRuleKind RawRule RawRuleCase rule_kind_step rule_step rule_case_step

-- ---- units

abbrev pub plain_path : RawPath → RawPath
plain_path p = record { at = 0; parts = p.parts }

abbrev pub plain_declaration : RawDeclaration → RawDeclaration
plain_declaration (declaration_of.Enumeration d es) = declaration_of.Enumeration (plain_name d) (map plain_name es)
plain_declaration (declaration_of.Subset d e) = declaration_of.Subset (plain_name d) (plain_name e)
plain_declaration (declaration_of.Abstract d) = declaration_of.Abstract (plain_name d)
plain_declaration (declaration_of.Function k f ds c) = declaration_of.Function k (plain_name f) (map plain_name ds) (plain_name c)

abbrev pub plain_int : RawInt → RawInt
plain_int i = record { at = 0; first = []; value = i.value }

abbrev pub plain_function : RawFunction → RawFunction
plain_function f = record { name = plain_name f.name; parameters = map plain_binder f.parameters; term = plain_term f.term }

abbrev pub plain_invariant : RawInvariant → RawInvariant
plain_invariant i = record { at = 0; name = option_map plain_name i.name; over = map plain_name i.over; term = plain_term i.term }

abbrev pub plain_definition : RawDefinition → RawDefinition
plain_definition (definition_of.Range d low high) = definition_of.Range (plain_name d) (plain_int low) (plain_int high)
plain_definition (definition_of.List d xs) = definition_of.List (plain_name d) (map plain_int xs)
plain_definition (definition_of.Function f) = definition_of.Function (plain_function f)
plain_definition (definition_of.Rule r ps y) = definition_of.Rule (plain_name r) (map plain_binder ps) (plain_rule y)
plain_definition (definition_of.Invariant i) = definition_of.Invariant (plain_invariant i)

abbrev pub plain_main : RawMain → RawMain
plain_main m = record { name = plain_name m.name; rule = plain_rule m.rule }

abbrev pub plain_init : RawInit → RawInit
plain_init i = record { name = plain_name i.name; functions = map plain_function i.functions }

abbrev pub placeless : RawUnit → RawUnit
placeless u = record {
  kind = u.kind;
  name = plain_name u.name;
  imports = map plain_path u.imports;
  declarations = map plain_declaration u.declarations;
  definitions = map plain_definition u.definitions;
  main = option_map plain_main u.main;
  init = option_map plain_init u.init;
}
