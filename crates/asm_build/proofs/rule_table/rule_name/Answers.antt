use Rattle.std.proofs.Common.{◌++◌, map, sym, ap, ◌∙◌}
use Rattle.asm_tree.specs.declared.unit.RawDefinition.{RawDefinition}
use Rattle.asm_faults.specs.Files.{DeclaredRule, rule_in}
use Rattle.asm_build.proofs.Growing.{append_none}
use Rattle.asm_build.proofs.rule_table.rule_name.Goals as goal

pub returns-in_ok-add-in-Rule : goal.returns-in_ok-add-in-Rule
returns-in_ok-add-in-Rule c n = c.in_ok-add-in-Rule.ensures.ok ∙ ap (λ (d : RawDefinition). c.args.names.now ++ map (λ (r : DeclaredRule). r.name.text) (rule_in (n, d))) (sym c.in-Rule.is)

pub returns-in-Range : goal.returns-in-Range
returns-in-Range c n = append_none c.args.names.now ∙ ap (λ (d : RawDefinition). c.args.names.now ++ map (λ (r : DeclaredRule). r.name.text) (rule_in (n, d))) (sym c.in-Range.is)

pub returns-in-List : goal.returns-in-List
returns-in-List c n = append_none c.args.names.now ∙ ap (λ (d : RawDefinition). c.args.names.now ++ map (λ (r : DeclaredRule). r.name.text) (rule_in (n, d))) (sym c.in-List.is)

pub returns-in-Function : goal.returns-in-Function
returns-in-Function c n = append_none c.args.names.now ∙ ap (λ (d : RawDefinition). c.args.names.now ++ map (λ (r : DeclaredRule). r.name.text) (rule_in (n, d))) (sym c.in-Function.is)

pub returns-in-Invariant : goal.returns-in-Invariant
returns-in-Invariant c n = append_none c.args.names.now ∙ ap (λ (d : RawDefinition). c.args.names.now ++ map (λ (r : DeclaredRule). r.name.text) (rule_in (n, d))) (sym c.in-Invariant.is)
