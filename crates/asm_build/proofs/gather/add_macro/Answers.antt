use Rattle.std.proofs.Common.{map, sym, ap}
use Rattle.asm_tree.specs.declared.unit.RawDefinition.{RawDefinition}
use Rattle.asm_faults.specs.Files.{rule_in}
use Rattle.asm_faults.specs.Model.{macro_of}
use Rattle.asm_build.proofs.Adding.{added_none, added_same, macro_added}
use Rattle.asm_build.proofs.gather.add_macro.Goals as goal

pub returns-in_ok-push_macro-in-Rule : goal.returns-in_ok-push_macro-in-Rule
returns-in_ok-push_macro-in-Rule c units n known place = added_same _ _ (λ number. ap (λ (d : RawDefinition). map (macro_of number c.args.known.now units) (rule_in (n, d))) (sym c.in-Rule.is))
    (macro_added c.args.known.now units (record { unit = n; name = c.in-Rule.name; parameters = c.in-Rule.parameters; body = c.in-Rule.body }) c.args.file c.slice.result.now c.in_ok-parameters-in-Rule.parameters c.in_ok-body-in-Rule.body
    known place c.slice.ensures c.in_ok-parameters-in-Rule.ensures.grown c.in_ok-body-in-Rule.ensures.grown c.in_ok-parameters-in-Rule.ensures.made c.in_ok-body-in-Rule.ensures.made c.in_ok-push_macro-in-Rule.ensures)

pub returns-in-Range : goal.returns-in-Range
returns-in-Range c units n known place = added_none c.args.maker.now _ c.args.rules.now (λ number. ap (λ (d : RawDefinition). map (macro_of number c.args.known.now units) (rule_in (n, d))) c.in-Range.is)

pub returns-in-List : goal.returns-in-List
returns-in-List c units n known place = added_none c.args.maker.now _ c.args.rules.now (λ number. ap (λ (d : RawDefinition). map (macro_of number c.args.known.now units) (rule_in (n, d))) c.in-List.is)

pub returns-in-Function : goal.returns-in-Function
returns-in-Function c units n known place = added_none c.args.maker.now _ c.args.rules.now (λ number. ap (λ (d : RawDefinition). map (macro_of number c.args.known.now units) (rule_in (n, d))) c.in-Function.is)

pub returns-in-Invariant : goal.returns-in-Invariant
returns-in-Invariant c units n known place = added_none c.args.maker.now _ c.args.rules.now (λ number. ap (λ (d : RawDefinition). map (macro_of number c.args.known.now units) (rule_in (n, d))) c.in-Invariant.is)
