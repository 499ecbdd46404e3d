use Rattle.std.proofs.Common.{map, sym, ap}
use Rattle.asm_tree.specs.declared.unit.RawDefinition.{RawDefinition}
use Rattle.asm_faults.specs.Files.{definition_in}
use Rattle.asm_faults.specs.Model.{definition_of}
use Rattle.asm_build.proofs.Adding.{added_none, added_same}
use Rattle.asm_build.proofs.gather.add_definition.Goals as goal

pub returns-in_ok-add_function-in-Function : goal.returns-in_ok-add_function-in-Function
returns-in_ok-add_function-in-Function c units n = added_same _ _ (λ number. ap (λ (d : RawDefinition). map (definition_of number c.args.known.now units) (definition_in (n, d))) (sym c.in-Function.is)) (c.in_ok-add_function-in-Function.ensures units n)

pub returns-in-Range : goal.returns-in-Range
returns-in-Range c units n = added_none c.args.maker.now _ c.args.definitions.now (λ number. ap (λ (d : RawDefinition). map (definition_of number c.args.known.now units) (definition_in (n, d))) c.in-Range.is)

pub returns-in-List : goal.returns-in-List
returns-in-List c units n = added_none c.args.maker.now _ c.args.definitions.now (λ number. ap (λ (d : RawDefinition). map (definition_of number c.args.known.now units) (definition_in (n, d))) c.in-List.is)

pub returns-in-Rule : goal.returns-in-Rule
returns-in-Rule c units n = added_none c.args.maker.now _ c.args.definitions.now (λ number. ap (λ (d : RawDefinition). map (definition_of number c.args.known.now units) (definition_in (n, d))) c.in-Rule.is)

pub returns-in-Invariant : goal.returns-in-Invariant
returns-in-Invariant c units n = added_none c.args.maker.now _ c.args.definitions.now (λ number. ap (λ (d : RawDefinition). map (definition_of number c.args.known.now units) (definition_in (n, d))) c.in-Invariant.is)
