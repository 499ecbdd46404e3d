use Rattle.std.proofs.Common.{ap}
use Rattle.asm_tree.specs.declared.unit.RawDeclaration.{RawDeclaration}
use Rattle.asm_faults.specs.Files.{function_in}
use Rattle.asm_faults.specs.FunctionFaults.{own_faults}
use Rattle.asm_declare.proofs.Owning.{no_own, own_noted}
use Rattle.asm_declare.proofs.own.declared_own.Goals as goal

pub returns-in_ok-note_arity-in-Function : goal.returns-in_ok-note_arity-in-Function
returns-in_ok-note_arity-in-Function c =
    own_noted c.args.numbers.now _ _ _ _ _ c.args.number c.args.declaration.now c.in-Function.kind c.in-Function.name c.in-Function.arguments c.slice.result.now c.in-Function.codomain c.len.result c.in-Function.is c.slice.ensures c.len.ensures
    (c.in_ok-note_arguments-in-Function).ensures (c.in_ok-note_unknown-in-Function).ensures (c.in_ok-note_values-in-Function).ensures (c.in_ok-note_arity-in-Function).ensures

pub returns-in-Enumeration : goal.returns-in-Enumeration
returns-in-Enumeration c = no_own (own_faults c.args.numbers.now) c.args.first.now (ap (λ (x : RawDeclaration). function_in (c.args.number, x)) c.in-Enumeration.is)

pub returns-in-Subset : goal.returns-in-Subset
returns-in-Subset c = no_own (own_faults c.args.numbers.now) c.args.first.now (ap (λ (x : RawDeclaration). function_in (c.args.number, x)) c.in-Subset.is)

pub returns-in-Abstract : goal.returns-in-Abstract
returns-in-Abstract c = no_own (own_faults c.args.numbers.now) c.args.first.now (ap (λ (x : RawDeclaration). function_in (c.args.number, x)) c.in-Abstract.is)
