use Rattle.std.proofs.Common.{ap, ◌∙◌}
use Rattle.asm_tree.specs.declared.unit.RawDeclaration.{RawDeclaration}
use Rattle.asm_faults.specs.Files.{function_in}
use Rattle.asm_faults.specs.FunctionFaults.{function_of}
use Rattle.asm_declare.proofs.Making.{none_made, made_with, function_made}
use Rattle.asm_declare.proofs.listing.add_function.Goals as goal

pub returns-in_ok-push-in-Function : goal.returns-in_ok-push-in-Function
returns-in_ok-push-in-Function c = λ n.
    function_made (function_of c.args.numbers.now) c.args.list.now c.push.new.self n c.args.declaration.now c.in-Function.kind c.in-Function.name c.in-Function.arguments c.in-Function.codomain c.in_ok-function-in-Function.function c.in-Function.is
    ((c.in_ok-function-in-Function).ensures n ∙ made_with c.args.numbers.now n c.in-Function.kind c.in-Function.name c.slice.result.now c.in-Function.arguments c.in-Function.codomain c.slice.ensures) (c.in_ok-push-in-Function).ensures.ok

pub returns-in-Enumeration : goal.returns-in-Enumeration
returns-in-Enumeration c = λ n. none_made (function_of c.args.numbers.now) c.args.list.now (ap (λ (x : RawDeclaration). function_in (n, x)) c.in-Enumeration.is)

pub returns-in-Subset : goal.returns-in-Subset
returns-in-Subset c = λ n. none_made (function_of c.args.numbers.now) c.args.list.now (ap (λ (x : RawDeclaration). function_in (n, x)) c.in-Subset.is)

pub returns-in-Abstract : goal.returns-in-Abstract
returns-in-Abstract c = λ n. none_made (function_of c.args.numbers.now) c.args.list.now (ap (λ (x : RawDeclaration). function_in (n, x)) c.in-Abstract.is)
