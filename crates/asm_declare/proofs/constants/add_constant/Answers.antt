use Rattle.std.proofs.Common.{ap, filter, ◌∙◌}
use Rattle.asm_tree.specs.declared.unit.RawDeclaration.{RawDeclaration}
use Rattle.asm_faults.specs.Files.{function_in}
use Rattle.asm_faults.specs.DomainFaults.{is_constant_of}
use Rattle.asm_declare.proofs.Seeking.{none_kept, not_kept, constant_kept}
use Rattle.asm_declare.proofs.constants.add_constant.Goals as goal

pub returns-then-not-is_constant : goal.returns-then-not-is_constant
returns-then-not-is_constant c = λ n. not_kept c.args.domain.now c.args.names.now (function_in (n, c.args.declaration.now)) c.is_constant.result (c.is_constant.ensures n) c.if-not-is_constant.true

pub returns-in_ok-push-in-Function : goal.returns-in_ok-push-in-Function
returns-in_ok-push-in-Function c = λ n.
    constant_kept c.args.domain.now c.args.names.now c.push.new.self n c.args.declaration.now c.in-Function.field-0 c.in-Function.name c.in-Function.field-2 c.in-Function.field-3 c.in_ok-name-in-Function.name c.is_constant.result c.in-Function.is (c.is_constant.ensures n) c.if-not-is_constant.false ((c.in_ok-name-in-Function).ensures ∙ c.text.ensures) (c.in_ok-push-in-Function).ensures.ok

pub returns-in-Enumeration : goal.returns-in-Enumeration
returns-in-Enumeration c = λ n. none_kept c.args.domain.now c.args.names.now (function_in (n, c.args.declaration.now)) (ap (λ (x : RawDeclaration). filter (is_constant_of c.args.domain.now) (function_in (n, x))) c.in-Enumeration.is)

pub returns-in-Subset : goal.returns-in-Subset
returns-in-Subset c = λ n. none_kept c.args.domain.now c.args.names.now (function_in (n, c.args.declaration.now)) (ap (λ (x : RawDeclaration). filter (is_constant_of c.args.domain.now) (function_in (n, x))) c.in-Subset.is)

pub returns-in-Abstract : goal.returns-in-Abstract
returns-in-Abstract c = λ n. none_kept c.args.domain.now c.args.names.now (function_in (n, c.args.declaration.now)) (ap (λ (x : RawDeclaration). filter (is_constant_of c.args.domain.now) (function_in (n, x))) c.in-Abstract.is)
