use Rattle.std.proofs.Common.{ap, ◌∙◌}
use Rattle.asm_sign.specs.Kind.{is_dynamic}
use Rattle.asm_tree.specs.declared.unit.RawDeclaration.{RawDeclaration}
use Rattle.asm_faults.specs.Files.{function_in}
use Rattle.asm_declare.proofs.Locating.{no_function, function_counted}
use Rattle.asm_declare.proofs.locations.declared_locations.Goals as goal

pub returns-in_ok-note_many-in-Function : goal.returns-in_ok-note_many-in-Function
returns-in_ok-note_many-in-Function c =
    function_counted c.args.numbers.now _ _ c.args.before c.locations_of-count.result c.together-after.result c.args.number c.args.declaration.now c.in-Function.kind c.in-Function.name c.in-Function.arguments c.slice.result.now c.in-Function.field-3 _ c.is_dynamic-dynamic.result c.in-Function.is c.slice.ensures
    (c.in_ok-fine-in-Function).ensures (c.is_dynamic-dynamic.ensures ∙ ap is_dynamic c.kind_of.ensures) c.locations_of-count.ensures c.together-after.ensures (c.in_ok-note_many-in-Function).ensures

pub returns-in-Enumeration : goal.returns-in-Enumeration
returns-in-Enumeration c = no_function c.requires (ap (λ (x : RawDeclaration). function_in (c.args.number, x)) c.in-Enumeration.is)

pub returns-in-Subset : goal.returns-in-Subset
returns-in-Subset c = no_function c.requires (ap (λ (x : RawDeclaration). function_in (c.args.number, x)) c.in-Subset.is)

pub returns-in-Abstract : goal.returns-in-Abstract
returns-in-Abstract c = no_function c.requires (ap (λ (x : RawDeclaration). function_in (c.args.number, x)) c.in-Abstract.is)
