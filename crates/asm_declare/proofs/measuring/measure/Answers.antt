use Rattle.std.proofs.Common.{ap, ◌∙◌}
use Rattle.asm_tree.specs.declared.unit.RawDeclaration.{RawDeclaration}
use Rattle.asm_faults.specs.Files.{domain_in}
use Rattle.asm_declare.specs.Measures.{capped}
use Rattle.asm_declare.proofs.Sizing.{no_domain, enumeration_measured, abstract_measured, part_measured}
use Rattle.asm_declare.proofs.measuring.measure.Goals as goal

pub returns-in_ok-sized-in-Enumeration : goal.returns-in_ok-sized-in-Enumeration
returns-in_ok-sized-in-Enumeration c =
    enumeration_measured c.args.units.now _ _ _ _ _ _ c.args.number c.args.declaration.now c.in-Enumeration.name c.in-Enumeration.elements c.capped-size.result c.in-Enumeration.is (c.capped-size.ensures ∙ ap capped c.len.ensures) (c.in_ok-sized-in-Enumeration).ensures.noted (c.in_ok-sized-in-Enumeration).ensures.names (c.in_ok-sized-in-Enumeration).ensures.measures

pub returns-in_ok-sized-in-Abstract : goal.returns-in_ok-sized-in-Abstract
returns-in_ok-sized-in-Abstract c =
    abstract_measured c.args.units.now _ _ _ _ _ _ c.args.number c.args.declaration.now c.in-Abstract.name c.constants-size.result c.in-Abstract.is c.constants-size.ensures (c.in_ok-sized-in-Abstract).ensures.noted (c.in_ok-sized-in-Abstract).ensures.names (c.in_ok-sized-in-Abstract).ensures.measures

pub returns-in_ok-part-in-Subset : goal.returns-in_ok-part-in-Subset
returns-in_ok-part-in-Subset c =
    part_measured c.args.units.now _ _ _ _ _ c.args.definitions.now.names c.args.definitions.now.sizes _ _ c.args.number c.args.declaration.now c.in-Subset.name c.in-Subset.base c.in-Subset.is c.requires (c.in_ok-note_base-in-Subset).ensures (c.in_ok-part-in-Subset).ensures.noted (c.in_ok-part-in-Subset).ensures.names (c.in_ok-part-in-Subset).ensures.measures

pub returns-in-Function : goal.returns-in-Function
returns-in-Function c = no_domain (ap (λ (x : RawDeclaration). domain_in (c.args.number, x)) c.in-Function.is)
