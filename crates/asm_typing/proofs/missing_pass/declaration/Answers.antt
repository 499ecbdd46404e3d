use Rattle.std.proofs.Common.{◌≡◌, ℕ, List, [], ◌∷◌, ap, sym, ◌∙◌}
use Rattle.asm_tree.specs.declared.unit.RawDeclaration.{RawDeclaration}
use Rattle.asm_faults.specs.First.{noted}
use Rattle.asm_sign.specs.declared.function.DeclaredDomain as sign
use Rattle.std.proofs.Common.{Bool as Truth, ◌&&◌, if◌then◌else◌}
use Rattle.std.specs.Prelude.{not}
use Rattle.asm_tree.specs.declared.term.RawName.{RawName}
use Rattle.asm_faults.specs.declared.fault.ModelFault.TheVariants.{NoDefinition}
use Rattle.asm_faults.specs.At.{Name, fault_at}
use Rattle.asm_faults.specs.Files.{DeclaredFunction}
use Rattle.asm_faults.specs.DomainFaults.{is_listed}
use Rattle.asm_typing.specs.BodyPieces.{needs_definition, undefined_in, undefined_at}
use Rattle.asm_typing.proofs.BodyParts.{one_part}
use Rattle.asm_typing.proofs.missing_pass.declaration.Goals as goal

pub returns-in_ok-note_if-in-Function : goal.returns-in_ok-note_if-in-Function
returns-in_ok-note_if-in-Function c =
    let domains : List sign.DeclaredDomain = c.args.known.now.domains in
    let defined : List Name = c.args.defined.now in
    let n : ℕ = c.args.unit in
    let name : RawName = c.in-Function.name in
    let f : DeclaredFunction = record { unit = n; kind = c.in-Function.kind; name = name; domains = c.in-Function.field-2; codomain = c.in-Function.codomain } in
    let wanting : c.is_wanting.result ≡ (needs_definition domains f.kind name f.codomain && not (is_listed defined name.text)) =
    c.is_wanting.ensures ∙ (λ j. c.is_needed-needed.ensures j && not (c.is_listed-listed.ensures j)) in
    c.in_ok-note_if-in-Function.ensures
    ∙ ap (λ (b : Truth). noted c.args.first.now (if b then fault_at NoDefinition n name ∷ [] else [])) wanting
    ∙ one_part (undefined_in domains defined) f c.args.first.now
    ∙ ap (λ (d : RawDeclaration). noted c.args.first.now (undefined_at domains defined (n, d))) (sym c.in-Function.is)

pub returns-in-Enumeration : goal.returns-in-Enumeration
returns-in-Enumeration c = ap (λ (d : RawDeclaration). noted c.args.first.now (undefined_at c.args.known.now.domains c.args.defined.now (c.args.unit, d))) (sym c.in-Enumeration.is)

pub returns-in-Subset : goal.returns-in-Subset
returns-in-Subset c = ap (λ (d : RawDeclaration). noted c.args.first.now (undefined_at c.args.known.now.domains c.args.defined.now (c.args.unit, d))) (sym c.in-Subset.is)

pub returns-in-Abstract : goal.returns-in-Abstract
returns-in-Abstract c = ap (λ (d : RawDeclaration). noted c.args.first.now (undefined_at c.args.known.now.domains c.args.defined.now (c.args.unit, d))) (sym c.in-Abstract.is)
