use Rattle.std.proofs.Common.{List, refl, ap, arith, flat_map}
use Rattle.asm_tree.specs.declared.unit.RawUnit.{RawUnit}
use Rattle.asm_faults.specs.Files.{Of}
use Rattle.asm_tree.specs.declared.unit.RawDeclaration.{RawDeclaration}
use Rattle.asm_faults.specs.declared.fault.Fault.{Fault}
use Rattle.asm_typing.specs.BodyPieces.{undefined_at}
use Rattle.asm_typing.proofs.Acting.{noted_files_more, noted_files_all}
use Rattle.asm_typing.proofs.missing_pass.undefined.Goals as goal

pub units-init : goal.units-init
units-init c = refl

pub units-preserved : goal.units-preserved
units-preserved c =
    let h : Of RawDeclaration → List Fault = undefined_at c.args.known.now.domains c.args.defined.now in
    let g : Of RawUnit → List Fault = λ p. flat_map (λ (d : RawDeclaration). h (p.0, d)) p.1.declarations in
    let here : List RawDeclaration → List Fault = λ ds. flat_map (λ (d : RawDeclaration). h (c.units.number, d)) ds in
    noted_files_more g c.args.units.now c.units.number c.index-units-number.result (here c.slice.result.now) c.args.first.now c.units.first c.unit_undefined.new.first (omega arith) c.index-units-number.is (ap here c.slice.ensures) c.units.invariant c.in_ok-unit_undefined.ensures

pub returns : goal.returns
returns c =
    let h : Of RawDeclaration → List Fault = undefined_at c.args.known.now.domains c.args.defined.now in
    let g : Of RawUnit → List Fault = λ p. flat_map (λ (d : RawDeclaration). h (p.0, d)) p.1.declarations in
    let here : List RawDeclaration → List Fault = λ ds. flat_map (λ (d : RawDeclaration). h (c.units.number, d)) ds in
    noted_files_all g c.args.units.now c.units.number c.args.first.now c.units.first (omega arith) c.units.invariant
