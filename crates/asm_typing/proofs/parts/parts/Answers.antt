use Rattle.std.proofs.Common.{List, refl, ap, arith, flat_map}
use Rattle.asm_tree.specs.declared.unit.RawDefinition.{RawDefinition}
use Rattle.asm_tree.specs.declared.unit.RawUnit.{RawUnit}
use Rattle.asm_faults.specs.declared.fault.Fault.{Fault}
use Rattle.asm_faults.specs.Files.{Of}
use Rattle.asm_typing.specs.BodyPieces.{part_faults}
use Rattle.asm_typing.proofs.Acting.{noted_files_more, noted_files_all}
use Rattle.asm_typing.proofs.parts.parts.Goals as goal

pub units-init : goal.units-init
units-init c = refl

pub units-preserved : goal.units-preserved
units-preserved c =
    let h : Of RawDefinition → List Fault = part_faults c.args.part c.args.known.now c.args.heads.now c.args.names.now in
    let g : Of RawUnit → List Fault = λ p. flat_map (λ (d : RawDefinition). h (p.0, d)) p.1.definitions in
    let here : List RawDefinition → List Fault = λ ds. flat_map (λ (d : RawDefinition). h (c.units.number, d)) ds in
    noted_files_more g c.args.units.now c.units.number c.index-units-number.result (here c.slice.result.now) c.args.first.now c.units.first c.unit_parts.new.first (omega arith) c.index-units-number.is (ap here c.slice.ensures) c.units.invariant c.in_ok-unit_parts.ensures

pub returns : goal.returns
returns c =
    let h : Of RawDefinition → List Fault = part_faults c.args.part c.args.known.now c.args.heads.now c.args.names.now in
    let g : Of RawUnit → List Fault = λ p. flat_map (λ (d : RawDefinition). h (p.0, d)) p.1.definitions in
    let here : List RawDefinition → List Fault = λ ds. flat_map (λ (d : RawDefinition). h (c.units.number, d)) ds in
    noted_files_all g c.args.units.now c.units.number c.args.first.now c.units.first (omega arith) c.units.invariant
