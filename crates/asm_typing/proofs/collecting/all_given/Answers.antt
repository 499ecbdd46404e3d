use Rattle.std.proofs.Common.{List, ap, arith, flat_map}
use Rattle.asm_tree.specs.declared.unit.RawUnit.{RawUnit}
use Rattle.asm_faults.specs.Files.{Of}
use Rattle.asm_tree.specs.declared.unit.RawDefinition.{RawDefinition}
use Rattle.asm_tree.specs.declared.term.RawName.{RawName}
use Rattle.asm_typing.specs.BodyPieces.{Met, met_now, given_name}
use Rattle.asm_typing.proofs.Acting.{met_none, met_files_more, met_files_all}
use Rattle.asm_typing.proofs.collecting.all_given.Goals as goal

pub units-init : goal.units-init
units-init c = met_none (met_now c.args.first.now c.args.seen.now)

pub units-preserved : goal.units-preserved
units-preserved c =
    let g : Of RawUnit → List (Of RawName) = λ p. flat_map (λ (d : RawDefinition). given_name (p.0, d)) p.1.definitions in
    let here : List RawDefinition → List (Of RawName) = flat_map (λ (d : RawDefinition). given_name (c.units.number, d)) in
    let start : Met = met_now c.args.first.now c.args.seen.now in
    let now : Met = met_now c.units.first c.units.seen in
    let next : Met = met_now c.unit_given.new.first c.unit_given.new.seen in
    met_files_more g c.args.units.now c.units.number c.index-units-number.result (here c.slice.result.now) start now next (omega arith) c.index-units-number.is (ap here c.slice.ensures) c.units.invariant c.in_ok-unit_given.ensures

pub returns : goal.returns
returns c =
    let g : Of RawUnit → List (Of RawName) = λ p. flat_map (λ (d : RawDefinition). given_name (p.0, d)) p.1.definitions in
    let here : List RawDefinition → List (Of RawName) = flat_map (λ (d : RawDefinition). given_name (c.units.number, d)) in
    let start : Met = met_now c.args.first.now c.args.seen.now in
    let now : Met = met_now c.units.first c.units.seen in
    met_files_all g c.args.units.now c.units.number start now (omega arith) c.units.invariant
