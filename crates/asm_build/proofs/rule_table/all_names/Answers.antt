use Rattle.std.proofs.Common.{List, ◌++◌, map, take, ap, ◌∙◌, append_assoc, flat_map}
use Rattle.asm_tree.specs.declared.unit.RawDefinition.{RawDefinition}
use Rattle.asm_tree.specs.declared.unit.RawUnit.{RawUnit}
use Rattle.asm_tree.specs.declared.unit.LoadedUnit.{LoadedUnit}
use Rattle.asm_faults.specs.At.{Name}
use Rattle.asm_faults.specs.Files.{DeclaredRule, rule_in, all_of}
use Rattle.asm_build.proofs.Growing.{append_none, took_all}
use Rattle.asm_build.proofs.Gathering.{mapped_units}
use Rattle.asm_build.proofs.rule_table.all_names.Goals as goal

pub units-init : goal.units-init
units-init c = append_none c.args.names.now

pub units-preserved : goal.units-preserved
units-preserved c =
    let text : DeclaredRule → Name = λ r. r.name.text in
    let definitions : RawUnit → List RawDefinition = λ u. u.definitions in
    let more : List Name = map text (flat_map (λ (d : RawDefinition). rule_in (c.units.unit-index, d)) c.slice.result.now) in
    c.in_ok-unit_names.ensures c.units.unit-index
    ∙ ap (λ (names : List Name). names ++ more) c.units.invariant
    ∙ append_assoc c.args.names.now (map text (flat_map rule_in (all_of definitions (take c.units.unit-index c.args.units.now)))) more
    ∙ ap (λ (names : List Name). c.args.names.now ++ names) (mapped_units text rule_in definitions c.args.units.now c.units.unit-index c.unit-item.result c.slice.result.now c.units-test.true c.unit-item.is c.slice.ensures)

pub returns : goal.returns
returns c = c.units.invariant ∙ ap (λ (us : List LoadedUnit). c.args.names.now ++ map (λ (r : DeclaredRule). r.name.text) (flat_map rule_in (all_of (λ (u : RawUnit). u.definitions) us))) (took_all c.args.units.now c.units.unit-index c.units-test.false)
