use Rattle.std.proofs.Common.{List, ◌++◌, map, take, ap, ◌∙◌, append_assoc, flat_map}
use Rattle.asm_tree.specs.declared.unit.RawDefinition.{RawDefinition}
use Rattle.asm_faults.specs.At.{Name}
use Rattle.asm_faults.specs.Files.{DeclaredRule, rule_in}
use Rattle.asm_build.proofs.Growing.{append_none, took_all}
use Rattle.asm_build.proofs.Gathering.{mapped_flat}
use Rattle.asm_build.proofs.rule_table.unit_names.Goals as goal

pub raws-init : goal.raws-init
raws-init c n = append_none c.args.names.now

pub raws-preserved : goal.raws-preserved
raws-preserved c n =
    let text : DeclaredRule → Name = λ r. r.name.text in
    let of : RawDefinition → List DeclaredRule = λ d. rule_in (n, d) in
    c.in_ok-rule_name.ensures n
    ∙ ap (λ (names : List Name). names ++ map text (of c.raw-item.result)) (c.raws.invariant n)
    ∙ append_assoc c.args.names.now (map text (flat_map of (take c.raws.raw-index c.args.raws.now))) (map text (of c.raw-item.result))
    ∙ ap (λ (names : List Name). c.args.names.now ++ names) (mapped_flat text of c.args.raws.now c.raws.raw-index c.raw-item.result c.raws-test.true c.raw-item.is)

pub returns : goal.returns
returns c n = c.raws.invariant n ∙ ap (λ (ds : List RawDefinition). c.args.names.now ++ map (λ (r : DeclaredRule). r.name.text) (flat_map (λ (d : RawDefinition). rule_in (n, d)) ds)) (took_all c.args.raws.now c.raws.raw-index c.raws-test.false)
