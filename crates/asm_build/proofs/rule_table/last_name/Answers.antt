use Rattle.std.proofs.Common.{◌-◌, List, ◌++◌, map, length, sym, ap, ◌∙◌}
use Rattle.asm_tree.specs.declared.unit.RawMain.{RawMain}
use Rattle.asm_faults.specs.At.{Name}
use Rattle.asm_faults.specs.Files.{Of, DeclaredRule, main_in}
use Rattle.asm_build.proofs.Growing.{append_none}
use Rattle.asm_build.proofs.Gathering.{mains_of, none_named_of, last_place, main_named, no_main_named}
use Rattle.asm_build.proofs.rule_table.last_name.Goals as goal

pub returns-then-is_empty : goal.returns-then-is_empty
returns-then-is_empty c =
    let joined : List (Of RawMain) → List Name = λ ms. c.args.names.now ++ map (λ (r : DeclaredRule). r.name.text) (map main_in ms) in
    append_none c.args.names.now ∙ ap joined (sym (none_named_of mains_of c.args.units.now (sym c.is_empty.ensures ∙ c.if-is_empty.true)))

pub returns-in_ok-add-in-Some : goal.returns-in_ok-add-in-Some
returns-in_ok-add-in-Some c =
    let joined : List (Of RawMain) → List Name = λ ms. c.args.names.now ++ map (λ (r : DeclaredRule). r.name.text) (map main_in ms) in
    c.in_ok-add-in-Some.ensures.ok ∙ ap joined (sym (main_named c.args.units.now (length c.args.units.now - 1) c.unit_at-unit.result.now c.in-Some.main (last_place (length c.args.units.now) (sym c.is_empty.ensures ∙ c.if-is_empty.false)) c.unit_at-unit.ensures (cc)))

pub returns-in-None : goal.returns-in-None
returns-in-None c =
    let joined : List (Of RawMain) → List Name = λ ms. c.args.names.now ++ map (λ (r : DeclaredRule). r.name.text) (map main_in ms) in
    append_none c.args.names.now ∙ ap joined (sym (no_main_named c.args.units.now (length c.args.units.now - 1) c.unit_at-unit.result.now (last_place (length c.args.units.now) (sym c.is_empty.ensures ∙ c.if-is_empty.false)) c.unit_at-unit.ensures (cc)))
