use Rattle.std.proofs.Common.{List, ◌++◌, map, sym, ap, ◌∙◌, flat_map}
use Rattle.std.proofs.lemmas.List.{map-append}
use Rattle.asm_faults.specs.Files.{DeclaredRule, rule_in, main_in, all_of, named_of}
use Rattle.asm_faults.specs.At.{Name}
use Rattle.asm_tree.specs.declared.unit.RawUnit.{RawUnit}
use Rattle.asm_build.proofs.Gathering.{mains_of}
use Rattle.asm_build.proofs.rule_table.table_of.Goals as goal

pub returns : goal.returns
returns c =
    let text : DeclaredRule → Name = λ r. r.name.text in
    c.in_ok-last_name.ensures
    ∙ ap (λ (names : List Name). names ++ map text (map main_in (named_of mains_of c.args.units.now))) (c.in_ok-all_names.ensures ∙ ap (λ (names : List Name). names ++ map text (flat_map rule_in (all_of (λ (u : RawUnit). u.definitions) c.args.units.now))) c.new-names.ensures)
    ∙ sym (map-append text (flat_map rule_in (all_of (λ (u : RawUnit). u.definitions) c.args.units.now)) (map main_in (named_of mains_of c.args.units.now)))
