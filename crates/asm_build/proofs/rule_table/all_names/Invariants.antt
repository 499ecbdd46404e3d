use Rattle.std.proofs.Common.{◌≡◌, ◌++◌, map, take, flat_map}
use Rattle.asm_tree.specs.declared.unit.RawUnit.{RawUnit}
use Rattle.asm_faults.specs.Files.{DeclaredRule, rule_in, all_of}
use Rattle.asm_build.proofs.rule_table.all_names.Given as goal

abbrev pub invariant-units : goal.invariant-units
invariant-units l = l.names ≡ l.fn.names ++ map (λ (r : DeclaredRule). r.name.text) (flat_map rule_in (all_of (λ (u : RawUnit). u.definitions) (take l.unit-index l.units)))
