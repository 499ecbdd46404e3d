use Rattle.std.proofs.Common.{◌≡◌, ℕ, ◌++◌, map, take, flat_map}
use Rattle.asm_tree.specs.declared.unit.RawDefinition.{RawDefinition}
use Rattle.asm_faults.specs.Files.{DeclaredRule, rule_in}
use Rattle.asm_build.proofs.rule_table.unit_names.Given as goal

abbrev pub invariant-raws : goal.invariant-raws
invariant-raws l = (n : ℕ) → l.names ≡ l.fn.names ++ map (λ (r : DeclaredRule). r.name.text) (flat_map (λ (d : RawDefinition). rule_in (n, d)) (take l.raw-index l.raws))
