use Rattle.std.proofs.Common.{◌≡◌, ℕ, List, map, take, flat_map}
use Rattle.asm_tree.specs.declared.unit.RawDefinition.{RawDefinition}
use Rattle.asm_tree.specs.declared.unit.LoadedUnit.{LoadedUnit}
use Rattle.asm_faults.specs.Files.{rule_in}
use Rattle.asm_faults.specs.Model.{macro_of}
use Rattle.asm_build.specs.MadeRules.{rule_names}
use Rattle.asm_build.specs.Added.{AddsMacros, file_at}
use Rattle.asm_build.proofs.gather.add_macros.Given as goal

abbrev pub invariant-raws : goal.invariant-raws
invariant-raws l = (units : List LoadedUnit) (n : ℕ) → l.fn.names ≡ rule_names units → l.fn.file ≡ file_at units n → AddsMacros l.fn.maker l.maker (λ number. map (macro_of number l.fn.known units) (flat_map (λ (d : RawDefinition). rule_in (n, d)) (take l.raw-index l.raws))) l.fn.rules l.rules
