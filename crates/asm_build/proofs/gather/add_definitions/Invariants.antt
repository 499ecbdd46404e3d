use Rattle.std.proofs.Common.{ℕ, List, map, take, flat_map}
use Rattle.asm_tree.specs.declared.unit.RawDefinition.{RawDefinition}
use Rattle.asm_tree.specs.declared.unit.LoadedUnit.{LoadedUnit}
use Rattle.asm_faults.specs.Files.{definition_in}
use Rattle.asm_faults.specs.Model.{definition_of}
use Rattle.asm_build.specs.Added.{AddsDefinitions}
use Rattle.asm_build.proofs.gather.add_definitions.Given as goal

abbrev pub invariant-raws : goal.invariant-raws
invariant-raws l = (units : List LoadedUnit) (n : ℕ) → AddsDefinitions l.fn.maker l.maker (λ number. map (definition_of number l.fn.known units) (flat_map (λ (d : RawDefinition). definition_in (n, d)) (take l.raw-index l.raws))) l.fn.definitions l.definitions
