use Rattle.std.proofs.Common.{map, take, flat_map}
use Rattle.asm_tree.specs.declared.unit.RawUnit.{RawUnit}
use Rattle.asm_faults.specs.Files.{definition_in, all_of}
use Rattle.asm_faults.specs.Model.{definition_of}
use Rattle.asm_build.specs.Added.{AddsDefinitions}
use Rattle.asm_build.proofs.gather.all_definitions.Given as goal

abbrev pub invariant-units : goal.invariant-units
invariant-units l = AddsDefinitions l.fn.maker l.maker (λ number. map (definition_of number l.fn.known l.units) (flat_map definition_in (all_of (λ (u : RawUnit). u.definitions) (take l.unit-index l.units)))) l.fn.definitions l.definitions
