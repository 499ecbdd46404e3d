use Rattle.std.proofs.Common.{map, take, flat_map}
use Rattle.asm_tree.specs.declared.unit.RawUnit.{RawUnit}
use Rattle.asm_faults.specs.Files.{rule_in, all_of}
use Rattle.asm_faults.specs.Model.{macro_of}
use Rattle.asm_build.specs.Added.{AddsMacros}
use Rattle.asm_build.proofs.gather.all_macros.Given as goal

abbrev pub invariant-units : goal.invariant-units
invariant-units l = AddsMacros l.fn.maker l.maker (λ number. map (macro_of number l.fn.known l.units) (flat_map rule_in (all_of (λ (u : RawUnit). u.definitions) (take l.unit-index l.units)))) l.fn.rules l.rules
