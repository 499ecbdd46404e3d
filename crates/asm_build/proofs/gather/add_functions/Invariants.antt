use Rattle.std.proofs.Common.{ℕ, List, map, take}
use Rattle.asm_tree.specs.declared.unit.RawFunction.{RawFunction}
use Rattle.asm_tree.specs.declared.unit.LoadedUnit.{LoadedUnit}
use Rattle.asm_faults.specs.Model.{definition_of}
use Rattle.asm_build.specs.Added.{AddsDefinitions}
use Rattle.asm_build.proofs.gather.add_functions.Given as goal

abbrev pub invariant-raws : goal.invariant-raws
invariant-raws l = (units : List LoadedUnit) (n : ℕ) → AddsDefinitions l.fn.maker l.maker (λ number. map (λ (f : RawFunction). definition_of number l.fn.known units (n, f)) (take l.raw-index l.raws)) l.fn.definitions l.definitions
