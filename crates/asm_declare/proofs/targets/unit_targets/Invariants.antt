use Rattle.std.proofs.Common.{◌≡◌, take, flat_map}
use Rattle.asm_faults.specs.First.{noted}
use Rattle.asm_declare.specs.Measures.{definitions_in}
use Rattle.asm_declare.specs.Targets.{faults_of_definition}
use Rattle.asm_declare.proofs.targets.unit_targets.Given as goal

abbrev pub invariant-loop-item : goal.invariant-loop-item
invariant-loop-item l = l.first ≡ noted l.initial.first (flat_map (faults_of_definition l.measures.names l.measures.measures) (definitions_in l.number (take l.item-index l.items)))
