use Rattle.std.proofs.Common.{◌≡◌, take, flat_map}
use Rattle.asm_faults.specs.First.{noted}
use Rattle.asm_faults.specs.DomainFaults.{domain_definitions}
use Rattle.asm_declare.specs.Targets.{faults_of_definition}
use Rattle.asm_declare.proofs.targets.targets.Given as goal

abbrev pub invariant-loop-number : goal.invariant-loop-number
invariant-loop-number l = l.first ≡ noted l.initial.first (flat_map (faults_of_definition l.measures.names l.measures.measures) (domain_definitions (take l.number l.units)))
