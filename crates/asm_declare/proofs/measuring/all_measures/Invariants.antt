use Rattle.std.proofs.Common.{take}
use Rattle.asm_faults.specs.Files.{domains}
use Rattle.asm_declare.specs.Measures.{AreMeasured}
use Rattle.asm_declare.proofs.measuring.all_measures.Given as goal

abbrev pub invariant-loop-number : goal.invariant-loop-number
invariant-loop-number l =
    AreMeasured l.units l.initial.first l.initial.measures.names l.initial.measures.measures (domains (take l.number l.units)) l.first l.measures.names l.measures.measures
