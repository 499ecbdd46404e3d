use Rattle.std.proofs.Common.{take}
use Rattle.asm_declare.specs.Measures.{domains_in, AreMeasured}
use Rattle.asm_declare.proofs.measuring.unit_measures.Given as goal

abbrev pub invariant-loop-declaration : goal.invariant-loop-declaration
invariant-loop-declaration l =
    AreMeasured l.units l.initial.first l.initial.measures.names l.initial.measures.measures (domains_in l.number (take l.declaration-index l.declarations)) l.first l.measures.names l.measures.measures
