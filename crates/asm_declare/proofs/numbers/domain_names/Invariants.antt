use Rattle.std.proofs.Common.{◌≡◌, map, take}
use Rattle.asm_faults.specs.Known.{domain_text}
use Rattle.asm_declare.proofs.numbers.domain_names.Given as goal

abbrev pub invariant-loop-domain : goal.invariant-loop-domain
invariant-loop-domain l = l.table ≡ map domain_text (take l.domain-index l.domains)
