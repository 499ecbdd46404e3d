use Rattle.std.proofs.Common.{◌≡◌, None, find, take}
use Rattle.asm_faults.specs.DomainFaults.{domain_definitions}
use Rattle.asm_declare.proofs.Seeking.{is_of}
use Rattle.asm_declare.proofs.numerals.definition.Given as goal

abbrev pub invariant-loop-loaded : goal.invariant-loop-loaded
invariant-loop-loaded l = find (is_of l.domain) (domain_definitions (take l.loaded-index l.units)) ≡ None
