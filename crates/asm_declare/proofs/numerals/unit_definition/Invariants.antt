use Rattle.std.proofs.Common.{◌≡◌, ℕ, None, find, take}
use Rattle.asm_declare.specs.Measures.{definitions_in}
use Rattle.asm_declare.proofs.Seeking.{is_of}
use Rattle.asm_declare.proofs.numerals.unit_definition.Given as goal

abbrev pub invariant-loop-definition : goal.invariant-loop-definition
invariant-loop-definition l = (n : ℕ) → find (is_of l.domain) (definitions_in n (take l.definition-index l.definitions)) ≡ None
