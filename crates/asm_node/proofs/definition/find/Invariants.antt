use Rattle.std.proofs.Common.{◌≡◌, map, drop}
use Rattle.asm_node.specs.Machine.{definition_of}
use Rattle.asm_node.specs.Parts.{defined_by}
use Rattle.asm_node.proofs.definition.find.Given as goal

-- the definition is one of those that are left
abbrev pub invariant-loop-definition : goal.invariant-loop-definition
invariant-loop-definition l =
    definition_of (map defined_by l.definitions) l.function ≡ definition_of (map defined_by (drop l.definition-index l.definitions)) l.function
