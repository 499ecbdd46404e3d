use Rattle.std.proofs.Common.{◌≡◌, ◌++◌, take}
use Rattle.asm_unit.specs.Path.{texts}
use Rattle.asm_unit.proofs.import.append.Given as goal

-- the names so far stand behind the parts
abbrev pub invariant-names : goal.invariant-names
invariant-names l = texts l.parts.items ≡ texts l.initial.parts.items ++ take l.name-index l.names
