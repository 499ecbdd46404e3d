use Rattle.std.proofs.Common.{◌≡◌, map, take}
use Rattle.asm_tree.specs.declared.term.RawName.{RawName}
use Rattle.asm_declare.proofs.universe.texts.Given as goal

abbrev pub invariant-loop-element : goal.invariant-loop-element
invariant-loop-element l = l.names ≡ map (λ (e : RawName). e.text) (take l.element-index l.elements)
