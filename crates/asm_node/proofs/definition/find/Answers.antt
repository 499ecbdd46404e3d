use Rattle.std.proofs.Common.{◌≡◌, ℕ, ◌<◌, List, map, length, drop, get_or, Some, drop-cons, eq-eqb, refl, sym, ◌∙◌}
use Rattle.asm_node.specs.declared.definition.Definition.{Definition}
use Rattle.asm_node.specs.Machine.{definition_of}
use Rattle.asm_node.specs.Parts.{defined_by}
use Rattle.asm_node.proofs.definition.find.Goals as goal

found : (ds : List Definition) (i : ℕ) (d : Definition) (f : ℕ) → i < length ds → d ≡ get_or ds i d → d.function ≡ f → definition_of (map defined_by (drop i ds)) f ≡ Some (defined_by d)
found ds i d f lt is same = rw (drop-cons ds i d, sym is, eq-eqb d.function f same) refl

pub returns-then-definition-function : goal.returns-then-definition-function
returns-then-definition-function c =
    sym (c.loop-definition.invariant ∙ found _ _ _ _ c.loop-definition-test.true c.definition-item.is c.if-definition-function.true)
