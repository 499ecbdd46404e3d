use Rattle.std.proofs.Common.{◌≡◌, take, map}
use Rattle.asm_node.specs.declared.term.Binder.{Binder}
use Rattle.asm_node.specs.Types.{domain_type}
use Rattle.asm_script.proofs.tables.types_of.Given as goal

abbrev pub invariant-parameters : goal.invariant-parameters
invariant-parameters l = l.types ≡ map (λ (b : Binder). domain_type l.known.domains b.domain) (take l.parameter-index l.parameters)
