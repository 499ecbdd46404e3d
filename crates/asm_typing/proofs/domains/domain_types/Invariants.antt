use Rattle.std.proofs.Common.{◌≡◌, take}
use Rattle.std.specs.Prelude.{map}
use Rattle.asm_node.specs.Types.{domain_type}
use Rattle.asm_typing.proofs.domains.domain_types.Given as goal

abbrev pub invariant-domains : goal.invariant-domains
invariant-domains l = l.list ≡ map (domain_type l.known.domains) (take l.domain-index l.domains)
