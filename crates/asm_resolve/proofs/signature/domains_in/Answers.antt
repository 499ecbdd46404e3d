use Rattle.std.proofs.Common.{sym, ◌∙◌}
use Rattle.asm_resolve.proofs.Passing.{names_none, domains_none}
use Rattle.asm_resolve.proofs.signature.domains_in.Goals as goal

pub domain_list-requires-clause-names : goal.domain_list-requires-clause-names
domain_list-requires-clause-names c = names_none c.args.units.now (sym c.in_ok-declarations.ensures ∙ c.in_ok-settle.ensures.ok)

pub domain_list-requires-clause-domains : goal.domain_list-requires-clause-domains
domain_list-requires-clause-domains c = domains_none c.args.units.now (sym c.in_ok-declarations.ensures ∙ c.in_ok-settle.ensures.ok)
