use Rattle.asm_declare.proofs.Targeting.{domains_noted}
use Rattle.asm_declare.proofs.passes.domains.Goals as goal

pub returns : goal.returns
returns c = domains_noted c.args.units.now c.slice-files.result.now c.in_ok-measures.measures.names c.in_ok-measures.measures.measures _ _ _ _ c.slice-files.ensures c.in_ok-measures.ensures.measured c.in_ok-definitions.ensures.noted c.in_ok-measures.ensures.noted c.in_ok-targets.ensures
