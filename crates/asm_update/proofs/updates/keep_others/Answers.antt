use Rattle.std.proofs.Common.{not, rules}
use Rattle.std.proofs.lemmas.Fn.{filter_same}
use Rattle.asm_node.specs.UpdateSet.{touches}
use Rattle.asm_update.proofs.updates.keep_others.Goals as goal

pub returns-clause-kept : goal.returns-clause-kept
returns-clause-kept c = filter_same _ (λ p. not (touches c.args.later.now p.0)) _ (λ x b q k. search rules) _ _ c.retain.ensures.filtered
