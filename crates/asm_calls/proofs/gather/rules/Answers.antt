use Rattle.std.proofs.Common.{◌∙◌}
use Rattle.asm_calls.proofs.Gathering.{rules_named}
use Rattle.asm_calls.proofs.gather.rules.Goals as goal

pub returns : goal.returns
returns c = rules_named c.new-none.result _ c.args.units.now c.slice.result.now _ (c.slice.ensures ∙ c.in_ok-unnumbered.ensures) c.in_ok-names.ensures c.in_ok-callers.ensures
