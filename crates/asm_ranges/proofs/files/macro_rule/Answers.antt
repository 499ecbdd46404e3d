use Rattle.std.proofs.Common.{◌≡◌, [], ap, ◌∙◌}
use Rattle.asm_faults.specs.First.{noted}
use Rattle.asm_faults.specs.Ranges.{Scope, within, rule_faults}
use Rattle.asm_ranges.proofs.files.macro_rule.Goals as goal

pub returns : goal.returns
returns c =
    let same : c.within.new.scope ≡ within c.args.known.now c.args.parameters.now [] = c.in_ok-within.ensures ∙ ap (within c.args.known.now c.args.parameters.now) c.new-scope.ensures in
    c.in_ok-rule.ensures.faults ∙ ap (λ (z : Scope). noted c.args.first.now (rule_faults c.args.known.now c.args.unit c.args.body.now z)) same
