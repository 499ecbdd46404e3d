use Rattle.std.proofs.Common.{ap, ◌∙◌}
use Rattle.asm_faults.specs.First.{noted}
use Rattle.asm_faults.specs.Ranges.{Scope, term_faults}
use Rattle.asm_ranges.proofs.files.invariant.Goals as goal

pub returns : goal.returns
returns c = c.in_ok-term.ensures.faults ∙ ap (λ (z : Scope). noted c.args.first.now (term_faults c.args.known.now c.args.unit c.args.item.now.term z)) c.new-scope.ensures
