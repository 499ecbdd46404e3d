use Rattle.std.proofs.Common.{Option, sym, ap, ◌∙◌}
use Rattle.asm_faults.specs.declared.fault.Fault.{Fault}
use Rattle.asm_faults.specs.First.{noted}
use Rattle.asm_faults.specs.Ranges.{Scope, Measured, measured, each}
use Rattle.asm_faults.proofs.Noting.{noted_append}
use Rattle.asm_ranges.specs.Pieces.{terms_measured}
use Rattle.asm_ranges.proofs.rule.update.Goals as goal

pub returns-clause-faults : goal.returns-clause-faults
returns-clause-faults c =
    let s : Scope = c.args.scope.now in
    let m : Measured = measured c.args.known.now c.args.unit c.args.value.now in
    c.in_ok-term.ensures.faults ∙ ap (λ (z : Scope). noted c.terms.new.first (m.faults z)) c.in_ok-terms.ensures.scope
    ∙ ap (λ (f : Option Fault). noted f (m.faults s)) c.in_ok-terms.ensures.faults
    ∙ sym (noted_append c.args.first.now (each s (terms_measured c.args.known.now c.args.unit c.args.items.now)) (m.faults s))
