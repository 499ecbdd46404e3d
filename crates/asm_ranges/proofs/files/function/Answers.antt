use Rattle.std.proofs.Common.{◌≡◌, [], ap, ◌∙◌}
use Rattle.asm_faults.specs.First.{noted}
use Rattle.asm_faults.specs.Ranges.{Scope, within, term_faults}
use Rattle.asm_ranges.proofs.files.function.Goals as goal

pub returns : goal.returns
returns c =
    let same : c.within.new.scope ≡ within c.args.known.now c.args.item.now.parameters [] = c.in_ok-within.ensures ∙ (λ i. within c.args.known.now (c.slice.ensures i) (c.new-scope.ensures i)) in
    c.in_ok-term.ensures.faults ∙ ap (λ (z : Scope). noted c.args.first.now (term_faults c.args.known.now c.args.unit c.args.item.now.term z)) same
