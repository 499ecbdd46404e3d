use Rattle.std.proofs.Common.{◌+◌, ◌≤◌, length, drop, ap, sym, ◌∙◌, arith}
use Rattle.asm_domain.specs.Universe.{elements}
use Rattle.asm_faults.specs.Ranges.{Spread, either}
use Rattle.asm_ranges.specs.Elements.{with_elements}
use Rattle.asm_ranges.specs.Spreads.{bounds_of}
use Rattle.asm_ranges.proofs.Elements.{next_element, all_elements}
use Rattle.asm_ranges.proofs.Ends.{drop_end}
use Rattle.asm_ranges.proofs.domain.of_domain.Goals as goal

pub ranks-preserved : goal.ranks-preserved
ranks-preserved c =
    ap (λ (r : Spread). with_elements r (drop (c.ranks.rank + 1) (elements c.args.domain.now))) (c.either-spread.ensures ∙ ap (either (bounds_of c.ranks.spread)) c.of_element.ensures)
    ∙ sym (next_element (elements c.args.domain.now) c.ranks.rank c.element.result (bounds_of c.ranks.spread) c.element.ensures)
    ∙ c.ranks.invariant

pub returns : goal.returns
returns c =
    let h : length (elements c.args.domain.now) ≤ c.ranks.rank = omega arith in
    ap (with_elements (bounds_of c.ranks.spread)) (sym (drop_end (elements c.args.domain.now) c.ranks.rank h)) ∙ c.ranks.invariant ∙ all_elements c.args.domain.now
