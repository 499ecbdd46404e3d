use Rattle.std.proofs.Common.{Some, None, sym, ap, ◌∙◌}
use Rattle.std.specs.Option.{option_copied}
use Rattle.asm_sign.specs.Vocabulary.{Vocabulary}
use Rattle.asm_faults.specs.Ranges.{domain_spread}
use Rattle.asm_ranges.proofs.Lookups.{spread_at}
use Rattle.asm_ranges.proofs.intervals.Intervals.domain.Goals as goal

pub returns-in-Some : goal.returns-in-Some
returns-in-Some c =
    spread_at c.self.inside.known.domains c.self.inside.spreads c.args.number (Some c.in-Some.spread.now) c.self.invariant
    (sym c.item.ensures.value ∙ ap option_copied c.in-Some.is) c.if-number-eq4294967295.false
    ∙ ap (λ (v : Vocabulary). domain_spread v.domains c.args.number) c.self.view_is

pub returns-in-None : goal.returns-in-None
returns-in-None c =
    spread_at c.self.inside.known.domains c.self.inside.spreads c.args.number None c.self.invariant
    (sym c.item.ensures.value ∙ ap option_copied c.in-None.is) c.if-number-eq4294967295.false
    ∙ ap (λ (v : Vocabulary). domain_spread v.domains c.args.number) c.self.view_is
