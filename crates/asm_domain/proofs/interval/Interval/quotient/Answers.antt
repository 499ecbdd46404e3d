use Rattle.asm_domain.proofs.Sizes.{ok_quotients}
use Rattle.asm_domain.proofs.interval.Interval.quotient.Goals as goal

pub returns-clause-holds_quotients : goal.returns-clause-holds_quotients
returns-clause-holds_quotients c =
    ok_quotients c.args.self c.args.other c.sizes.result c.sizes.ensures.spans
