use Rattle.asm_domain.proofs.Sizes.{ok_rests}
use Rattle.asm_domain.proofs.interval.Interval.rest.Goals as goal

pub returns-clause-holds_rests : goal.returns-clause-holds_rests
returns-clause-holds_rests c =
    ok_rests c.args.self c.args.other c.sizes.result c.sizes.ensures.spans
