use Rattle.asm_calls.proofs.Placing.{put_place, put_short}
use Rattle.asm_calls.proofs.places.put.Goals as goal

pub returns-clause-places : goal.returns-clause-places
returns-clause-places c = put_place _ _ c.args.number c.args.place c.in_ok-grow.ensures.enough c.in_ok-grow.ensures.places

pub returns-clause-short : goal.returns-clause-short
returns-clause-short c = put_short _ _ c.args.number c.args.place c.in_ok-grow.ensures.short
