use Rattle.std.proofs.Common.{sym}
use Rattle.cnf_search.proofs.Lasts.{last_is}
use Rattle.cnf_search.proofs.level.last_depth.Goals as goal

pub returns-in-Some : goal.returns-in-Some
returns-in-Some c = sym (last_is 0 c.args.levels.now c.in-Some.level.now c.in-Some.ensures.value)
