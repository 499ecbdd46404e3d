use Rattle.std.proofs.Common.{sym, ◌∙◌, false}
use Rattle.cnf_search.proofs.Lasts.{ends_is}
use Rattle.cnf_search.proofs.level.is_refuted.Goals as goal

pub returns-in-Some : goal.returns-in-Some
returns-in-Some c = c.is_refuted_at.ensures ∙ sym (ends_is false c.args.levels.now c.args.depth c.in-Some.level.now c.in-Some.ensures.value)
