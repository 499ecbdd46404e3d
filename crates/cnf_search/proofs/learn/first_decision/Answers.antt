use Rattle.std.proofs.Common.{◌≡◌, arith, rules, true}
use Rattle.std.specs.Prelude.{is_none}
use Rattle.cnf_search.proofs.Taught.{first_found, first_none}
use Rattle.cnf_search.proofs.learn.first_decision.Goals as goal

pub returns-then-is_none : goal.returns-then-is_none
returns-then-is_none c =
    let none : is_none c.reason_at.result ≡ true = search rules in
    first_found c.args.reasons.now c.loop-place.place c.reason_at.result c.loop-place.invariant (omega arith) c.reason_at.ensures none

pub returns : goal.returns
returns c = first_none c.args.reasons.now c.loop-place.place c.loop-place.invariant (omega arith)
