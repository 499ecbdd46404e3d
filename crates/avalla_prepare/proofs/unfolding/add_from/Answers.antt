use Rattle.avalla_prepare.proofs.Adding.{again_none, again_some}
use Rattle.avalla_prepare.proofs.unfolding.add_from.Goals as goal

pub returns-in_ok-push-in-Some : goal.returns-in_ok-push-in-Some
returns-in_ok-push-in-Some c = again_some c.args.order.now c.args.place c.push.new.self c.in-Some.command.now c.in_ok-command-in-Some.command c.in_ok-push-in-Some.ensures.ok c.in_ok-command-in-Some.ensures.cases c.in-Some.ensures.value

pub returns-in-None : goal.returns-in-None
returns-in-None c = again_none c.args.order.now c.args.place c.in-None.ensures.value
