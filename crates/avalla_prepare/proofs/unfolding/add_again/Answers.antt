use Rattle.avalla_command.specs.Acts.{acts_of}
use Rattle.avalla_prepare.proofs.Adding.{again_next}
use Rattle.avalla_prepare.proofs.unfolding.add_again.Goals as goal

pub places-preserved : goal.places-preserved
places-preserved c = again_next (acts_of c.args.order.now) (acts_of c.places.order) (acts_of c.add_from.new.order) c.args.from c.args.to c.places.place c.places.auto.place c.places-test.true c.places.invariant c.in_ok-add_from.ensures
