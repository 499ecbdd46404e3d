use Rattle.std.proofs.Common.{arith}
use Rattle.cnf_base.proofs.Told.{IsTold-grow}
use Rattle.cnf_base.proofs.trail.Trail.grow.Goals as goal

pub loop-self-preserved : goal.loop-self-preserved
loop-self-preserved c =
    (rw c.in_ok-push.ensures.items (IsTold-grow _ _ c.loop-self.invariant.0), c.loop-self.invariant.1, omega (arith, c.in_ok-push.ensures.len, c.loop-self.invariant.2), omega (arith, c.in_ok-push.ensures.len, c.loop-self.invariant.3))
