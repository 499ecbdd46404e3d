use Rattle.asm_domain.specs.Universe.{elements}
use Rattle.asm_node.specs.Values.{same}
use Rattle.ref_link.proofs.Alike.{stops, goes_on}
use Rattle.ref_link.proofs.domains.same_values.Goals as goal

pub returns-then-not-same : goal.returns-then-not-same
returns-then-not-same c = stops same (elements c.args.first.now) (elements c.args.second.now) c.loop-rank.rank c.element.result c.element-in-loop-rank.result c.element.ensures c.element-in-loop-rank.ensures c.loop-rank.invariant c.same.result c.same.ensures c.if-not-same.true

pub loop-rank-preserved : goal.loop-rank-preserved
loop-rank-preserved c = goes_on same (elements c.args.first.now) (elements c.args.second.now) c.loop-rank.rank c.element.result c.element-in-loop-rank.result c.element.ensures c.element-in-loop-rank.ensures c.loop-rank.invariant c.same.result c.same.ensures c.if-not-same.false
