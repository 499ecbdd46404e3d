use Rattle.asm_ranges.proofs.Bounds.{of_sum, of_difference, of_product, of_least, of_greatest}
use Rattle.asm_ranges.proofs.spread.of_intervals.Goals as goal

pub returns-in-Plus : goal.returns-in-Plus
returns-in-Plus c = rw c.in-Plus.is (of_sum c.args.left c.args.right c.sum.result c.sum.ensures.spans c.sum.ensures.refused)

pub returns-in-Minus : goal.returns-in-Minus
returns-in-Minus c = rw c.in-Minus.is (of_difference c.args.left c.args.right c.difference.result c.difference.ensures.spans c.difference.ensures.refused)

pub returns-in-Times : goal.returns-in-Times
returns-in-Times c = rw c.in-Times.is (of_product c.args.left c.args.right c.product.result c.product.ensures.spans c.product.ensures.refused)

pub returns-in-Min : goal.returns-in-Min
returns-in-Min c = rw c.in-Min.is (of_least c.args.left c.args.right c.least.result c.least.ensures.spans c.least.ensures.refused)

pub returns-in-Max : goal.returns-in-Max
returns-in-Max c = rw c.in-Max.is (of_greatest c.args.left c.args.right c.greatest.result c.greatest.ensures.spans c.greatest.ensures.refused)
