use Rattle.asm_domain.proofs.Elements.{truths_no_rank}
use Rattle.asm_domain.proofs.domain.rank_of_truth.Goals as goal

pub returns-in_default : goal.returns-in_default
returns-in_default c = truths_no_rank c.args.value.now c.in_default.not-Bool
