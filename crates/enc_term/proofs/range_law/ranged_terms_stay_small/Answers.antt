use Rattle.asm_node.proofs.Formed.{definitions_ranged}
use Rattle.enc_term.proofs.Ranged as proved
use Rattle.enc_term.proofs.range_law.ranged_terms_stay_small.Goals as goal

pub returns : goal.returns
returns c = λ m well n e rs fits t is. proved.ranged_stays_small m well.few_domains (definitions_ranged m well) n e rs fits t is
