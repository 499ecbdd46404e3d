use Rattle.asm_node.proofs.Formed.{definitions_ranged}
use Rattle.enc_term.proofs.Ranged as proved
use Rattle.enc_term.proofs.range_law.terms_stay_in_range.Goals as goal

pub returns : goal.returns
returns c = λ m well n e rs fits t r is v has. proved.range_of_can m well.few_domains (definitions_ranged m well) n e rs fits t r is v has
