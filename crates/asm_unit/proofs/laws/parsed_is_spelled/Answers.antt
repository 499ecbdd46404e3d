use Rattle.asm_unit.proofs.Verdicts.{parsed_unit, unit_parsed, parsed_refused, refused_parsed}
use Rattle.asm_unit.proofs.laws.parsed_is_spelled.Goals as goal

pub returns-clause-unit : goal.returns-clause-unit
returns-clause-unit c = λ text ts y. (λ e. parsed_unit text ts y e, λ s. unit_parsed text ts y s)

pub returns-clause-error : goal.returns-clause-error
returns-clause-error c = λ text ts e ne. (λ h. parsed_refused text ts e h, λ x. refused_parsed text ts e ne x)
