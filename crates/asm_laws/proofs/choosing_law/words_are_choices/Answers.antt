use Rattle.asm_laws.proofs.ChoosingPaths.{paths_for}
use Rattle.asm_laws.proofs.choosing_law.words_are_choices.Goals as goal

pub returns-clause-paths : goal.returns-clause-paths
returns-clause-paths c = λ w r u words rest differ is. paths_for w r u words rest differ is
