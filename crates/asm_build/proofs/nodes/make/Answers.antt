use Rattle.std.proofs.Common.{[], ◌∷◌, refl}
use Rattle.asm_build.proofs.Growing.{grown_terms}
use Rattle.asm_build.proofs.nodes.make.Goals as goal

pub returns-clause-grown : goal.returns-clause-grown
returns-clause-grown c = grown_terms c.args.maker.now _ (c.in_ok-term.field-0.value ∷ []) c.in_ok-term.ensures.terms c.term.ensures.rules refl
