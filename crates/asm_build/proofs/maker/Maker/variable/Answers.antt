use Rattle.std.proofs.Common.{◌≡◌, Some, [], ◌∷◌, ◌++◌, refl, sym, ◌∙◌, ap}
use Rattle.name_table.specs.Numbered.{number_of}
use Rattle.asm_build.proofs.Growing.{same_maker, grown_names, number_added}
use Rattle.asm_build.proofs.maker.Maker.variable.Goals as goal

pub returns-in-Some-clause-grown : goal.returns-in-Some-clause-grown
returns-in-Some-clause-grown c = same_maker c.args.self.now

pub returns-in_ok-add-in-None-clause-number : goal.returns-in_ok-add-in-None-clause-number
returns-in_ok-add-in-None-clause-number c =
    let added : number_of (c.args.self.now.variables ++ c.args.name.now ∷ []) c.args.name.now ≡ Some _ = number_added c.args.self.now.variables c.args.name.now (sym c.find.ensures ∙ c.in-None.is) in
    ap (λ names. number_of names c.args.name.now) c.in_ok-add-in-None.ensures.ok ∙ added ∙ ap Some (sym c.len-number.ensures.value)

pub returns-in_ok-add-in-None-clause-grown : goal.returns-in_ok-add-in-None-clause-grown
returns-in_ok-add-in-None-clause-grown c = grown_names c.args.self.now _ (c.args.name.now ∷ []) refl c.in_ok-add-in-None.ensures.ok
