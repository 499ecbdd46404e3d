use Rattle.std.proofs.Common.{◌≡◌, ℕ, List, Option, None, Some, refl, sym, ap, ◌∙◌}
use Rattle.std.specs.List.{flat_map}
use Rattle.std.specs.Option.{unwrap_or, option_copied}
use Rattle.asm_domain.specs.declared.value.Value.{Value}
use Rattle.asm_domain.specs.declared.value.Value.TheVariants.{Undef}
use Rattle.asm_sign.specs.Vocabulary.{Vocabulary}
use Rattle.name_table.specs.Numbered.{number_of}
use Rattle.asm_faults.specs.At.{Name}
use Rattle.asm_faults.specs.Known.{AreTables, element_values}
use Rattle.asm_faults.specs.Terms.{element_in}
use Rattle.asm_faults.proofs.Finding.{element_found, at}
use Rattle.asm_faults.proofs.known.Known.element.Goals as goal

-- the element that is found at a place of the tables
element_at : (v w : Vocabulary) (ds fs es : List Name) (vs : List Value) (x : Name) (o : Option ℕ) (value : Value)
    → AreTables v ds fs es vs → v ≡ w → o ≡ number_of es x → at vs o ≡ value → value ≡ element_in w.domains x
element_at v w ds fs es vs x o value are same found value_is =
    sym value_is ∙ ap (λ values. at values o) are.values_are ∙ ap (at (flat_map element_values v.domains)) (found ∙ ap (λ names. number_of names x) are.elements_are)
    ∙ sym (element_found v.domains x) ∙ ap (λ (u : Vocabulary). element_in u.domains x) same

pub returns-in-Some-item : goal.returns-in-Some-item
returns-in-Some-item c =
    element_at _ _ _ _ _ _ c.args.name.now (Some c.in-Some.place) c.in-Some-item.value.now c.self.invariant c.self.view_is (sym c.in-Some.is ∙ c.find.ensures)
    (ap (λ o. unwrap_or o Undef) (sym c.item.ensures.value ∙ ap option_copied c.in-Some-item.is))

pub returns-in-None-item : goal.returns-in-None-item
returns-in-None-item c =
    element_at _ _ _ _ _ _ c.args.name.now (Some c.in-Some.place) Undef c.self.invariant c.self.view_is (sym c.in-Some.is ∙ c.find.ensures)
    (ap (λ o. unwrap_or o Undef) (sym c.item.ensures.value ∙ ap option_copied c.in-None-item.is))

pub returns-in-None : goal.returns-in-None
returns-in-None c = element_at _ _ _ _ _ _ c.args.name.now None Undef c.self.invariant c.self.view_is (sym c.in-None.is ∙ c.find.ensures) refl
