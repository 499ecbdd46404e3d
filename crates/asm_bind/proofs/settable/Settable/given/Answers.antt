use Rattle.std.proofs.Common.{◌≡◌, ◌∙◌, ℕ, map, Option, Some, None, IfOk, sym, ap, subst}
use Rattle.asm_domain.specs.declared.value.Value.{Value}
use Rattle.asm_sign.specs.declared.function.Function.{Function}
use Rattle.asm_sign.specs.Vocabulary.{Vocabulary}
use Rattle.asm_bind.proofs.Finding.{found_by}
use Rattle.asm_bind.proofs.settable.Settable.given.Goals as goal

pub returns-in-Some : goal.returns-in-Some
returns-in-Some c =
    subst (λ (r : Option (ℕ × Value)). IfOk c.given_by.result (λ o. o ≡ r))
    (found_by c.args.self.now c.args.raw.now c.self.inside.names (Some c.in-Some.number)
    (c.self.invariant ∙ ap (λ (v : Vocabulary). map (λ (f : Function). f.name) v.functions) c.self.view_is) (sym c.in-Some.is ∙ c.find.ensures))
    c.given_by.ensures

pub returns-in-None : goal.returns-in-None
returns-in-None c =
    found_by c.args.self.now c.args.raw.now c.self.inside.names None
    (c.self.invariant ∙ ap (λ (v : Vocabulary). map (λ (f : Function). f.name) v.functions) c.self.view_is) (sym c.in-None.is ∙ c.find.ensures)
