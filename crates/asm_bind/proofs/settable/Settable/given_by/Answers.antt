use Rattle.std.proofs.Common.{rules, ◌≡◌, ℕ, Option, Some, None, slice_get, IfOk, subst}
use Rattle.asm_domain.specs.declared.value.Value.{Value}
use Rattle.asm_bind.proofs.Finding.{at_number}
use Rattle.asm_bind.proofs.settable.Settable.given_by.Goals as goal

pub returns-in-Some : goal.returns-in-Some
returns-in-Some c =
    let found : slice_get c.self.inside.signature.now.functions c.args.number ≡ Some c.in-Some.function.now = search rules in
    subst (λ (r : Option (ℕ × Value)). IfOk c.given_to.result (λ o. o ≡ r))
    (at_number c.self.inside.signature.now c.args.self.now c.args.raw.now c.args.number (Some c.in-Some.function.now) c.self.view_is found)
    c.given_to.ensures

pub returns-in-None : goal.returns-in-None
returns-in-None c =
    let found : slice_get c.self.inside.signature.now.functions c.args.number ≡ None = search rules in
    at_number c.self.inside.signature.now c.args.self.now c.args.raw.now c.args.number None c.self.view_is found
