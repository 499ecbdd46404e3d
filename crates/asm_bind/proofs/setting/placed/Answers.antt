use Rattle.std.proofs.Common.{rules, ◌≡◌, ◌∙◌, ℕ, Option, Some, None, sym, ap}
use Rattle.std.specs.Option.{option_map}
use Rattle.asm_domain.specs.declared.value.Value.{Value}
use Rattle.asm_node.specs.Machine.{slot_at}
use Rattle.asm_node.proofs.Slots.{slot_is}
use Rattle.asm_bind.specs.Given.{and_then}
use Rattle.asm_bind.proofs.setting.placed.Goals as goal

at_slot : (o : Option Value) (x : Value) (slots found : Option ℕ) → o ≡ Some x → slots ≡ found → option_map {T = ℕ} {U = ℕ × Value} (λ slot. (slot, x)) found ≡ and_then o (λ x. option_map {T = ℕ} {U = ℕ × Value} (λ slot. (slot, x)) slots)
at_slot o x slots found is same = ap (option_map {T = ℕ} {U = ℕ × Value} (λ slot. (slot, x))) (sym same) ∙ sym (ap (λ (p : Option Value). and_then p (λ x. option_map {T = ℕ} {U = ℕ × Value} (λ slot. (slot, x)) slots)) is)

pub returns-in-Some : goal.returns-in-Some
returns-in-Some c =
    at_slot c.args.value c.in_ok-value.value (slot_at c.args.signature.now c.args.number c.args.arguments.now) (Some c.in-Some.slot) (search rules)
    (slot_is c.args.signature.now c.args.number c.args.arguments.now c.slot_of.result c.slot_of.ensures.rank ∙ c.in-Some.is)

pub returns-in-None : goal.returns-in-None
returns-in-None c =
    at_slot c.args.value c.in_ok-value.value (slot_at c.args.signature.now c.args.number c.args.arguments.now) None (search rules)
    (slot_is c.args.signature.now c.args.number c.args.arguments.now c.slot_of.result c.slot_of.ensures.rank ∙ c.in-None.is)
