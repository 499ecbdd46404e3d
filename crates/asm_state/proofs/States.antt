-- A put keeps a state.
use Rattle.std.proofs.Common.{◌≡◌, ℕ, cond, Some, is_some, ⊎_elim, refl, sym, ap, ◌∙◌, subst}
use Rattle.std.specs.Option.{IsSome}
use Rattle.std.specs.Cmp.{nat_cmp_total, unsigned_tied}
use Rattle.std.specs.FinMap.{get, insert, get-insert}
use Rattle.std.proofs.lemmas.Bool.{eq-eqb, ne_eqb, cases_eq}
use Rattle.asm_domain.specs.declared.value.Value.{Value}
use Rattle.asm_sign.specs.Vocabulary.{Vocabulary, function_at, codomain_of}
use Rattle.asm_state.specs.State.{State, MayHold, IsStateOf}

-- the slot that was put at has the value
pub get_put : (s : State) (slot : ℕ) (value : Value) → get (insert s slot value) slot ≡ Some value
get_put s slot value = get-insert nat_cmp_total s slot value slot ∙ ap (λ b. cond b (Some value) (get s slot)) (unsigned_tied slot slot ∙ eq-eqb slot slot refl)

-- no other slot changes
pub get_put_other : (s : State) (slot : ℕ) (value : Value) (q : ℕ) → (q ≡ slot → ⊥) → get (insert s slot value) q ≡ get s q
get_put_other s slot value q n = get-insert nat_cmp_total s slot value q ∙ ap (λ b. cond b (Some value) (get s q)) (unsigned_tied q slot ∙ ne_eqb q slot n)

-- a value that a slot may hold, put there, leaves a state a state
pub put_is_state : (v : Vocabulary) (s : State) (slot : ℕ) (value : Value) → IsStateOf v s → IsSome (get s slot) → MayHold (codomain_of v (function_at v slot)) value → IsStateOf v (insert s slot value)
put_is_state v s slot value is some may = record {
  slots = λ q. ⊎_elim
      (λ e. ap (λ k. is_some (get (insert s slot value) k)) e ∙ ap is_some (get_put s slot value) ∙ sym some ∙ ap (λ k. is_some (get s k)) (sym e) ∙ is.slots q)
      (λ n. ap is_some (get_put_other s slot value q n) ∙ is.slots q)
      (cases_eq q slot);
  values = λ q w at. ⊎_elim
      (λ e. let same : Some value ≡ Some w = sym (get_put s slot value) ∙ ap (λ k. get (insert s slot value) k) (sym e) ∙ at in
      subst (λ k. MayHold (codomain_of v (function_at v k)) w) (sym e) (subst (MayHold (codomain_of v (function_at v slot))) (cc same) may))
      (λ n. is.values q w (sym (get_put_other s slot value q n) ∙ at))
      (cases_eq q slot);
}
