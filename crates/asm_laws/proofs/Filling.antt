-- A state under an input makes a world whose locations have values of their codomains.
use Rattle.std.proofs.Common.{◌≡◌, ℕ, Bool as Truth, true, false, ◌&&◌, not, if◌then◌else◌, Option, Some, None, refl, sym, ◌∙◌, subst, IsTrue}
use Rattle.std.specs.Option.{unwrap_or, option_map}
use Rattle.std.specs.FinMap as finite
use Rattle.asm_domain.specs.declared.value.Value.{Value}
use Rattle.asm_sign.specs.Vocabulary.{function_at}
use Rattle.asm_node.specs.Machine.{Machine, State, Input, has_kind, is_shared}
use Rattle.asm_node.specs.Step.{IsState, IsInput, may_have, shared_value, with_shared, world_at}
use Rattle.asm_node.specs.Values.{is_undef}
use Rattle.asm_node.specs.Filled.{IsFilled}
use Rattle.asm_node.proofs.Revising.{get-revised, has-revised}

second : (a b : Truth) → IsTrue (a && b) → IsTrue b
second true b h = h
second false b h = absurd (cc (h))

module _ (m : Machine) (s : State) (i : Input) (is_state : IsState m s) (is_input : IsInput m i) where
  abbrev May : ℕ → Value → Type 0
  May l v = IsTrue (may_have m (function_at m.signature l) v)

  given : (l : ℕ) (o : Option Value) (v : Value) → finite.get i l ≡ o → May l v → May l (unwrap_or o v)
  given l None v e h = h
  given l (Some u) v e h = second (not (is_undef u)) _ (is_input.may_give l u e)

  shared : (l : ℕ) (v : Value) → May l v → May l (shared_value m.signature i l v)
  shared l v h = elim (has_kind is_shared (function_at m.signature l)) as (λ (b : Truth). May l (if b then unwrap_or (finite.get i l) v else v)) [
    | true ↦ given l (finite.get i l) v refl h
    | false ↦ h
  ]

  held : (l : ℕ) (o : Option Value) (v : Value) → finite.get s l ≡ o → option_map (shared_value m.signature i l) o ≡ Some v → May l v
  held l None v e f = absurd (cc (f))
  held l (Some u) v e f = subst (May l) (let q : shared_value m.signature i l u ≡ v = cc (f) in q) (shared l u (is_state.may_have_it l u e))

  pub filled_at : IsFilled (world_at m s i)
  filled_at = record {
    state = λ l v e. held l (finite.get s l) v refl (sym (get-revised (shared_value m.signature i) s l) ∙ e);
    input = λ l v e. second (not (is_undef v)) _ (is_input.may_give l v e);
  }

  -- the state with the input's shared values is a state
  pub shared_state : IsState m (with_shared m.signature i s)
  shared_state = record {
    has_kept = λ l. has-revised (shared_value m.signature i) s l ∙ is_state.has_kept l;
    may_have_it = filled_at.state;
  }
