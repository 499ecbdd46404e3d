-- The state in which every location is undefined.
use Rattle.std.proofs.Common.{◌≡◌, ℕ, Bool as Truth, true, false, if◌then◌else◌, Option, Some, None, is_some, cond, nat_eq, T, eqb→eq, refl, sym, ap, ◌∙◌, subst}
use Rattle.std.specs.Prelude.{IsTrue}
use Rattle.std.specs.Option.{unwrap_or}
use Rattle.std.specs.Ordering.{nat_cmp}
use Rattle.std.specs.FinMap.{get, insert, get-empty, get-insert}
use Rattle.std.specs.Cmp.{nat_cmp_total, unsigned_tied}
use Rattle.asm_domain.specs.declared.value.Value.{Value}
use Rattle.asm_domain.specs.declared.value.Value.TheVariants.{Undef}
use Rattle.asm_sign.specs.declared.function.Function.{Function}
use Rattle.asm_sign.specs.Kind.{is_kept}
use Rattle.asm_sign.specs.Vocabulary.{function_at, kept_of}
use Rattle.asm_state.specs.State.{IsUndefined}
use Rattle.asm_node.specs.Machine.{Machine, State, has_kind, no_input}
use Rattle.asm_node.specs.Term.{Gives, state_value}
use Rattle.asm_node.specs.Step.{IsState, may_have, alone}
use Rattle.asm_eval.specs.World.{world_in}

kept-is : (o : Option Function) → kept_of o ≡ has_kind is_kept o
kept-is (Some f) = refl
kept-is None = refl

abbrev undef_or : Truth → Option Value
undef_or b = if b then Some Undef else None

some-if : (b : Truth) → is_some (undef_or b) ≡ b
some-if true = refl
some-if false = refl

undef-if : (b : Truth) (v : Value) → ◌≡◌ {A = Option Value} (if b then Some Undef else None) (Some v) → Undef ≡ v
undef-if true v is = cc is
undef-if false v is = absurd (cc is)

undef-may : (m : Machine) (o : Option Function) → may_have m o Undef ≡ true
undef-may m (Some f) = refl
undef-may m None = refl

-- it is a state of the model
pub undefined-is-state : (m : Machine) (s : State) → IsUndefined m.signature s → IsState m s
undefined-is-state m s undefined = record {
  has_kept = λ l. ap is_some (undefined l) ∙ some-if (kept_of (function_at m.signature l)) ∙ kept-is (function_at m.signature l);
  may_have_it = λ l v is. subst (λ x. IsTrue (may_have m (function_at m.signature l) x)) (undef-if (kept_of (function_at m.signature l)) v (sym (undefined l) ∙ is)) (undef-may m (function_at m.signature l));
}

undef-or : (b : Truth) → unwrap_or (undef_or b) Undef ≡ Undef
undef-or true = refl
undef-or false = refl

-- a location reads as it does in no state
pub undefined-alike : (m : Machine) (s : State) → IsUndefined m.signature s → (slot : Option ℕ) → state_value (alone m) slot ≡ state_value (world_in m s no_input) slot
undefined-alike m s undefined None = refl
undefined-alike m s undefined (Some l) =
    ap (λ o. Gives (unwrap_or o Undef)) (get-empty nat_cmp l) ∙ sym (ap (λ o. Gives (unwrap_or o Undef)) (undefined l) ∙ ap Gives (undef-or (kept_of (function_at m.signature l))))

-- a state with another value at a kept slot, which it may have, is a state
pub put-is-state : (m : Machine) (s : State) (l : ℕ) (v : Value) → IsState m s → has_kind is_kept (function_at m.signature l) ≡ true → may_have m (function_at m.signature l) v ≡ true → IsState m (insert s l v)
put-is-state m s l v is_state kept may = record {
  has_kept = λ q. ap is_some (put-at q) ∙ elim (nat_eq q l) as (λ b. nat_eq q l ≡ b → is_some (cond b (Some v) (get s q)) ≡ has_kind is_kept (function_at m.signature q)) [
    | true ↦ λ is. sym (ap (λ k. has_kind is_kept (function_at m.signature k)) (eqb→eq q l (subst T (sym is) tt)) ∙ kept)
    | false ↦ λ _. is_state.has_kept q
  ] refl;
  may_have_it = λ q u is. elim (nat_eq q l) as (λ b. nat_eq q l ≡ b → cond b (Some v) (get s q) ≡ Some u → IsTrue (may_have m (function_at m.signature q) u)) [
    | true ↦ λ at e. subst (λ x. IsTrue (may_have m (function_at m.signature q) x)) (let w : v ≡ u = cc e in w) (ap (λ k. may_have m (function_at m.signature k) v) (eqb→eq q l (subst T (sym at) tt)) ∙ may)
    | false ↦ λ _ e. is_state.may_have_it q u e
  ] refl (sym (put-at q) ∙ is);
}
  where
    put-at : (q : ℕ) → get (insert s l v) q ≡ cond (nat_eq q l) (Some v) (get s q)
    put-at q = get-insert nat_cmp_total s l v q ∙ ap (λ b. cond b (Some v) (get s q)) (unsigned_tied q l)
