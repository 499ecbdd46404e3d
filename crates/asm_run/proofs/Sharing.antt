-- A store that takes the values of a state and of an input, slot after slot.
use Rattle.std.proofs.Common.{◌≡◌, ◌⊎◌, inl, inr, ℕ, ◌+◌, ◌<◌, ◌≤◌, Bool as Truth, true, false, not, ◌&&◌, if◌then◌else◌, cond, length, nat_eq, Option, Some, None, option_map, unwrap_or, is_some, refl, sym, ap, ◌∙◌, subst, T, eqb→eq, true≢false, arith, rules}
use Rattle.std.specs.Prelude.{IsTrue}
use Rattle.std.specs.Cmp.{nat_cmp_total, unsigned_tied}
use Rattle.std.specs.FinMap.{get, insert, get-insert}
use Rattle.std.proofs.lemmas.Bool.{eqb-false}
use Rattle.std.proofs.lemmas.Option.{slice_get_past}
use Rattle.asm_domain.specs.declared.value.Value.{Value}
use Rattle.asm_sign.specs.declared.function.Function.{Function}
use Rattle.asm_sign.specs.Kind.{is_kept}
use Rattle.asm_sign.specs.Vocabulary.{Vocabulary, locations, function_at, function_of, kept_of}
use Rattle.asm_node.specs.Machine.{Machine, State, Input, has_kind, is_shared}
use Rattle.asm_node.specs.Step.{IsInput, IsState, may_have, shared_value, with_shared}
use Rattle.asm_node.specs.Values.{is_undef}
use Rattle.asm_node.proofs.Revising.{get-revised, has-revised, same_state}
use Rattle.asm_run.specs.Stepping.{HasKept}

pub kept-is : (o : Option Function) → kept_of o ≡ has_kind is_kept o
kept-is (Some f) = refl
kept-is None = refl

no_value : (o : Option Value) → is_some o ≡ false → o ≡ None
no_value None is = refl
no_value (Some v) is = absurd (true≢false is)

module _ (v : Vocabulary) where
  -- the slots below this one have what they have in the other state, and all slots are there
  pub record IsShared (wanted now : State) (slot : ℕ) : Type 0 where
    pub below : (l : ℕ) → l < slot → get now l ≡ get wanted l
    pub has_kept : HasKept v now

  past_none : (l : ℕ) → length (locations v) ≤ l → has_kind is_kept (function_at v l) ≡ false
  past_none l past = ap (λ location. has_kind is_kept (function_of v location)) (slice_get_past (locations v) l past)

  -- a state with no value is the same in both
  both_none : (wanted now : State) (l : ℕ) → HasKept v wanted → HasKept v now → has_kind is_kept (function_at v l) ≡ false → get now l ≡ get wanted l
  both_none wanted now l wants has isnt = no_value (get now l) (has l ∙ isnt) ∙ sym (no_value (get wanted l) (wants l ∙ isnt))

  -- in the end the store has the other state
  pub shared-all : (wanted now : State) (slot : ℕ) → length (locations v) ≤ slot → HasKept v wanted → IsShared wanted now slot → now ≡ wanted
  shared-all wanted now slot past wants shared = same_state now wanted (λ l. at l (cases l))
    where
      cases : (l : ℕ) → (l < slot) ⊎ (slot ≤ l)
      cases l = search (rules)

      at : (l : ℕ) → (l < slot) ⊎ (slot ≤ l) → get now l ≡ get wanted l
      at l (inl lt) = shared.below l lt
      at l (inr le) = both_none wanted now l wants shared.has_kept (past_none l (omega arith))

  -- a slot that isn't kept is passed
  pub shared-skip : (wanted now : State) (slot : ℕ) → HasKept v wanted → has_kind is_kept (function_at v slot) ≡ false → IsShared wanted now slot → IsShared wanted now (slot + 1)
  shared-skip wanted now slot wants isnt shared = record {
    below = λ l lt. at l (cases l lt);
    has_kept = shared.has_kept;
  }
    where
      cases : (l : ℕ) → l < slot + 1 → (l < slot) ⊎ (l ≡ slot)
      cases l lt = search (rules)

      at : (l : ℕ) → (l < slot) ⊎ (l ≡ slot) → get now l ≡ get wanted l
      at l (inl lt) = shared.below l lt
      at l (inr is) = both_none wanted now l wants shared.has_kept (ap (λ k. has_kind is_kept (function_at v k)) is ∙ isnt)

  get-put : (now : State) (slot l : ℕ) (x : Value) → get (insert now slot x) l ≡ cond (nat_eq l slot) (Some x) (get now l)
  get-put now slot l x = get-insert nat_cmp_total now slot x l ∙ ap (λ b. cond b (Some x) (get now l)) (unsigned_tied l slot)

  -- a kept slot takes its value
  pub shared-put : (wanted now : State) (slot : ℕ) (x : Value) → get wanted slot ≡ Some x → has_kind is_kept (function_at v slot) ≡ true → IsShared wanted now slot → IsShared wanted (insert now slot x) (slot + 1)
  shared-put wanted now slot x is kept shared = record {
    below = λ l lt. get-put now slot l x ∙ value l lt;
    has_kept = λ l. ap is_some (get-put now slot l x) ∙ slots l;
  }
    where
      value : (l : ℕ) → l < slot + 1 → cond (nat_eq l slot) (Some x) (get now l) ≡ get wanted l
      value l lt = elim (nat_eq l slot) as (λ b. nat_eq l slot ≡ b → cond b (Some x) (get now l) ≡ get wanted l) [
        | true ↦ λ same. sym (ap (get wanted) (eqb→eq l slot (subst T (sym same) tt)) ∙ is)
        | false ↦ λ apart. shared.below l (before l lt apart)
      ] refl
        where
          before : (l : ℕ) → l < slot + 1 → nat_eq l slot ≡ false → l < slot
          before l lt apart = let other : l ≡ slot → ⊥ = eqb-false l slot apart in omega arith

      slots : (l : ℕ) → is_some (cond (nat_eq l slot) (Some x) (get now l)) ≡ has_kind is_kept (function_at v l)
      slots l = elim (nat_eq l slot) as (λ b. nat_eq l slot ≡ b → is_some (cond b (Some x) (get now l)) ≡ has_kind is_kept (function_at v l)) [
        | true ↦ λ same. sym (ap (λ k. has_kind is_kept (function_at v k)) (eqb→eq l slot (subst T (sym same) tt)) ∙ kept)
        | false ↦ λ _. shared.has_kept l
      ] refl

  -- the state under an input has the same slots
  pub shared-kept : (i : Input) (s : State) → HasKept v s → HasKept v (with_shared v i s)
  shared-kept i s has l = has-revised (shared_value v i) s l ∙ has l

  -- and at each of them this value
  pub shared-value : (i : Input) (s : State) (l : ℕ) (x : Value) → get s l ≡ Some x → get (with_shared v i s) l ≡ Some (shared_value v i l x)
  shared-value i s l x is = get-revised (shared_value v i) s l ∙ ap (option_map (shared_value v i l)) is

  -- a kept slot has a value
  pub kept-some : (s : State) (l : ℕ) → HasKept v s → kept_of (function_at v l) ≡ true → is_some (get s l) ≡ true
  kept-some s l has kept = has l ∙ sym (kept-is (function_at v l)) ∙ kept

second : (a b : Truth) → IsTrue (a && b) → IsTrue b
second true b h = h
second false b h = absurd (cc (h))

module _ (m : Machine) (i : Input) (s : State) (input : IsInput m i) (state : IsState m s) where
  abbrev May : ℕ → Value → Type 0
  May l v = IsTrue (may_have m (function_at m.signature l) v)

  given_may : (l : ℕ) (w : Value) (o : Option Value) → get i l ≡ o → May l w → May l (unwrap_or o w)
  given_may l w None is may = may
  given_may l w (Some x) is may = second (not (is_undef x)) _ (input.may_give l x is)

  shared_may : (l : ℕ) (w : Value) → May l w → May l (shared_value m.signature i l w)
  shared_may l w may = elim (has_kind is_shared (function_at m.signature l)) as (λ b. May l (if b then unwrap_or (get i l) w else w)) [ true ↦ given_may l w (get i l) refl may | false ↦ may ]

  value_may : (l : ℕ) (o : Option Value) → get s l ≡ o → (v : Value) → option_map (shared_value m.signature i l) o ≡ Some v → May l v
  value_may l None at v is = absurd (cc is)
  value_may l (Some w) at v is = let e : shared_value m.signature i l w ≡ v = cc is in subst (May l) e (shared_may l w (state.may_have_it l w at))

  -- the state under an input is a state
  pub shared-state : IsState m (with_shared m.signature i s)
  shared-state = record {
    has_kept = shared-kept m.signature i s state.has_kept;
    may_have_it = λ l v is. value_may l (get s l) refl v (sym (get-revised (shared_value m.signature i) s l) ∙ is);
  }
