-- Each input has a full one that extends it.
use Rattle.std.proofs.Common.{◌≡◌, ◌⊎◌, inl, inr, ℕ, zero, suc, ◌<◌, ◌≤◌, Bool as Truth, true, false, not, ◌&&◌, ◌||◌, cond, length, nat_eq, Option, Some, None, refl, sym, ap, ◌∙◌, subst, T, eqb→eq, arith, rules, IsTrue}
use Rattle.std.specs.Prelude.{IsSome}
use Rattle.std.specs.Cmp.{nat_cmp_total, unsigned_tied}
use Rattle.std.specs.FinMap.{get, insert, get-insert}
use Rattle.std.proofs.lemmas.Option.{slice_get_past}
use Rattle.asm_domain.specs.declared.value.Value.{Value}
use Rattle.asm_sign.specs.declared.function.Function.{Function}
use Rattle.asm_sign.specs.declared.function.FunKind.{FunKind}
use Rattle.asm_sign.specs.declared.function.FunKind.TheVariants.{Static, Derived, Controlled, Shared, Monitored, Out}
use Rattle.asm_sign.specs.Vocabulary.{locations, function_at, function_of}
use Rattle.asm_node.specs.Machine.{Machine, Input, has_kind, is_monitored, is_shared}
use Rattle.asm_node.specs.Values.{is_undef}
use Rattle.asm_node.specs.Step.{IsInput, may_have}
use Rattle.asm_laws.specs.Extending.{Extends}
use Rattle.asm_laws.specs.Full.{CanBeGiven, IsCompletion}

-- no function is both monitored and shared
apart : (o : Option Function) → has_kind is_monitored o ≡ true → has_kind is_shared o ≡ true → ⊥
apart None m s = cc (m)
apart (Some f) m s = of_kind f.kind m s
  where
    of_kind : (kind : FunKind) → is_monitored kind ≡ true → is_shared kind ≡ true → ⊥
    of_kind Static m s = cc (m)
    of_kind Derived m s = cc (m)
    of_kind Controlled m s = cc (m)
    of_kind Out m s = cc (m)
    of_kind Shared m s = cc (m)
    of_kind Monitored m s = cc (s)

either_first : (a b : Truth) → a ≡ true → IsTrue (a || b)
either_first true b is = refl
either_first false b is = absurd (cc (is))

module _ (m : Machine) (i : Input) (input : IsInput m i) (able : CanBeGiven m) where
  abbrev asked : ℕ → Truth
  asked l = has_kind is_monitored (function_at m.signature l)

  -- an input that extends the other, and gives all monitored slots below this one a value
  record IsFullBelow (n : ℕ) (j : Input) : Type 0 where
    is_input : IsInput m j
    extends : Extends m i j
    below : (l : ℕ) → l < n → asked l ≡ true → IsSome (get j l)

  below_more : (P : ℕ → Type 0) (n : ℕ) → ((l : ℕ) → l < n → P l) → P n → (l : ℕ) → l < suc n → P l
  below_more P n each at l lt = of_case (cases l lt)
    where
      cases : (l : ℕ) → l < suc n → (l < n) ⊎ (l ≡ n)
      cases l lt = search (rules)

      of_case : (l < n) ⊎ (l ≡ n) → P l
      of_case (inl less) = each l less
      of_case (inr is) = subst P (sym is) at

  -- one slot more
  module _ (n : ℕ) (j : Input) (so : IsFullBelow n j) where
    kept : (asked n ≡ true → IsSome (get j n)) → IsFullBelow (suc n) j
    kept has = record {
      is_input = so.is_input;
      extends = so.extends;
      below = below_more (λ (l : ℕ). asked l ≡ true → IsSome (get j l)) n so.below has;
    }

    module _ (is : asked n ≡ true) (none : get j n ≡ None) where
      abbrev chosen_value : Value
      chosen_value = (able n is).0

      abbrev with_slot : Input
      with_slot = insert j n chosen_value

      get_at : (l : ℕ) → get with_slot l ≡ cond (nat_eq l n) (Some chosen_value) (get j l)
      get_at l = get-insert nat_cmp_total j n chosen_value l ∙ ap (λ b. cond b (Some chosen_value) (get j l)) (unsigned_tied l n)

      -- what holds of the new value and of the old ones holds of all
      each_value : (P : ℕ → Value → Type 0) → P n chosen_value → ((l : ℕ) (v : Value) → get j l ≡ Some v → P l v) → (l : ℕ) (v : Value) → get with_slot l ≡ Some v → P l v
      each_value P new old l v at = of_test (nat_eq l n) refl (sym (get_at l) ∙ at)
        where
          of_test : (b : Truth) → nat_eq l n ≡ b → cond b (Some chosen_value) (get j l) ≡ Some v → P l v
          of_test true same found = subst (λ (k : ℕ). P k v) (sym (eqb→eq l n (subst T (sym same) tt))) (subst (P n) (let e : chosen_value ≡ v = cc (found) in e) new)
          of_test false other found = old l v found

      -- another slot is as it was
      other_slot : (l : ℕ) → (l ≡ n → ⊥) → get with_slot l ≡ get j l
      other_slot l differ = get_at l ∙ of_test (nat_eq l n) refl
        where
          of_test : (b : Truth) → nat_eq l n ≡ b → cond b (Some chosen_value) (get j l) ≡ get j l
          of_test true same = absurd (differ (eqb→eq l n (subst T (sym same) tt)))
          of_test false other = refl

      this_slot : IsSome (get with_slot n)
      this_slot = of_test (nat_eq n n) refl
        where
          of_test : (b : Truth) → nat_eq n n ≡ b → IsSome (get with_slot n)
          of_test true same = rw (get_at n, same) refl
          of_test false other = absurd (grind (arith, other))

      put : IsFullBelow (suc n) with_slot
      put = record {
        is_input = record {
          is_asked = each_value (λ l v. IsTrue (asked l || has_kind is_shared (function_at m.signature l))) (either_first (asked n) _ is) so.is_input.is_asked;
          may_give = each_value (λ l v. IsTrue (not (is_undef v) && may_have m (function_at m.signature l) v)) (able n is).1 so.is_input.may_give;
        };
        extends = record {
          gives = λ l v at. other_slot l (λ e. absurd (let here : get j n ≡ Some v = subst (λ (k : ℕ). get j k ≡ Some v) e (so.extends.gives l v at) in let both : None ≡ Some v = sym none ∙ here in cc (both))) ∙ so.extends.gives l v at;
          shares = λ l shared. so.extends.shares l shared ∙ sym (other_slot l (λ e. apart (function_at m.signature n) is (subst (λ (k : ℕ). has_kind is_shared (function_at m.signature k) ≡ true) e shared)));
        };
        below = below_more (λ (l : ℕ). asked l ≡ true → IsSome (get with_slot l)) n (λ l lt may. subst IsSome (sym (other_slot l (λ e. omega (arith, lt, e)))) (so.below l lt may)) (λ _. this_slot);
      }

    further : (k : Input) × IsFullBelow (suc n) k
    further = of_kind (asked n) refl (get j n) refl
      where
        of_kind : (b : Truth) → asked n ≡ b → (o : Option Value) → get j n ≡ o → (k : Input) × IsFullBelow (suc n) k
        of_kind false isnt o at = (j, kept (λ is. absurd (let both : true ≡ false = sym is ∙ isnt in cc (both))))
        of_kind true is (Some v) at = (j, kept (λ _. rw at refl))
        of_kind true is None at = (with_slot is at, put is at)

  full_below : (n : ℕ) → (k : Input) × IsFullBelow n k
  full_below zero = (i, record { is_input = input; extends = record { gives = λ l v at. at; shares = λ l shared. refl }; below = λ l lt. absurd (omega (arith, lt)) })
  full_below (suc n) = (let k = full_below n in further n k.0 k.1)

  past_none : (l : ℕ) → length (locations m.signature) ≤ l → asked l ≡ false
  past_none l past = ap (λ location. has_kind is_monitored (function_of m.signature location)) (slice_get_past (locations m.signature) l past)

  -- all slots have a value in the end
  pub completion : (j : Input) × IsCompletion m i j
  completion =
      (let k = full_below (length (locations m.signature)) in (k.0, record { is_full = record { is_input = k.1.is_input; gives = λ l is. at l is (cases l) k.0 k.1 }; extends = k.1.extends }))
    where
      cases : (l : ℕ) → (l < length (locations m.signature)) ⊎ (length (locations m.signature) ≤ l)
      cases l = search (rules)

      at : (l : ℕ) → asked l ≡ true → (l < length (locations m.signature)) ⊎ (length (locations m.signature) ≤ l) → (k : Input) → IsFullBelow (length (locations m.signature)) k → IsSome (get k l)
      at l is (inl lt) k so = so.below l lt is
      at l is (inr past) k so = absurd (let both : true ≡ false = sym is ∙ past_none l past in cc (both))
