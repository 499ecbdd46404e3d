-- The initial state is a state.
use Rattle.std.proofs.Common.{◌≡◌, ℕ, ◌+◌, Bool as Truth, true, false, cond, not, if◌then◌else◌, List, [], ◌∷◌, Option, Some, None, is_some, nat_eq, T, eqb→eq, refl, sym, ap, ◌∙◌, subst, arith, IsTrue}
use Rattle.std.specs.Prelude.{Result, Ok, Err}
use Rattle.std.specs.List as list
use Rattle.std.specs.Ordering.{nat_cmp}
use Rattle.std.specs.Cmp.{nat_cmp_total, unsigned_tied}
use Rattle.std.specs.FinMap.{find, from_entries, get-from_entries}
use Rattle.asm_domain.specs.declared.value.Value.{Value}
use Rattle.asm_sign.specs.Vocabulary.{locations, function_at}
use Rattle.asm_node.specs.declared.stop.Stop.{Stop}
use Rattle.asm_node.specs.Machine.{Machine, State}
use Rattle.asm_node.specs.Step.{IsState, may_have, initial, initial_values, started}
use Rattle.asm_eval.proofs.Begun.{entry-kept}

module _ (m : Machine) where
  abbrev bad : ℕ × Value → Truth
  bad e = not (may_have m (function_at m.signature e.0) e.1)

  -- a value that is found is one that its slot may have, where no entry is bad
  none_bad : (es : List (ℕ × Value)) (l : ℕ) (v : Value) → list.find bad es ≡ None → find nat_cmp l es ≡ Some v → IsTrue (may_have m (function_at m.signature l) v)
  none_bad [] l v fine is = absurd (cc (is))
  none_bad (e ∷ es) l v fine is = of_test (may_have m (function_at m.signature e.0) e.1) refl fine (none_bad es l v)
    where
      of_entry : may_have m (function_at m.signature e.0) e.1 ≡ true → (b : Truth) → nat_eq l e.0 ≡ b → cond b (Some e.1) (find nat_cmp l es) ≡ Some v → (find nat_cmp l es ≡ Some v → IsTrue (may_have m (function_at m.signature l) v)) → IsTrue (may_have m (function_at m.signature l) v)
      of_entry may true at found later =
          subst (λ (x : Value). IsTrue (may_have m (function_at m.signature l) x)) (let q : e.1 ≡ v = cc (found) in q) (ap (λ (k : ℕ). may_have m (function_at m.signature k) e.1) (eqb→eq l e.0 (subst T (sym at) tt)) ∙ may)
      of_entry may false at found later = later found

      of_test : (b : Truth) → may_have m (function_at m.signature e.0) e.1 ≡ b → (◌≡◌ {A = Option (ℕ × Value)} (if not b then Some e else list.find bad es) None) → (list.find bad es ≡ None → find nat_cmp l es ≡ Some v → IsTrue (may_have m (function_at m.signature l) v)) → IsTrue (may_have m (function_at m.signature l) v)
      of_test true may rest later = of_entry may (nat_eq l e.0) refl (ap (λ (b : Truth). cond b (Some e.1) (find nat_cmp l es)) (sym (unsigned_tied l e.0)) ∙ is) (later rest)
      of_test false may rest later = absurd (cc (rest))

  made : (s t : State) (o : Option (ℕ × Value)) → started s o ≡ Ok t → (s ≡ t) × (o ≡ None)
  made s t None is = (ap (λ (r : Result State Stop). state_or s r) is, refl)
    where
      state_or : State → Result State Stop → State
      state_or s (Ok t) = t
      state_or s (Err e) = s
  made s t (Some e) is = absurd (cc (is))

  pub initial_is_state : (s : State) → initial m ≡ Ok s → IsState m s
  initial_is_state s is =
      (let p = made (from_entries (initial_values m)) s (list.find bad (initial_values m)) is in
      subst (IsState m) p.0 (record {
        has_kept = λ l. ap is_some (get-from_entries nat_cmp_total (initial_values m) l) ∙ (ap (λ (q : ℕ). is_some (find nat_cmp q (initial_values m))) (let e : l ≡ 0 + l = omega arith in e) ∙ entry-kept m 0 l (locations m.signature));
        may_have_it = λ l v at. none_bad (initial_values m) l v p.1 (sym (get-from_entries nat_cmp_total (initial_values m) l) ∙ at);
      }))
