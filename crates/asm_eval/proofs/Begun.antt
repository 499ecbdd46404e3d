-- The initial state, one location after the other.
use Rattle.std.proofs.Common.{◌≡◌, ℕ, zero, suc, ◌+◌, ◌<◌, ◌≤◌, Bool as Truth, true, false, cond, not, if◌then◌else◌, List, [], ◌∷◌, length, drop, slice_get, Option, Some, None, is_some, nat_eq, T, eqb→eq, eq-eqb, refl, sym, ap, ◌∙◌, subst, true≢false, arith}
use Rattle.std.specs.Prelude.{Result, Ok, Err}
use Rattle.std.specs.List as list
use Rattle.std.specs.Ordering.{nat_cmp, eq_by_cmp}
use Rattle.std.specs.Cmp.{nat_cmp_total, unsigned_tied}
use Rattle.std.specs.FinMap.{find, get, insert, from_entries, get-insert, get-from_entries}
use Rattle.asm_domain.specs.declared.value.Value.{Value}
use Rattle.asm_domain.specs.declared.value.Value.TheVariants.{Undef}
use Rattle.asm_sign.specs.declared.function.Function.{Function}
use Rattle.asm_sign.specs.Kind.{is_kept}
use Rattle.asm_sign.specs.Vocabulary.{locations, function_at, function_of, kept_of}
use Rattle.asm_state.specs.State.{IsUndefined}
use Rattle.asm_node.specs.declared.stop.Stop.{Stop}
use Rattle.asm_node.specs.declared.stop.Stop.TheVariants.{BadInitial}
use Rattle.asm_node.specs.Machine.{Machine, State, has_kind}
use Rattle.asm_node.specs.Step.{may_have, initial, initial_from, initial_values, started}
use Rattle.asm_node.proofs.Revising.{same_state}
use Rattle.asm_eval.specs.declared.error.InitError.{InitError}
use Rattle.asm_eval.specs.declared.error.InitError.TheVariants.{BadInitial as BadStart, Memory}
use Rattle.asm_eval.specs.Beginning.{Prevents, value_at, put_checked, started_at}

abbrev pub then_on : Result State Stop → (State → Result State Stop) → Result State Stop
then_on (Ok s) f = f s
then_on (Err e) f = Err e

-- the initial values of locations are put in from slot l on
abbrev pub begun : Machine → State → ℕ → List (ℕ × List Value) → Result State Stop
begun m s l [] = Ok s
begun m s l (location ∷ others) = then_on (started_at m s l (Some location)) (λ t. begun m t (suc l) others)

-- one location more
pub begun-step : (m : Machine) (s : State) (l k : ℕ) (xs : List (ℕ × List Value)) → k < length xs → begun m s l (drop k xs) ≡ then_on (started_at m s l (slice_get xs k)) (λ t. begun m t (suc l) (drop (suc k) xs))
begun-step m s l k [] lt = absurd (omega arith)
begun-step m s l zero (x ∷ xs) lt = refl
begun-step m s l (suc k) (x ∷ xs) lt = begun-step m s l k xs (omega (arith, lt))

-- no location more
pub begun-end : (m : Machine) (s : State) (l k : ℕ) (xs : List (ℕ × List Value)) → length xs ≤ k → begun m s l (drop k xs) ≡ Ok s
begun-end m s l zero [] past = refl
begun-end m s l (suc k) [] past = refl
begun-end m s l zero (x ∷ xs) past = absurd (omega arith)
begun-end m s l (suc k) (x ∷ xs) past = begun-end m s l k xs (omega (arith, past))

-- an error at a location is that of the whole
pub prevents-on : (e : InitError) (r : Result State Stop) (f : State → Result State Stop) → Prevents e r → Prevents e (then_on r f)
prevents-on (BadStart l v) r f is = ap (λ x. then_on x f) is
prevents-on Memory r f is = tt

module _ (m : Machine) where
  abbrev bad : ℕ × Value → Truth
  bad e = not (may_have m (function_at m.signature e.0) e.1)

  abbrev kept_location : ℕ × List Value → Truth
  kept_location location = has_kind is_kept (slice_get m.signature.functions location.0)

  abbrev put_all : State → List (ℕ × Value) → State
  put_all s [] = s
  put_all s (e ∷ es) = put_all (insert s e.0 e.1) es

  -- the entries from slot l on
  entries_more : Truth → ℕ → ℕ × List Value → List (ℕ × List Value) → List (ℕ × Value)
  entries_more b l location others = if b then (l, value_at m location) ∷ initial_from m (suc l) others else initial_from m (suc l) others

  begun-all : (s : State) (l : ℕ) (xs : List (ℕ × List Value)) → begun m s l xs ≡ started (put_all s (initial_from m l xs)) (list.find bad (initial_from m l xs))
  begun-all s l [] = refl
  begun-all s l (x ∷ xs) =
      elim (kept_location x) as (λ b. then_on (if b then put_checked m s l (value_at m x) else Ok s) (λ t. begun m t (suc l) xs)
      ≡ started (put_all s (if b then (l, value_at m x) ∷ initial_from m (suc l) xs else initial_from m (suc l) xs)) (list.find bad (if b then (l, value_at m x) ∷ initial_from m (suc l) xs else initial_from m (suc l) xs))) [
        | false ↦ begun-all s (suc l) xs
        | true ↦ elim (may_have m (function_at m.signature l) (value_at m x)) as (λ b. then_on (if b then Ok (insert s l (value_at m x)) else Err (BadInitial l (value_at m x))) (λ t. begun m t (suc l) xs)
            ≡ started (put_all (insert s l (value_at m x)) (initial_from m (suc l) xs)) (if not b then Some (l, value_at m x) else list.find bad (initial_from m (suc l) xs))) [
              | true ↦ begun-all (insert s l (value_at m x)) (suc l) xs
              | false ↦ refl
            ]
      ]

  -- no entry of a slot before the first
  none-before : (q l : ℕ) (xs : List (ℕ × List Value)) → q < l → find nat_cmp q (initial_from m l xs) ≡ None
  none-before q l [] lt = refl
  none-before q l (x ∷ xs) lt =
      elim (kept_location x) as (λ b. find nat_cmp q (if b then (l, value_at m x) ∷ initial_from m (suc l) xs else initial_from m (suc l) xs) ≡ None) [
        | false ↦ none-before q (suc l) xs (omega (arith, lt))
        | true ↦ ap (λ b. cond b (Some (value_at m x)) (find nat_cmp q (initial_from m (suc l) xs))) (unsigned_tied q l ∙ apart) ∙ none-before q (suc l) xs (omega (arith, lt))
      ]
    where
      apart : nat_eq q l ≡ false
      apart = elim (nat_eq q l) as (λ b. nat_eq q l ≡ b → b ≡ false) [ true ↦ λ is. absurd (omega (arith, lt, eqb→eq q l (subst T (sym is) tt))) | false ↦ λ _. refl ] refl

  -- exactly the kept locations have entries
  pub entry-kept : (l i : ℕ) (xs : List (ℕ × List Value)) → is_some (find nat_cmp (l + i) (initial_from m l xs)) ≡ has_kind is_kept (function_of m.signature (slice_get xs i))
  entry-kept l i [] = refl
  entry-kept l zero (x ∷ xs) =
      elim (kept_location x) as (λ b. is_some (find nat_cmp (l + 0) (if b then (l, value_at m x) ∷ initial_from m (suc l) xs else initial_from m (suc l) xs)) ≡ b) [
        | false ↦ ap is_some (none-before (l + 0) (suc l) xs (omega arith))
        | true ↦ ap (λ b. is_some (cond b (Some (value_at m x)) (find nat_cmp (l + 0) (initial_from m (suc l) xs)))) (unsigned_tied (l + 0) l ∙ eq-eqb (l + 0) l (omega arith))
      ]
  entry-kept l (suc i) (x ∷ xs) =
      let later : is_some (find nat_cmp (l + suc i) (initial_from m (suc l) xs)) ≡ has_kind is_kept (function_of m.signature (slice_get xs i)) = ap (λ q. is_some (find nat_cmp q (initial_from m (suc l) xs))) (let e : l + suc i ≡ suc l + i = omega arith in e) ∙ entry-kept (suc l) i xs in
      elim (kept_location x) as (λ b. is_some (find nat_cmp (l + suc i) (if b then (l, value_at m x) ∷ initial_from m (suc l) xs else initial_from m (suc l) xs)) ≡ has_kind is_kept (function_of m.signature (slice_get xs i))) [
        | false ↦ later
        | true ↦ ap (λ b. is_some (cond b (Some (value_at m x)) (find nat_cmp (l + suc i) (initial_from m (suc l) xs)))) (unsigned_tied (l + suc i) l ∙ apart (nat_eq (l + suc i) l) refl) ∙ later
      ]
    where
      apart : (b : Truth) → nat_eq (l + suc i) l ≡ b → b ≡ false
      apart true is = absurd (omega (arith, eqb→eq (l + suc i) l (subst T (sym is) tt)))
      apart false is = refl

  abbrev either : Option Value → Option Value → Option Value
  either (Some v) o = Some v
  either None o = o

  -- what a state has after all entries are put in
  get-all : (s : State) (q l : ℕ) (xs : List (ℕ × List Value)) → get (put_all s (initial_from m l xs)) q ≡ either (find nat_cmp q (initial_from m l xs)) (get s q)
  get-all s q l [] = refl
  get-all s q l (x ∷ xs) =
      elim (kept_location x) as (λ b. get (put_all s (if b then (l, value_at m x) ∷ initial_from m (suc l) xs else initial_from m (suc l) xs)) q ≡ either (find nat_cmp q (if b then (l, value_at m x) ∷ initial_from m (suc l) xs else initial_from m (suc l) xs)) (get s q)) [
        | false ↦ get-all s q (suc l) xs
        | true ↦ get-all (insert s l (value_at m x)) q (suc l) xs ∙ ap (either (find nat_cmp q (initial_from m (suc l) xs))) (get-insert nat_cmp_total s l (value_at m x) q) ∙ joined
      ]
    where
      joined : either (find nat_cmp q (initial_from m (suc l) xs)) (cond (eq_by_cmp nat_cmp q l) (Some (value_at m x)) (get s q)) ≡ either (cond (eq_by_cmp nat_cmp q l) (Some (value_at m x)) (find nat_cmp q (initial_from m (suc l) xs))) (get s q)
      joined =
          elim (nat_eq q l) as (λ b. nat_eq q l ≡ b → either (find nat_cmp q (initial_from m (suc l) xs)) (cond (eq_by_cmp nat_cmp q l) (Some (value_at m x)) (get s q)) ≡ either (cond (eq_by_cmp nat_cmp q l) (Some (value_at m x)) (find nat_cmp q (initial_from m (suc l) xs))) (get s q)) [
            | true ↦ λ is.
                let same : q ≡ l = eqb→eq q l (subst T (sym is) tt) in
                let before : find nat_cmp q (initial_from m (suc l) xs) ≡ None = none-before q (suc l) xs (omega (arith, same)) in
                ap (λ o. either o (cond (eq_by_cmp nat_cmp q l) (Some (value_at m x)) (get s q))) before ∙ ap (λ b. either None (cond b (Some (value_at m x)) (get s q))) (unsigned_tied q l ∙ is)
                ∙ sym (ap (λ b. either (cond b (Some (value_at m x)) (find nat_cmp q (initial_from m (suc l) xs))) (get s q)) (unsigned_tied q l ∙ is))
            | false ↦ λ is.
                ap (λ b. either (find nat_cmp q (initial_from m (suc l) xs)) (cond b (Some (value_at m x)) (get s q))) (unsigned_tied q l ∙ is)
                ∙ sym (ap (λ b. either (cond b (Some (value_at m x)) (find nat_cmp q (initial_from m (suc l) xs))) (get s q)) (unsigned_tied q l ∙ is))
          ] refl

  kept-is : (o : Option Function) → kept_of o ≡ has_kind is_kept o
  kept-is (Some f) = refl
  kept-is None = refl

  either-itself : (o p : Option Value) (b : Truth) → p ≡ (if b then Some Undef else None) → (b ≡ true → is_some o ≡ true) → either o p ≡ o
  either-itself (Some v) p b is some = refl
  either-itself None p true is some = absurd (true≢false (sym (some refl)))
  either-itself None p false is some = is

  -- the initial state is begun with every location undefined
  pub initial-begun : (s : State) → IsUndefined m.signature s → initial m ≡ begun m s 0 (locations m.signature)
  initial-begun s undefined =
      ap (λ t. started t (list.find bad (initial_values m))) (sym all) ∙ sym (begun-all s 0 (locations m.signature))
    where
      all : put_all s (initial_values m) ≡ from_entries (initial_values m)
      all = same_state _ _ (λ q. get-all s q 0 (locations m.signature)
          ∙ either-itself (find nat_cmp q (initial_values m)) (get s q) (kept_of (function_at m.signature q)) (undefined q) (λ kept.
          ap (λ p. is_some (find nat_cmp p (initial_values m))) (let e : q ≡ 0 + q = omega arith in e) ∙ entry-kept 0 q (locations m.signature) ∙ sym (kept-is (function_at m.signature q)) ∙ kept)
          ∙ sym (get-from_entries nat_cmp_total (initial_values m) q))
