-- What pairs that are put in leave of a state.
use Rattle.std.proofs.Common.{◌≡◌, ℕ, Bool as Truth, true, false, cond, not, ◌&&◌, ◌||◌, List, [], ◌∷◌, ◌++◌, get_or, Option, Some, None, option_map, unwrap_or, find, nat_eq, refl, sym, ap, ◌∙◌, subst, true≢false, T, eqb→eq, eq-eqb, inl, inr, ◌⊎◌}
use Rattle.std.specs.Option.{IsSome, option_or}
use Rattle.std.specs.Ordering.{nat_cmp, int_cmp, eq_by_cmp}
use Rattle.std.specs.Cmp.{nat_cmp_total, unsigned_tied, Equal-is}
use Rattle.std.specs.FinMap.{get, insert, get-insert}
use Rattle.std.specs.FinSet.{int_cmp-IsAntisymmetric}
use Rattle.std.specs.List.{list_any, list_all}
use Rattle.asm_domain.specs.declared.value.Value.{Value}
use Rattle.asm_domain.specs.declared.value.Value.TheVariants.{Undef, Bool, Int, Elem}
use Rattle.asm_state.specs.State.{State}
use Rattle.asm_node.specs.UpdateSet.{Pair, UpdateSet, agree, consistent, touches, value_at, fire}
use Rattle.asm_node.proofs.Revising.{get-revised, same_state}
use Rattle.std.specs.FinSet as set
use Rattle.asm_node.proofs.UpdateSets.{of_list, any-items, consistent-list, value_at-list}
use Rattle.asm_node.specs.Values.{same}
use Rattle.asm_update.proofs.Ordered.{any_at_place}
use Rattle.asm_update.specs.Applied.{IsOfSlots, put_in, HaveSlots}

abbrev of_slot : ℕ → Pair → Truth
of_slot slot p = nat_eq p.0 slot

eq_by_nat : (q k : ℕ) → eq_by_cmp nat_cmp q k ≡ nat_eq q k
eq_by_nat q k = unsigned_tied q k

get-put : (s : State) (p : Pair) (slot : ℕ) → get (insert s p.0 p.1) slot ≡ cond (nat_eq slot p.0) (Some p.1) (get s slot)
get-put s p slot = get-insert nat_cmp_total s p.0 p.1 slot ∙ ap (λ b. cond b (Some p.1) (get s slot)) (eq_by_nat slot p.0)

nat_eq-swap : (i j : ℕ) → nat_eq i j ≡ nat_eq j i
nat_eq-swap i j =
    elim (nat_eq i j) as (λ b. nat_eq i j ≡ b → b ≡ nat_eq j i) [
      | true ↦ λ is. sym (eq-eqb j i (sym (eqb→eq i j (subst T (sym is) tt))))
      | false ↦ λ isnt. elim (nat_eq j i) as (λ b. nat_eq j i ≡ b → false ≡ b) [
        | true ↦ λ is. sym isnt ∙ eq-eqb i j (sym (eqb→eq j i (subst T (sym is) tt)))
        | false ↦ λ _. refl
      ] refl
    ] refl

get_put : (s : State) (p : Pair) (slot : ℕ) → get (insert s p.0 p.1) slot ≡ cond (of_slot slot p) (Some p.1) (get s slot)
get_put s p slot = get-put s p slot ∙ ap (λ b. cond b (Some p.1) (get s slot)) (nat_eq-swap slot p.0)

pub put_in-push : (s : State) (ps : List Pair) (p : Pair) → put_in s (ps ++ p ∷ []) ≡ insert (put_in s ps) p.0 p.1
put_in-push s [] p = refl
put_in-push s (q ∷ ps) p = put_in-push (insert s q.0 q.1) ps p

-- a slot with a value keeps one
pub still_some : (ps : List Pair) (s : State) (slot : ℕ) → IsSome (get s slot) → IsSome (get (put_in s ps) slot)
still_some [] s slot some = some
still_some (p ∷ ps) s slot some =
    still_some ps (insert s p.0 p.1) slot (subst IsSome (sym (get_put s p slot)) (elim (of_slot slot p) as (λ b. IsSome (cond b (Some p.1) (get s slot))) [ true ↦ refl | false ↦ some ]))

-- a slot that no pair has keeps its value
untouched : (ps : List Pair) (s : State) (slot : ℕ) → list_any (of_slot slot) ps ≡ false → get (put_in s ps) slot ≡ get s slot
untouched [] s slot none = refl
untouched (p ∷ ps) s slot none =
    elim (of_slot slot p) as (λ b. of_slot slot p ≡ b → (b || list_any (of_slot slot) ps) ≡ false → get (put_in (insert s p.0 p.1) ps) slot ≡ get s slot) [
      | true ↦ λ _ e. absurd (true≢false e)
      | false ↦ λ is e. untouched ps (insert s p.0 p.1) slot e ∙ get_put s p slot ∙ ap (λ b. cond b (Some p.1) (get s slot)) is
    ] refl none

and_first : (a b : Truth) → (a && b) ≡ true → a ≡ true
and_first true b is = refl
and_first false b is = is

and_second : (a b : Truth) → (a && b) ≡ true → b ≡ true
and_second true b is = is
and_second false b is = absurd (true≢false (sym is))

pub same_is : (a b : Value) → same a b ≡ true → a ≡ b
same_is Undef Undef is = refl
same_is (Bool true) (Bool true) is = refl
same_is (Bool false) (Bool false) is = refl
same_is (Int x) (Int y) is = ap Int (int_cmp-IsAntisymmetric x y ((Equal-is (int_cmp x y)).0 is))
same_is (Elem d k) (Elem e l) is = λ i. Elem (eqb→eq d e (subst T (sym (and_first _ _ is)) tt) i) (eqb→eq k l (subst T (sym (and_second _ _ is)) tt) i)
same_is _ _ is = absurd (true≢false (sym is))

-- a slot whose pairs agree with one pair of it has that pair's value, where it has it already or is to get it
agreed : (p : Pair) (qs : List Pair) (s : State) → list_all (λ q. agree p q) qs ≡ true → (get s p.0 ≡ Some p.1) ⊎ (list_any (of_slot p.0) qs ≡ true) → get (put_in s qs) p.0 ≡ Some p.1
agreed p [] s all (inl is) = is
agreed p [] s all (inr some) = absurd (true≢false (sym some))
agreed p (q ∷ qs) s all given =
    agreed p qs (insert s q.0 q.1) (and_second (agree p q) _ all)
    (elim (of_slot p.0 q) as (λ b. of_slot p.0 q ≡ b → (get s p.0 ≡ Some p.1) ⊎ ((b || list_any (of_slot p.0) qs) ≡ true) → (get (insert s q.0 q.1) p.0 ≡ Some p.1) ⊎ (list_any (of_slot p.0) qs ≡ true)) [
      | true ↦ λ is _. inl (get_put s q p.0 ∙ ap (λ b. cond b (Some q.1) (get s p.0)) is ∙ ap Some (sym (same_is p.1 q.1 (sym (ap (λ b. not b || same p.1 q.1) (nat_eq-swap p.0 q.0 ∙ is)) ∙ and_first (agree p q) _ all))))
      | false ↦ λ is given. elim given [
        | inl e ↦ inl (get_put s q p.0 ∙ ap (λ b. cond b (Some q.1) (get s p.0)) is ∙ e)
        | inr e ↦ inr e
      ]
    ] refl given)

found_agrees : (test : Pair → Truth) (all : Pair → Truth) (ps : List Pair) (p : Pair) → find test ps ≡ Some p → list_all all ps ≡ true → (test p ≡ true) × (all p ≡ true) × (list_any test ps ≡ true)
found_agrees test all [] p is each = absurd (cc)
found_agrees test all (q ∷ ps) p is each =
    elim (test q) as (λ b. test q ≡ b → (◌≡◌ {A = Option Pair} (cond b (Some q) (find test ps)) (Some p)) → (test p ≡ true) × (all p ≡ true) × ((b || list_any test ps) ≡ true)) [
      | true ↦ λ passes is. let e : q ≡ p = cc in (ap test (sym e) ∙ passes, ap all (sym e) ∙ and_first (all q) _ each, refl)
      | false ↦ λ _ is. found_agrees test all ps p is (and_second (all q) _ each)
    ] refl is

found_none : (test : Pair → Truth) (ps : List Pair) → find test ps ≡ None → list_any test ps ≡ false
found_none test [] is = refl
found_none test (q ∷ ps) is =
    elim (test q) as (λ b. (◌≡◌ {A = Option Pair} (cond b (Some q) (find test ps)) None) → (b || list_any test ps) ≡ false) [
      | true ↦ λ is. absurd (cc)
      | false ↦ λ is. found_none test ps is
    ] is

abbrev value_of_pair : Pair → Value
value_of_pair p = p.1

-- each slot has the set's value where the set has one, and else what it had
abbrev IsFired : UpdateSet → State → State → Type 0
IsFired u old new = (slot : ℕ) → get new slot ≡ option_or (value_at u slot) (get old slot)

put_in-fired : (ps : List Pair) (s : State) → consistent (of_list ps) ≡ true → IsFired (of_list ps) s (put_in s ps)
put_in-fired ps s agrees slot =
    (elim (find (of_slot slot) ps) as (λ o. find (of_slot slot) ps ≡ o → get (put_in s ps) slot ≡ option_or (option_map value_of_pair o) (get s slot)) [
      | None ↦ λ none. untouched ps s slot (found_none (of_slot slot) ps none)
      | Some p ↦ λ one.
          let f = found_agrees (of_slot slot) (λ p. list_all (λ q. agree p q) ps) ps p one (sym (consistent-list ps) ∙ agrees) in
          let e : p.0 ≡ slot = eqb→eq p.0 slot (subst T (sym f.0) tt) in
          ap (λ l. get (put_in s ps) l) (sym e) ∙ agreed p ps s f.1 (inr (ap (λ l. list_any (of_slot l) ps) e ∙ f.2))
    ] refl)
    ∙ sym (ap (λ o. option_or o (get s slot)) (value_at-list ps slot agrees))

find_any : (test : Pair → Truth) (ps : List Pair) (p : Pair) → find test ps ≡ Some p → list_any test ps ≡ true
find_any test ps p is = (found_agrees test (λ _. true) ps p is (all ps)).2
  where
    all : (ps : List Pair) → list_all (λ _. true) ps ≡ true
    all [] = refl
    all (p ∷ ps) = all ps

has_value : (u : UpdateSet) (slot : ℕ) (v : Value) → value_at u slot ≡ Some v → touches u slot ≡ true
has_value u slot v is =
    elim (find (of_slot slot) (set.items u)) as (λ o. find (of_slot slot) (set.items u) ≡ o → option_map value_of_pair o ≡ Some v → touches u slot ≡ true) [
      | None ↦ λ _ e. absurd (cc e)
      | Some p ↦ λ one _. find_any (of_slot slot) (set.items u) p one
    ] refl is

fired_value : (u : UpdateSet) (s : State) (slot : ℕ) → IsOfSlots u s → option_or (value_at u slot) (get s slot) ≡ option_map (λ v. unwrap_or (value_at u slot) v) (get s slot)
fired_value u s slot of =
    elim (value_at u slot) as (λ o. value_at u slot ≡ o → option_or o (get s slot) ≡ option_map (λ v. unwrap_or o v) (get s slot)) [
      | None ↦ λ _. elim (get s slot) as (λ g. g ≡ option_map (λ (v : Value). v) g) [ None ↦ refl | Some v ↦ refl ]
      | Some w ↦ λ is. elim (get s slot) as (λ g. IsSome g → ◌≡◌ {A = Option Value} (Some w) (option_map (λ (v : Value). w) g)) [
        | None ↦ λ some. absurd (cc some)
        | Some v ↦ λ _. refl
      ] (of slot (has_value u slot w is))
    ] refl

-- a consistent set's pairs, put in one after the other, fire the set
pub put_in-fires : (ps : List Pair) (s : State) → IsOfSlots (of_list ps) s → consistent (of_list ps) ≡ true → put_in s ps ≡ fire s (of_list ps)
put_in-fires ps s of agrees = same_state (put_in s ps) (fire s (of_list ps)) (λ slot.
    put_in-fired ps s agrees slot ∙ fired_value (of_list ps) s slot of
    ∙ sym (get-revised (λ l v. unwrap_or (value_at (of_list ps) l) v) s slot))

-- a slot of which the set has no pair keeps its value
pub put_in-others : (ps : List Pair) (s : State) (slot : ℕ) → touches (of_list ps) slot ≡ false → get (put_in s ps) slot ≡ get s slot
put_in-others ps s slot none = untouched ps s slot (sym (any-items (of_slot slot) ps) ∙ none)

pub have_slots : (ps : List Pair) (s : State) → IsOfSlots (of_list ps) s → HaveSlots ps s
have_slots ps s of k d lt =
    of (get_or ps k d).0 (any-items (of_slot (get_or ps k d).0) ps ∙ any_at_place (of_slot (get_or ps k d).0) ps k d lt (eq-eqb (get_or ps k d).0 (get_or ps k d).0 refl))
