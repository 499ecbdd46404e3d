use Rattle.std.proofs.Common.{◌≡◌, ℕ, Bool as Truth, true, false, ◌||◌, ◌&&◌, not, nat_eq, refl, sym, ap, ◌∙◌, subst, T, eqb→eq, eq-eqb, true≢false, Option, Some, None, [], ◌∷◌}
use Rattle.std.specs.FinMap.{get}
use Rattle.std.specs.FinSet as set
use Rattle.std.specs.Option.{IsSome, option_map, unwrap_or}
use Rattle.asm_domain.specs.declared.value.Value.{Value}
use Rattle.asm_node.specs.Values.{same}
use Rattle.asm_node.specs.UpdateSet.{Pair, UpdateSet, consistent, touches, value_at, fire}
use Rattle.asm_node.specs.Machine.{State}
use Rattle.asm_node.proofs.Revising.{get-revised}
use Rattle.asm_node.proofs.UpdateSets.{of_list, any-items, consistent-list}
use Rattle.asm_update.proofs.Differing.{same_itself}
use Rattle.model_tests.proofs.update_sets.after_update.Goals as goal

one_consistent : (p : Pair) → consistent (of_list (p ∷ [])) ≡ true
one_consistent p =
    let agrees : (not (nat_eq p.0 p.0) || same p.1 p.1) ≡ true = ap (λ b. not b || same p.1 p.1) (eq-eqb p.0 p.0 refl) ∙ same_itself p.1 in
    consistent-list (p ∷ []) ∙ ap (λ b. (b && true) && true) agrees

one_touches : (p : Pair) (l : ℕ) → touches (of_list (p ∷ [])) l ≡ true → p.0 ≡ l
one_touches p l is =
    let here : (nat_eq p.0 l || false) ≡ true = sym (any-items (λ q. nat_eq q.0 l) (p ∷ [])) ∙ is in
    eqb→eq p.0 l (subst T (sym (sym (or_false (nat_eq p.0 l)) ∙ here)) tt)
  where
    or_false : (b : Truth) → (b || false) ≡ b
    or_false true = refl
    or_false false = refl

mapped_some : (f : Value → Value) (o : Option Value) → IsSome o → IsSome (option_map f o)
mapped_some f None some = absurd (cc (some))
mapped_some f (Some v) some = refl

-- a slot of a state is one of the state after it is fired
fired_some : (s t : State) (u : UpdateSet) (l : ℕ) → t ≡ fire s u → IsSome (get s l) → IsSome (get t l)
fired_some s t u l is some =
    subst (λ r. IsSome (get r l)) (sym is) (subst IsSome (sym (get-revised (λ k v. unwrap_or (value_at u k) v) s l)) (mapped_some (λ v. unwrap_or (value_at u l) v) (get s l) some))

pub apply-requires : goal.apply-requires
apply-requires g c =
    let p : Pair = (c.args.slot, c.args.value) in
    let is = c.in_ok-add.ensures.ok ∙ ap (λ u. set.insert u p) c.new-set.ensures in
    record {
      consistent = ap consistent is ∙ one_consistent p;
      slots = λ l touched. subst (λ k. IsSome (get (g.S.Store.state c.args.store.now) k)) (one_touches p l (sym (ap (λ u. touches u l) is) ∙ touched)) c.requires.slot;
    }

pub get-requires : goal.get-requires
get-requires g c = fired_some _ _ _ c.args.slot c.apply.ensures.fired c.requires.slot

pub get-requires-2 : goal.get-requires-2
get-requires-2 g c = fired_some _ _ _ c.args.other c.apply.ensures.fired c.requires.other
