-- What the group of a location means in the world that groups stand for.
use Rattle.std.proofs.Common.{◌≡◌, ℕ, zero, suc, ◌+◌, ◌<◌, Bool, true, false, not, ◌||◌, if◌then◌else◌, List, [], ◌∷◌, ◌++◌, length, slice_get, Option, Some, None, is_none, refl, sym, ap, ◌∙◌, subst, arith, inl, inr}
use Rattle.std.specs.List.{list_any}
use Rattle.cnf_gate.specs.Built.{Built}
use Rattle.asm_domain.specs.declared.value.Value.{Value}
use Rattle.asm_domain.specs.declared.value.Value.TheVariants.{Undef}
use Rattle.asm_domain.specs.Universe.{IsRank}
use Rattle.asm_sign.specs.Vocabulary.{locations, function_at}
use Rattle.asm_sign.specs.declared.function.FunKind.{FunKind}
use Rattle.asm_sign.specs.declared.function.Function.{Function}
use Rattle.asm_sign.specs.Arguments.{elements_at}
use Rattle.asm_sign.specs.Kind.{is_kept}
use Rattle.asm_node.specs.Values.{are_arguments}
use Rattle.asm_node.specs.Machine.{Machine, slot_at}
use Rattle.asm_node.specs.Term.{World, Gives, state_value, input_value}
use Rattle.asm_node.proofs.Slots.{slot_is}
use Rattle.asm_node.proofs.Valued.{function_at_slot}
use Rattle.asm_eval.proofs.Locations.{absent_value}
use Rattle.enc_group.specs.declared.group.Entry.{Entry}
use Rattle.enc_group.specs.Group.{Means, values_in, are_distinct, group_variables}
use Rattle.enc_group.specs.Binding.{group_at}
use Rattle.enc_term.specs.declared.bits.Bits.{Bits}
use Rattle.enc_term.specs.Bits.{Stands, AreBits, version_groups, slots}
use Rattle.enc_term.specs.Can.{Has, dynamic_can, is_bad, undef_if}
use Rattle.enc_term.specs.Cycle.{IsGroupOf}
use Rattle.enc_term.proofs.Members.{has_first, has_second}

pub below : {A : Type 0} (xs : List A) (k : ℕ) (x : A) → slice_get xs k ≡ Some x → k < length xs
below [] k x h = absurd (cc h)
below (y ∷ xs) zero x h = omega arith
below (y ∷ xs) (suc k) x h = omega (arith, below xs k x h)

pub slot_below : (m : Machine) (f : ℕ) (vs : List Value) (slot : ℕ) → IsRank (locations m.signature) (f, vs) (Some slot) → slot < slots m
slot_below m f vs slot is = below (locations m.signature) slot (f, vs) (is.found slot refl)

module _ (v : ℕ → Bool) (m : Machine) (bits : Bits) (n : ℕ) (w : World) (s : Stands v m bits n w) (f : ℕ) (vs : List Value) (kind : FunKind) where
  at_slot : (rank : Option ℕ) → IsRank (locations m.signature) (f, vs) rank → slot_at w.machine.signature f vs ≡ rank
  at_slot rank is = ap (λ (x : Machine). slot_at x.signature f vs) s.machine ∙ slot_is m.signature f vs rank is

  pub kept_means : (slot : ℕ) (es : List Entry) → IsRank (locations m.signature) (f, vs) (Some slot) → is_kept kind ≡ true → es ≡ group_at (version_groups bits n) slot
      → Means v es (if is_kept kind then state_value w (slot_at w.machine.signature f vs) else input_value w (slot_at w.machine.signature f vs))
  kept_means slot es rank kept is =
      subst (λ o. Means v es o) (sym (ap (λ b. if b then state_value w (slot_at w.machine.signature f vs) else input_value w (slot_at w.machine.signature f vs)) kept ∙ ap (state_value w) (at_slot (Some slot) rank)))
      (subst (λ es. Means v es (state_value w (Some slot))) (sym is) (s.state slot (slot_below m f vs slot rank)))

  pub asked_means : (slot : ℕ) (es : List Entry) → IsRank (locations m.signature) (f, vs) (Some slot) → is_kept kind ≡ false → es ≡ group_at bits.inputs slot
      → Means v es (if is_kept kind then state_value w (slot_at w.machine.signature f vs) else input_value w (slot_at w.machine.signature f vs))
  asked_means slot es rank asked is =
      subst (λ o. Means v es o) (sym (ap (λ b. if b then state_value w (slot_at w.machine.signature f vs) else input_value w (slot_at w.machine.signature f vs)) asked ∙ ap (input_value w) (at_slot (Some slot) rank)))
      (subst (λ es. Means v es (input_value w (Some slot))) (sym is) (s.input slot (slot_below m f vs slot rank)))

  pub absent_means : (es : List Entry) → IsRank (locations m.signature) (f, vs) None → Means v es (Gives Undef)
      → Means v es (if is_kept kind then state_value w (slot_at w.machine.signature f vs) else input_value w (slot_at w.machine.signature f vs))
  absent_means es rank is = subst (λ o. Means v es o) (sym (absent_value w kind (slot_at w.machine.signature f vs) (at_slot None rank))) is

-- ---- the values of the group

pub any_has : {A : Type 0} (p : A → Bool) (xs : List A) (x : A) → Has xs x → p x ≡ true → list_any p xs ≡ true
any_has p [] x h t = elim h [ ]
any_has p (y ∷ xs) x (inl is) t = ap (λ b. b || list_any p xs) (ap p is ∙ t)
any_has p (y ∷ xs) x (inr h) t = or_true (p y) (list_any p xs) (any_has p xs x h t)
  where
    or_true : (a b : Bool) → b ≡ true → a || b ≡ true
    or_true true b t = refl
    or_true false b t = t

or_first : (a b : Bool) → a ≡ true → a || b ≡ true
or_first a b t = ap (λ c. c || b) t

or_second : (a b : Bool) → b ≡ true → a || b ≡ true
or_second true b t = refl
or_second false b t = t

undef_there : (b : Bool) → b ≡ true → Has (undef_if b) Undef
undef_there b t = subst (λ c. Has (undef_if c) Undef) (sym t) (inl refl)

module _ (b : Built) (m : Machine) (bits : Bits) (n : ℕ) (are : AreBits b m bits n) (f : ℕ) (function : Function) (vs : List Value) (vss : List (List Value)) (at : Has vss vs) where
  function_there : (slot : ℕ) → IsRank (locations m.signature) (f, vs) (Some slot) → slice_get m.signature.functions f ≡ Some function → function_at m.signature slot ≡ Some function
  function_there slot rank is = function_at_slot m f vs slot (slot_is m.signature f vs (Some slot) rank) ∙ is

  pub kept_group : (slot : ℕ) (es : List Entry) → IsRank (locations m.signature) (f, vs) (Some slot) → slice_get m.signature.functions f ≡ Some function → is_kept function.kind ≡ true → es ≡ group_at (version_groups bits n) slot
      → IsGroupOf b (dynamic_can m.signature f function vss) es
  kept_group slot es rank is kept same =
      subst (IsGroupOf b (dynamic_can m.signature f function vss)) (sym same) (record {
        within = are.states_within slot;
        distinct = are.states_distinct slot;
        among = λ x h.
            subst (λ c. Has (elements_at m.signature.domains function.codomain ++ undef_if c) x) (sym (or_first (is_kept function.kind) (list_any (is_bad m.signature f function) vss) kept))
            (are.states_among slot function (function_there slot rank is) x h);
      })

  pub asked_group : (slot : ℕ) (es : List Entry) → IsRank (locations m.signature) (f, vs) (Some slot) → slice_get m.signature.functions f ≡ Some function → es ≡ group_at bits.inputs slot
      → IsGroupOf b (dynamic_can m.signature f function vss) es
  asked_group slot es rank is same =
      subst (IsGroupOf b (dynamic_can m.signature f function vss)) (sym same) (record {
        within = are.inputs_within slot;
        distinct = are.inputs_distinct slot;
        among = λ x h. has_first (elements_at m.signature.domains function.codomain) _ x (are.inputs_among slot function (function_there slot rank is) x h);
      })

  undef_group : (es : List Entry) → values_in es ≡ Undef ∷ [] → group_variables es ≡ bits.always.var + 1 → is_bad m.signature f function vs ≡ true → IsGroupOf b (dynamic_can m.signature f function vss) es
  undef_group es values low bad = record {
    within = let under = are.always_within in omega (arith, low, under);
    distinct = ap (λ xs. are_distinct xs) values;
    among = λ x h.
        let is : Has (Undef ∷ []) x = subst (λ xs. Has xs x) values h in
        has_second (elements_at m.signature.domains function.codomain) (undef_if (is_kept function.kind || list_any (is_bad m.signature f function) vss)) x
        (elim is as (λ _. Has (undef_if (is_kept function.kind || list_any (is_bad m.signature f function) vss)) x) [
          | inl e ↦ subst (Has (undef_if (is_kept function.kind || list_any (is_bad m.signature f function) vss))) e (undef_there _ (or_second (is_kept function.kind) _ (any_has (is_bad m.signature f function) vss vs at bad)))
          | inr empty ↦ absurd empty
        ]);
  }

  pub absent_group : (es : List Entry) → IsRank (locations m.signature) (f, vs) None → values_in es ≡ Undef ∷ [] → group_variables es ≡ bits.always.var + 1 → IsGroupOf b (dynamic_can m.signature f function vss) es
  absent_group es rank values low =
      undef_group es values low (or_second (not (are_arguments m.signature.domains function.domains vs)) (is_none (slot_at m.signature f vs)) (ap is_none (slot_is m.signature f vs None rank)))

  pub bad_group : (es : List Entry) → are_arguments m.signature.domains function.domains vs ≡ false → values_in es ≡ Undef ∷ [] → group_variables es ≡ bits.always.var + 1 → IsGroupOf b (dynamic_can m.signature f function vss) es
  bad_group es bad values low = undef_group es values low (ap (λ c. not c || is_none (slot_at m.signature f vs)) bad)
