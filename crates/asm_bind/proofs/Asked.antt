-- What settings give are inputs.
use Rattle.std.proofs.Common.{◌≡◌, ◌∙◌, ℕ, cond, Bool as Truth, true, false, ◌&&◌, ◌||◌, not, List, nat_eq, T, eqb→eq, Option, Some, None, slice_get, if◌then◌else◌, refl, sym, ap, subst}
use Rattle.std.specs.Prelude.{IsTrue}
use Rattle.std.specs.Option.{option_map}
use Rattle.std.specs.List.{position}
use Rattle.std.specs.Cmp.{nat_cmp_total, unsigned_tied}
use Rattle.std.specs.FinMap.{get, insert, get-insert, get-empty}
use Rattle.std.specs.Ordering.{nat_cmp}
use Rattle.asm_domain.specs.declared.value.Value.{Value}
use Rattle.asm_domain.specs.declared.value.Value.TheVariants as value
use Rattle.asm_domain.specs.Universe.{Universe, Truths, Numbers, Named}
use Rattle.asm_sign.specs.declared.function.Function.{Function}
use Rattle.asm_sign.specs.declared.function.DeclaredDomain.{DeclaredDomain}
use Rattle.asm_sign.specs.Vocabulary.{function_at}
use Rattle.asm_node.specs.Machine.{Machine, Input, no_input, slot_at, same_name, has_kind, is_shared, is_monitored}
use Rattle.asm_node.specs.Values.{is_element, is_undef}
use Rattle.asm_node.specs.Step.{IsInput, may_have}
use Rattle.asm_node.proofs.Valued.{function_at_slot}
use Rattle.asm_tree.specs.declared.script.RawConstant.{RawConstant}
use Rattle.asm_tree.specs.declared.script.RawConstant.TheVariants as constant
use Rattle.asm_tree.specs.declared.script.RawSet.{RawSet}
use Rattle.asm_bind.specs.Given.{and_then, meant, named, element, elements, is_asked, given, given_to}

-- ---- values that are there

if_some : {A : Type 0} (b : Truth) (o : Option A) (x : A) → (if b then o else None) ≡ Some x → (b ≡ true) × (o ≡ Some x)
if_some true o x e = (refl, e)
if_some false o x e = absurd (cc e)

and_some : {A B : Type 0} (o : Option A) (f : A → Option B) (b : B) → and_then o f ≡ Some b → (a : A) × (o ≡ Some a) × (f a ≡ Some b)
and_some None f b e = absurd (cc e)
and_some (Some a) f b e = (a, refl, e)

map_some : {A B : Type 0} (o : Option A) (f : A → B) (b : B) → option_map f o ≡ Some b → (a : A) × (o ≡ Some a) × (f a ≡ b)
map_some None f b e = absurd (cc e)
map_some (Some a) f b e = (a, refl, (let s : f a ≡ b = cc e in s))

-- ---- no constant is undefined

named_defined : (name : List ℕ) (u : Universe) (v : Value) → named name u ≡ Some v → is_undef v ≡ false
named_defined name (Named number names) v e = let found = map_some (position (same_name name) names) (λ rank. value.Elem number rank) v e in ap is_undef (sym found.2)
named_defined name Truths v e = absurd (cc e)
named_defined name (Numbers numbers) v e = absurd (cc e)

same_some : {A : Type 0} (x y : A) → Some x ≡ Some y → x ≡ y
same_some x y e = cc

meant_defined : (u : Universe) (c : RawConstant) (v : Value) → meant u c ≡ Some v → is_undef v ≡ false
meant_defined u (constant.Int i) v e = ap is_undef (sym (same_some _ v e))
meant_defined u (constant.Truth b) v e = ap is_undef (sym (same_some _ v e))
meant_defined u (constant.Element name) v e = named_defined name.text u v e
meant_defined u (constant.Constant name) v e = named_defined name.text u v e

-- an element that a constant is
element_is : (ds : List DeclaredDomain) (n : ℕ) (c : RawConstant) (v : Value) → element ds n c ≡ Some v → (is_undef v ≡ false) × (is_element ds n v ≡ true)
element_is ds n c v e =
    let declared = and_some (slice_get ds n) _ v e in
    let made = and_some (meant declared.0.domain c) _ v declared.2 in
    let is = if_some (is_element ds n made.0) (Some made.0) v made.2 in
    let same : made.0 ≡ v = same_some made.0 v is.1 in
    (ap is_undef (sym same) ∙ meant_defined declared.0.domain c made.0 made.1, ap (is_element ds n) (sym same) ∙ is.0)

-- ---- a setting gives an element of the codomain to a location of a monitored or shared function

pub record IsGiven (m : Machine) (slot : ℕ) (v : Value) : Type 0 where
  pub is_asked_for : (has_kind is_monitored (function_at m.signature slot) || has_kind is_shared (function_at m.signature slot)) ≡ true
  pub is_value : (not (is_undef v) && may_have m (function_at m.signature slot) v) ≡ true

or_true : (b : Truth) → (b || true) ≡ true
or_true true = refl
or_true false = refl

of_function : (m : Machine) (slot : ℕ) (v : Value) (f : Function) → function_at m.signature slot ≡ Some f → is_asked f ≡ true → is_undef v ≡ false → is_element m.signature.domains f.codomain v ≡ true → IsGiven m slot v
of_function m slot v f at asked defined element = record {
  is_asked_for = ap (λ (o : Option Function). has_kind is_monitored o || has_kind is_shared o) at ∙ asked;
  is_value =
      ap (λ (o : Option Function). not (is_undef v) && may_have m o v) at
      ∙ ap (λ (b : Truth). not b && (b || is_element m.signature.domains f.codomain v)) defined
      ∙ element;
}

to_function : (m : Machine) (set : RawSet) (n : ℕ) (f : Function) (p : ℕ × Value) → slice_get m.signature.functions n ≡ Some f → given_to m.signature set n f ≡ Some p → IsGiven m p.0 p.1
to_function m set n f p at e =
    let asked = if_some (is_asked f) _ p e in
    let arguments = and_some (elements m.signature.domains f.domains set.arguments) _ p asked.1 in
    let made = and_some (element m.signature.domains f.codomain set.value) _ p arguments.2 in
    let placed = map_some {A = ℕ} {B = ℕ × Value} (slot_at m.signature n arguments.0) (λ slot. (slot, made.0)) p made.2 in
    let is = element_is m.signature.domains f.codomain set.value made.0 made.1 in
    subst (λ (q : ℕ × Value). IsGiven m q.0 q.1) placed.2
    (of_function m placed.0 made.0 f (function_at_slot m n arguments.0 placed.0 placed.1 ∙ at) asked.0 is.0 is.1)

pub given_is : (m : Machine) (set : RawSet) (p : ℕ × Value) → given m.signature set ≡ Some p → IsGiven m p.0 p.1
given_is m set p e =
    let place = and_some (position (λ (f : Function). same_name set.name.text f.name) m.signature.functions) _ p e in
    let function = and_some (slice_get m.signature.functions place.0) _ p place.2 in
    to_function m set place.0 function.0 p function.1 function.2

-- ---- inputs

never : {A : Type 0} (x : A) → None ≡ Some x → ⊥
never x e = cc

pub nothing_is_input : (m : Machine) → IsInput m no_input
nothing_is_input m = record {
  is_asked = λ l v e. absurd (never v (sym (get-empty {X = Value} nat_cmp l) ∙ e));
  may_give = λ l v e. absurd (never v (sym (get-empty {X = Value} nat_cmp l) ∙ e));
}

-- an input with one more value is one
pub more_is_input : (m : Machine) (i : Input) (slot : ℕ) (v : Value) → IsInput m i → IsGiven m slot v → IsInput m (insert i slot v)
more_is_input m i slot v is_input is_given = record {
  is_asked = λ q u is. elim (nat_eq q slot) as (λ b. nat_eq q slot ≡ b → cond b (Some v) (get i q) ≡ Some u → IsTrue (has_kind is_monitored (function_at m.signature q) || has_kind is_shared (function_at m.signature q))) [
    | true ↦ λ at e. ap (λ k. has_kind is_monitored (function_at m.signature k) || has_kind is_shared (function_at m.signature k)) (eqb→eq q slot (subst T (sym at) tt)) ∙ is_given.is_asked_for
    | false ↦ λ _ e. is_input.is_asked q u e
  ] refl (sym (put-at q) ∙ is);
  may_give = λ q u is. elim (nat_eq q slot) as (λ b. nat_eq q slot ≡ b → cond b (Some v) (get i q) ≡ Some u → IsTrue (not (is_undef u) && may_have m (function_at m.signature q) u)) [
    | true ↦ λ at e. subst (λ x. IsTrue (not (is_undef x) && may_have m (function_at m.signature q) x)) (let w : v ≡ u = cc e in w) (ap (λ k. not (is_undef v) && may_have m (function_at m.signature k) v) (eqb→eq q slot (subst T (sym at) tt)) ∙ is_given.is_value)
    | false ↦ λ _ e. is_input.may_give q u e
  ] refl (sym (put-at q) ∙ is);
}
  where
    put-at : (q : ℕ) → get (insert i slot v) q ≡ cond (nat_eq q slot) (Some v) (get i q)
    put-at q = get-insert nat_cmp_total i slot v q ∙ ap (λ b. cond b (Some v) (get i q)) (unsigned_tied q slot)
