-- In a well-formed model the tuples of binders and the values of a location differ, and each monitored location can be given a value.
use Rattle.std.proofs.Common.{◌≡◌, ℕ, suc, zero, ◌+◌, ◌*◌, ◌<◌, Bool as Truth, true, false, not, ◌&&◌, ◌||◌, cond, List, [], ◌∷◌, length, Option, Some, None, nat_eq, get_or, slice_get, IsTrue, refl, sym, ap, subst, ◌∙◌, arith}
use Rattle.std.specs.Prelude.{map}
use Rattle.std.specs.List.{list_any}
use Rattle.std.proofs.lemmas.Bool.Decides.{nat_tests}
use Rattle.std.proofs.lemmas.Option.{slice_get-get_or}
use Rattle.asm_domain.specs.declared.value.Value.{Value}
use Rattle.asm_domain.specs.declared.value.Value.TheVariants.{Undef}
use Rattle.asm_domain.specs.Universe.{Universe, Truths, Numbers, Named, AreDistinct, elements}
use Rattle.asm_domain.proofs.Elements.{in_truths, in_numbers, in_named}
use Rattle.asm_sign.specs.Arguments.{elements_at, elements_of}
use Rattle.asm_sign.specs.declared.function.DeclaredDomain.{DeclaredDomain}
use Rattle.asm_sign.specs.declared.function.Function.{Function}
use Rattle.asm_sign.specs.declared.function.FunKind.{FunKind}
use Rattle.asm_sign.specs.declared.function.FunKind.TheVariants.{Static, Derived, Controlled, Shared, Monitored, Out}
use Rattle.asm_sign.specs.Kind.{is_dynamic}
use Rattle.asm_sign.specs.Tuples.{tuples}
use Rattle.asm_sign.specs.Vocabulary.{IsDeclared, function_at, function_of, locations}
use Rattle.asm_sign.proofs.TupleLemmas.{Splits, in_tuples}
use Rattle.asm_node.specs.declared.term.Binder.{Binder}
use Rattle.asm_node.specs.Machine.{Machine, has_kind, is_monitored}
use Rattle.asm_node.specs.Step.{may_have}
use Rattle.asm_node.specs.UpdateSet.{ranked_values}
use Rattle.asm_node.specs.Values.{is_element, is_undef, is_whole, same, whole}
use Rattle.asm_node.specs.WellFormed.{IsWellFormed}
use Rattle.asm_node.proofs.Elements.{any_at}
use Rattle.asm_laws.specs.Choosing.{TuplesDiffer}
use Rattle.asm_laws.specs.Full.{CanBeGiven}

no_some : {A : Type 0} (x : A) → None ≡ Some x → ⊥
no_some x e = cc e

none_twice : {A : Type 0} → AreDistinct {A = A} []
none_twice = record { one_place = λ i j x is js. absurd (no_some x is) }

-- one item alone
one_alone : {A : Type 0} (x : A) → AreDistinct (x ∷ [])
one_alone {A} x = record { one_place = one }
  where
    one : (i j : ℕ) (y : A) → slice_get (x ∷ []) i ≡ Some y → slice_get (x ∷ []) j ≡ Some y → i ≡ j
    one zero zero y is js = refl
    one zero (suc j) y is js = absurd (no_some y js)
    one (suc i) j y is js = absurd (no_some y is)

-- no element is `undef`
defined : (u : Universe) (k : ℕ) (v : Value) → slice_get (elements u) k ≡ Some v → is_undef v ≡ false
defined Truths k v at = ap is_undef (in_truths k v at).1
defined (Numbers numbers) k v at = ap is_undef (in_numbers numbers k v at).1
defined (Named number names) k v at = ap is_undef (in_named number names k v at).1

module _ (m : Machine) (well : IsWellFormed m) where
  abbrev domains : List DeclaredDomain
  domains = m.signature.domains

  distinct_at : (d : ℕ) → AreDistinct (elements_at domains d)
  distinct_at d = by (slice_get domains d) refl
    where
      by : (o : Option DeclaredDomain) → slice_get domains d ≡ o → AreDistinct (elements_of o)
      by None at = none_twice
      by (Some declared) at = (well.declarations.have_elements d declared at).distinct

  defined_at : (d k : ℕ) (v : Value) → slice_get (elements_at domains d) k ≡ Some v → is_undef v ≡ false
  defined_at d k v = by (slice_get domains d)
    where
      by : (o : Option DeclaredDomain) → slice_get (elements_of o) k ≡ Some v → is_undef v ≡ false
      by None at = absurd (no_some v at)
      by (Some declared) at = defined declared.domain k v at

  -- no tuple of binders stands twice
  pub tuples_differ : TuplesDiffer m
  tuples_differ [] = one_alone []
  tuples_differ (b ∷ bs) = record { one_place = λ i j u is js. one i j u (in_tuples xs xss i u is) (in_tuples xs xss j u js) (tuples_differ bs) }
    where
      xs : List Value
      xs = elements_at domains b.domain

      xss : List (List Value)
      xss = map (λ (c : Binder). elements_at domains c.domain) bs

      one : (i j : ℕ) (u : List Value) → Splits xs xss i u → Splits xs xss j u → AreDistinct (tuples xss) → i ≡ j
      one i j u p q others =
          (let both : p.item ∷ p.others ≡ q.item ∷ q.others = sym p.tuple_is ∙ q.tuple_is in
          let first : p.item ≡ q.item = cc both in
          let later : p.others ≡ q.others = cc both in
          let rank = (distinct_at b.domain).one_place p.rank q.rank p.item p.item_is (q.item_is ∙ ap (λ (v : Value). Some v) (sym first)) in
          let rest = others.one_place p.rest q.rest p.others p.others_are (q.others_are ∙ ap (λ (vs : List Value). Some vs) (sym later)) in
          p.place_is ∙ (λ k. rank k * length (tuples xss) + rest k) ∙ sym q.place_is)

  -- no value of a location is listed twice
  pub values_differ : (l : ℕ) → AreDistinct (ranked_values m.signature (function_at m.signature l))
  values_differ l = by (function_at m.signature l)
    where
      beside : (f : Function) (i j : ℕ) (v : Value) → slice_get (Undef ∷ elements_at domains f.codomain) i ≡ Some v → slice_get (Undef ∷ elements_at domains f.codomain) j ≡ Some v → i ≡ j
      beside f zero zero v is js = refl
      beside f zero (suc j) v is js = absurd (let e : Undef ≡ v = cc is in let d : is_undef Undef ≡ false = ap is_undef e ∙ defined_at f.codomain j v js in cc d)
      beside f (suc i) zero v is js = absurd (let e : Undef ≡ v = cc js in let d : is_undef Undef ≡ false = ap is_undef e ∙ defined_at f.codomain i v is in cc d)
      beside f (suc i) (suc j) v is js = ap suc ((distinct_at f.codomain).one_place i j v is js)

      by : (o : Option Function) → AreDistinct (ranked_values m.signature o)
      by None = one_alone Undef
      by (Some f) = record { one_place = beside f }

  -- ---- monitored locations

  dynamic : (kind : FunKind) → is_monitored kind ≡ true → is_dynamic kind ≡ true
  dynamic Static is = absurd (cc is)
  dynamic Derived is = absurd (cc is)
  dynamic Controlled is = absurd (cc is)
  dynamic Out is = absurd (cc is)
  dynamic Shared is = absurd (cc is)
  dynamic Monitored is = refl

  item_of : {A : Type 0} (P : A → Type 0) (xs : List A) (k : ℕ) (x : A) → ((j : ℕ) (d : A) → j < length xs → P (get_or xs j d)) → slice_get xs k ≡ Some x → P x
  item_of P [] k x all is = absurd (no_some x is)
  item_of {A} P (y ∷ xs) zero x all is = subst P (let e : y ≡ x = cc is in e) (all 0 y (omega arith))
  item_of {A} P (y ∷ xs) (suc k) x all is = item_of P xs k x (λ j d lt. all (suc j) d (omega (arith, lt))) is

  first_of : (f : Function) → f.codomain < length domains → (v : Value) × IsTrue (not (is_undef v) && (is_undef v || is_element domains f.codomain v))
  first_of f lt = (v, of (is_undef v) (is_element domains f.codomain v) (defined declared.domain 0 v first) element)
    where
      declared : DeclaredDomain
      declared = get_or domains f.codomain well.declarations.truths

      at : slice_get domains f.codomain ≡ Some declared
      at = slice_get-get_or domains f.codomain well.declarations.truths lt

      v : Value
      v = get_or (elements declared.domain) 0 Undef

      first : slice_get (elements declared.domain) 0 ≡ Some v
      first = slice_get-get_or (elements declared.domain) 0 Undef (well.declarations.have_elements f.codomain declared at).some

      small : nat_eq f.codomain whole ≡ false
      small = (let few = well.few_domains in grind (arith, nat_tests, lt, few))

      element : is_element domains f.codomain v ≡ true
      element = ap (λ (b : Truth). cond b (is_whole v) (list_any (λ w. same w v) (elements_at domains f.codomain))) small ∙ any_at v (elements_at domains f.codomain) 0 (ap (λ (o : Option DeclaredDomain). slice_get (elements_of o) 0) at ∙ first)

      of : (a b : Truth) → a ≡ false → b ≡ true → IsTrue (not a && (a || b))
      of false true e d = refl
      of false false e d = absurd (cc d)
      of true b e d = absurd (cc e)

  -- the codomain of each monitored location has an element
  pub can_be_given : CanBeGiven m
  can_be_given l is = by (function_at m.signature l) is (located (slice_get (locations m.signature) l))
    where
      located : (o : Option (ℕ × List Value)) (f : Function) → function_of m.signature o ≡ Some f → IsDeclared domains f
      located None f at = absurd (no_some f at)
      located (Some location) f at = item_of (IsDeclared domains) m.signature.functions location.0 f well.functions at

      by : (o : Option Function) → IsTrue (has_kind is_monitored o) → ((f : Function) → o ≡ Some f → IsDeclared domains f) → (v : Value) × IsTrue (not (is_undef v) && may_have m o v)
      by None is declared = absurd (cc is)
      by (Some f) is declared = first_of f ((declared f refl).codomain (dynamic f.kind is))
