-- The domains of a model and the parameters of its rules have types, whatever files it was made of.
use Rattle.std.proofs.Common.{◌≡◌, ℕ, suc, zero, ◌<◌, Bool as Truth, true, false, List, [], ◌∷◌, length, Option, Some, None, nat_eq, cond, slice_get, slice_index_or, IsSome, All, refl, sym, ap, subst, ◌∙◌, arith}
use Rattle.std.specs.Prelude.{map}
use Rattle.std.specs.List.{find}
use Rattle.std.specs.Option.{is_some, option_map, unwrap_or}
use Rattle.std.proofs.Math.Logic.{∥∥₁_elim}
use Rattle.std.proofs.Props.{props}
use Rattle.std.proofs.lemmas.Bool.{eqb-true as same_number}
use Rattle.std.proofs.lemmas.Option.{slice_get-get_or}
use Rattle.asm_domain.specs.declared.value.Value.TheVariants.{Undef}
use Rattle.asm_sign.specs.declared.function.DeclaredDomain.{DeclaredDomain}
use Rattle.asm_sign.specs.declared.function.Function.{Function}
use Rattle.asm_sign.specs.Kind.{is_dynamic}
use Rattle.asm_sign.specs.Vocabulary.{Vocabulary, IsDeclared}
use Rattle.asm_node.specs.declared.model.Model.{Model}
use Rattle.asm_node.specs.declared.term.Binder.{Binder}
use Rattle.asm_node.specs.declared.term_type.TermType.{TermType}
use Rattle.asm_node.specs.Machine.{Machine, Definition, Macro, constant_of, definition_of, element_named}
use Rattle.asm_node.specs.Model.{machine_of}
use Rattle.asm_node.specs.Types.{domain_type}
use Rattle.asm_node.specs.WellFormed.{IsDefinition, IsMacro, IsWellFormed, is_defined, may_read}
use Rattle.asm_sound.proofs.Heads.{some_is}
use Rattle.asm_sound.proofs.Inductions.{Every}
use Rattle.asm_sound.proofs.Scopes.{HasTruths, typed_by}
use Rattle.asm_sound.proofs.TypedTerms.{IsReady, Typed, no_some}

-- what the conditions and rules of a scenario rest on: domains have types, also those of functions and of the parameters of rules
pub record IsKept (m : Machine) : Type 0 where
  pub ready : IsReady m.signature
  pub parameters : (k : ℕ) (macro : Macro) → slice_get m.rules k ≡ Some macro → Every (Typed m.signature) (map (λ (p : Binder). p.domain) macro.parameters)

-- ---- lists

item_of : {A : Type 0} (P : A → Type 0) (xs : List A) (k : ℕ) (x : A) → All P xs → slice_get xs k ≡ Some x → P x
item_of P [] k x all is = absurd (no_some x is)
item_of P (y ∷ xs) zero x all is = subst P (some_is y x is) (all 0 y (omega arith))
item_of P (y ∷ xs) (suc k) x all is = item_of P xs k x (λ j d lt. all (suc j) d (omega (arith, lt))) is

-- the first item that passes does pass, and has a place
record Found {A : Type 0} (test : A → Truth) (xs : List A) (x : A) : Type 0 where
  place : ℕ
  is_item : slice_get xs place ≡ Some x
  passes : test x ≡ true

found : {A : Type 0} (test : A → Truth) (xs : List A) (x : A) → find test xs ≡ Some x → Found test xs x
found test [] x is = absurd (no_some x is)
found {A} test (y ∷ xs) x is = by (test y) refl is (λ e. found test xs x e)
  where
    by : (b : Truth) → test y ≡ b → cond b (Some y) (find test xs) ≡ Some x → (find test xs ≡ Some x → Found test xs x) → Found test (y ∷ xs) x
    by true passes is later = record { place = 0; is_item = is; passes = ap test (sym (some_is y x is)) ∙ passes }
    by false passes is later = (let f = later is in record { place = suc f.place; is_item = f.is_item; passes = f.passes })

-- ---- types

known_type : (o : Option TermType) → is_some o ≡ true → (r : TermType) × (o ≡ Some r)
known_type None e = absurd (cc e)
known_type (Some r) e = (r, refl)

module _ (v : Vocabulary) where
  typed : (d : ℕ) → is_some (domain_type v.domains d) ≡ true → Typed v d
  typed d e = known_type (domain_type v.domains d) e

  some_typed : (d : ℕ) (declared : DeclaredDomain) → slice_get v.domains d ≡ Some declared → is_some (domain_type v.domains d) ≡ true
  some_typed d declared is = ap is_some (typed_by v.domains d declared is).1

  first_is : is_some (slice_get v.domains 0) ≡ true → HasTruths v
  first_is e = by (slice_get v.domains 0) refl e
    where
      by : (o : Option DeclaredDomain) → slice_get v.domains 0 ≡ o → is_some o ≡ true → HasTruths v
      by None is e = absurd (cc e)
      by (Some d) is e = record { first = d; is_first = is }

  typed_each : (ds : List ℕ) → All (λ (d : ℕ). is_some (domain_type v.domains d) ≡ true) ds → Every (Typed v) ds
  typed_each [] all = tt
  typed_each (d ∷ ds) all = (typed d (all 0 d (omega arith)), typed_each ds (λ k e lt. all (suc k) e (omega (arith, lt))))

  typed_binders : (bs : List Binder) → All (λ (b : Binder). IsSome (domain_type v.domains b.domain)) bs → Every (Typed v) (map (λ (b : Binder). b.domain) bs)
  typed_binders [] all = tt
  typed_binders (b ∷ bs) all = (typed b.domain (all 0 b (omega arith)), typed_binders bs (λ k c lt. all (suc k) c (omega (arith, lt))))

-- ---- a well-formed machine

module _ (m : Machine) (well : IsWellFormed m) where
  abbrev v : Vocabulary
  v = m.signature

  below_typed : (d : ℕ) → d < length v.domains → is_some (domain_type v.domains d) ≡ true
  below_typed d lt = some_typed v d _ (slice_get-get_or v.domains d well.declarations.truths lt)

  declared : (f : ℕ) (g : Function) → slice_get v.functions f ≡ Some g → IsDeclared v.domains g
  declared f g is = item_of (IsDeclared v.domains) v.functions f g well.functions is

  -- a constant has its value in a declared domain
  constant_typed : (g : Function) → ¬ (constant_of v.domains g ≡ Undef) → is_some (domain_type v.domains g.codomain) ≡ true
  constant_typed g some = by (slice_get v.domains g.codomain) refl
    where
      by : (o : Option DeclaredDomain) → slice_get v.domains g.codomain ≡ o → is_some (domain_type v.domains g.codomain) ≡ true
      by None is = absurd (some (ap (λ (o : Option DeclaredDomain). unwrap_or (option_map (λ d. element_named g.name d.domain) o) Undef) is))
      by (Some d) is = some_typed v g.codomain d is

  defined_typed : (f : ℕ) (g : Function) → slice_get v.functions f ≡ Some g → (d : Definition) → definition_of m.definitions f ≡ Some d → is_some (domain_type v.domains g.codomain) ≡ true
  defined_typed f g is d of =
      let at = found (λ (d : Definition). nat_eq d.function f) m.definitions d of in
      let own = item_of (IsDefinition m is_defined may_read) m.definitions at.place d well.definitions at.is_item in
      let same : own.function ≡ g = some_is own.function g (sym own.is_function ∙ ap (slice_get v.functions) (same_number d.function f at.passes) ∙ is) in
      ap (λ (h : Function). is_some (domain_type v.domains h.codomain)) (sym same) ∙ ap is_some own.is_type

  codomain_typed : (f : ℕ) (g : Function) → slice_get v.functions f ≡ Some g → is_some (domain_type v.domains g.codomain) ≡ true
  codomain_typed f g is = by (is_dynamic g.kind) refl (definition_of m.definitions f) refl
    where
      by : (b : Truth) → is_dynamic g.kind ≡ b → (o : Option Definition) → definition_of m.definitions f ≡ o → is_some (domain_type v.domains g.codomain) ≡ true
      by true dynamic o of = below_typed g.codomain ((declared f g is).codomain dynamic)
      by false static (Some d) of = defined_typed f g is d of
      by false static None of = constant_typed g (well.defined f g is static of)

  argument_typed : (f : ℕ) (g : Function) → slice_get v.functions f ≡ Some g → (k d : ℕ) → k < length g.domains → is_some (domain_type v.domains (slice_index_or g.domains k d)) ≡ true
  argument_typed f g is k d lt = below_typed (slice_index_or g.domains k d) ((declared f g is).declared k d lt)

  parameter_typed : (k : ℕ) (macro : Macro) → slice_get m.rules k ≡ Some macro → (j : ℕ) (b : Binder) → j < length macro.parameters → is_some (domain_type v.domains (slice_index_or macro.parameters j b).domain) ≡ true
  parameter_typed k macro is j b lt = (item_of (IsMacro m) m.rules k macro well.rules is).declared j b lt

-- ---- every model

module _ (model : Model) where
  abbrev held : Machine
  held = machine_of model

  ready : IsReady held.signature
  ready = record {
    truths = first_is held.signature (∥∥₁_elim model.well_formed (hlevel props) (λ well. ap is_some well.declarations.are_first));
    few = ∥∥₁_elim model.well_formed (hlevel props) (λ well. well.few_domains);
    numbered = record { number_is = λ k number names d at is. ∥∥₁_elim model.well_formed (hlevel props) (λ well. well.declarations.numbered.number_is k number names d at is) };
    arguments = λ f g is. typed_each held.signature g.domains (λ k d lt. ∥∥₁_elim model.well_formed (hlevel props) (λ well. argument_typed held well f g is k d lt));
    results = λ f g is. typed held.signature g.codomain (∥∥₁_elim model.well_formed (hlevel props) (λ well. codomain_typed held well f g is));
  }

  pub kept : IsKept held
  kept = record {
    ready = ready;
    parameters = λ k macro is. typed_binders held.signature macro.parameters (λ j b lt. ∥∥₁_elim model.well_formed (hlevel props) (λ well. parameter_typed held well k macro is j b lt));
  }
