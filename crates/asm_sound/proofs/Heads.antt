-- The heads of rules and the macro rules of a model belong together, and what is known of each item of a list.
use Rattle.std.proofs.Common.{◌≡◌, ℕ, suc, zero, Bool as Truth, true, false, cond, List, [], ◌∷◌, length, Option, Some, None, if◌then◌else◌, slice_get, IsSome, All, refl, sym, ap, ◌∙◌, arith}
use Rattle.std.specs.Prelude.{map, bytes_eq}
use Rattle.std.specs.List.{flat_map, find, position, position_or_len}
use Rattle.std.specs.Option.{unwrap_or, option_map, is_some}
use Rattle.std.proofs.lemmas.Bool.{lt-ltb}
use Rattle.std.proofs.lemmas.List.Folds.{find_at}
use Rattle.std.proofs.lemmas.Option.{slice_get_within, slice_get-map}
use Rattle.asm_sign.specs.Vocabulary.{Vocabulary}
use Rattle.asm_node.specs.declared.term.Binder.{Binder}
use Rattle.asm_node.specs.Types.{domain_type}
use Rattle.asm_tree.specs.declared.term.RawBinder.{RawBinder}
use Rattle.asm_tree.specs.declared.unit.LoadedUnit.{LoadedUnit}
use Rattle.asm_faults.specs.declared.fault.Fault.{Fault}
use Rattle.asm_faults.specs.At.{Name}
use Rattle.asm_faults.specs.DomainFaults.{repeats}
use Rattle.asm_faults.specs.Files.{DeclaredRule, has_name, rules}
use Rattle.asm_faults.specs.FunctionFaults.{unknown_domain}
use Rattle.asm_faults.specs.Terms.{type_named, binder_faults, within, variables_of}
use Rattle.asm_faults.specs.Bodies.{RuleHead, head_of, heads_of, head_named, macro_faults, rule_faults}
use Rattle.asm_faults.specs.Model.{binders_of, macro_of}
use Rattle.asm_sound.proofs.Inductions.{Every}
use Rattle.asm_sound.proofs.Scopes.{none_left, none_right, HasTruths, same_type_named, typed_domain}
use Rattle.asm_sound.proofs.TypedTerms.{Typed, no_some}
use Rattle.asm_sound.proofs.TypedRules.{HasMacro, Belong}

-- ---- lists

-- where nothing is wrong in a list, nothing is wrong with an item
pub none_at : {A B : Type 0} (f : A → List B) (xs : List A) (k : ℕ) (x : A) → flat_map f xs ≡ [] → slice_get xs k ≡ Some x → f x ≡ []
none_at f [] k x none is = absurd (no_some x is)
none_at f (y ∷ xs) zero x none is = let same : y ≡ x = ap (λ (o : Option _). unwrap_or o y) is in ap f (sym same) ∙ none_left (f y) (flat_map f xs) none
none_at f (y ∷ xs) (suc k) x none is = none_at f xs k x (none_right (f y) (flat_map f xs) none) is

-- what holds of each item that is found holds of all
pub all_found : {A : Type 0} (P : A → Type 0) (xs : List A) → ((k : ℕ) (x : A) → slice_get xs k ≡ Some x → P x) → All P xs
all_found P [] f k d lt = absurd (omega (arith, lt))
all_found P (x ∷ xs) f zero d lt = f 0 x refl
all_found P (x ∷ xs) f (suc k) d lt = all_found P xs (λ i y is. f (suc i) y is) k d (omega (arith, lt))

-- the first item that passes has the first place that does
pub find_place : {A : Type 0} (test : A → Truth) (xs : List A) (x : A) → find test xs ≡ Some x → (k : ℕ) × (position test xs ≡ Some k) × (slice_get xs k ≡ Some x)
find_place test xs x e =
    let at = sym (find_at test xs) ∙ e in
    (position_or_len test xs, ap (λ (b : Truth). cond b (Some (position_or_len test xs)) None) (lt-ltb (position_or_len test xs) (length xs) (slice_get_within xs (position_or_len test xs) x at)), at)

pub some_is : {A : Type 0} (x y : A) → Some x ≡ Some y → x ≡ y
some_is x y e = ap (λ o. unwrap_or o x) e

-- ---- heads

pub head_found : (v : Vocabulary) (rs : List DeclaredRule) (r : Name) → head_named (map (head_of v) rs) r ≡ option_map (head_of v) (find (λ (q : DeclaredRule). has_name r q.name) rs)
head_found v [] r = refl
head_found v (q ∷ rs) r = by (bytes_eq q.name.text r) (head_found v rs r)
  where
    by : (b : Truth) → head_named (map (head_of v) rs) r ≡ option_map (head_of v) (find (λ (q : DeclaredRule). has_name r q.name) rs)
        → (if b then Some (head_of v q) else head_named (map (head_of v) rs) r) ≡ option_map (head_of v) (cond b (Some q) (find (λ (q : DeclaredRule). has_name r q.name) rs))
    by true e = refl
    by false e = e

-- ---- parameters in whose domains nothing is wrong

module _ (number : Name → ℕ) (v : Vocabulary) (n : ℕ) (truths : HasTruths v) where
  abbrev unknown : List RawBinder → List Fault
  unknown bs = flat_map (λ (b : RawBinder). unknown_domain v.domains n b.domain) bs

  pub head_types : (bs : List RawBinder) → unknown bs ≡ [] → map (λ (b : RawBinder). type_named v b.domain.text) bs ≡ map (domain_type v.domains) (map (λ (p : Binder). p.domain) (binders_of number v bs))
  head_types [] none = refl
  head_types (b ∷ bs) none = λ i. same_type_named v n b.domain (none_left (unknown_domain v.domains n b.domain) (unknown bs) none) i ∷ head_types bs (none_right (unknown_domain v.domains n b.domain) (unknown bs) none) i

  pub typed_parameters : (bs : List RawBinder) → unknown bs ≡ [] → Every (Typed v) (map (λ (p : Binder). p.domain) (binders_of number v bs))
  typed_parameters [] none = tt
  typed_parameters (b ∷ bs) none =
      (typed_domain v n b.domain truths (none_left (unknown_domain v.domains n b.domain) (unknown bs) none), typed_parameters bs (none_right (unknown_domain v.domains n b.domain) (unknown bs) none))

  pub declared_parameters : (bs : List RawBinder) → unknown bs ≡ [] → All (λ (p : Binder). IsSome (domain_type v.domains p.domain)) (binders_of number v bs)
  declared_parameters [] none k d lt = absurd (omega (arith, lt))
  declared_parameters (b ∷ bs) none zero d lt = ap is_some (typed_domain v n b.domain truths (none_left (unknown_domain v.domains n b.domain) (unknown bs) none)).1
  declared_parameters (b ∷ bs) none (suc k) d lt = declared_parameters bs (none_right (unknown_domain v.domains n b.domain) (unknown bs) none) k d (omega (arith, lt))

pub unknown_none : (v : Vocabulary) (n : ℕ) (bs : List RawBinder) → binder_faults v n bs ≡ [] → flat_map (λ (b : RawBinder). unknown_domain v.domains n b.domain) bs ≡ []
unknown_none v n bs e = none_right (repeats [] (variables_of v n bs)) (flat_map (λ (b : RawBinder). unknown_domain v.domains n b.domain) bs) e

-- ---- the macro rules of files

module _ (number : Name → ℕ) (v : Vocabulary) (truths : HasTruths v) (units : List LoadedUnit) where
  -- nothing is wrong with the parameters of the rules
  abbrev pub HaveParameters : Type 0
  HaveParameters = (k : ℕ) (q : DeclaredRule) → slice_get (rules units) k ≡ Some q → binder_faults v q.unit q.parameters ≡ []

  pub have_parameters : flat_map (macro_faults v (heads_of v units)) (rules units) ≡ [] → HaveParameters
  have_parameters none k q is =
      none_left (binder_faults v q.unit q.parameters) (rule_faults v (heads_of v units) q.unit q.body (within v q.unit q.parameters [])) (none_at (macro_faults v (heads_of v units)) (rules units) k q none is)

  -- the heads of files are those of their macro rules
  pub heads_belong : HaveParameters → Belong number v units (heads_of v units) (map (macro_of number v units) (rules units))
  heads_belong fine r h is = by (find test (rules units)) refl
    where
      test : DeclaredRule → Truth
      test q = has_name r q.name

      by : (o : Option DeclaredRule) → find test (rules units) ≡ o → HasMacro number v units (map (macro_of number v units) (rules units)) r h
      by None e = absurd (no_some h (sym (ap (option_map (head_of v)) e) ∙ sym (head_found v (rules units) r) ∙ is))
      by (Some q) e =
          (let same = some_is (head_of v q) h (sym (ap (option_map (head_of v)) e) ∙ sym (head_found v (rules units) r) ∙ is) in
          let at = find_place test (rules units) q e in
          let none = unknown_none v q.unit q.parameters (fine at.0 q at.2) in
          record {
            macro = macro_of number v units q;
            is_macro = ap (λ (o : Option ℕ). slice_get (map (macro_of number v units) (rules units)) (unwrap_or o 0)) at.1 ∙ slice_get-map (macro_of number v units) (rules units) at.0 ∙ ap (option_map (macro_of number v units)) at.2;
            types = ap (λ (z : RuleHead). z.types) (sym same) ∙ head_types number v q.unit truths q.parameters none;
            known = typed_parameters number v q.unit truths q.parameters none;
          })
