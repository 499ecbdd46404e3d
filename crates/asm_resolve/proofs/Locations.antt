-- Where nothing is wrong with functions, there are at most 4,096 locations.
use Rattle.std.proofs.Common.{◌≡◌, ℕ, suc, ◌+◌, ◌*◌, ◌≤◌, Bool as Truth, true, false, List, [], ◌∷◌, ◌++◌, length, Option, Some, None, nat_lt, if◌then◌else◌, slice_get, refl, sym, ap, subst, ◌∙◌, arith}
use Rattle.std.specs.Prelude.{map}
use Rattle.std.specs.List.{flat_map, enumerate_from}
use Rattle.std.specs.Option.{option_map, unwrap_or}
use Rattle.std.proofs.lemmas.List.{length-append, length-map}
use Rattle.std.proofs.lemmas.Bool.{ltb-false}
use Rattle.asm_domain.specs.Universe.{Universe, Truths, Numbers, Named, elements}
use Rattle.asm_domain.specs.declared.value.Value.{Value}
use Rattle.asm_domain.proofs.Elements.{length-named_from}
use Rattle.asm_sign.specs.declared.function.DeclaredDomain as sign
use Rattle.asm_sign.specs.declared.function.Function.{Function}
use Rattle.asm_sign.specs.Arguments.{elements_at, elements_of}
use Rattle.asm_sign.specs.Kind.{is_dynamic}
use Rattle.asm_sign.specs.Tuples.{tuples}
use Rattle.asm_sign.specs.Vocabulary.{locations_of, locations}
use Rattle.asm_sign.proofs.Slots.{length_dynamic, length_static}
use Rattle.asm_sign.proofs.TupleLemmas.{length-tuples}
use Rattle.asm_tree.specs.declared.term.RawName.{RawName}
use Rattle.asm_tree.specs.declared.unit.LoadedUnit.{LoadedUnit}
use Rattle.asm_faults.specs.declared.fault.Fault.{Fault}
use Rattle.asm_faults.specs.declared.fault.ModelFault.TheVariants.{TooManyLocations}
use Rattle.asm_faults.specs.At.{fault_at}
use Rattle.asm_faults.specs.DomainFaults.{count_in}
use Rattle.asm_faults.specs.Files.{DeclaredFunction, functions}
use Rattle.asm_faults.specs.FunctionFaults.{number_or_whole, domains_of, function_of, signature_of, own_faults, size_of, product, location_count, location_faults, function_faults, kind_of}
use Rattle.asm_sound.proofs.Scopes.{full, none_left, none_right}

-- ---- sizes

count_is : (u : Universe) → length (elements u) ≡ count_in u
count_is Truths = refl
count_is (Numbers numbers) = length-map numbers _
count_is (Named number names) = length-named_from number 0 names

size_is : (domains : List sign.DeclaredDomain) (d : ℕ) → length (elements_at domains d) ≡ size_of domains d
size_is domains d = by (slice_get domains d)
  where
    by : (o : Option sign.DeclaredDomain) → length (elements_of o) ≡ unwrap_or (option_map (λ (x : sign.DeclaredDomain). count_in x.domain) o) 0
    by None = refl
    by (Some x) = count_is x.domain

tuples_count : (domains : List sign.DeclaredDomain) (ds : List RawName)
    → length (tuples (map (elements_at domains) (map (number_or_whole domains) ds))) ≡ product (map (λ (d : RawName). size_of domains (number_or_whole domains d)) ds)
tuples_count domains [] = refl
tuples_count domains (d ∷ ds) =
    let others : List (List Value) = map (elements_at domains) (map (number_or_whole domains) ds) in
    length-tuples (elements_at domains (number_or_whole domains d)) others
    ∙ ap (λ (k : ℕ). k * length (tuples others)) (size_is domains (number_or_whole domains d))
    ∙ ap (λ (k : ℕ). size_of domains (number_or_whole domains d) * k) (tuples_count domains ds)

-- ---- one function

module _ (domains : List sign.DeclaredDomain) where
  abbrev counted : DeclaredFunction → List Fault → ℕ
  counted f [] = if is_dynamic (kind_of f.kind) then product (map (λ (d : RawName). size_of domains (number_or_whole domains d)) f.domains) else 0
  counted f (fault ∷ faults) = 0

  count_of : (n : ℕ) (f : DeclaredFunction) → own_faults domains f ≡ [] → length (locations_of domains (n, function_of domains f)) ≡ location_count domains f
  count_of n f none = by (is_dynamic (kind_of f.kind)) refl ∙ sym (ap (counted f) none)
    where
      by : (b : Truth) → is_dynamic (kind_of f.kind) ≡ b → length (locations_of domains (n, function_of domains f)) ≡ counted f []
      by true e =
          length_dynamic domains n (function_of domains f) e ∙ tuples_count domains f.domains
          ∙ sym (ap (λ (b : Truth). if b then product (map (λ (d : RawName). size_of domains (number_or_whole domains d)) f.domains) else 0) e)
      by false e =
          length_static domains n (function_of domains f) e
          ∙ sym (ap (λ (b : Truth). if b then product (map (λ (d : RawName). size_of domains (number_or_whole domains d)) f.domains) else 0) e)

  -- ---- all functions

  module _ (n before : ℕ) (f : DeclaredFunction) (fs : List DeclaredFunction) where
    abbrev now : ℕ
    now = before + location_count domains f

    abbrev here : List (ℕ × List Value)
    here = locations_of domains (n, function_of domains f)

    abbrev others : List (ℕ × List Value)
    others = flat_map (locations_of domains) (enumerate_from (n + 1) (map (function_of domains) fs))

    within_more : own_faults domains f ≡ [] → (b : Truth) → nat_lt 4096 now ≡ b → (if b then fault_at TooManyLocations f.unit f.name ∷ [] else location_faults domains now fs) ≡ []
        → (location_faults domains now fs ≡ [] → now ≤ 4096 → now + length others ≤ 4096) → before + length (here ++ others) ≤ 4096
    within_more own true over is rest = absurd (full (fault_at TooManyLocations f.unit f.name) [] is)
    within_more own false under is rest =
        let count = count_of n f own in
        let left = rest is (ltb-false 4096 now under) in
        let both = length-append here others in
        omega (arith, count, left, both)

  within : (n before : ℕ) (fs : List DeclaredFunction) → flat_map (own_faults domains) fs ≡ [] → location_faults domains before fs ≡ [] → before ≤ 4096
      → before + length (flat_map (locations_of domains) (enumerate_from n (map (function_of domains) fs))) ≤ 4096
  within n before [] own none few = omega (arith, few)
  within n before (f ∷ fs) own none few =
      within_more n before f fs (none_left (own_faults domains f) (flat_map (own_faults domains) fs) own) (nat_lt 4096 (before + location_count domains f)) refl none
      (λ left under. within (n + 1) (before + location_count domains f) fs (none_right (own_faults domains f) (flat_map (own_faults domains) fs) own) left under)

pub few_locations : (units : List LoadedUnit) → function_faults units ≡ [] → length (locations (signature_of units)) ≤ 4096
few_locations units none =
    let count : 0 + length (locations (signature_of units)) ≤ 4096 = within (domains_of units) 0 0 (functions units)
    (none_left (flat_map (own_faults (domains_of units)) (functions units)) (location_faults (domains_of units) 0 (functions units)) none)
    (none_right (flat_map (own_faults (domains_of units)) (functions units)) (location_faults (domains_of units) 0 (functions units)) none)
    (omega arith)
    in omega (arith, count)
