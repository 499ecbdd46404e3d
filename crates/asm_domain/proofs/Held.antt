-- A held domain and the elements that it stands for.
use Rattle.std.proofs.Common.{◌≡◌, ℕ, ◌+◌, ◌<◌, ◌↔◌, List, length, get_or, slice_get, Option, Some, IsNone, ℤ, pos, ◌+ℤ◌, ◌-ℤ◌, ◌≤ℤ◌, sym, ap, ◌∙◌, subst, arith}
use Rattle.std.proofs.lemmas.Int.{ints}
use Rattle.std.proofs.lemmas.List.{length-map}
use Rattle.std.proofs.lemmas.Option.{slice_get-get_or}
use Rattle.std.specs.List.{Contains}
use Rattle.std.specs.Option.{option_map}
use Rattle.asm_domain.specs.declared.value.Value.{Value}
use Rattle.asm_domain.specs.declared.value.Value.TheVariants.{Int, Elem}
use Rattle.asm_domain.specs.declared.domain.Kind.{Kind}
use Rattle.asm_domain.specs.declared.domain.Kind.TheVariants as kind
use Rattle.asm_domain.specs.Kinds.{universe_of, IsSound}
use Rattle.asm_domain.specs.Universe.{Universe, Numbers, Named, elements, numbers_between, above_zero, MakeDomain, IsRank}
use Rattle.asm_domain.proofs.Distinct.{get-map}
use Rattle.asm_domain.proofs.Elements.{none_iff, between_makes, numbers_make, names_make, truths_make, length-between, length-upwards, get-upwards, from_count, length-named_from, get-named_from}

-- the rank in a domain that is told by an equal one
pub ranked : (u u' : Universe) (v : Value) (r : Option ℕ) → u' ≡ u → IsRank (elements u') v r → IsRank (elements u) v r × (IsNone r ↔ ¬ Contains (elements u) v)
ranked u u' v r e is =
    let is' = subst (λ (w : Universe). IsRank (elements w) v r) e is in (is', none_iff (elements u) v r is')

-- a held domain has from 1 to 256 elements, all different
pub sound_makes : (k : Kind) → IsSound k → MakeDomain (elements (universe_of k))
sound_makes kind.Boolean is = truths_make
sound_makes (kind.Range low high) is = numbers_make (numbers_between low high) (between_makes low high is.0 is.1)
sound_makes (kind.Numbers numbers) is = numbers_make numbers is
sound_makes (kind.Named number names) is = names_make number names is

pub held_makes : (k : Kind) (u : Universe) → universe_of k ≡ u → IsSound k → MakeDomain (elements u)
held_makes k u e is = subst (λ (w : Universe). MakeDomain (elements w)) e (sound_makes k is)

pub range_size : (low high : ℤ) (n : ℕ) → low +ℤ pos n ≡ high → n + 1 ≡ length (elements (Numbers (numbers_between low high)))
range_size low high n e =
    let l = length-between low high (n + 1) (omega (arith, ints)) in
    let m = length-map (numbers_between low high) Int in omega arith

pub range_within : (low high : ℤ) (rank : ℕ) → rank < length (elements (Numbers (numbers_between low high))) → (low +ℤ pos rank) ≤ℤ high
range_within low high rank lt =
    let m = length-map (numbers_between low high) Int in
    let l = length-upwards low (above_zero (high +ℤ pos 1 -ℤ low)) in
    let within = from_count rank (high +ℤ pos 1 -ℤ low) (omega arith) in omega (arith, ints)

pub range_element : (low high : ℤ) (rank : ℕ) → rank < length (elements (Numbers (numbers_between low high))) → slice_get (elements (Numbers (numbers_between low high))) rank ≡ Some (Int (low +ℤ pos rank))
range_element low high rank lt =
    let m = length-map (numbers_between low high) Int in
    let l = length-upwards low (above_zero (high +ℤ pos 1 -ℤ low)) in
    get-map Int (numbers_between low high) rank ∙ ap (option_map Int) (get-upwards low (above_zero (high +ℤ pos 1 -ℤ low)) rank (omega arith))

pub numbers_element : (xs : List ℤ) (rank : ℕ) → rank < length (elements (Numbers xs)) → slice_get (elements (Numbers xs)) rank ≡ Some (Int (get_or xs rank (pos 0)))
numbers_element xs rank lt =
    let m = length-map xs Int in
    get-map Int xs rank ∙ ap (option_map Int) (slice_get-get_or xs rank (pos 0) (omega arith))

pub named_element : (number : ℕ) (names : List (List ℕ)) (rank : ℕ) → rank < length (elements (Named number names)) → slice_get (elements (Named number names)) rank ≡ Some (Elem number rank)
named_element number names rank lt =
    let m = length-named_from number 0 names in
    let e : 0 + rank ≡ rank = omega arith in
    get-named_from number 0 names rank (omega arith) ∙ ap (λ n. Some (Elem number n)) e

-- an element of a domain that is told by an equal one
pub element_of : (u u' : Universe) (rank : ℕ) (v v' : Value) → u' ≡ u → v' ≡ v → slice_get (elements u') rank ≡ Some v' → slice_get (elements u) rank ≡ Some v
element_of u u' rank v v' e f at = ap (λ w. slice_get (elements w) rank) (sym e) ∙ at ∙ ap Some f

pub within_of : (u u' : Universe) (rank : ℕ) → u' ≡ u → rank < length (elements u) → rank < length (elements u')
within_of u u' rank e lt = subst (λ (w : Universe). rank < length (elements w)) (sym e) lt

pub range_sound : (k : Kind) (low high : ℤ) → k ≡ kind.Range low high → IsSound k → low ≤ℤ high
range_sound k low high e is = (subst IsSound e is).0
