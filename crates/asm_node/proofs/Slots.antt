-- The slot of a location.
use Rattle.std.proofs.Common.{◌≡◌, ℕ, zero, suc, ◌+◌, cond, Bool as Truth, true, false, ◌&&◌, List, [], ◌∷◌, get_or, slice_get, nat_eq, T, eqb→eq, eq-eqb, Option, Some, None, refl, sym, ap, ◌∙◌, subst, true≢false}
use Rattle.std.specs.List.{position, position_from}
use Rattle.std.proofs.lemmas.List.Quantifiers.{position-Some}
use Rattle.std.proofs.lemmas.Iterator.Adapters.{position_from-zero}
use Rattle.std.proofs.lemmas.Option.{slice_get-get_or}
use Rattle.asm_domain.specs.declared.value.Value.{Value}
use Rattle.asm_domain.specs.Universe.{IsRank}
use Rattle.asm_sign.specs.Vocabulary.{Vocabulary, locations}
use Rattle.asm_node.specs.Values.{same_all}
use Rattle.asm_node.specs.Machine.{same_location, slot_at}
use Rattle.asm_node.proofs.Elements.{same_self}
use Rattle.asm_node.proofs.UpdateSets.{same_is}

none_from : {A : Type 0} (test : A → Truth) (n : ℕ) (xs : List A) → position_from test n xs ≡ None → (k : ℕ) (x : A) → slice_get xs k ≡ Some x → test x ≡ false
none_from test n [] none k x at = absurd (cc at)
none_from test n (y ∷ ys) none zero x at =
    let e : y ≡ x = cc in
    elim (test y) as (λ b. test y ≡ b → (◌≡◌ {A = Option ℕ} (cond b (Some n) (position_from test (n + 1) ys)) None) → test x ≡ false) [
      | true ↦ λ _ some. absurd (cc some)
      | false ↦ λ fails _. ap test (sym e) ∙ fails
    ] refl none
none_from test n (y ∷ ys) none (suc k) x at =
    elim (test y) as (λ b. (◌≡◌ {A = Option ℕ} (cond b (Some n) (position_from test (n + 1) ys)) None) → test x ≡ false) [
      | true ↦ λ some. absurd (cc some)
      | false ↦ λ later. none_from test (n + 1) ys later k x at
    ] none

-- no item passes where no place is given
pub none_passes : {A : Type 0} (test : A → Truth) (xs : List A) → position test xs ≡ None → (k : ℕ) (x : A) → slice_get xs k ≡ Some x → test x ≡ false
none_passes test xs none k x at = none_from test 0 xs (sym (position_from-zero test xs) ∙ none) k x at

and_first : (a b : Truth) → (a && b) ≡ true → a ≡ true
and_first true b is = refl
and_first false b is = is

and_second : (a b : Truth) → (a && b) ≡ true → b ≡ true
and_second true b is = is
and_second false b is = absurd (true≢false (sym is))

same_all-is : (vs ws : List Value) → same_all vs ws ≡ true → vs ≡ ws
same_all-is [] [] is = refl
same_all-is [] (w ∷ ws) is = absurd (true≢false (sym is))
same_all-is (v ∷ vs) [] is = absurd (true≢false (sym is))
same_all-is (v ∷ vs) (w ∷ ws) is = λ i. same_is v w (and_first _ _ is) i ∷ same_all-is vs ws (and_second _ _ is) i

same_all-self : (vs : List Value) → same_all vs vs ≡ true
same_all-self [] = refl
same_all-self (v ∷ vs) = λ i. same_self v i && same_all-self vs i

abbrev is_location : ℕ × List Value → ℕ × List Value → Truth
is_location p q = same_location q p

location-is : (p q : ℕ × List Value) → is_location p q ≡ true → q ≡ p
location-is p q is = λ i. (eqb→eq q.0 p.0 (subst T (sym (and_first (nat_eq q.0 p.0) (same_all q.1 p.1) is)) tt) i, same_all-is q.1 p.1 (and_second (nat_eq q.0 p.0) (same_all q.1 p.1) is) i)

location-self : (p : ℕ × List Value) → is_location p p ≡ true
location-self p = λ i. eq-eqb p.0 p.0 refl i && same_all-self p.1 i

module _ (ps : List (ℕ × List Value)) (p : ℕ × List Value) where
  first_place : (rank place : Option ℕ) → IsRank ps p rank → position (is_location p) ps ≡ place → place ≡ rank
  first_place rank (Some k) is at =
      let found = position-Some (is_location p) ps k p at in
      sym (is.every k (slice_get-get_or ps k p found.0 ∙ ap Some (location-is p (get_or ps k p) found.1)))
  first_place None None is at = refl
  first_place (Some k) None is at =
      let here = is.found k refl in
      absurd (true≢false (sym (location-self p) ∙ none_passes (is_location p) ps at k p here))

-- the place of a location among all is its rank
pub slot_is : (signature : Vocabulary) (f : ℕ) (vs : List Value) (rank : Option ℕ) → IsRank (locations signature) (f, vs) rank → slot_at signature f vs ≡ rank
slot_is signature f vs rank is = first_place (locations signature) (f, vs) rank (slot_at signature f vs) is refl
