-- The intervals of domains.
use Rattle.std.proofs.Common.{◌≡◌, ℕ, zero, suc, ◌+◌, ℤ, List, [], ◌∷◌, drop, slice_get, Some, refl, ap, add-one}
use Rattle.std.specs.Prelude.{map}
use Rattle.std.specs.Int.{int_min, int_max}
use Rattle.asm_domain.specs.declared.value.Value.{Value}
use Rattle.asm_domain.specs.declared.value.Value.TheVariants.{Int}
use Rattle.asm_domain.specs.Universe.{Universe, Truths, Numbers, Named, elements, named_from}
use Rattle.asm_faults.specs.Ranges.{Spread, NoNumber, Between, either, spread_from, universe_spread}
use Rattle.asm_ranges.specs.Elements.{element_spread, with_elements}

drop_at : (es : List Value) (k : ℕ) (e : Value) → slice_get es k ≡ Some e → drop k es ≡ e ∷ drop (suc k) es
drop_at [] k e is = absurd (cc)
drop_at (x ∷ es) zero e is = let same : x ≡ e = cc in ap (λ y. y ∷ es) same
drop_at (x ∷ es) (suc k) e is = drop_at es k e is

-- the next element is taken in
pub next_element : (es : List Value) (k : ℕ) (e : Value) (r : Spread) → slice_get es k ≡ Some e → with_elements r (drop k es) ≡ with_elements (either r (element_spread e)) (drop (k + 1) es)
next_element es k e r is = rw (add-one, drop_at es k e is) refl

of_numbers : (l h : ℤ) (zs : List ℤ) → with_elements (Between l h) (map Int zs) ≡ spread_from l h zs
of_numbers l h [] = refl
of_numbers l h (z ∷ zs) = of_numbers (int_min l z) (int_max h z) zs

of_names : (d k : ℕ) (names : List (List ℕ)) → with_elements NoNumber (named_from d k names) ≡ NoNumber
of_names d k [] = refl
of_names d k (x ∷ names) = of_names d (suc k) names

-- the least interval that holds all elements is that of the domain
pub all_elements : (u : Universe) → with_elements NoNumber (elements u) ≡ universe_spread u
all_elements Truths = refl
all_elements (Numbers []) = refl
all_elements (Numbers (z ∷ zs)) = of_numbers z z zs
all_elements (Named d names) = of_names d 0 names
