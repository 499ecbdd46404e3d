-- The domains and functions of the models that the tests have.
use Rattle.std.proofs.Common.{◌≡◌, ℕ, zero, suc, List, [], ◌∷◌, slice_get, Option, Some, None, pos, refl, ap, subst, ◌∙◌, arith}
use Rattle.std.proofs.lemmas.Int.{ints}
use Rattle.asm_domain.specs.Universe.{Truths, Numbers, Named, AreDistinct, MakeDomain, elements, numbers_between}
use Rattle.asm_domain.proofs.Elements.{between_makes, numbers_make, truths_make}
use Rattle.asm_sign.specs.declared.function.DeclaredDomain.{DeclaredDomain}
use Rattle.asm_sign.specs.declared.function.FunKind.TheVariants.{Controlled}
use Rattle.asm_sign.specs.declared.function.Function.{Function}
use Rattle.asm_sign.specs.Vocabulary.{Vocabulary}
use Rattle.asm_node.specs.Declarations.{AreDeclarations}

pub one_item : {A : Type 0} (x : A) → AreDistinct (x ∷ [])
one_item {A = A} x = record { one_place = λ i j y is js. one i j y is js }
  where
    one : (i j : ℕ) (y : A) → slice_get (x ∷ []) i ≡ Some y → slice_get (x ∷ []) j ≡ Some y → i ≡ j
    one zero zero y is js = refl
    one zero (suc j) y is js = absurd (cc js)
    one (suc i) j y is js = absurd (cc is)

abbrev pub truths : DeclaredDomain
truths = record { name = None; domain = Truths }

-- the numbers from 3 to 5
abbrev pub small : DeclaredDomain
small = record { name = Some []; domain = Numbers (numbers_between (pos 3) (pos 5)) }

-- a function without a name whose values are in the domain of a number
abbrev pub only_function : ℕ → Function
only_function d = record { name = []; kind = Controlled; domains = []; codomain = d }

-- ---- the truth values alone

abbrev pub of_truths : Vocabulary
of_truths = record { domains = truths ∷ []; functions = only_function 0 ∷ [] }

pub truths_declared : AreDeclarations of_truths
truths_declared = record {
  truths = truths;
  are_first = refl;
  are_truths = refl;
  once = once;
  numbered = record { number_is = λ k number names d at is. absurd (unnamed k number names d at is) };
  have_elements = makes;
  domain_names = one_item None;
  function_names = one_item [];
  constants = λ k number names d at is _. absurd (unnamed k number names d at is);
}
  where
    once : (k : ℕ) (d : DeclaredDomain) → slice_get (truths ∷ []) k ≡ Some d → d.domain ≡ Truths → k ≡ 0
    once zero d at is = refl
    once (suc k) d at is = absurd (cc at)

    unnamed : (k number : ℕ) (names : List (List ℕ)) (d : DeclaredDomain) → slice_get (truths ∷ []) k ≡ Some d → d.domain ≡ Named number names → ⊥
    unnamed zero number names d at is = (let e : truths ≡ d = cc at in let both : Truths ≡ Named number names = ap (λ (z : DeclaredDomain). z.domain) e ∙ is in cc both)
    unnamed (suc k) number names d at is = cc at

    makes : (k : ℕ) (d : DeclaredDomain) → slice_get (truths ∷ []) k ≡ Some d → MakeDomain (elements d.domain)
    makes zero d at = (let e : truths ≡ d = cc at in subst (λ (z : DeclaredDomain). MakeDomain (elements z.domain)) e truths_make)
    makes (suc k) d at = absurd (cc at)

-- ---- the truth values and some numbers

abbrev pub of_numbers : Vocabulary
of_numbers = record { domains = truths ∷ small ∷ []; functions = only_function 1 ∷ [] }

pub numbers_declared : AreDeclarations of_numbers
numbers_declared = record {
  truths = truths;
  are_first = refl;
  are_truths = refl;
  once = once;
  numbered = record { number_is = λ k number names d at is. absurd (unnamed k number names d at is) };
  have_elements = makes;
  domain_names = record { one_place = names };
  function_names = one_item [];
  constants = λ k number names d at is _. absurd (unnamed k number names d at is);
}
  where
    once : (k : ℕ) (d : DeclaredDomain) → slice_get (truths ∷ small ∷ []) k ≡ Some d → d.domain ≡ Truths → k ≡ 0
    once zero d at is = refl
    once (suc zero) d at is = (let e : small ≡ d = cc at in let both : Numbers (numbers_between (pos 3) (pos 5)) ≡ Truths = ap (λ (z : DeclaredDomain). z.domain) e ∙ is in absurd (cc both))
    once (suc (suc k)) d at is = absurd (cc at)

    unnamed : (k number : ℕ) (names : List (List ℕ)) (d : DeclaredDomain) → slice_get (truths ∷ small ∷ []) k ≡ Some d → d.domain ≡ Named number names → ⊥
    unnamed zero number names d at is = (let e : truths ≡ d = cc at in let both : Truths ≡ Named number names = ap (λ (z : DeclaredDomain). z.domain) e ∙ is in cc both)
    unnamed (suc zero) number names d at is = (let e : small ≡ d = cc at in let both : Numbers (numbers_between (pos 3) (pos 5)) ≡ Named number names = ap (λ (z : DeclaredDomain). z.domain) e ∙ is in cc both)
    unnamed (suc (suc k)) number names d at is = cc at

    makes : (k : ℕ) (d : DeclaredDomain) → slice_get (truths ∷ small ∷ []) k ≡ Some d → MakeDomain (elements d.domain)
    makes zero d at = (let e : truths ≡ d = cc at in subst (λ (z : DeclaredDomain). MakeDomain (elements z.domain)) e truths_make)
    makes (suc zero) d at =
        (let e : small ≡ d = cc at in
        subst (λ (z : DeclaredDomain). MakeDomain (elements z.domain)) e (numbers_make (numbers_between (pos 3) (pos 5)) (between_makes (pos 3) (pos 5) (omega (arith, ints)) (omega (arith, ints)))))
    makes (suc (suc k)) d at = absurd (cc at)

    names : (i j : ℕ) (t : Option (List ℕ)) → slice_get (None ∷ Some [] ∷ []) i ≡ Some t → slice_get (None ∷ Some [] ∷ []) j ≡ Some t → i ≡ j
    names zero zero t is js = refl
    names zero (suc zero) t is js = absurd (cc (is, js))
    names zero (suc (suc j)) t is js = absurd (cc js)
    names (suc zero) zero t is js = absurd (cc (is, js))
    names (suc zero) (suc zero) t is js = refl
    names (suc zero) (suc (suc j)) t is js = absurd (cc js)
    names (suc (suc i)) j t is js = absurd (cc is)
