-- What tables of names find.
use Rattle.std.proofs.Common.{◌≡◌, ℕ, zero, suc, ◌+◌, ◌<◌, Bool as Truth, true, false, cond, if◌then◌else◌, ◌&&◌, nat_eq, List, [], ◌∷◌, ◌++◌, map, take, length, Option, Some, None, slice_get, refl, sym, ap, ◌∙◌, subst, arith}
use Rattle.std.specs.Str.{bytes_eq}
use Rattle.std.specs.List.{position, position_from, flat_map}
use Rattle.std.specs.Option.{option_or, option_map, unwrap_or}
use Rattle.std.proofs.lemmas.Iterator.Adapters.{position_from-zero}
use Rattle.std.proofs.lemmas.Cmp.{nat_list_eq_equiv}
use Rattle.asm_domain.specs.declared.value.Value.{Value}
use Rattle.asm_domain.specs.declared.value.Value.TheVariants.{Undef, Elem}
use Rattle.asm_domain.specs.Universe.{Universe, Truths, Numbers, Named, named_from}
use Rattle.asm_domain.proofs.Elements.{length-named_from, get-named_from}
use Rattle.asm_sign.specs.declared.function.DeclaredDomain.{DeclaredDomain}
use Rattle.asm_node.specs.Machine.{same_name, element_named}
use Rattle.asm_node.specs.Values.{whole}
use Rattle.name_table.specs.Numbered.{number_of}
use Rattle.asm_faults.specs.At.{Name}
use Rattle.asm_faults.specs.DomainFaults.{boolean, integer}
use Rattle.asm_faults.specs.FunctionFaults.{is_domain_named, domain_number}
use Rattle.asm_faults.specs.Known.{domain_text, names_in, values_in, element_names, element_values}
use Rattle.asm_faults.specs.Terms.{element_in, or_element}

from-map : {A B : Type 0} (p : B → Truth) (f : A → B) (i : ℕ) (xs : List A) → position_from p i (map f xs) ≡ position_from (λ x. p (f x)) i xs
from-map p f i [] = refl
from-map p f i (x ∷ xs) = ap (cond (p (f x)) (Some i)) (from-map p f (i + 1) xs)

-- a place among names is one among what has them
pub position-map : {A B : Type 0} (p : B → Truth) (f : A → B) (xs : List A) → position p (map f xs) ≡ position (λ x. p (f x)) xs
position-map p f xs = position_from-zero p (map f xs) ∙ from-map p f 0 xs ∙ sym (position_from-zero (λ x. p (f x)) xs)

from-same : {A : Type 0} (p q : A → Truth) (i : ℕ) (xs : List A) → ((x : A) → p x ≡ q x) → position_from p i xs ≡ position_from q i xs
from-same p q i [] same = refl
from-same p q i (x ∷ xs) same = ap (λ b. cond b (Some i) (position_from p (i + 1) xs)) (same x) ∙ ap (cond (q x) (Some i)) (from-same p q (i + 1) xs same)

pub position-same : {A : Type 0} (p q : A → Truth) (xs : List A) → ((x : A) → p x ≡ q x) → position p xs ≡ position q xs
position-same p q xs same = position_from-zero p xs ∙ from-same p q 0 xs same ∙ sym (position_from-zero q xs)

-- ---- domains

named_as : (x : Name) (d : DeclaredDomain) → bytes_eq x boolean ≡ false → bytes_eq (domain_text d) x ≡ is_domain_named x d
named_as x d other = by d.name
  where
    by : (o : Option Name) → bytes_eq (domain_text (record { name = o; domain = d.domain })) x ≡ is_domain_named x (record { name = o; domain = d.domain })
    by None = nat_list_eq_equiv.symm boolean x ∙ other
    by (Some name) = refl

pub domain_found : (ds : List DeclaredDomain) (x : Name) → bytes_eq x boolean ≡ false → number_of (map domain_text ds) x ≡ position (is_domain_named x) ds
domain_found ds x other = position-map (λ (name : Name). bytes_eq name x) domain_text ds ∙ position-same _ _ ds (λ d. named_as x d other)

pub domain_is : (ds : List DeclaredDomain) (x : Name) → bytes_eq x boolean ≡ false → bytes_eq x integer ≡ false → number_of (map domain_text ds) x ≡ domain_number ds x
domain_is ds x other other' =
    domain_found ds x other
    ∙ ap (λ b. if b then Some whole else position (is_domain_named x) ds) (sym other')
    ∙ ap (λ b. if b then Some 0 else (if bytes_eq x integer then Some whole else position (is_domain_named x) ds)) (sym other)

-- ---- elements

-- the value at a place that was found
abbrev pub at : List Value → Option ℕ → Value
at values None = Undef
at values (Some k) = unwrap_or (slice_get values k) Undef

abbrev shift : ℕ → Option ℕ → Option ℕ
shift n None = None
shift n (Some k) = Some (n + k)

from-append : {A : Type 0} (p : A → Truth) (i : ℕ) (xs ys : List A) → position_from p i (xs ++ ys) ≡ option_or (position_from p i xs) (position_from p (i + length xs) ys)
from-append p i [] ys = ap (λ n. position_from p n ys) (omega arith)
from-append p i (x ∷ xs) ys =
    elim (p x) as (λ (b : Truth). cond b (Some i) (position_from p (i + 1) (xs ++ ys)) ≡ option_or (cond b (Some i) (position_from p (i + 1) xs)) (position_from p (i + length (x ∷ xs)) ys)) [
      | true ↦ refl
      | false ↦ from-append p (i + 1) xs ys ∙ ap (λ n. option_or (position_from p (i + 1) xs) (position_from p n ys)) (omega arith)
    ]

from-shift : {A : Type 0} (p : A → Truth) (n i : ℕ) (ys : List A) → position_from p (n + i) ys ≡ shift n (position_from p i ys)
from-shift p n i [] = refl
from-shift p n i (y ∷ ys) =
    elim (p y) as (λ (b : Truth). cond b (Some (n + i)) (position_from p ((n + i) + 1) ys) ≡ shift n (cond b (Some i) (position_from p (i + 1) ys))) [
      | true ↦ refl
      | false ↦ ap (λ m. position_from p m ys) (omega arith) ∙ from-shift p n (i + 1) ys
    ]

-- a name among more names
number_of-append : (names others : List Name) (x : Name) → number_of (names ++ others) x ≡ option_or (number_of names x) (shift (length names) (number_of others x))
number_of-append names others x =
    let p : Name → Truth = λ name. bytes_eq name x in
    position_from-zero p (names ++ others) ∙ from-append p 0 names others
    ∙ ap (option_or (position_from p 0 names)) (ap (λ n. position_from p n others) (omega arith) ∙ from-shift p (length names) 0 others)
    ∙ ap (λ o. option_or o (shift (length names) (position_from p 0 others))) (sym (position_from-zero p names))
    ∙ ap (λ o. option_or (number_of names x) (shift (length names) o)) (sym (position_from-zero p others))

from_within : {A : Type 0} (p : A → Truth) (i : ℕ) (xs : List A) (k : ℕ) → position_from p i xs ≡ Some k → k < i + length xs
from_within p i [] k e = absurd (cc (e))
from_within p i (x ∷ xs) k e =
    elim (p x) as (λ (b : Truth). cond b (Some i) (position_from p (i + 1) xs) ≡ Some k → k < i + length (x ∷ xs)) [
      | true ↦ λ f. let same : i ≡ k = cc in omega arith
      | false ↦ λ f. let less : k < (i + 1) + length xs = from_within p (i + 1) xs k f in omega arith
    ] e

number_within : (names : List Name) (x : Name) (k : ℕ) → number_of names x ≡ Some k → k < length names
number_within names x k e = let less : k < 0 + length names = from_within (λ (name : Name). bytes_eq name x) 0 names k (sym (position_from-zero (λ (name : Name). bytes_eq name x) names) ∙ e) in omega arith

same_names : (x y : Name) → same_name x y ≡ bytes_eq x y
same_names [] [] = refl
same_names [] (d ∷ ds) = refl
same_names (c ∷ cs) [] = refl
same_names (c ∷ cs) (d ∷ ds) = ap (λ b. nat_eq c d && b) (same_names cs ds)

found_in : (x : Name) (names : List Name) → position (same_name x) names ≡ number_of names x
found_in x names = position-same (same_name x) (λ name. bytes_eq name x) names (λ name. same_names x name ∙ nat_list_eq_equiv.symm x name)

get_front : {A : Type 0} (xs ys : List A) (k : ℕ) → k < length xs → slice_get (xs ++ ys) k ≡ slice_get xs k
get_front [] ys k less = absurd (omega (arith, less))
get_front (x ∷ xs) ys zero less = refl
get_front (x ∷ xs) ys (suc k) less = get_front xs ys k (omega (arith, less))

get_behind : {A : Type 0} (xs ys : List A) (k : ℕ) → slice_get (xs ++ ys) (length xs + k) ≡ slice_get ys k
get_behind [] ys k = ap (slice_get ys) (omega arith)
get_behind (x ∷ xs) ys k = let e : length (x ∷ xs) + k ≡ suc (length xs + k) = omega arith in ap (slice_get (x ∷ (xs ++ ys))) e ∙ get_behind xs ys k

behind : (vs ws : List Value) (n : ℕ) (o : Option ℕ) → n ≡ length vs → at (vs ++ ws) (shift n o) ≡ at ws o
behind vs ws n None e = refl
behind vs ws n (Some k) e = ap (λ v. unwrap_or v Undef) (ap (λ m. slice_get (vs ++ ws) (m + k)) e ∙ get_behind vs ws k)

module _ (x : Name) (number : ℕ) (names : List Name) (others : List Name) (values : List Value) (next : Value) (is_next : next ≡ at values (number_of others x)) where
  named : (o : Option ℕ) → number_of names x ≡ o
      → or_element (unwrap_or (option_map (λ rank. Elem number rank) o) Undef) next ≡ at (named_from number 0 names ++ values) (option_or o (shift (length names) (number_of others x)))
  named None e = is_next ∙ sym (behind (named_from number 0 names) values (length names) (number_of others x) (sym (length-named_from number 0 names)))
  named (Some k) e =
      let less : k < length names = number_within names x k e in
      let less' : k < length (named_from number 0 names) = subst (λ n. k < n) (sym (length-named_from number 0 names)) less in
      sym (ap (λ v. unwrap_or v Undef) (get_front (named_from number 0 names) values k less' ∙ get-named_from number 0 names k less) ∙ ap (Elem number) (omega arith))

-- the element that the tables find
pub element_found : (ds : List DeclaredDomain) (x : Name) → element_in ds x ≡ at (flat_map element_values ds) (number_of (flat_map element_names ds) x)
element_found [] x = refl
element_found (d ∷ ds) x = by d.domain (element_found ds x)
  where
    by : (u : Universe) → element_in ds x ≡ at (flat_map element_values ds) (number_of (flat_map element_names ds) x) → or_element (element_named x u) (element_in ds x) ≡ at (values_in u ++ flat_map element_values ds) (number_of (names_in u ++ flat_map element_names ds) x)
    by Truths rest = rest
    by (Numbers numbers) rest = rest
    by (Named number names) rest =
        ap (λ o. or_element (unwrap_or (option_map (λ rank. Elem number rank) o) Undef) (element_in ds x)) (found_in x names)
        ∙ named x number names (flat_map element_names ds) (flat_map element_values ds) (element_in ds x) rest (number_of names x) refl
        ∙ ap (at (named_from number 0 names ++ flat_map element_values ds)) (sym (number_of-append names (flat_map element_names ds) x))

-- ---- lists by their fronts

pub took_more : {A : Type 0} (xs : List A) (k : ℕ) (x : A) → slice_get xs k ≡ Some x → take (k + 1) xs ≡ take k xs ++ x ∷ []
took_more [] k x e = absurd (cc (e))
took_more (y ∷ xs) zero x e = let same : y ≡ x = cc in λ i. same i ∷ []
took_more (y ∷ xs) (suc k) x e = let same : suc k + 1 ≡ suc (k + 1) = omega arith in ap (λ n. take n (y ∷ xs)) same ∙ ap (λ ys. y ∷ ys) (took_more xs k x e)
