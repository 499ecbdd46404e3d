-- Variables that are bound in a scope have the types that the rules on trees give them.
use Rattle.std.proofs.Common.{◌≡◌, ℕ, Bool as Truth, true, false, List, [], ◌∷◌, ◌++◌, Option, Some, None, nat_eq, if◌then◌else◌, slice_get, refl, sym, ap, subst, ◌∙◌}
use Rattle.std.specs.Prelude.{bytes_eq}
use Rattle.std.specs.List.{position, flat_map}
use Rattle.std.specs.Option.{unwrap_or, option_map}
use Rattle.std.proofs.lemmas.Bool.{eqb-true as same_number, eq-eqb as number_same}
use Rattle.std.proofs.lemmas.Slice.Eq.{bytes_eq-Decides}
use Rattle.std.proofs.lemmas.List.Quantifiers.{position-Some}
use Rattle.std.proofs.lemmas.Option.{slice_get-get_or}
use Rattle.asm_sign.specs.declared.function.DeclaredDomain.{DeclaredDomain}
use Rattle.asm_sign.specs.Vocabulary.{Vocabulary}
use Rattle.asm_node.specs.declared.term_type.TermType.{TermType}
use Rattle.asm_node.specs.declared.term_type.TermType.TheVariants.{Integer}
use Rattle.asm_node.specs.Values.{whole}
use Rattle.asm_node.specs.Types.{Types, domain_type, type_of, of_domain, put_type, bound_types}
use Rattle.asm_tree.specs.declared.term.RawName.{RawName}
use Rattle.asm_tree.specs.declared.term.RawBinder.{RawBinder}
use Rattle.asm_faults.specs.declared.fault.Fault.{Fault}
use Rattle.asm_faults.specs.declared.fault.ModelFault.TheVariants.{Unknown}
use Rattle.asm_faults.specs.At.{Name, fault_at}
use Rattle.asm_faults.specs.DomainFaults.{boolean, integer}
use Rattle.asm_faults.specs.FunctionFaults.{domain_number, is_domain_named, number_or_whole, unknown_domain}
use Rattle.asm_faults.specs.Terms.{Bound, Scope, bound_type, or_bound, type_named, within}
use Rattle.asm_faults.specs.Model.{IsNumbering, binders_of}

-- ---- lists without items

abbrev Full : {A : Type 0} → List A → Type 0
Full [] = ⊥
Full (x ∷ xs) = Unit {0}

pub full : {A : Type 0} (x : A) (xs : List A) → x ∷ xs ≡ [] → ⊥
full x xs e = subst Full e tt

pub none_left : {A : Type 0} (xs ys : List A) → xs ++ ys ≡ [] → xs ≡ []
none_left [] ys e = refl
none_left (x ∷ xs) ys e = absurd (full x (xs ++ ys) e)

pub none_right : {A : Type 0} (xs ys : List A) → xs ++ ys ≡ [] → ys ≡ []
none_right [] ys e = e
none_right (x ∷ xs) ys e = absurd (full x (xs ++ ys) e)

-- nothing is wrong where a test holds
pub holds : {A : Type 0} (b : Truth) (x : A) → (if b then [] else x ∷ []) ≡ [] → b ≡ true
holds true x e = refl
holds false x e = absurd (full x [] e)

-- nothing is wrong where a test fails
pub fails : {A : Type 0} (b : Truth) (x : A) → (if b then x ∷ [] else []) ≡ [] → b ≡ false
fails true x e = absurd (full x [] e)
fails false x e = refl

-- ---- scopes

-- the types of the variables are those of the scope
abbrev pub Agrees : (Name → ℕ) → Scope → Types → Type 0
Agrees number scope types = (y : Name) → types (number y) ≡ bound_type scope y

or_none : (o : Option (Option TermType)) → or_bound o None ≡ o
or_none None = refl
or_none (Some type) = refl

or_assoc : (o p q : Option (Option TermType)) → or_bound (or_bound o p) q ≡ or_bound o (or_bound p q)
or_assoc None p q = refl
or_assoc (Some type) p q = refl

abbrev own : Bound → Name → Option (Option TermType)
own b x = if bytes_eq b.name x then Some b.type else None

bound_last : (scope : Scope) (b : Bound) (x : Name) → bound_type (scope ++ b ∷ []) x ≡ or_bound (own b x) (bound_type scope x)
bound_last [] b x = sym (or_none (own b x))
bound_last (c ∷ scope) b x = ap (λ (o : Option (Option TermType)). or_bound o (own c x)) (bound_last scope b x) ∙ or_assoc (own b x) (bound_type scope x) (own c x)

-- equal truth values
pub both_ways : (a b : Truth) → (a ≡ true → b ≡ true) → (b ≡ true → a ≡ true) → a ≡ b
both_ways true b f g = sym (f refl)
both_ways false true f g = g refl
both_ways false false f g = refl

module _ (number : Name → ℕ) (numbering : IsNumbering number) where
  pub same_names : (x y : Name) → nat_eq (number x) (number y) ≡ bytes_eq x y
  same_names x y =
      both_ways (nat_eq (number x) (number y)) (bytes_eq x y)
      (λ e. (bytes_eq-Decides x y).1 (numbering.apart x y (same_number (number x) (number y) e)))
      (λ e. number_same (number x) (number y) (ap number ((bytes_eq-Decides x y).0 e)))

  put_last : (t : Truth) (type : Option TermType) (o p : Option (Option TermType)) → o ≡ p → (if t then Some type else o) ≡ or_bound (if t then Some type else None) p
  put_last true type o p e = refl
  put_last false type o p e = e

  pub agrees_more : (scope : Scope) (types : Types) (x : Name) (type : Option TermType) → Agrees number scope types
      → Agrees number (scope ++ record { name = x; type = type } ∷ []) (put_type (number x) (Some type) types)
  agrees_more scope types x type agrees y =
      ap (λ (t : Truth). if t then Some type else types (number y)) (same_names x y)
      ∙ put_last (bytes_eq x y) type (types (number y)) (bound_type scope y) (agrees y)
      ∙ sym (bound_last scope (record { name = x; type = type }) y)

-- ---- domains

-- the domain of the truth values is declared
pub record HasTruths (v : Vocabulary) : Type 0 where
  pub first : DeclaredDomain
  pub is_first : slice_get v.domains 0 ≡ Some first

pub typed_by : (domains : List DeclaredDomain) (d : ℕ) (declared : DeclaredDomain) → slice_get domains d ≡ Some declared → (r : TermType) × (domain_type domains d ≡ Some r)
typed_by domains d declared is = by (nat_eq d whole)
  where
    by : (t : Truth) → (r : TermType) × ((if t then Some Integer else option_map (λ (x : DeclaredDomain). type_of x.domain) (slice_get domains d)) ≡ Some r)
    by true = (Integer, refl)
    by false = (type_of declared.domain, ap (option_map (λ (x : DeclaredDomain). type_of x.domain)) is)

-- a domain that has a number has a type
pub typed : (v : Vocabulary) (text : Name) (d : ℕ) → HasTruths v → domain_number v.domains text ≡ Some d → (r : TermType) × (domain_type v.domains d ≡ Some r)
typed v text d truths is = by (bytes_eq text boolean) (bytes_eq text integer) is
  where
    by : (b c : Truth) → (if b then Some 0 else (if c then Some whole else position (is_domain_named text) v.domains)) ≡ Some d → (r : TermType) × (domain_type v.domains d ≡ Some r)
    by true c e = (let same : 0 ≡ d = cc e in typed_by v.domains d truths.first (ap (slice_get v.domains) (sym same) ∙ truths.is_first))
    by false true e = (let same : whole ≡ d = cc e in (Integer, ap (domain_type v.domains) (sym same)))
    by false false e = (let within = position-Some (is_domain_named text) v.domains d truths.first e in typed_by v.domains d _ (slice_get-get_or v.domains d truths.first within.0))

-- what a domain's number says
abbrev by_number : Vocabulary → Option ℕ → Option TermType
by_number v None = None
by_number v (Some d) = domain_type v.domains d

abbrev unless_number : ℕ → RawName → Option ℕ → List Fault
unless_number n d None = fault_at Unknown n d ∷ []
unless_number n d (Some k) = []

-- a domain in whose name nothing is wrong has the same type by its name and by its number
pub known_domain : (v : Vocabulary) (n : ℕ) (d : RawName) → HasTruths v → unknown_domain v.domains n d ≡ [] → of_domain v.domains (number_or_whole v.domains d) ≡ Some (type_named v d.text)
known_domain v n d truths none = by (domain_number v.domains d.text) refl
  where
    by : (o : Option ℕ) → domain_number v.domains d.text ≡ o → of_domain v.domains (number_or_whole v.domains d) ≡ Some (type_named v d.text)
    by None e = absurd (full (fault_at Unknown n d) [] (sym (ap (unless_number n d) e) ∙ none))
    by (Some k) e = (let r = typed v d.text k truths e in
        ap (λ (o : Option ℕ). of_domain v.domains (unwrap_or o whole)) e ∙ ap (option_map (λ (type : TermType). Some type)) r.1 ∙ sym (ap (λ (type : Option TermType). Some type) (ap (by_number v) e ∙ r.1)))

-- the type by its name is that by its number
pub same_type_named : (v : Vocabulary) (n : ℕ) (d : RawName) → unknown_domain v.domains n d ≡ [] → type_named v d.text ≡ domain_type v.domains (number_or_whole v.domains d)
same_type_named v n d none = by (domain_number v.domains d.text) refl
  where
    by : (o : Option ℕ) → domain_number v.domains d.text ≡ o → type_named v d.text ≡ domain_type v.domains (number_or_whole v.domains d)
    by None e = absurd (full (fault_at Unknown n d) [] (sym (ap (unless_number n d) e) ∙ none))
    by (Some k) e = ap (by_number v) e ∙ sym (ap (λ (o : Option ℕ). domain_type v.domains (unwrap_or o whole)) e)

-- and it has a type
pub typed_domain : (v : Vocabulary) (n : ℕ) (d : RawName) → HasTruths v → unknown_domain v.domains n d ≡ [] → (r : TermType) × (domain_type v.domains (number_or_whole v.domains d) ≡ Some r)
typed_domain v n d truths none = by (domain_number v.domains d.text) refl
  where
    by : (o : Option ℕ) → domain_number v.domains d.text ≡ o → (r : TermType) × (domain_type v.domains (number_or_whole v.domains d) ≡ Some r)
    by None e = absurd (full (fault_at Unknown n d) [] (sym (ap (unless_number n d) e) ∙ none))
    by (Some k) e = (let r = typed v d.text k truths e in (r.0, ap (λ (o : Option ℕ). domain_type v.domains (unwrap_or o whole)) e ∙ r.1))

-- the scope within binders in which nothing is wrong
pub agrees_within : (number : Name → ℕ) → IsNumbering number → (v : Vocabulary) (n : ℕ) → HasTruths v → (bs : List RawBinder) (scope : Scope) (types : Types) → Agrees number scope types
    → flat_map (λ (b : RawBinder). unknown_domain v.domains n b.domain) bs ≡ [] → Agrees number (within v n bs scope) (bound_types v.domains (binders_of number v bs) types)
agrees_within number numbering v n truths [] scope types agrees none = agrees
agrees_within number numbering v n truths (b ∷ bs) scope types agrees none =
    let own = none_left (unknown_domain v.domains n b.domain) (flat_map (λ (b : RawBinder). unknown_domain v.domains n b.domain) bs) none in
    let others = none_right (unknown_domain v.domains n b.domain) (flat_map (λ (b : RawBinder). unknown_domain v.domains n b.domain) bs) none in
    let inner = agrees_within number numbering v n truths bs scope types agrees others in
    subst (λ (o : Option (Option TermType)). Agrees number (within v n (b ∷ bs) scope) (put_type (number b.variable.text) o (bound_types v.domains (binders_of number v bs) types)))
    (sym (known_domain v n b.domain truths own))
    (agrees_more number numbering (within v n bs scope) (bound_types v.domains (binders_of number v bs) types) b.variable.text (type_named v b.domain.text) inner)
