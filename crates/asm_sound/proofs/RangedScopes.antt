-- The ranges of domains, and those of the variables that are bound in a scope.
use Rattle.std.proofs.Common.{◌≡◌, ℕ, zero, suc, ◌^◌, ◌≤◌, ◌⊎◌, inl, inr, length, ℤ, pos, negsuc, neg_ℤ, ◌≤ℤ◌, unsigned_abs, Bool as Truth, true, false, true≢false, ◌||◌, nat_eq, if◌then◌else◌, List, [], ◌∷◌, ◌++◌, Option, Some, None, slice_get, refl, sym, ap, subst, ◌∙◌, arith}
use Rattle.std.specs.Prelude.{map, nat_le, bytes_eq}
use Rattle.std.specs.Int.{int_min, int_max}
use Rattle.std.specs.Int.Signed.{≤ℤ_refl}
use Rattle.std.specs.List.{list_any, flat_map, position}
use Rattle.std.specs.Option.{unwrap_or}
use Rattle.std.specs.Ordering.{int_eq}
use Rattle.std.proofs.lemmas.Int.{ints, clamps}
use Rattle.std.proofs.lemmas.Bool.{leb-true, le-leb}
use Rattle.std.proofs.lemmas.Bool.Decides.{Decides-int_eq}
use Rattle.std.proofs.lemmas.List.Quantifiers.{position-Some}
use Rattle.asm_domain.specs.declared.value.Value.{Value}
use Rattle.asm_domain.specs.declared.value.Value.TheVariants.{Int}
use Rattle.asm_domain.specs.Universe.{Universe, Truths, Numbers, Named, elements, named_from}
use Rattle.asm_sign.specs.Arguments.{elements_of}
use Rattle.asm_sign.specs.declared.function.DeclaredDomain.{DeclaredDomain}
use Rattle.asm_sign.specs.Vocabulary.{Vocabulary}
use Rattle.asm_node.specs.Values.{whole, same, is_whole}
use Rattle.asm_node.specs.Ranges.{Range, NoNumber, IsRangeOf, Ranges, no_ranges, put_range, IsDomainRange, AreBound, AreParameters}
use Rattle.asm_tree.specs.declared.term.RawName.{RawName}
use Rattle.asm_tree.specs.declared.term.RawBinder.{RawBinder}
use Rattle.asm_faults.specs.declared.fault.Fault.{Fault}
use Rattle.asm_faults.specs.declared.fault.ModelFault.TheVariants.{Unknown, WrongKind}
use Rattle.asm_faults.specs.At.{Name, fault_at}
use Rattle.asm_faults.specs.DomainFaults.{boolean, integer}
use Rattle.asm_faults.specs.Files.{has_name}
use Rattle.asm_faults.specs.FunctionFaults.{domain_number, is_domain_named, number_or_whole, unknown_domain}
use Rattle.asm_faults.specs.Terms.{infinite_faults}
use Rattle.asm_faults.specs.Model.{IsNumbering, binders_of}
use Rattle.asm_faults.specs.Ranges.{Spread, Between, spread_from, universe_spread, declared_spread, domain_spread, numbered_spread, spread_named, Spreading, Scope, or_bound, bound_spread, spread_or_none, within}
use Rattle.asm_sound.proofs.Scopes.{full, none_left, none_right, fails, same_names}
use Rattle.asm_sound.proofs.TypedTerms.{below_whole}
use Rattle.asm_sound.proofs.Spreads.{spread_of, spanning, least_of_two, greatest_of_two}

-- ---- the numbers of a domain

abbrev Member : List ℤ → ℤ → Type 0
Member [] z = ⊥
Member (x ∷ xs) z = (x ≡ z) ⊎ Member xs z

-- from the least to the greatest of two numbers and others
record IsSpan (P : ℤ → Type 0) (low high : ℤ) (zs : List ℤ) : Type 0 where
  l : ℤ
  h : ℤ
  is : spread_from low high zs ≡ Between l h
  least : P l
  greatest : P h
  from : l ≤ℤ low
  to : high ≤ℤ h
  holds : (z : ℤ) → Member zs z → (l ≤ℤ z) × (z ≤ℤ h)

span : (P : ℤ → Type 0) (low high : ℤ) (zs : List ℤ) → P low → P high → ((z : ℤ) → Member zs z → P z) → IsSpan P low high zs
span P low high [] p q all = record { l = low; h = high; is = refl; least = p; greatest = q; from = ≤ℤ_refl low; to = ≤ℤ_refl high; holds = λ z is. absurd is }
span P low high (x ∷ xs) p q all =
    let s = span P (int_min low x) (int_max high x) xs (least_of_two P low x p (all x (inl refl))) (greatest_of_two P high x q (all x (inl refl))) (λ z is. all z (inr is)) in
    let from = s.from in
    let to = s.to in
    record {
      l = s.l;
      h = s.h;
      is = s.is;
      least = s.least;
      greatest = s.greatest;
      from = omega (arith, ints, clamps);
      to = omega (arith, ints, clamps);
      holds = λ z is. elim is [
        | inl e ↦ (omega (arith, ints, clamps), omega (arith, ints, clamps))
        | inr m ↦ s.holds z m
      ];
    }

abbrev Listed : List ℤ → ℤ → Type 0
Listed xs z = list_any (λ (w : Value). same w (Int z)) (map Int xs) ≡ true

member : (xs : List ℤ) (z : ℤ) → Listed xs z → Member xs z
member [] z e = absurd (true≢false (sym e))
member (x ∷ xs) z e = by (int_eq x z) refl e (λ f. member xs z f)
  where
    by : (b : Truth) → int_eq x z ≡ b → (b || list_any (λ (w : Value). same w (Int z)) (map Int xs)) ≡ true → (Listed xs z → Member xs z) → Member (x ∷ xs) z
    by true is f later = inl ((Decides-int_eq x z).0 is)
    by false is f later = inr (later f)

listed : (xs : List ℤ) (z : ℤ) → Member xs z → Listed xs z
listed [] z is = absurd is
listed (x ∷ xs) z (inl e) = ap (λ (b : Truth). b || list_any (λ (w : Value). same w (Int z)) (map Int xs)) ((Decides-int_eq x z).1 e)
listed (x ∷ xs) z (inr m) = ap (λ (b : Truth). int_eq x z || b) (listed xs z m) ∙ or_true (int_eq x z)
  where
    or_true : (b : Truth) → (b || true) ≡ true
    or_true true = refl
    or_true false = refl

no_names : (d k : ℕ) (names : List (List ℕ)) (z : ℤ) → list_any (λ (w : Value). same w (Int z)) (named_from d k names) ≡ true → ⊥
no_names d k [] z e = true≢false (sym e)
no_names d k (x ∷ names) z e = no_names d (suc k) names z e

-- the range of some numbers, told by bounds
abbrev Known : (ℤ → Type 0) → Spread → Type 0
Known numbers s = (r : Range) × (spread_of r ≡ s) × IsRangeOf numbers r

universe_range : (u : Universe) → Known (λ z. list_any (λ (w : Value). same w (Int z)) (elements u) ≡ true) (universe_spread u)
universe_range Truths = (NoNumber, refl, λ z e. true≢false (sym e))
universe_range (Numbers []) = (NoNumber, refl, λ z e. true≢false (sym e))
universe_range (Numbers (x ∷ xs)) =
    let s = span (Member (x ∷ xs)) x x xs (inl refl) (inl refl) (λ z is. inr is) in
    let r = spanning (Listed (x ∷ xs)) s.l s.h record {
      least = listed (x ∷ xs) s.l s.least;
      greatest = listed (x ∷ xs) s.h s.greatest;
      between = λ z e. elim (member (x ∷ xs) z e) [ inl is ↦ subst (λ (y : ℤ). (s.l ≤ℤ y) × (y ≤ℤ s.h)) is (s.from, s.to) | inr m ↦ s.holds z m ];
    } in
    (r.0, r.1 ∙ sym s.is, r.2)
universe_range (Named d names) = (NoNumber, refl, λ z e. no_names d 0 names z e)

declared_range : (o : Option DeclaredDomain) → Known (λ z. list_any (λ (w : Value). same w (Int z)) (elements_of o) ≡ true) (declared_spread o)
declared_range None = (NoNumber, refl, λ z e. true≢false (sym e))
declared_range (Some d) = universe_range d.domain

within_size : (n : ℕ) (z : ℤ) → unsigned_abs z ≤ n → (neg_ℤ (pos n) ≤ℤ z) × (z ≤ℤ pos n)
within_size n (pos a) h = (omega (arith, ints), omega (arith, ints))
within_size n (negsuc a) h = (omega (arith, ints), omega (arith, ints))

size_of_neg : (n : ℕ) → unsigned_abs (neg_ℤ (pos n)) ≡ n
size_of_neg zero = refl
size_of_neg (suc n) = refl

-- the numbers up to a size
size_range : (n : ℕ) → Known (λ z. nat_le (unsigned_abs z) n ≡ true) (Between (neg_ℤ (pos n)) (pos n))
size_range n =
    spanning (λ z. nat_le (unsigned_abs z) n ≡ true) (neg_ℤ (pos n)) (pos n)
    record {
      least = le-leb (unsigned_abs (neg_ℤ (pos n))) n (omega (arith, size_of_neg n));
      greatest = le-leb n n (omega arith);
      between = λ z e. within_size n z (leb-true (unsigned_abs z) n e);
    }

-- the range of a domain has the bounds that its number says
pub domain_range : (v : Vocabulary) (d : ℕ) → (r : Range) × (spread_of r ≡ domain_spread v.domains d) × IsDomainRange v d r
domain_range v d = by (nat_eq d whole) (slice_get v.domains d)
  where
    by : (b : Truth) (o : Option DeclaredDomain)
        → Known (λ z. (if b then is_whole (Int z) else list_any (λ (w : Value). same w (Int z)) (elements_of o)) ≡ true) (if b then Between (neg_ℤ (pos (2 ^ 31))) (pos (2 ^ 31)) else declared_spread o)
    by true o = size_range (2 ^ 31)
    by false o = declared_range o

-- ---- domains by their names

abbrev unless_number : ℕ → RawName → Option ℕ → List Fault
unless_number n d None = fault_at Unknown n d ∷ []
unless_number n d (Some k) = []

-- a domain that is declared has a number
pub known_number : (domains : List DeclaredDomain) (n : ℕ) (d : RawName) → unknown_domain domains n d ≡ [] → domain_number domains d.text ≡ Some (number_or_whole domains d)
known_number domains n d none = by (domain_number domains d.text) refl
  where
    by : (o : Option ℕ) → domain_number domains d.text ≡ o → domain_number domains d.text ≡ Some (number_or_whole domains d)
    by None e = absurd (full (fault_at Unknown n d) [] (sym (ap (unless_number n d) e) ∙ none))
    by (Some k) e = e ∙ sym (ap (λ (o : Option ℕ). Some (unwrap_or o whole)) e)

-- the range of a domain by its name
pub named_range : (v : Vocabulary) (text : Name) (d : ℕ) → domain_number v.domains text ≡ Some d → (r : Range) × (spread_of r ≡ spread_named v text) × IsDomainRange v d r
named_range v text d is = let k = domain_range v d in (k.0, k.1 ∙ sym (ap (numbered_spread v.domains) is), k.2)

-- the number of a finite domain isn't that of the whole numbers
pub finite_number : (domains : List DeclaredDomain) → length domains ≤ whole → (text : Name) (d : ℕ) → domain_number domains text ≡ Some d → bytes_eq text integer ≡ false → nat_eq d whole ≡ false
finite_number domains few text d is finite = by (bytes_eq text boolean) (bytes_eq text integer) finite is
  where
    by : (b c : Truth) → c ≡ false → (if b then Some 0 else (if c then Some whole else position (is_domain_named text) domains)) ≡ Some d → nat_eq d whole ≡ false
    by true c f e = (let same_zero : 0 ≡ d = cc e in below_whole d (λ same_whole. omega (arith, same_zero, same_whole)))
    by false true f e = absurd (true≢false f)
    by false false f e =
        (let at = (position-Some (is_domain_named text) domains d (record { name = None; domain = Truths }) e).0 in
        below_whole d (λ same_whole. omega (arith, at, few, same_whole)))

-- ---- scopes

-- the ranges of the variables are those of the scope
abbrev pub Agrees : (Name → ℕ) → Scope → Ranges → Type 0
Agrees number scope rs = (y : Name) → spread_of (rs (number y)) ≡ spread_or_none (bound_spread scope y)

pub agrees_none : (number : Name → ℕ) → Agrees number [] no_ranges
agrees_none number y = refl

or_none : (o : Option Spread) → or_bound o None ≡ o
or_none None = refl
or_none (Some r) = refl

or_assoc : (o p q : Option Spread) → or_bound (or_bound o p) q ≡ or_bound o (or_bound p q)
or_assoc None p q = refl
or_assoc (Some r) p q = refl

abbrev own : Spreading → Name → Option Spread
own b x = if bytes_eq b.name x then Some b.spread else None

bound_last : (scope : Scope) (b : Spreading) (x : Name) → bound_spread (scope ++ b ∷ []) x ≡ or_bound (own b x) (bound_spread scope x)
bound_last [] b x = sym (or_none (own b x))
bound_last (c ∷ scope) b x = ap (λ (o : Option Spread). or_bound o (own c x)) (bound_last scope b x) ∙ or_assoc (own b x) (bound_spread scope x) (own c x)

put_last : (t : Truth) (r q : Range) (s : Spread) (o : Option Spread) → spread_of r ≡ s → spread_of q ≡ spread_or_none o → spread_of (if t then r else q) ≡ spread_or_none (or_bound (if t then Some s else None) o)
put_last true r q s o e f = e
put_last false r q s o e f = f

module _ (number : Name → ℕ) (numbering : IsNumbering number) where
  pub agrees_more : (scope : Scope) (rs : Ranges) (x : Name) (r : Range) (s : Spread) → spread_of r ≡ s → Agrees number scope rs → Agrees number (scope ++ record { name = x; spread = s } ∷ []) (put_range (number x) r rs)
  agrees_more scope rs x r s e agrees y =
      ap (λ (t : Truth). spread_of (if t then r else rs (number y))) (same_names number numbering x y)
      ∙ put_last (bytes_eq x y) r (rs (number y)) s (bound_spread scope y) e (agrees y)
      ∙ sym (ap spread_or_none (bound_last scope (record { name = x; spread = s }) y))

  -- the variables of binders, whose domains are declared and finite
  pub bound_in : (v : Vocabulary) (n : ℕ) → length v.domains ≤ whole → (bs : List RawBinder) (scope : Scope) (rs : Ranges) → Agrees number scope rs
      → flat_map (λ (b : RawBinder). unknown_domain v.domains n b.domain) bs ≡ [] → infinite_faults v n bs ≡ [] → (inner : Ranges) × AreBound v (binders_of number v bs) rs inner × Agrees number (within v bs scope) inner
  bound_in v n few [] scope rs agrees known finite = (rs, λ y. refl, agrees)
  bound_in v n few (b ∷ bs) scope rs agrees known finite =
      let here = none_left (unknown_domain v.domains n b.domain) (flat_map (λ (b : RawBinder). unknown_domain v.domains n b.domain) bs) known in
      let others = none_right (unknown_domain v.domains n b.domain) (flat_map (λ (b : RawBinder). unknown_domain v.domains n b.domain) bs) known in
      let unless : List Fault = if has_name integer b.domain then fault_at WrongKind n b.domain ∷ [] else [] in
      let is_finite = fails (has_name integer b.domain) (fault_at WrongKind n b.domain) (none_left unless (infinite_faults v n bs) finite) in
      let d : ℕ = number_or_whole v.domains b.domain in
      let is = known_number v.domains n b.domain here in
      let r = named_range v b.domain.text d is in
      let inner = bound_in v n few bs scope rs agrees others (none_right unless (infinite_faults v n bs) finite) in (
        put_range (number b.variable.text) r.0 inner.0,
        (r.0, inner.0, r.2, inner.1, λ y. refl, finite_number v.domains few b.domain.text d is is_finite),
        agrees_more (within v bs scope) inner.0 b.variable.text r.0 (spread_named v b.domain.text) r.1 inner.2,
      )

  -- the binders have these domains
  abbrev pub Match : Vocabulary → List RawBinder → List ℕ → Type 0
  Match v [] [] = Unit {0}
  Match v (b ∷ bs) (d ∷ ds) = (domain_number v.domains b.domain.text ≡ Some d) × Match v bs ds
  Match v _ _ = ⊥

  pub parameters_in : (v : Vocabulary) (bs : List RawBinder) (ds : List ℕ) → Match v bs ds → (inner : Ranges) × AreParameters v (map (λ (b : RawBinder). number b.variable.text) bs) ds inner × Agrees number (within v bs []) inner
  parameters_in v [] [] is = (no_ranges, λ y. refl, agrees_none number)
  parameters_in v [] (d ∷ ds) is = absurd is
  parameters_in v (b ∷ bs) [] is = absurd is
  parameters_in v (b ∷ bs) (d ∷ ds) is =
      let r = named_range v b.domain.text d is.0 in
      let inner = parameters_in v bs ds is.1 in (
        put_range (number b.variable.text) r.0 inner.0,
        (r.0, inner.0, r.2, inner.1, λ y. refl),
        agrees_more (within v bs []) inner.0 b.variable.text r.0 (spread_named v b.domain.text) r.1 inner.2,
      )
