-- The domains and functions of files in whose names and domains nothing is wrong.
use Rattle.std.proofs.Common.{◌≡◌, ℕ, suc, zero, ◌+◌, Bool as Truth, true, false, true≢false, ◌||◌, cond, List, [], ◌∷◌, ◌++◌, length, take, Option, Some, None, slice_get, ℤ, refl, sym, ap, subst, ◌∙◌, arith}
use Rattle.std.specs.Prelude.{map}
use Rattle.std.specs.List.{flat_map, filter, list_any, enumerate_from}
use Rattle.std.specs.Option.{option_map}
use Rattle.std.specs.Ordering.{int_eq}
use Rattle.std.proofs.lemmas.Bool.Decides.{Decides-int_eq}
use Rattle.std.proofs.lemmas.List.Elements.{filter-append}
use Rattle.std.proofs.lemmas.List.Folds.{list_any-append}
use Rattle.std.proofs.lemmas.Option.{slice_get-map}
use Rattle.asm_domain.specs.Universe.{AreDistinct}
use Rattle.asm_sign.specs.declared.function.DeclaredDomain as sign
use Rattle.asm_sign.specs.declared.function.Function.{Function}
use Rattle.asm_sign.proofs.TupleLemmas.{in_flat_map, get-flat_map}
use Rattle.asm_tree.specs.declared.term.RawName.{RawName}
use Rattle.asm_tree.specs.declared.unit.RawInt.{RawInt}
use Rattle.asm_tree.specs.declared.unit.RawDeclaration.{RawDeclaration}
use Rattle.asm_tree.specs.declared.unit.RawDeclaration.TheVariants as declaration
use Rattle.asm_tree.specs.declared.unit.LoadedUnit.{LoadedUnit}
use Rattle.asm_faults.specs.declared.fault.ModelFault.TheVariants.{Duplicate}
use Rattle.asm_faults.specs.At.{Name, token}
use Rattle.asm_faults.specs.DomainFaults.{boolean, integer, repeats, name_faults, number_repeats}
use Rattle.asm_faults.specs.Files.{Of, all_of, DomainForm, Enumerated, Part, Abstract, DeclaredDomain, domain_in, domains, DeclaredFunction, function_in, functions, names_in_declaration, declared_names}
use Rattle.asm_faults.specs.FunctionFaults.{declared_domain, domains_of, function_of, signature_of}
use Rattle.asm_sound.proofs.Among.{Among, Empty, Without, With, among_none, fresh_among, items_among, of_unit}
use Rattle.asm_sound.proofs.Heads.{some_is}
use Rattle.asm_sound.proofs.Scopes.{none_left, none_right, fails}
use Rattle.asm_sound.proofs.TypedTerms.{no_some}

abbrev pub declarations : List LoadedUnit → List (Of RawDeclaration)
declarations units = all_of (λ u. u.declarations) units

-- ---- lists

filter_flat : {A B : Type 0} (p : B → Truth) (g : A → List B) (xs : List A) → filter p (flat_map g xs) ≡ flat_map (λ x. filter p (g x)) xs
filter_flat p g [] = refl
filter_flat p g (x ∷ xs) = filter-append p (g x) (flat_map g xs) ∙ ap (λ ys. filter p (g x) ++ ys) (filter_flat p g xs)

only_item : {A : Type 0} (x y : A) (k : ℕ) → slice_get (x ∷ []) k ≡ Some y → x ≡ y
only_item x y zero is = some_is x y is
only_item x y (suc k) is = absurd (no_some y is)

-- the texts of items whose names are declared, each once
distinct_texts : {A : Type 0} (name_of : A → Of RawName) (xs : List A) (earlier : List Name) (ys : List (Of RawName)) → Among (map name_of xs) ys → repeats earlier ys ≡ [] → AreDistinct (map (λ (a : A). (name_of a).1.text) xs)
distinct_texts {A} name_of xs earlier ys among none = record {
  one_place = λ i j t at_i at_j. by i j t (slice_get xs i) (slice_get xs j) refl refl (sym (slice_get-map text xs i) ∙ at_i) (sym (slice_get-map text xs j) ∙ at_j);
}
  where
    text : A → Name
    text a = (name_of a).1.text

    by : (i j : ℕ) (t : Name) (o p : Option A) → slice_get xs i ≡ o → slice_get xs j ≡ p → option_map text o ≡ Some t → option_map text p ≡ Some t → i ≡ j
    by i j t None p is_i is_j e d = absurd (no_some t e)
    by i j t (Some a) None is_i is_j e d = absurd (no_some t d)
    by i j t (Some a) (Some b) is_i is_j e d =
        fresh_among earlier among none i j (name_of a) (name_of b)
        (slice_get-map name_of xs i ∙ ap (option_map name_of) is_i) (slice_get-map name_of xs j ∙ ap (option_map name_of) is_j)
        (some_is (text a) t e ∙ sym (some_is (text b) t d))

-- texts beside an item that has none
distinct_optional : {A : Type 0} (text : A → Name) (xs : List A) → AreDistinct (map text xs) → AreDistinct (None ∷ map (λ (x : A). Some (text x)) xs)
distinct_optional {A} text xs distinct = record { one_place = one }
  where
    at : (k : ℕ) (t : Option Name) → slice_get (map (λ (x : A). Some (text x)) xs) k ≡ Some t → (s : Name) × (t ≡ Some s) × (slice_get (map text xs) k ≡ Some s)
    at k t is = by (slice_get xs k) refl (sym (slice_get-map (λ (x : A). Some (text x)) xs k) ∙ is)
      where
        by : (o : Option A) → slice_get xs k ≡ o → option_map (λ (x : A). Some (text x)) o ≡ Some t → (s : Name) × (t ≡ Some s) × (slice_get (map text xs) k ≡ Some s)
        by None e is = absurd (no_some t is)
        by (Some a) e is = (text a, sym (some_is (Some (text a)) t is), slice_get-map text xs k ∙ ap (option_map text) e)

    one : (i j : ℕ) (t : Option Name) → slice_get (None ∷ map (λ (x : A). Some (text x)) xs) i ≡ Some t → slice_get (None ∷ map (λ (x : A). Some (text x)) xs) j ≡ Some t → i ≡ j
    one zero zero t is js = refl
    one zero (suc j) t is js = (let p = at j t js in absurd (no_some p.0 (some_is None t is ∙ p.1)))
    one (suc i) zero t is js = (let p = at i t is in absurd (no_some p.0 (some_is None t js ∙ p.1)))
    one (suc i) (suc j) t is js =
        (let p = at i t is in
        let q = at j t js in
        ap suc (distinct.one_place i j p.0 p.2 (q.2 ∙ (sym q.1 ∙ p.1))))

-- ---- numbers that are listed once

or_right : (a b : Truth) → b ≡ true → (a || (b || false)) ≡ true
or_right true b e = refl
or_right false true e = refl
or_right false false e = absurd (true≢false (sym e))

or_left : (a b : Truth) → a ≡ true → (a || b) ≡ true
or_left true b e = refl
or_left false b e = absurd (true≢false (sym e))

number_fresh : (n : ℕ) (earlier : List ℤ) (xs : List RawInt) → number_repeats n earlier xs ≡ [] → (k : ℕ) (x : RawInt) → slice_get xs k ≡ Some x → list_any (int_eq x.value) earlier ≡ true → ⊥
number_fresh n earlier [] none k x is listed = no_some x is
number_fresh n earlier (y ∷ xs) none zero x is listed =
    let fresh = fails (list_any (int_eq y.value) earlier) (token Duplicate n y.at y.first) (none_left (cond (list_any (int_eq y.value) earlier) (token Duplicate n y.at y.first ∷ []) []) (number_repeats n (earlier ++ y.value ∷ []) xs) none) in
    true≢false (sym listed ∙ ap (λ (z : RawInt). list_any (int_eq z.value) earlier) (sym (some_is y x is)) ∙ fresh)
number_fresh n earlier (y ∷ xs) none (suc k) x is listed =
    number_fresh n (earlier ++ y.value ∷ []) xs (none_right (cond (list_any (int_eq y.value) earlier) (token Duplicate n y.at y.first ∷ []) []) (number_repeats n (earlier ++ y.value ∷ []) xs) none) k x is
    (list_any-append (int_eq x.value) earlier (y.value ∷ []) ∙ or_left (list_any (int_eq x.value) earlier) (list_any (int_eq x.value) (y.value ∷ [])) listed)

never_zero : {k : ℕ} → 0 ≡ suc k → ⊥
never_zero e = omega (arith, e)

number_once : (n : ℕ) (earlier : List ℤ) (xs : List RawInt) → number_repeats n earlier xs ≡ [] → (i j : ℕ) (x y : RawInt) → slice_get xs i ≡ Some x → slice_get xs j ≡ Some y → x.value ≡ y.value → i ≡ j
number_once n earlier [] none i j x y at_i at_j same = absurd (no_some x at_i)
number_once n earlier (z ∷ xs) none zero zero x y at_i at_j same = refl
number_once n earlier (z ∷ xs) none zero (suc j) x y at_i at_j same =
    let rest = none_right (cond (list_any (int_eq z.value) earlier) (token Duplicate n z.at z.first ∷ []) []) (number_repeats n (earlier ++ z.value ∷ []) xs) none in
    let first : y.value ≡ z.value = sym same ∙ sym (ap (λ (w : RawInt). w.value) (some_is z x at_i)) in
    absurd (number_fresh n (earlier ++ z.value ∷ []) xs rest j y at_j
    (list_any-append (int_eq y.value) earlier (z.value ∷ []) ∙ or_right (list_any (int_eq y.value) earlier) (int_eq y.value z.value) ((Decides-int_eq y.value z.value).1 first)))
number_once n earlier (z ∷ xs) none (suc i) zero x y at_i at_j same =
    let rest = none_right (cond (list_any (int_eq z.value) earlier) (token Duplicate n z.at z.first ∷ []) []) (number_repeats n (earlier ++ z.value ∷ []) xs) none in
    let first : x.value ≡ z.value = same ∙ sym (ap (λ (w : RawInt). w.value) (some_is z y at_j)) in
    absurd (number_fresh n (earlier ++ z.value ∷ []) xs rest i x at_i
    (list_any-append (int_eq x.value) earlier (z.value ∷ []) ∙ or_right (list_any (int_eq x.value) earlier) (int_eq x.value z.value) ((Decides-int_eq x.value z.value).1 first)))
number_once n earlier (z ∷ xs) none (suc i) (suc j) x y at_i at_j same =
    let rest = none_right (cond (list_any (int_eq z.value) earlier) (token Duplicate n z.at z.first ∷ []) []) (number_repeats n (earlier ++ z.value ∷ []) xs) none in
    ap suc (number_once n (earlier ++ z.value ∷ []) xs rest i j x y at_i at_j same)

pub listed_distinct : (n : ℕ) (xs : List RawInt) → number_repeats n [] xs ≡ [] → AreDistinct (map (λ (x : RawInt). x.value) xs)
listed_distinct n xs none = record {
  one_place = λ i j t at_i at_j. by i j t (slice_get xs i) (slice_get xs j) refl refl (sym (slice_get-map value xs i) ∙ at_i) (sym (slice_get-map value xs j) ∙ at_j);
}
  where
    value : RawInt → ℤ
    value x = x.value

    by : (i j : ℕ) (t : ℤ) (o p : Option RawInt) → slice_get xs i ≡ o → slice_get xs j ≡ p → option_map value o ≡ Some t → option_map value p ≡ Some t → i ≡ j
    by i j t None p is_i is_j e d = absurd (no_some t e)
    by i j t (Some a) None is_i is_j e d = absurd (no_some t d)
    by i j t (Some a) (Some b) is_i is_j e d = number_once n [] xs none i j a b is_i is_j (some_is a.value t e ∙ sym (some_is b.value t d))

-- ---- elements and functions by their names

-- a name that a declaration gives to an element or to a function
record Marked : Type 0 where
  is_function : Truth
  name : Of RawName

abbrev mark_element : ℕ → RawName → Marked
mark_element n e = record { is_function = false; name = (n, e) }

abbrev marked_in : Of RawDeclaration → List Marked
marked_in (n, declaration.Enumeration d es) = map (mark_element n) es
marked_in (n, declaration.Subset d base) = []
marked_in (n, declaration.Abstract d) = []
marked_in (n, declaration.Function kind f ds c) = record { is_function = true; name = (n, f) } ∷ []

abbrev mark_name : Marked → Of RawName
mark_name m = m.name

elements_marked : (n : ℕ) (es : List RawName) → Among (map mark_name (map (mark_element n) es)) (of_unit n es)
elements_marked n [] = Empty
elements_marked n (e ∷ es) = With (n, e) (elements_marked n es)

own_marked : (n : ℕ) (d : RawDeclaration) → Among (map mark_name (marked_in (n, d))) (of_unit n (names_in_declaration d))
own_marked n (declaration.Enumeration d es) = Without (n, d) (elements_marked n es)
own_marked n (declaration.Subset d base) = among_none (of_unit n (d ∷ []))
own_marked n (declaration.Abstract d) = among_none (of_unit n (d ∷ []))
own_marked n (declaration.Function kind f ds c) = With (n, f) Empty

abbrev marked : List LoadedUnit → List Marked
marked units = flat_map marked_in (declarations units)

marks_differ : (units : List LoadedUnit) → name_faults units ≡ [] → (i j : ℕ) (p q : Marked) → slice_get (marked units) i ≡ Some p → slice_get (marked units) j ≡ Some q → p.name.1.text ≡ q.name.1.text → i ≡ j
marks_differ units none i j p q at_i at_j same =
    fresh_among (boolean ∷ integer ∷ []) (items_among marked_in mark_name own_marked units) none i j p.name q.name
    (slice_get-map mark_name (marked units) i ∙ ap (option_map mark_name) at_i) (slice_get-map mark_name (marked units) j ∙ ap (option_map mark_name) at_j) same

-- the declaration of an enumeration with these elements
pub record EnumeratedIn (units : List LoadedUnit) (es : List RawName) : Type 0 where
  pub part : ℕ
  pub unit : ℕ
  pub domain : RawName
  pub is_part : slice_get (declarations units) part ≡ Some (unit, declaration.Enumeration domain es)

abbrev elements_in : DomainForm → List RawName
elements_in (Enumerated es) = es
elements_in (Part base) = []
elements_in Abstract = []

abbrev is_enumerated : DomainForm → Truth
is_enumerated (Enumerated es) = true
is_enumerated (Part base) = false
is_enumerated Abstract = false

pub enumerated_at : (units : List LoadedUnit) (k : ℕ) (d : DeclaredDomain) (es : List RawName) → slice_get (domains units) k ≡ Some d → d.form ≡ Enumerated es → EnumeratedIn units es
enumerated_at units k d es at form = (let s = in_flat_map domain_in (declarations units) k d at in of s.from.0 s.from.1 s.part s.place s.part_is s.item_is)
  where
    other : (f : DomainForm) → is_enumerated f ≡ false → f ≡ d.form → ⊥
    other f e same = true≢false (sym (ap is_enumerated (same ∙ form)) ∙ e)

    of : (n : ℕ) (decl : RawDeclaration) (part place : ℕ) → slice_get (declarations units) part ≡ Some (n, decl) → slice_get (domain_in (n, decl)) place ≡ Some d → EnumeratedIn units es
    of n (declaration.Enumeration e xs) part place is item =
        (let same : xs ≡ es = ap (λ (z : DeclaredDomain). elements_in z.form) (only_item (record { unit = n; name = e; form = Enumerated xs }) d place item) ∙ ap elements_in form in
        record { part = part; unit = n; domain = e; is_part = is ∙ ap (λ (zs : List RawName). Some (n, declaration.Enumeration e zs)) same })
    of n (declaration.Subset e base) part place is item = absurd (other (Part base) refl (ap (λ (z : DeclaredDomain). z.form) (only_item (record { unit = n; name = e; form = Part base }) d place item)))
    of n (declaration.Abstract e) part place is item = absurd (other Abstract refl (ap (λ (z : DeclaredDomain). z.form) (only_item (record { unit = n; name = e; form = Abstract }) d place item)))
    of n (declaration.Function kind f ds c) part place is item = absurd (no_some d item)

-- where an element's name stands
element_mark : (units : List LoadedUnit) (es : List RawName) (s : EnumeratedIn units es) (i : ℕ) (e : RawName) → slice_get es i ≡ Some e → slice_get (marked units) (length (flat_map marked_in (take s.part (declarations units))) + i) ≡ Some (mark_element s.unit e)
element_mark units es s i e at =
    get-flat_map marked_in (declarations units) s.part i (s.unit, declaration.Enumeration s.domain es) (mark_element s.unit e) s.is_part (slice_get-map (mark_element s.unit) es i ∙ ap (option_map (mark_element s.unit)) at)

-- where a function's name stands
function_mark : (units : List LoadedUnit) (k : ℕ) (f : DeclaredFunction) → slice_get (functions units) k ≡ Some f → (i : ℕ) × (slice_get (marked units) i ≡ Some (record { is_function = true; name = (f.unit, f.name) }))
function_mark units k f at = (let s = in_flat_map function_in (declarations units) k f at in of s.from.0 s.from.1 s.part s.place s.part_is s.item_is)
  where
    of : (n : ℕ) (decl : RawDeclaration) (part place : ℕ) → slice_get (declarations units) part ≡ Some (n, decl) → slice_get (function_in (n, decl)) place ≡ Some f → (i : ℕ) × (slice_get (marked units) i ≡ Some (record { is_function = true; name = (f.unit, f.name) }))
    of n (declaration.Enumeration e xs) part place is item = absurd (no_some f item)
    of n (declaration.Subset e base) part place is item = absurd (no_some f item)
    of n (declaration.Abstract e) part place is item = absurd (no_some f item)
    of n (declaration.Function kind g ds c) part place is item =
        (let same = only_item (record { unit = n; kind = kind; name = g; domains = ds; codomain = c }) f place item in (
          length (flat_map marked_in (take part (declarations units))) + 0,
          get-flat_map marked_in (declarations units) part 0 (n, declaration.Function kind g ds c) (record { is_function = true; name = (n, g) }) is refl
              ∙ ap (λ (z : DeclaredFunction). Some (record { is_function = true; name = (z.unit, z.name) })) same,
        ))

-- no function has the name of an element
pub apart : (units : List LoadedUnit) → name_faults units ≡ [] → (es : List RawName) → EnumeratedIn units es → (i k : ℕ) (e : RawName) (f : DeclaredFunction) → slice_get es i ≡ Some e → slice_get (functions units) k ≡ Some f → f.name.text ≡ e.text → ⊥
apart units none es s i k e f at_e at_f same =
    let m = element_mark units es s i e at_e in
    let w = function_mark units k f at_f in
    let place = marks_differ units none w.0 (length (flat_map marked_in (take s.part (declarations units))) + i) (record { is_function = true; name = (f.unit, f.name) }) (mark_element s.unit e) w.1 m same in
    let both = some_is (record { is_function = true; name = (f.unit, f.name) }) (mark_element s.unit e) (sym w.1 ∙ ap (slice_get (marked units)) place ∙ m) in
    true≢false (ap (λ (z : Marked). z.is_function) both)

-- the elements of an enumeration have different names
pub elements_distinct : (units : List LoadedUnit) → name_faults units ≡ [] → (es : List RawName) → EnumeratedIn units es → AreDistinct (map (λ (e : RawName). e.text) es)
elements_distinct units none es s = record {
  one_place = λ i j t at_i at_j. by i j t (slice_get es i) (slice_get es j) refl refl (sym (slice_get-map text es i) ∙ at_i) (sym (slice_get-map text es j) ∙ at_j);
}
  where
    text : RawName → Name
    text e = e.text

    by : (i j : ℕ) (t : Name) (o p : Option RawName) → slice_get es i ≡ o → slice_get es j ≡ p → option_map text o ≡ Some t → option_map text p ≡ Some t → i ≡ j
    by i j t None p is_i is_j e d = absurd (no_some t e)
    by i j t (Some a) None is_i is_j e d = absurd (no_some t d)
    by i j t (Some a) (Some b) is_i is_j e d =
        (let before : ℕ = length (flat_map marked_in (take s.part (declarations units))) in
        let place : before + i ≡ before + j = marks_differ units none (before + i) (before + j) (mark_element s.unit a) (mark_element s.unit b) (element_mark units es s i a is_i) (element_mark units es s j b is_j) (some_is a.text t e ∙ sym (some_is b.text t d)) in
        omega (arith, place))

-- ---- names of functions and domains

abbrev function_name : DeclaredFunction → Of RawName
function_name f = (f.unit, f.name)

-- functions of which a test holds
abbrev chosen_in : (DeclaredFunction → Truth) → Of RawDeclaration → List DeclaredFunction
chosen_in p d = filter p (function_in d)

own_chosen : (p : DeclaredFunction → Truth) (n : ℕ) (d : RawDeclaration) → Among (map function_name (chosen_in p (n, d))) (of_unit n (names_in_declaration d))
own_chosen p n (declaration.Enumeration d es) = among_none (of_unit n (d ∷ es))
own_chosen p n (declaration.Subset d base) = among_none (of_unit n (d ∷ []))
own_chosen p n (declaration.Abstract d) = among_none (of_unit n (d ∷ []))
own_chosen p n (declaration.Function kind f ds c) = by (p g)
  where
    g : DeclaredFunction
    g = record { unit = n; kind = kind; name = f; domains = ds; codomain = c }

    by : (b : Truth) → Among (map function_name (cond b (g ∷ []) [])) (of_unit n (f ∷ []))
    by true = With (n, f) Empty
    by false = Without (n, f) Empty

pub chosen_distinct : (units : List LoadedUnit) → name_faults units ≡ [] → (p : DeclaredFunction → Truth) → AreDistinct (map (λ (f : DeclaredFunction). f.name.text) (filter p (functions units)))
chosen_distinct units none p =
    distinct_texts function_name (filter p (functions units)) (boolean ∷ integer ∷ []) (declared_names units)
    (subst (λ (fs : List DeclaredFunction). Among (map function_name fs) (declared_names units)) (sym (filter_flat p function_in (declarations units))) (items_among (chosen_in p) function_name (own_chosen p) units)) none

all_filtered : (fs : List DeclaredFunction) → filter (λ (f : DeclaredFunction). true) fs ≡ fs
all_filtered [] = refl
all_filtered (f ∷ fs) = ap (λ gs. f ∷ gs) (all_filtered fs)

signature_names : (ds : List sign.DeclaredDomain) (fs : List DeclaredFunction) → map (λ (g : Function). g.name) (map (function_of ds) fs) ≡ map (λ (f : DeclaredFunction). f.name.text) fs
signature_names ds [] = refl
signature_names ds (f ∷ fs) = ap (λ names. f.name.text ∷ names) (signature_names ds fs)

pub functions_distinct : (units : List LoadedUnit) → name_faults units ≡ [] → AreDistinct (map (λ (g : Function). g.name) (signature_of units).functions)
functions_distinct units none =
    subst AreDistinct (ap (map (λ (f : DeclaredFunction). f.name.text)) (all_filtered (functions units)) ∙ sym (signature_names (domains_of units) (functions units)))
    (chosen_distinct units none (λ (f : DeclaredFunction). true))

abbrev pub domain_name : DeclaredDomain → Of RawName
domain_name d = (d.unit, d.name)

pub own_domain : (n : ℕ) (d : RawDeclaration) → Among (map domain_name (domain_in (n, d))) (of_unit n (names_in_declaration d))
own_domain n (declaration.Enumeration d es) = With (n, d) (among_none (of_unit n es))
own_domain n (declaration.Subset d base) = With (n, d) Empty
own_domain n (declaration.Abstract d) = With (n, d) Empty
own_domain n (declaration.Function kind f ds c) = among_none (of_unit n (f ∷ []))

pub domain_texts_distinct : (units : List LoadedUnit) → name_faults units ≡ [] → AreDistinct (map (λ (d : DeclaredDomain). d.name.text) (domains units))
domain_texts_distinct units none = distinct_texts domain_name (domains units) (boolean ∷ integer ∷ []) (declared_names units) (items_among domain_in domain_name own_domain units) none

names_from : (units : List LoadedUnit) (n : ℕ) (ds : List DeclaredDomain) → map (λ (d : sign.DeclaredDomain). d.name) (map (declared_domain units) (enumerate_from n ds)) ≡ map (λ (d : DeclaredDomain). Some d.name.text) ds
names_from units n [] = refl
names_from units n (d ∷ ds) = ap (λ names. Some d.name.text ∷ names) (names_from units (n + 1) ds)

pub domains_distinct : (units : List LoadedUnit) → name_faults units ≡ [] → AreDistinct (map (λ (d : sign.DeclaredDomain). d.name) (domains_of units))
domains_distinct units none =
    subst (λ (names : List (Option Name)). AreDistinct (None ∷ names)) (sym (names_from units 1 (domains units)))
    (distinct_optional (λ (d : DeclaredDomain). d.name.text) (domains units) (domain_texts_distinct units none))
