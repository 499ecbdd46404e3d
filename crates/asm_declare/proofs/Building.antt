-- Domains of a signature that are made one after the other.
use Rattle.std.proofs.Common.{◌≡◌, ℕ, suc, ◌+◌, ◌<◌, ◌≤◌, ℤ, pos, ◌+ℤ◌, ◌≤ℤ◌, ◌<ℤ◌, Ok, Err, List, [], ◌∷◌, ◌++◌, length, map, take, get_or, Some, option_map, sym, ap, ◌∙◌, arith, append_assoc, length-append}
use Rattle.std.specs.Prelude.{◌↔◌, Result}
use Rattle.std.specs.List.{enumerate_from}
use Rattle.std.specs.Option.{unwrap_or}
use Rattle.std.proofs.lemmas.Int.{ints}
use Rattle.std.proofs.lemmas.List.{append-nil, map-append, length-map, take_all}
use Rattle.std.proofs.lemmas.List.FromFn.{length-enumerate_from}
use Rattle.asm_domain.specs.Universe.{Universe, Numbers, Named}
use Rattle.asm_sign.specs.declared.function.DeclaredDomain as sign
use Rattle.asm_tree.specs.declared.term.RawName.{RawName}
use Rattle.asm_tree.specs.declared.unit.RawDeclaration.{RawDeclaration}
use Rattle.asm_tree.specs.declared.unit.RawDeclaration.TheVariants as declaration
use Rattle.asm_tree.specs.declared.unit.RawUnit.{RawUnit}
use Rattle.asm_tree.specs.declared.unit.LoadedUnit.{LoadedUnit}
use Rattle.asm_faults.specs.At.{Name}
use Rattle.asm_faults.specs.Files.{DeclaredDomain, domain_in, domains}
use Rattle.asm_faults.specs.DomainFaults.{constants_of, definition_of_domain}
use Rattle.asm_faults.specs.FunctionFaults.{declared_domain, truth_values, domains_of}
use Rattle.asm_declare.specs.Measures.{domains_in}
use Rattle.asm_declare.specs.Told.{told}
use Rattle.asm_declare.proofs.Walks.{flat_more, of_all_more}

-- ---- items behind a list, each with its place

enumerate-append : {X : Type 0} (n : ℕ) (xs ys : List X) → enumerate_from n (xs ++ ys) ≡ enumerate_from n xs ++ enumerate_from (n + length xs) ys
enumerate-append n [] ys = ap (λ (k : ℕ). enumerate_from k ys) (omega arith)
enumerate-append {X} n (x ∷ xs) ys =
    let here : ℕ × X = (n, x) in
    let e : n + 1 + length xs ≡ n + suc (length xs) = omega arith in
    ap (λ l. here ∷ l) (enumerate-append (n + 1) xs ys ∙ ap (λ (k : ℕ). enumerate_from (n + 1) xs ++ enumerate_from k ys) e)

put_both : {X A : Type 0} (g : ℕ × X → A) (before now after : List A) (xs ys zs : List X) → zs ≡ xs ++ ys → now ≡ before ++ map g (enumerate_from (length before) xs) → after ≡ now ++ map g (enumerate_from (length now) ys) → after ≡ before ++ map g (enumerate_from (length before) zs)
put_both g before now after xs ys zs e a b =
    let start : ℕ = length before in
    let many : length (map g (enumerate_from start xs)) ≡ length xs = length-map (enumerate_from start xs) g ∙ length-enumerate_from start xs in
    let count : length now ≡ start + length xs = ap length a ∙ length-append before (map g (enumerate_from start xs)) ∙ ap (λ (k : ℕ). start + k) many in
    b ∙ (λ j. a j ++ map g (enumerate_from (count j) ys)) ∙ append_assoc before (map g (enumerate_from start xs)) (map g (enumerate_from (start + length xs) ys))
    ∙ ap (λ l. before ++ l) (sym (map-append g (enumerate_from start xs) (enumerate_from (start + length xs) ys)) ∙ ap (map g) (sym (enumerate-append start xs ys) ∙ ap (enumerate_from start) (sym e)))

pub none_put : {X A : Type 0} (g : ℕ × X → A) (before : List A) {xs : List X} → xs ≡ [] → before ≡ before ++ map g (enumerate_from (length before) xs)
none_put g before e = sym (append-nil before) ∙ ap (λ l. before ++ map g (enumerate_from (length before) l)) (sym e)

-- ---- domains, one further

pub domains_more : (g : ℕ × DeclaredDomain → sign.DeclaredDomain) (before now after : List sign.DeclaredDomain) (n : ℕ) (xs : List RawDeclaration) (i : ℕ) (x : RawDeclaration) → i < length xs → x ≡ get_or xs i x
    → now ≡ before ++ map g (enumerate_from (length before) (domains_in n (take i xs))) → after ≡ now ++ map g (enumerate_from (length now) (domain_in (n, x))) → after ≡ before ++ map g (enumerate_from (length before) (domains_in n (take (i + 1) xs)))
domains_more g before now after n xs i x lt is a b =
    let f : RawDeclaration → List DeclaredDomain = λ d. domain_in (n, d) in put_both g before now after (domains_in n (take i xs)) (f x) (domains_in n (take (i + 1) xs)) (flat_more f xs i x lt is) a b

pub domains_all : (g : ℕ × DeclaredDomain → sign.DeclaredDomain) (before now : List sign.DeclaredDomain) (n : ℕ) (xs : List RawDeclaration) (i : ℕ) → length xs ≤ i → now ≡ before ++ map g (enumerate_from (length before) (domains_in n (take i xs))) → now ≡ before ++ map g (enumerate_from (length before) (domains_in n xs))
domains_all g before now n xs i le a = a ∙ ap (λ ds. before ++ map g (enumerate_from (length before) (domains_in n ds))) (take_all i xs le)

pub units_domains_more : (g : ℕ × DeclaredDomain → sign.DeclaredDomain) (before now after : List sign.DeclaredDomain) (units : List LoadedUnit) (i : ℕ) (u : LoadedUnit) (ds : List RawDeclaration) → ds ≡ u.unit.declarations → i < length units → u ≡ get_or units i u
    → now ≡ before ++ map g (enumerate_from (length before) (domains (take i units))) → after ≡ now ++ map g (enumerate_from (length now) (domains_in i ds)) → after ≡ before ++ map g (enumerate_from (length before) (domains (take (i + 1) units)))
units_domains_more g before now after units i u ds e lt is a b =
    let f : RawUnit → List RawDeclaration = λ v. v.declarations in
    put_both g before now after (domains (take i units)) (domains_in i ds) (domains (take (i + 1) units)) (of_all_more domain_in f units i u lt is ∙ ap (λ items. domains (take i units) ++ domains_in i items) (sym e)) a b

pub units_domains_all : (g : ℕ × DeclaredDomain → sign.DeclaredDomain) (before now : List sign.DeclaredDomain) (units : List LoadedUnit) (i : ℕ) → length units ≤ i → now ≡ before ++ map g (enumerate_from (length before) (domains (take i units))) → now ≡ before ++ map g (enumerate_from (length before) (domains units))
units_domains_all g before now units i le a = a ∙ ap (λ us. before ++ map g (enumerate_from (length before) (domains us))) (take_all i units le)

-- ---- the forms of domains

pub enumeration_put : (units : List LoadedUnit) (before after : List sign.DeclaredDomain) (n number : ℕ) (item : RawDeclaration) (name : RawName) (es ys : List RawName) (u : Universe) → item ≡ declaration.Enumeration name es → ys ≡ es → number ≡ length before → u ≡ Named number (map (λ (e : RawName). e.text) ys)
    → after ≡ before ++ record { name = Some name.text; domain = u } ∷ [] → after ≡ before ++ map (declared_domain units) (enumerate_from (length before) (domain_in (n, item)))
enumeration_put units before after n number item name es ys u told_item same count is a =
    a ∙ ap (λ (v : Universe). let d : sign.DeclaredDomain = record { name = Some name.text; domain = v } in before ++ d ∷ []) (is ∙ (λ j. Named (count j) (map (λ (e : RawName). e.text) (same j))))
    ∙ ap (λ (x : RawDeclaration). before ++ map (declared_domain units) (enumerate_from (length before) (domain_in (n, x)))) (sym told_item)

pub abstract_put : (units : List LoadedUnit) (before after : List sign.DeclaredDomain) (n number : ℕ) (item : RawDeclaration) (name : RawName) (names : List Name) (u : Universe) → item ≡ declaration.Abstract name → number ≡ length before → names ≡ constants_of units name.text → u ≡ Named number names
    → after ≡ before ++ record { name = Some name.text; domain = u } ∷ [] → after ≡ before ++ map (declared_domain units) (enumerate_from (length before) (domain_in (n, item)))
abstract_put units before after n number item name names u told_item count all is a =
    a ∙ ap (λ (v : Universe). let d : sign.DeclaredDomain = record { name = Some name.text; domain = v } in before ++ d ∷ []) (is ∙ (λ j. Named (count j) (all j)))
    ∙ ap (λ (x : RawDeclaration). before ++ map (declared_domain units) (enumerate_from (length before) (domain_in (n, x)))) (sym told_item)

pub part_put : (units : List LoadedUnit) (before after : List sign.DeclaredDomain) (n : ℕ) (item : RawDeclaration) (name base : RawName) (u : Universe) → item ≡ declaration.Subset name base → u ≡ Numbers (unwrap_or (option_map told (definition_of_domain units name.text)) [])
    → after ≡ before ++ record { name = Some name.text; domain = u } ∷ [] → after ≡ before ++ map (declared_domain units) (enumerate_from (length before) (domain_in (n, item)))
part_put units before after n item name base u told_item is a =
    a ∙ ap (λ (v : Universe). let d : sign.DeclaredDomain = record { name = Some name.text; domain = v } in before ++ d ∷ []) is
    ∙ ap (λ (x : RawDeclaration). before ++ map (declared_domain units) (enumerate_from (length before) (domain_in (n, x)))) (sym told_item)

pub whole_list : (units files : List LoadedUnit) (first second last : List sign.DeclaredDomain) → files ≡ units → first ≡ [] → second ≡ first ++ truth_values ∷ [] → last ≡ second ++ map (declared_domain files) (enumerate_from (length second) (domains files)) → last ≡ domains_of units
whole_list units files first second last same none one rest =
    let start : second ≡ truth_values ∷ [] = one ∙ ap (λ l. l ++ truth_values ∷ []) none in
    rest ∙ (λ j. start j ++ map (declared_domain (same j)) (enumerate_from (length (start j)) (domains (same j))))

-- ---- ranges

not_above : (low high : ℤ) → (high <ℤ low → ⊥) → low ≤ℤ high
not_above low high h = grind (arith, ints, h)

not_far : (low high : ℤ) → ((low +ℤ pos 256) ≤ℤ high → ⊥) → high <ℤ (low +ℤ pos 256)
not_far low high h = grind (arith, ints, h)

-- what is made is the one value that there is where neither error comes
pub range_made : {D E : Type 0} (low high : ℤ) (d u : D) (empty large : E) (r : Result D E) → r ≡ Ok d → ((r ≡ Err empty) ↔ (high <ℤ low)) → ((r ≡ Err large) ↔ ((low +ℤ pos 256) ≤ℤ high)) → (low ≤ℤ high → high <ℤ (low +ℤ pos 256) → r ≡ Ok u) → d ≡ u
range_made low high d u empty large r is a b made =
    let e = made (not_above low high (λ h. absurd (cc (is, a.1 h)))) (not_far low high (λ h. absurd (cc (is, b.1 h)))) in cc (is, e)
