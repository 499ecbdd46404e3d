-- How many constants a domain has.
use Rattle.std.proofs.Common.{◌≡◌, ℕ, suc, ◌+◌, ◌<◌, ◌≤◌, Bool, true, false, ◌&&◌, if◌then◌else◌, nat_eq, ℤ, pos, negsuc, ◌+ℤ◌, ◌-ℤ◌, ◌<ℤ◌, ◌≤ℤ◌, List, [], ◌∷◌, ◌++◌, length, take, get_or, filter, refl, sym, ap, ◌∙◌, arith, length-append}
use Rattle.std.specs.Str.{bytes_eq}
use Rattle.std.proofs.lemmas.Bool.Decides.{nat_tests}
use Rattle.std.proofs.lemmas.Int.{ints}
use Rattle.std.proofs.lemmas.List.{length-map, take_all}
use Rattle.std.proofs.lemmas.List.Elements.{filter-append}
use Rattle.asm_domain.specs.Universe.{numbers_between, above_zero}
use Rattle.asm_domain.proofs.Elements.{length-upwards, length-between}
use Rattle.asm_tree.specs.declared.term.RawName.{RawName}
use Rattle.asm_tree.specs.declared.unit.RawFunctionKind.{RawFunctionKind}
use Rattle.asm_tree.specs.declared.unit.RawFunctionKind.TheVariants as function_kind
use Rattle.asm_tree.specs.declared.unit.RawDeclaration.{RawDeclaration}
use Rattle.asm_tree.specs.declared.unit.RawDeclaration.TheVariants as declaration
use Rattle.asm_tree.specs.declared.unit.RawUnit.{RawUnit}
use Rattle.asm_tree.specs.declared.unit.LoadedUnit.{LoadedUnit}
use Rattle.asm_faults.specs.At.{Name}
use Rattle.asm_faults.specs.Files.{DeclaredFunction, function_in, functions}
use Rattle.asm_faults.specs.DomainFaults.{is_constant_of, constants_of}
use Rattle.asm_declare.specs.Measures.{capped, functions_in, is_static}
use Rattle.asm_declare.proofs.Walks.{flat_more, of_all_more}

abbrev pub amount : Name → List DeclaredFunction → ℕ
amount domain fs = length (filter (is_constant_of domain) fs)

amount-append : (domain : Name) (fs gs : List DeclaredFunction) → amount domain (fs ++ gs) ≡ amount domain fs + amount domain gs
amount-append domain fs gs = ap length (filter-append (is_constant_of domain) fs gs) ∙ length-append (filter (is_constant_of domain) fs) (filter (is_constant_of domain) gs)

capped_sum : (a b c : ℕ) → c ≡ a + b → capped (capped a + b) ≡ capped c
capped_sum a b c e = omega arith

pub none_counted : (others : ℕ) → others ≤ 4097 → others ≡ capped (others + 0)
none_counted others le = omega arith

pub constants_more : (domain : Name) (others n : ℕ) (xs : List RawDeclaration) (i : ℕ) (x : RawDeclaration) (count k result : ℕ) → i < length xs → x ≡ get_or xs i x → count ≡ capped (others + amount domain (functions_in n (take i xs))) → amount domain (function_in (n, x)) ≡ k → result ≡ capped (count + k)
    → result ≡ capped (others + amount domain (functions_in n (take (i + 1) xs)))
constants_more domain others n xs i x count k result lt is before here now =
    let f : RawDeclaration → List DeclaredFunction = λ d. function_in (n, d) in
    let whole : amount domain (functions_in n (take (i + 1) xs)) ≡ amount domain (functions_in n (take i xs)) + k = ap (amount domain) (flat_more f xs i x lt is) ∙ amount-append domain (functions_in n (take i xs)) (f x) ∙ ap (λ (m : ℕ). amount domain (functions_in n (take i xs)) + m) here in
    now ∙ ap (λ (m : ℕ). capped (m + k)) before ∙ capped_sum (others + amount domain (functions_in n (take i xs))) k (others + amount domain (functions_in n (take (i + 1) xs))) (omega (arith, whole))

pub constants_all : (domain : Name) (others n : ℕ) (xs : List RawDeclaration) (i count : ℕ) → length xs ≤ i → count ≡ capped (others + amount domain (functions_in n (take i xs))) → count ≡ capped (others + amount domain (functions_in n xs))
constants_all domain others n xs i count le e = e ∙ ap (λ ds. capped (others + amount domain (functions_in n ds))) (take_all i xs le)

pub units_constants_more : (domain : Name) (units : List LoadedUnit) (i : ℕ) (u : LoadedUnit) (ds : List RawDeclaration) (count result : ℕ) → i < length units → u ≡ get_or units i u → ds ≡ u.unit.declarations → count ≡ capped (amount domain (functions (take i units)))
    → result ≡ capped (count + amount domain (functions_in i ds)) → result ≡ capped (amount domain (functions (take (i + 1) units)))
units_constants_more domain units i u ds count result lt is same before now =
    let f : RawUnit → List RawDeclaration = λ v. v.declarations in
    let whole : amount domain (functions (take (i + 1) units)) ≡ amount domain (functions (take i units)) + amount domain (functions_in i ds) =
    ap (amount domain) (of_all_more function_in f units i u lt is) ∙ amount-append domain (functions (take i units)) (functions_in i u.unit.declarations) ∙ ap (λ es. amount domain (functions (take i units)) + amount domain (functions_in i es)) (sym same) in
    now ∙ ap (λ (m : ℕ). capped (m + amount domain (functions_in i ds))) before ∙ capped_sum (amount domain (functions (take i units))) (amount domain (functions_in i ds)) (amount domain (functions (take (i + 1) units))) whole

pub units_constants_all : (domain : Name) (units : List LoadedUnit) (i count : ℕ) → length units ≤ i → count ≡ capped (amount domain (functions (take i units))) → count ≡ capped (length (constants_of units domain))
units_constants_all domain units i count le e =
    e ∙ ap (λ us. capped (amount domain (functions us))) (take_all i units le) ∙ ap capped (sym (length-map (filter (is_constant_of domain) (functions units)) (λ (f : DeclaredFunction). f.name.text)))

-- ---- one declaration

some_length : (n : ℕ) → nat_eq (suc n) 0 ≡ false
some_length n = grind (arith, nat_tests)

constant_is : (domain : Name) (n : ℕ) (kind : RawFunctionKind) (name : RawName) (ds : List RawName) (c : RawName) → is_constant_of domain (record { unit = n; kind = kind; name = name; domains = ds; codomain = c }) ≡ (is_static kind && (nat_eq (length ds) 0 && bytes_eq c.text domain))
constant_is domain n function_kind.Static name [] c = refl
constant_is domain n function_kind.Static name (d ∷ ds) c = let e : nat_eq (suc (length ds)) 0 ≡ false = some_length (length ds) in ap (λ (b : Bool). b && bytes_eq c.text domain) (sym e)
constant_is domain n function_kind.Derived name ds c = refl
constant_is domain n function_kind.Controlled name ds c = refl
constant_is domain n function_kind.Monitored name ds c = refl
constant_is domain n function_kind.Shared name ds c = refl
constant_is domain n function_kind.Out name ds c = refl

one_amount : (domain : Name) (f : DeclaredFunction) (b : Bool) → is_constant_of domain f ≡ b → amount domain (f ∷ []) ≡ (if b then 1 else 0)
one_amount domain f true e = rw e refl
one_amount domain f false e = rw e refl

pub constant_amount : (domain : Name) (n : ℕ) (kind : RawFunctionKind) (name : RawName) (ds : List RawName) (c : RawName) (static empty same result : Bool) → result ≡ (static && (empty && same)) → static ≡ is_static kind → empty ≡ nat_eq (length ds) 0 → same ≡ bytes_eq c.text domain
    → amount domain (record { unit = n; kind = kind; name = name; domains = ds; codomain = c } ∷ []) ≡ (if result then 1 else 0)
constant_amount domain n kind name ds c static empty same result is a b e =
    one_amount domain (record { unit = n; kind = kind; name = name; domains = ds; codomain = c }) result (constant_is domain n kind name ds c ∙ (λ j. sym a j && (sym b j && sym e j)) ∙ sym is)

-- ---- numbers between two

none_above : (z : ℤ) → z ≤ℤ pos 0 → above_zero z ≡ 0
none_above (pos n) le = omega (arith, ints)
none_above (negsuc n) le = refl

pub none_between : (low high : ℤ) → high <ℤ low → 0 ≡ capped (length (numbers_between low high))
none_between low high lt =
    let le : (high +ℤ pos 1 -ℤ low) ≤ℤ pos 0 = omega (arith, ints) in
    sym (ap capped (length-upwards low (above_zero (high +ℤ pos 1 -ℤ low)) ∙ none_above (high +ℤ pos 1 -ℤ low) le))

all_between : (low high : ℤ) (n : ℕ) → low +ℤ pos n ≡ high → length (numbers_between low high) ≡ n + 1
all_between low high n e = length-between low high (n + 1) (omega (arith, ints))

pub few_between : (low high : ℤ) (n : ℕ) → low +ℤ pos n ≡ high → n < 4096 → n + 1 ≡ capped (length (numbers_between low high))
few_between low high n e lt = let whole = all_between low high n e in omega (arith, whole)

pub many_between : (low high : ℤ) (n : ℕ) → low +ℤ pos n ≡ high → 4096 ≤ n → 4097 ≡ capped (length (numbers_between low high))
many_between low high n e le = let whole = all_between low high n e in omega (arith, whole)

-- ---- one declaration among all

pub constant_declared : (domain : Name) (n : ℕ) (d : RawDeclaration) (kind : RawFunctionKind) (name : RawName) (ds : List RawName) (c : RawName) (static empty same result : Bool) → d ≡ declaration.Function kind name ds c → result ≡ (static && (empty && same)) → static ≡ is_static kind → empty ≡ nat_eq (length ds) 0
    → same ≡ bytes_eq c.text domain → amount domain (function_in (n, d)) ≡ (if result then 1 else 0)
constant_declared domain n d kind name ds c static empty same result told is a b e =
    ap (λ (x : RawDeclaration). amount domain (function_in (n, x))) told ∙ constant_amount domain n kind name ds c static empty same result is a b e
