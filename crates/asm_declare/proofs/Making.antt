-- Functions of a signature that are made one after the other.
use Rattle.std.proofs.Common.{◌≡◌, ℕ, ◌+◌, ◌<◌, ◌≤◌, List, [], ◌∷◌, ◌++◌, length, map, take, get_or, Some, None, option_map, slice_get, refl, sym, ap, ◌∙◌, append_assoc}
use Rattle.std.specs.Option.{unwrap_or}
use Rattle.std.proofs.lemmas.List.{append-nil, map-append, length-map, take_all}
use Rattle.asm_domain.specs.Universe.{Universe, Truths, Numbers, Named, elements}
use Rattle.asm_domain.proofs.Elements.{length-named_from}
use Rattle.asm_domain.specs.declared.value.Value.TheVariants.{Int}
use Rattle.asm_sign.specs.declared.function.DeclaredDomain as sign
use Rattle.asm_sign.specs.declared.function.Function.{Function}
use Rattle.asm_tree.specs.declared.term.RawName.{RawName}
use Rattle.asm_tree.specs.declared.unit.RawFunctionKind.{RawFunctionKind}
use Rattle.asm_tree.specs.declared.unit.RawDeclaration.{RawDeclaration}
use Rattle.asm_tree.specs.declared.unit.RawDeclaration.TheVariants as declaration
use Rattle.asm_tree.specs.declared.unit.RawUnit.{RawUnit}
use Rattle.asm_tree.specs.declared.unit.LoadedUnit.{LoadedUnit}
use Rattle.asm_faults.specs.Files.{DeclaredFunction, function_in, functions}
use Rattle.asm_faults.specs.DomainFaults.{count_in}
use Rattle.asm_faults.specs.FunctionFaults.{function_of, size_of}
use Rattle.asm_declare.specs.Measures.{functions_in}
use Rattle.asm_declare.proofs.Walks.{flat_more, of_all_more}

-- some are made, and then others
pub made_both : {X A : Type 0} (g : X → A) (before now after : List A) (xs ys zs : List X) → zs ≡ xs ++ ys → now ≡ before ++ map g xs → after ≡ now ++ map g ys → after ≡ before ++ map g zs
made_both g before now after xs ys zs e a b =
    b ∙ ap (λ l. l ++ map g ys) a ∙ append_assoc before (map g xs) (map g ys) ∙ ap (λ l. before ++ l) (sym (map-append g xs ys)) ∙ ap (λ l. before ++ map g l) (sym e)

pub none_made : {X A : Type 0} (g : X → A) (before : List A) {xs : List X} → xs ≡ [] → before ≡ before ++ map g xs
none_made g before e = sym (append-nil before) ∙ ap (λ l. before ++ map g l) (sym e)

-- ---- functions

pub functions_more : (g : DeclaredFunction → Function) (before now after : List Function) (n : ℕ) (xs : List RawDeclaration) (i : ℕ) (x : RawDeclaration) → i < length xs → x ≡ get_or xs i x
    → now ≡ before ++ map g (functions_in n (take i xs)) → after ≡ now ++ map g (function_in (n, x)) → after ≡ before ++ map g (functions_in n (take (i + 1) xs))
functions_more g before now after n xs i x lt is a b =
    let f : RawDeclaration → List DeclaredFunction = λ d. function_in (n, d) in made_both g before now after (functions_in n (take i xs)) (f x) (functions_in n (take (i + 1) xs)) (flat_more f xs i x lt is) a b

pub functions_all : (g : DeclaredFunction → Function) (before now : List Function) (n : ℕ) (xs : List RawDeclaration) (i : ℕ) → length xs ≤ i → now ≡ before ++ map g (functions_in n (take i xs)) → now ≡ before ++ map g (functions_in n xs)
functions_all g before now n xs i le a = a ∙ ap (λ ds. before ++ map g (functions_in n ds)) (take_all i xs le)

pub units_functions_more : (g : DeclaredFunction → Function) (before now after : List Function) (units : List LoadedUnit) (i : ℕ) (u : LoadedUnit) (ds : List RawDeclaration) → ds ≡ u.unit.declarations → i < length units → u ≡ get_or units i u
    → now ≡ before ++ map g (functions (take i units)) → after ≡ now ++ map g (functions_in i ds) → after ≡ before ++ map g (functions (take (i + 1) units))
units_functions_more g before now after units i u ds e lt is a b =
    let f : RawUnit → List RawDeclaration = λ v. v.declarations in
    made_both g before now after (functions (take i units)) (functions_in i ds) (functions (take (i + 1) units)) (of_all_more function_in f units i u lt is ∙ ap (λ items. functions (take i units) ++ functions_in i items) (sym e)) a b

pub units_functions_all : (g : DeclaredFunction → Function) (before now : List Function) (units : List LoadedUnit) (i : ℕ) → length units ≤ i → now ≡ before ++ map g (functions (take i units)) → now ≡ before ++ map g (functions units)
units_functions_all g before now units i le a = a ∙ ap (λ us. before ++ map g (functions us)) (take_all i units le)

pub made_with : (domains : List sign.DeclaredDomain) (n : ℕ) (kind : RawFunctionKind) (name : RawName) (ds es : List RawName) (c : RawName) → ds ≡ es
    → function_of domains (record { unit = n; kind = kind; name = name; domains = ds; codomain = c }) ≡ function_of domains (record { unit = n; kind = kind; name = name; domains = es; codomain = c })
made_with domains n kind name ds es c e = ap (λ (xs : List RawName). let f : DeclaredFunction = record { unit = n; kind = kind; name = name; domains = xs; codomain = c } in function_of domains f) e

-- a declaration of a function
pub function_made : (g : DeclaredFunction → Function) (before after : List Function) (n : ℕ) (item : RawDeclaration) (kind : RawFunctionKind) (name : RawName) (ds : List RawName) (c : RawName) (made : Function) → item ≡ declaration.Function kind name ds c
    → made ≡ g (record { unit = n; kind = kind; name = name; domains = ds; codomain = c }) → after ≡ before ++ made ∷ [] → after ≡ before ++ map g (function_in (n, item))
function_made g before after n item kind name ds c made told is a = a ∙ ap (λ (f : Function). before ++ f ∷ []) is ∙ ap (λ (x : RawDeclaration). before ++ map g (function_in (n, x))) (sym told)

-- ---- sizes

pub size_is : (u : Universe) → length (elements u) ≡ count_in u
size_is Truths = refl
size_is (Numbers numbers) = length-map numbers Int
size_is (Named number names) = length-named_from number 0 names

pub size_found : (ds : List sign.DeclaredDomain) (k : ℕ) (d : sign.DeclaredDomain) (size : ℕ) → slice_get ds k ≡ Some d → size ≡ length (elements d.domain) → size ≡ size_of ds k
size_found ds k d size at is = is ∙ size_is d.domain ∙ ap (λ o. unwrap_or (option_map (λ (x : sign.DeclaredDomain). count_in x.domain) o) 0) (sym at)

pub no_size : (ds : List sign.DeclaredDomain) (k : ℕ) → slice_get ds k ≡ None → 0 ≡ size_of ds k
no_size ds k none = ap (λ o. unwrap_or (option_map (λ (x : sign.DeclaredDomain). count_in x.domain) o) 0) (sym none)
