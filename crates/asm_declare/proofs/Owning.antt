-- What is wrong with functions by themselves, one after the other.
use Rattle.std.proofs.Common.{◌≡◌, ℕ, ◌+◌, ◌<◌, ◌≤◌, nat_lt, if◌then◌else◌, List, [], ◌∷◌, ◌++◌, length, take, get_or, Option, Some, None, refl, sym, ap, ◌∙◌, flat_map}
use Rattle.std.proofs.lemmas.List.{append-nil, take_all}
use Rattle.asm_sign.specs.declared.function.DeclaredDomain.{DeclaredDomain}
use Rattle.asm_sign.specs.Kind.{is_dynamic}
use Rattle.asm_tree.specs.declared.term.RawName.{RawName}
use Rattle.asm_tree.specs.declared.unit.RawFunctionKind.{RawFunctionKind}
use Rattle.asm_tree.specs.declared.unit.RawDeclaration.{RawDeclaration}
use Rattle.asm_tree.specs.declared.unit.RawDeclaration.TheVariants as declaration
use Rattle.asm_tree.specs.declared.unit.RawUnit.{RawUnit}
use Rattle.asm_tree.specs.declared.unit.LoadedUnit.{LoadedUnit}
use Rattle.asm_faults.specs.declared.fault.Fault.{Fault}
use Rattle.asm_faults.specs.declared.fault.ModelFault.TheVariants.{Unknown, WrongArity}
use Rattle.asm_faults.specs.At.{fault_at}
use Rattle.asm_faults.specs.First.{noted}
use Rattle.asm_faults.specs.Files.{DeclaredFunction, function_in, functions}
use Rattle.asm_faults.specs.FunctionFaults.{kind_of, domain_number, unknown_domain, infinite_domain, own_faults}
use Rattle.asm_faults.proofs.Noting.{noted_append}
use Rattle.asm_declare.specs.Measures.{functions_in}
use Rattle.asm_declare.proofs.Walks.{flat_more, of_all_more}
use Rattle.asm_declare.proofs.Targeting.{noted_both}

-- ---- functions of files, one further

pub own_more : (f : DeclaredFunction → List Fault) (first middle now : Option Fault) (n : ℕ) (xs : List RawDeclaration) (i : ℕ) (x : RawDeclaration) → i < length xs → x ≡ get_or xs i x
    → middle ≡ noted first (flat_map f (functions_in n (take i xs))) → now ≡ noted middle (flat_map f (function_in (n, x))) → now ≡ noted first (flat_map f (functions_in n (take (i + 1) xs)))
own_more f first middle now n xs i x lt is a b =
    let g : RawDeclaration → List DeclaredFunction = λ d. function_in (n, d) in noted_both f first middle now (functions_in n (take i xs)) (g x) (functions_in n (take (i + 1) xs)) (flat_more g xs i x lt is) a b

pub own_all : (f : DeclaredFunction → List Fault) (first now : Option Fault) (n : ℕ) (xs : List RawDeclaration) (i : ℕ) → length xs ≤ i → now ≡ noted first (flat_map f (functions_in n (take i xs))) → now ≡ noted first (flat_map f (functions_in n xs))
own_all f first now n xs i le a = a ∙ ap (λ ds. noted first (flat_map f (functions_in n ds))) (take_all i xs le)

pub units_own_more : (f : DeclaredFunction → List Fault) (first middle now : Option Fault) (units : List LoadedUnit) (i : ℕ) (u : LoadedUnit) (ds : List RawDeclaration) → ds ≡ (get_or units i u).unit.declarations → i < length units → u ≡ get_or units i u
    → middle ≡ noted first (flat_map f (functions (take i units))) → now ≡ noted middle (flat_map f (functions_in i ds)) → now ≡ noted first (flat_map f (functions (take (i + 1) units)))
units_own_more f first middle now units i u ds e lt is a b =
    let g : RawUnit → List RawDeclaration = λ v. v.declarations in
    noted_both f first middle now (functions (take i units)) (functions_in i ds) (functions (take (i + 1) units))
    (of_all_more function_in g units i u lt is ∙ ap (λ items. functions (take i units) ++ functions_in i items) (sym (e ∙ ap (λ (v : LoadedUnit). v.unit.declarations) (sym is)))) a b

pub units_own_all : (f : DeclaredFunction → List Fault) (first now : Option Fault) (units : List LoadedUnit) (i : ℕ) → length units ≤ i → now ≡ noted first (flat_map f (functions (take i units))) → now ≡ noted first (flat_map f (functions units))
units_own_all f first now units i le a = a ∙ ap (λ us. noted first (flat_map f (functions us))) (take_all i units le)

-- ---- one function

pub no_own : (f : DeclaredFunction → List Fault) (first : Option Fault) {fs : List DeclaredFunction} → fs ≡ [] → first ≡ noted first (flat_map f fs)
no_own f first e = ap (λ fs. noted first (flat_map f fs)) (sym e)

pub own_noted : (domains : List DeclaredDomain) (first second third fourth now : Option Fault) (n : ℕ) (item : RawDeclaration) (kind : RawFunctionKind) (name : RawName) (ds ys : List RawName) (c : RawName) (count : ℕ) → item ≡ declaration.Function kind name ds c → ys ≡ ds → count ≡ length ds
    → second ≡ noted first (flat_map (λ d. unknown_domain domains n d ++ infinite_domain n d) ys) → third ≡ noted second (unknown_domain domains n c) → fourth ≡ noted third (if is_dynamic (kind_of kind) then infinite_domain n c else [])
    → now ≡ noted fourth (if nat_lt 4 count then fault_at WrongArity n name ∷ [] else []) → now ≡ noted first (flat_map (own_faults domains) (function_in (n, item)))
own_noted domains first second third fourth now n item kind name ds ys c count told same number a b d e =
    let arguments : List Fault = flat_map (λ (x : RawName). unknown_domain domains n x ++ infinite_domain n x) ds in
    let codomain : List Fault = unknown_domain domains n c in
    let infinite : List Fault = if is_dynamic (kind_of kind) then infinite_domain n c else [] in
    let arity : List Fault = if nat_lt 4 (length ds) then fault_at WrongArity n name ∷ [] else [] in
    e ∙ (λ j. noted (d j) (if nat_lt 4 (number j) then fault_at WrongArity n name ∷ [] else []))
    ∙ ap (λ f. noted (noted f infinite) arity) b
    ∙ ap (λ f. noted (noted (noted f codomain) infinite) arity) a
    ∙ ap (λ (xs : List RawName). noted (noted (noted (noted first (flat_map (λ (x : RawName). unknown_domain domains n x ++ infinite_domain n x) xs)) codomain) infinite) arity) same
    ∙ sym (noted_append (noted (noted first arguments) codomain) infinite arity)
    ∙ sym (noted_append (noted first arguments) codomain (infinite ++ arity))
    ∙ sym (noted_append first arguments (codomain ++ (infinite ++ arity)))
    ∙ ap (noted first) (sym (append-nil (arguments ++ (codomain ++ (infinite ++ arity)))))
    ∙ ap (λ (x : RawDeclaration). noted first (flat_map (own_faults domains) (function_in (n, x)))) (sym told)

pub arguments_more : (f : RawName → List Fault) (first middle now : Option Fault) (xs : List RawName) (i : ℕ) (x : RawName) → i < length xs → x ≡ get_or xs i x → middle ≡ noted first (flat_map f (take i xs)) → now ≡ noted middle (f x) → now ≡ noted first (flat_map f (take (i + 1) xs))
arguments_more f first middle now xs i x lt is a b = b ∙ ap (λ m. noted m (f x)) a ∙ sym (noted_append first (flat_map f (take i xs)) (f x)) ∙ ap (noted first) (sym (flat_more f xs i x lt is))

pub arguments_all : (f : RawName → List Fault) (first now : Option Fault) (xs : List RawName) (i : ℕ) → length xs ≤ i → now ≡ noted first (flat_map f (take i xs)) → now ≡ noted first (flat_map f xs)
arguments_all f first now xs i le a = a ∙ ap (λ ys. noted first (flat_map f ys)) (take_all i xs le)

pub two_noted : (first middle now : Option Fault) (xs ys : List Fault) → middle ≡ noted first xs → now ≡ noted middle ys → now ≡ noted first (xs ++ ys)
two_noted first middle now xs ys a b = b ∙ ap (λ m. noted m ys) a ∙ sym (noted_append first xs ys)

-- ---- a domain that is known or not

pub known_noted : (domains : List DeclaredDomain) (first : Option Fault) (n : ℕ) (d : RawName) (k : ℕ) → domain_number domains d.text ≡ Some k → first ≡ noted first (unknown_domain domains n d)
known_noted domains first n d k e = rw e refl

pub unknown_is : (domains : List DeclaredDomain) (n : ℕ) (d : RawName) → domain_number domains d.text ≡ None → fault_at Unknown n d ∷ [] ≡ unknown_domain domains n d
unknown_is domains n d e = rw e refl
