-- The domains and functions of a model by their numbers, and what is wrong with declared functions.
use Rattle.std.specs.Prelude.{ℕ, ◌+◌, ◌*◌, Bool as Truth, false, nat_lt, if◌then◌else◌, List, [], ◌∷◌, ◌++◌, map, length, Option, Some, None, bytes_eq, slice_get}
use Rattle.std.specs.List.{flat_map, enumerate_from, position}
use Rattle.std.specs.Option.{option_map, unwrap_or}
use Rattle.asm_domain.specs.Universe.{Truths}
use Rattle.asm_sign.specs.declared.function.DeclaredDomain as sign
use Rattle.asm_sign.specs.declared.function.Function.{Function}
use Rattle.asm_sign.specs.declared.function.FunKind.{FunKind}
use Rattle.asm_sign.specs.declared.function.FunKind.TheVariants as kind
use Rattle.asm_sign.specs.Kind.{is_dynamic}
use Rattle.asm_sign.specs.Vocabulary.{Vocabulary}
use Rattle.asm_node.specs.Values.{whole}
use Rattle.asm_tree.specs.declared.term.RawName.{RawName}
use Rattle.asm_tree.specs.declared.unit.RawFunctionKind.{RawFunctionKind}
use Rattle.asm_tree.specs.declared.unit.RawFunctionKind.TheVariants as function_kind
use Rattle.asm_tree.specs.declared.unit.LoadedUnit.{LoadedUnit}
use Rattle.asm_faults.specs.declared.fault.ModelFault.TheVariants.{Unknown, WrongArity, DomainTooLarge, TooManyLocations}
use Rattle.asm_faults.specs.declared.fault.Fault.{Fault}
use Rattle.asm_faults.specs.At.{Name, fault_at}
use Rattle.asm_faults.specs.Files.{DeclaredDomain, domains, has_name, DeclaredFunction, functions}
use Rattle.asm_faults.specs.DomainFaults.{boolean, integer, universe_of, count_in}

-- ---- domains by numbers

abbrev pub is_domain_named : Name → sign.DeclaredDomain → Truth
is_domain_named text d = by_name d.name
  where
    by_name : Option Name → Truth
    by_name None = false
    by_name (Some name) = bytes_eq name text

-- the number of a domain: 0 for the truth values, that of the whole numbers, or the place among the declared ones
abbrev pub domain_number : List sign.DeclaredDomain → Name → Option ℕ
domain_number domains text =
    if bytes_eq text boolean then Some 0
    else (if bytes_eq text integer then Some whole
    else position (is_domain_named text) domains)

abbrev pub declared_domain : List LoadedUnit → ℕ × DeclaredDomain → sign.DeclaredDomain
declared_domain units p = record { name = Some p.1.name.text; domain = universe_of units p.0 p.1 }

abbrev pub truth_values : sign.DeclaredDomain
truth_values = record { name = None; domain = Truths }

-- the truth values first, then the declared domains in load order
abbrev pub domains_of : List LoadedUnit → List sign.DeclaredDomain
domains_of units = truth_values ∷ map (declared_domain units) (enumerate_from 1 (domains units))

-- ---- functions

abbrev pub kind_of : RawFunctionKind → FunKind
kind_of function_kind.Static = kind.Static
kind_of function_kind.Derived = kind.Derived
kind_of function_kind.Controlled = kind.Controlled
kind_of function_kind.Monitored = kind.Monitored
kind_of function_kind.Shared = kind.Shared
kind_of function_kind.Out = kind.Out

-- where all domains are known
abbrev pub number_or_whole : List sign.DeclaredDomain → RawName → ℕ
number_or_whole domains d = unwrap_or (domain_number domains d.text) whole

abbrev pub function_of : List sign.DeclaredDomain → DeclaredFunction → Function
function_of domains f = record { name = f.name.text; kind = kind_of f.kind; domains = map (number_or_whole domains) f.domains; codomain = number_or_whole domains f.codomain }

-- the domains and functions of the model
abbrev pub signature_of : List LoadedUnit → Vocabulary
signature_of units = record { domains = domains_of units; functions = map (function_of (domains_of units)) (functions units) }

-- ---- what is wrong with a function

-- the domain of this name isn't declared
abbrev pub unknown_domain : List sign.DeclaredDomain → ℕ → RawName → List Fault
unknown_domain domains n d = of_number (domain_number domains d.text)
  where
    of_number : Option ℕ → List Fault
    of_number None = fault_at Unknown n d ∷ []
    of_number (Some number) = []

-- the whole numbers aren't finite
abbrev pub infinite_domain : ℕ → RawName → List Fault
infinite_domain n d = if has_name integer d then fault_at DomainTooLarge n d ∷ [] else []

abbrev pub own_faults : List sign.DeclaredDomain → DeclaredFunction → List Fault
own_faults domains f =
    flat_map (λ d. unknown_domain domains f.unit d ++ infinite_domain f.unit d) f.domains
    ++ (unknown_domain domains f.unit f.codomain
    ++ ((if is_dynamic (kind_of f.kind) then infinite_domain f.unit f.codomain else [])
    ++ (if nat_lt 4 (length f.domains) then fault_at WrongArity f.unit f.name ∷ [] else [])))

-- ---- locations

-- how many elements the domain of a number has
abbrev pub size_of : List sign.DeclaredDomain → ℕ → ℕ
size_of domains d = unwrap_or (option_map (λ (x : sign.DeclaredDomain). count_in x.domain) (slice_get domains d)) 0

abbrev pub product : List ℕ → ℕ
product [] = 1
product (n ∷ ns) = n * product ns

-- how many locations a function has, where nothing is wrong with it
abbrev pub location_count : List sign.DeclaredDomain → DeclaredFunction → ℕ
location_count domains f = counted (own_faults domains f)
  where
    counted : List Fault → ℕ
    counted [] = if is_dynamic (kind_of f.kind) then product (map (λ d. size_of domains (number_or_whole domains d)) f.domains) else 0
    counted (fault ∷ faults) = 0

-- the function with which the locations, of which there are so many before, pass 4,096
abbrev pub location_faults : List sign.DeclaredDomain → ℕ → List DeclaredFunction → List Fault
location_faults domains before [] = []
location_faults domains before (f ∷ fs) =
    let now = before + location_count domains f in
    if nat_lt 4096 now then fault_at TooManyLocations f.unit f.name ∷ [] else location_faults domains now fs

abbrev pub function_faults : List LoadedUnit → List Fault
function_faults units = flat_map (own_faults (domains_of units)) (functions units) ++ location_faults (domains_of units) 0 (functions units)
