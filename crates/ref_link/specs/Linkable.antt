-- Which functions of two models may be linked.
use Rattle.std.specs.Prelude.{◌≡◌, ℕ, zero, suc, Bool as Truth, true, false, not, ◌&&◌, ◌||◌, if◌then◌else◌, List, [], ◌∷◌, Option, Some, None, slice_get, bytes_eq, All}
use Rattle.std.specs.Option.{option_map}
use Rattle.asm_domain.specs.Universe.{Universe, elements, names_of}
use Rattle.asm_sign.specs.declared.function.Function.{Function}
use Rattle.asm_sign.specs.declared.function.FunKind.{FunKind}
use Rattle.asm_sign.specs.declared.function.FunKind.TheVariants.{Derived}
use Rattle.asm_sign.specs.Kind.{is_kept}
use Rattle.asm_node.specs.declared.term_type.TermType.{TermType}
use Rattle.asm_node.specs.declared.term_type.TermType.TheVariants.{Integer}
use Rattle.asm_node.specs.Machine.{Machine, Definition, definition_of, is_monitored, has_kind}
use Rattle.asm_node.specs.Tree.{Tree, Const, Var, Within, Get, Oper, Cond, Let, Quant, Trees, none, more}
use Rattle.asm_node.specs.Types.{domain_type}
use Rattle.asm_node.specs.Values.{same}
use Rattle.ref_link.specs.declared.link.Link.{Link}
use Rattle.ref_link.specs.Linking.{Linking}

-- ---- functions that read an input

module _ (test : ℕ → Truth) where
  abbrev mutual
    -- the test holds of some function that the term reads
    pub reads_any : Tree → Truth
    reads_any (Const v) = false
    reads_any (Var x) = false
    reads_any (Within d t) = reads_any t
    reads_any (Get f ts) = test f || read_any ts
    reads_any (Oper o ts) = read_any ts
    reads_any (Cond g t u) = reads_any g || (reads_any t || reads_any u)
    reads_any (Let x t u) = reads_any t || reads_any u
    reads_any (Quant q bs g) = reads_any g

    pub read_any : Trees → Truth
    read_any none = false
    read_any (more t ts) = reads_any t || read_any ts

  abbrev pub definition_reads_any : Option Definition → Truth
  definition_reads_any (Some d) = reads_any d.body
  definition_reads_any None = false

-- the function is monitored, or the test holds of some function that its definition reads
abbrev pub is_input_or_reads : Machine → (ℕ → Truth) → ℕ → Option Function → Truth
is_input_or_reads m test f (Some function) = is_monitored function.kind || definition_reads_any test (definition_of m.definitions f)
is_input_or_reads m test f None = false

-- the function is monitored, or leads to one that is through at most so many definitions
unfoldable pub reads_input : Machine → ℕ → ℕ → Truth
reads_input m zero f = has_kind is_monitored (slice_get m.signature.functions f)
reads_input m (suc n) f = is_input_or_reads m (reads_input m n) f (slice_get m.signature.functions f)

-- ---- kinds

abbrev pub is_derived : FunKind → Truth
is_derived Derived = true
is_derived _ = false

abbrev pub function_in : Machine → ℕ → Option Function
function_in m f = slice_get m.signature.functions f

-- a monitored function
abbrev pub is_input : Machine → ℕ → Truth
is_input m f = has_kind is_monitored (function_in m f)

-- a function whose values a state determines: a kept one, or a derived one that reads no monitored function through definitions
abbrev pub is_of_state : Machine → ℕ → Truth
is_of_state m f = has_kind is_kept (function_in m f) || (has_kind is_derived (function_in m f) && not (reads_input m 32 f))

-- a function of the abstract model that may be linked
abbrev pub may_be_linked : Machine → ℕ → Truth
may_be_linked a f = is_input a f || is_of_state a f

-- a function of the concrete model that one of the abstract model may be linked with: monitored where that is, else one of the state
abbrev pub fits : Machine → Machine → ℕ → ℕ → Truth
fits a c f g = if is_input a f then is_input c g else is_of_state c g

-- ---- domains

-- two lists are equally long, and a test holds of the items at each place
abbrev pub alike : {A : Type 0} → (A → A → Truth) → List A → List A → Truth
alike test [] [] = true
alike test (x ∷ xs) (y ∷ ys) = test x y && alike test xs ys
alike test _ _ = false

abbrev pub named_alike : Option (List (List ℕ)) → Option (List (List ℕ)) → Truth → Truth
named_alike (Some names) (Some others) same_values = alike bytes_eq names others
named_alike None None same_values = same_values
named_alike _ _ same_values = false

-- elements that have names have the same names in the same order; others are the same values in the same order
abbrev pub same_elements : Universe → Universe → Truth
same_elements u v = named_alike (names_of u) (names_of v) (alike same (elements u) (elements v))

abbrev pub both_same : Option Universe → Option Universe → Truth
both_same (Some u) (Some v) = same_elements u v
both_same _ _ = false

abbrev pub universe_of : Machine → ℕ → Option Universe
universe_of m d = option_map (λ d. d.domain) (slice_get m.signature.domains d)

-- the domains of these numbers agree
abbrev pub domains_agree : Machine → Machine → ℕ → ℕ → Truth
domains_agree a c d e = both_same (universe_of a d) (universe_of c e)

abbrev pub is_number_type : Option TermType → Truth
is_number_type (Some Integer) = true
is_number_type _ = false

-- the elements of the domain are numbers
abbrev pub has_numbers : Machine → ℕ → Truth
has_numbers m d = is_number_type (domain_type m.signature.domains d)

-- codomains that are both of numbers agree whatever their numbers, but for those of monitored functions
abbrev pub codomains_agree : Machine → Machine → Truth → ℕ → ℕ → Truth
codomains_agree a c given d e = domains_agree a c d e || (not given && (has_numbers a d && has_numbers c e))

abbrev pub functions_agree : Machine → Machine → Option Function → Option Function → Truth
functions_agree a c (Some f) (Some g) = alike (domains_agree a c) f.domains g.domains && codomains_agree a c (is_monitored f.kind) f.codomain g.codomain
functions_agree a c _ _ = false

-- the arguments' domains of two functions agree, and so do their codomains
abbrev pub agree_on_domains : Machine → Machine → ℕ → ℕ → Truth
agree_on_domains a c f g = functions_agree a c (function_in a f) (function_in c g)

-- two functions may be linked
abbrev pub is_linkable : Machine → Machine → ℕ → ℕ → Truth
is_linkable a c f g = may_be_linked a f && (fits a c f g && agree_on_domains a c f g)

-- each link is one of functions that may be linked
abbrev pub AreLinks : Linking → Type 0
AreLinks p = All (λ (link : Link). is_linkable p.abstract_model p.concrete_model link.abstract_function link.concrete_function ≡ true) p.links
