-- The links of a link file, and those of models without one.
use Rattle.std.specs.Prelude.{◌≡◌, ◌≢◌, ℕ, not, if◌then◌else◌, List, [], ◌∷◌, map, Option, Some, None, Result, Ok, Err}
use Rattle.std.specs.List.{flat_map, enumerate_from}
use Rattle.asm_lex.specs.declared.token.Token.{Token}
use Rattle.asm_tree.specs.declared.error.ParseError.{ParseError}
use Rattle.asm_tree.specs.declared.term.RawName.{RawName}
use Rattle.asm_sign.specs.declared.function.Function.{Function}
use Rattle.asm_node.specs.Machine.{Machine}
use Rattle.link_parse.specs.declared.tree.RawLink.{RawLink}
use Rattle.link_parse.specs.declared.tree.RawLinks.{RawLinks}
use Rattle.link_parse.specs.Links.{parsed_links}
use Rattle.name_table.specs.Numbered.{number_of}
use Rattle.ref_link.specs.declared.error.LinkError.{LinkError}
use Rattle.ref_link.specs.declared.error.LinkError.TheVariants.{Memory, Parse, Unknown, WrongKind, DomainsDiffer}
use Rattle.ref_link.specs.declared.link.Link.{Link}
use Rattle.ref_link.specs.Linkable.{may_be_linked, fits, agree_on_domains, is_linkable}

-- the number of the first function of a name
abbrev pub function_of_name : Machine → List ℕ → Option ℕ
function_of_name m name = number_of (map (λ (f : Function). f.name) m.signature.functions) name

abbrev pub link_between : ℕ → ℕ → Link
link_between f g = record { abstract_function = f; concrete_function = g }

-- two known functions are linked, or the first of: the abstract one is of the wrong kind, the concrete one is, their domains differ
abbrev pub joined : Machine → Machine → RawLink → ℕ → ℕ → Result Link LinkError
joined a c raw f g =
    if not (may_be_linked a f) then Err (WrongKind raw.abstract_function.text raw.abstract_function.at)
    else (if not (fits a c f g) then Err (WrongKind raw.concrete_function.text raw.concrete_function.at)
    else (if not (agree_on_domains a c f g) then Err (DomainsDiffer raw.abstract_function.text raw.abstract_function.at)
    else Ok (link_between f g)))

abbrev pub joined_with : Machine → Machine → RawLink → ℕ → Option ℕ → Result Link LinkError
joined_with a c raw f (Some g) = joined a c raw f g
joined_with a c raw f None = Err (Unknown raw.concrete_function.text raw.concrete_function.at)

abbrev pub joined_from : Machine → Machine → RawLink → Option ℕ → Result Link LinkError
joined_from a c raw (Some f) = joined_with a c raw f (function_of_name c raw.concrete_function.text)
joined_from a c raw None = Err (Unknown raw.abstract_function.text raw.abstract_function.at)

-- the link that one of a link file is: both names are known, then both kinds are looked at, then the domains
abbrev pub link_of : Machine → Machine → RawLink → Result Link LinkError
link_of a c raw = joined_from a c raw (function_of_name a raw.abstract_function.text)

abbrev pub before_links : Result Link LinkError → Result (List Link) LinkError → Result (List Link) LinkError
before_links (Ok link) (Ok links) = Ok (link ∷ links)
before_links (Ok link) (Err e) = Err e
before_links (Err e) links = Err e

-- all links, or what is wrong with the first that is none
abbrev pub links_of : Machine → Machine → List RawLink → Result (List Link) LinkError
links_of a c [] = Ok []
links_of a c (raw ∷ raws) = before_links (link_of a c raw) (links_of a c raws)

abbrev pub links_read : Machine → Machine → Result RawLinks ParseError → Result (List Link) LinkError
links_read a c (Ok raw) = links_of a c raw.links
links_read a c (Err e) = Err (Parse e)

-- the links that the bytes of a link file give, or what is wrong with them first
abbrev pub links_in : Machine → Machine → List ℕ → List Token → Result (List Link) LinkError
links_in a c text tokens = links_read a c (parsed_links text tokens)

abbrev pub default_with : Machine → Machine → ℕ → Option ℕ → List Link
default_with a c f (Some g) = if is_linkable a c f g then link_between f g ∷ [] else []
default_with a c f None = []

-- the link of a function with the one of the same name, where the two may be linked
abbrev pub default_link : Machine → Machine → ℕ × Function → List Link
default_link a c p = default_with a c p.0 (function_of_name c p.1.name)

-- without a link file, the functions of one name that may be linked are, in the order of the abstract model
abbrev pub links_without_file : Machine → Machine → List Link
links_without_file a c = flat_map (default_link a c) (enumerate_from 0 a.signature.functions)

-- the answer is that one, unless memory ran out
abbrev pub Gives : Result (List Link) LinkError → Result (List Link) LinkError → Type 0
Gives (Ok links) due = due ≡ Ok links
Gives (Err e) due = e ≢ Memory → due ≡ Err e

-- the same for one link
abbrev pub GivesLink : Result Link LinkError → Result Link LinkError → Type 0
GivesLink (Ok link) due = due ≡ Ok link
GivesLink (Err e) due = e ≢ Memory → due ≡ Err e

-- the error is this one of a name with its place, unless memory ran out
abbrev pub Tells : (List ℕ → ℕ → LinkError) → LinkError → RawName → Type 0
Tells due Memory name = Unit {0}
Tells due e name = e ≡ due name.text name.at
