-- The domains and functions of a model as the model check leaves them.
use Rattle.std.specs.Prelude.{◌≡◌, ℕ, Bool as Truth, true, false, ◌&&◌, nat_eq, List, [], map, Some, slice_get, bytes_eq}
use Rattle.std.specs.List.{filter, list_any}
use Rattle.asm_domain.specs.Universe.{Truths, Named, elements, AreDistinct, MakeDomain}
use Rattle.asm_sign.specs.declared.function.DeclaredDomain.{DeclaredDomain}
use Rattle.asm_sign.specs.declared.function.Function.{Function}
use Rattle.asm_sign.specs.declared.function.FunKind.{FunKind}
use Rattle.asm_sign.specs.declared.function.FunKind.TheVariants.{Static}
use Rattle.asm_sign.specs.Vocabulary.{Vocabulary, AreNumbered}

-- a static function without arguments
abbrev pub is_constant : FunKind → List ℕ → Truth
is_constant Static [] = true
is_constant _ _ = false

-- such a function with values in the domain of a number
abbrev pub is_constant_of : ℕ → Function → Truth
is_constant_of d f = is_constant f.kind f.domains && nat_eq f.codomain d

-- the names of the constants of a domain in load order
abbrev pub constants_of : Vocabulary → ℕ → List (List ℕ)
constants_of v d = map (λ (f : Function). f.name) (filter (is_constant_of d) v.functions)

-- a domain whose elements have these names is abstract where a function has one of them; else it is an enumeration
abbrev pub is_abstract : Vocabulary → List (List ℕ) → Truth
is_abstract v names = list_any (λ (f : Function). list_any (bytes_eq f.name) names) v.functions

pub record AreDeclarations (v : Vocabulary) : Type 0 where
  -- the first domain, and no other, is that of the truth values
  pub truths : DeclaredDomain
  pub are_first : slice_get v.domains 0 ≡ Some truths
  pub are_truths : truths.domain ≡ Truths
  pub once : (k : ℕ) (d : DeclaredDomain) → slice_get v.domains k ≡ Some d → d.domain ≡ Truths → k ≡ 0
  -- each enumeration and abstract domain has its place as its number
  pub numbered : AreNumbered v.domains
  -- each domain has from 1 to 256 elements, all different
  pub have_elements : (k : ℕ) (d : DeclaredDomain) → slice_get v.domains k ≡ Some d → MakeDomain (elements d.domain)
  -- no two domains have one name, and no two functions
  pub domain_names : AreDistinct (map (λ (d : DeclaredDomain). d.name) v.domains)
  pub function_names : AreDistinct (map (λ (f : Function). f.name) v.functions)
  -- the elements of an abstract domain are its constants
  pub constants : (k number : ℕ) (names : List (List ℕ)) (d : DeclaredDomain) → slice_get v.domains k ≡ Some d → d.domain ≡ Named number names → is_abstract v names ≡ true → names ≡ constants_of v k
