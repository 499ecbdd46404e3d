-- What tables of names have to hold.
use Rattle.std.specs.Prelude.{◌≡◌, List, [], map, Option, Some, None}
use Rattle.std.specs.List.{flat_map}
use Rattle.asm_domain.specs.declared.value.Value.{Value}
use Rattle.asm_domain.specs.Universe.{Universe, Truths, Numbers, Named, named_from}
use Rattle.asm_sign.specs.declared.function.DeclaredDomain.{DeclaredDomain}
use Rattle.asm_sign.specs.declared.function.Function.{Function}
use Rattle.asm_sign.specs.Vocabulary.{Vocabulary}
use Rattle.asm_faults.specs.At.{Name}
use Rattle.asm_faults.specs.DomainFaults.{boolean}

-- the name of a domain; the truth values have none of their own
abbrev pub domain_text : DeclaredDomain → Name
domain_text d = text d.name
  where
    text : Option Name → Name
    text None = boolean
    text (Some name) = name

abbrev pub names_in : Universe → List Name
names_in Truths = []
names_in (Numbers numbers) = []
names_in (Named number names) = names

-- the names of a domain's elements, where they have names
abbrev pub element_names : DeclaredDomain → List Name
element_names d = names_in d.domain

abbrev pub values_in : Universe → List Value
values_in Truths = []
values_in (Numbers numbers) = []
values_in (Named number names) = named_from number 0 names

-- the elements that have names
abbrev pub element_values : DeclaredDomain → List Value
element_values d = values_in d.domain

-- the tables of a vocabulary, each in the order of what it names
pub record AreTables (v : Vocabulary) (domains functions elements : List Name) (values : List Value) : Type 0 where
  pub domains_are : domains ≡ map domain_text v.domains
  pub functions_are : functions ≡ map (λ (f : Function). f.name) v.functions
  pub elements_are : elements ≡ flat_map element_names v.domains
  pub values_are : values ≡ flat_map element_values v.domains
