-- Domains with their names.
use Rattle.std.specs.Prelude.{◌≡◌, List, map}
use Rattle.asm_sign.specs.declared.function.DeclaredDomain.{DeclaredDomain}
use Rattle.asm_faults.specs.At.{Name}
use Rattle.asm_faults.specs.Known.{domain_text}

-- these are the names of the domains, each at the domain's place
pub record AreNamesOf (domains : List DeclaredDomain) (names : List Name) : Type 0 where
  pub names_are : names ≡ map domain_text domains
