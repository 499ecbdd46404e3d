-- How a domain is held.
use Rattle.std.specs.Prelude.{pos, ◌+ℤ◌, ◌≤ℤ◌, ◌<ℤ◌, ⊤}
use Rattle.asm_domain.specs.declared.domain.Kind.{Kind}
use Rattle.asm_domain.specs.declared.domain.Kind.TheVariants as kind
use Rattle.asm_domain.specs.Universe.{Universe, Truths, Numbers, Named, numbers_between, MakeDomain}

-- what a held domain is made of
abbrev pub universe_of : Kind → Universe
universe_of kind.Boolean = Truths
universe_of (kind.Range low high) = Numbers (numbers_between low high)
universe_of (kind.Numbers numbers) = Numbers numbers
universe_of (kind.Named number names) = Named number names

-- a held domain has from 1 to 256 elements, all different, and so have its names
abbrev pub IsSound : Kind → Type 0
IsSound kind.Boolean = ⊤
IsSound (kind.Range low high) = (low ≤ℤ high) × (high <ℤ (low +ℤ pos 256))
IsSound (kind.Numbers numbers) = MakeDomain numbers
IsSound (kind.Named number names) = MakeDomain names
