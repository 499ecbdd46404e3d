-- Why items make no domain.
use Rattle.std.specs.Prelude.{◌≡◌, ◌<◌, ◌≤◌, List, [], length, Option, Some, None}
use Rattle.asm_domain.specs.declared.error.DomainError.{DomainError}
use Rattle.asm_domain.specs.declared.error.DomainError.TheVariants.{Empty, TooLarge, Repeated, Memory}
use Rattle.asm_domain.specs.Universe.{MakeDomain, IsFirstRepeat}

-- the first test that some items fail, or that they make a domain
abbrev pub IsRefusal : {A : Type 0} → List A → Option DomainError → Type 0
IsRefusal xs None = MakeDomain xs
IsRefusal xs (Some Empty) = xs ≡ []
IsRefusal xs (Some TooLarge) = 256 < length xs
IsRefusal xs (Some (Repeated place)) = (length xs ≤ 256) × IsFirstRepeat xs place
IsRefusal xs (Some Memory) = ⊥
