-- Which of several faults comes first.
use Rattle.std.specs.Prelude.{◌≡◌, ℕ, Bool as Truth, false, ◌&&◌, ◌||◌, nat_eq, nat_lt, if◌then◌else◌, List, [], ◌∷◌, Option, Some, None, Contains}
use Rattle.asm_faults.specs.declared.fault.ModelFault.{ModelFault}
use Rattle.asm_faults.specs.declared.fault.ModelFault.TheVariants.{Duplicate, Unknown, WrongKind, WrongArity, WrongType, Unbound, EmptyDomain, DomainTooLarge, TooManyLocations, NoDefinition, NoMain, NoInit, Cycle, CallsTooDeep, ForbiddenRead, RangeTooWide}
use Rattle.asm_faults.specs.declared.fault.Fault.{Fault}

-- the place of a kind among all kinds
abbrev pub rank : ModelFault → ℕ
rank Duplicate = 0
rank Unknown = 1
rank WrongKind = 2
rank WrongArity = 3
rank WrongType = 4
rank Unbound = 5
rank EmptyDomain = 6
rank DomainTooLarge = 7
rank TooManyLocations = 8
rank NoDefinition = 9
rank NoMain = 10
rank NoInit = 11
rank Cycle = 12
rank CallsTooDeep = 13
rank ForbiddenRead = 14
rank RangeTooWide = 15

-- by unit in load order, then by byte, then by kind
abbrev pub is_before : Fault → Fault → Truth
is_before a b = nat_lt a.unit b.unit || (nat_eq a.unit b.unit && (nat_lt a.at b.at || (nat_eq a.at b.at && nat_lt (rank a.kind) (rank b.kind))))

-- a fault is put in the place of one that it comes before
abbrev pub sooner : Option Fault → Fault → Option Fault
sooner None a = Some a
sooner (Some b) a = if is_before a b then Some a else Some b

-- the first of one fault and others
abbrev pub noted : Option Fault → List Fault → Option Fault
noted first [] = first
noted first (a ∷ faults) = noted (sooner first a) faults

abbrev pub or_later : Option Fault → Option Fault → Option Fault
or_later (Some a) later = Some a
or_later None later = later

-- the first fault of the first pass that has any
abbrev pub first_fault : List (List Fault) → Option Fault
first_fault [] = None
first_fault (faults ∷ passes) = or_later (noted None faults) (first_fault passes)

-- one of the faults, and none of them comes before it
pub record IsFirst (faults : List Fault) (a : Fault) : Type 0 where
  pub is_one : Contains faults a
  pub none_before : (b : Fault) → Contains faults b → is_before b a ≡ false
