-- Ordered finite domains: their elements in order, and what makes a list of elements a domain.
use Rattle.std.specs.Prelude.{◌≡◌, ℕ, zero, suc, ◌<◌, ◌≤◌, List, [], ◌∷◌, length, map, take, ℤ, pos, negsuc, ◌+ℤ◌, ◌-ℤ◌, true, false, Option, Some, None, slice_get}
use Rattle.asm_domain.specs.declared.value.Value.{Value}
use Rattle.asm_domain.specs.declared.value.Value.TheVariants.{Bool, Int, Elem}

-- what a domain is made of: the truth values, numbers, or the names of an enumeration's or abstract domain's elements
pub data Universe : Type 0 where
  Truths : Universe
  Numbers : (numbers : List ℤ) → Universe
  Named : (number : ℕ) (names : List (List ℕ)) → Universe

-- the elements of the domain of a number with these names, from a rank on
abbrev pub named_from : ℕ → ℕ → List (List ℕ) → List Value
named_from number rank [] = []
named_from number rank (name ∷ names) = Elem number rank ∷ named_from number (suc rank) names

-- the elements in their order
abbrev pub elements : Universe → List Value
elements Truths = Bool false ∷ Bool true ∷ []
elements (Numbers numbers) = map Int numbers
elements (Named number names) = named_from number 0 names

-- the names of the elements in their order, where they have names
abbrev pub names_of : Universe → Option (List (List ℕ))
names_of Truths = None
names_of (Numbers numbers) = None
names_of (Named number names) = Some names

-- n numbers from one on
abbrev pub upwards : ℤ → ℕ → List ℤ
upwards low zero = []
upwards low (suc n) = low ∷ upwards (low +ℤ pos 1) n

-- a number's size above 0
abbrev pub above_zero : ℤ → ℕ
above_zero (pos n) = n
above_zero (negsuc n) = 0

-- the numbers from one to another
abbrev pub numbers_between : ℤ → ℤ → List ℤ
numbers_between low high = upwards low (above_zero (high +ℤ pos 1 -ℤ low))

-- no item stands at two places
pub record AreDistinct {A : Type 0} (xs : List A) : Type 0 where
  pub one_place : (i j : ℕ) (x : A) → slice_get xs i ≡ Some x → slice_get xs j ≡ Some x → i ≡ j

-- the item at a place stands before it too, and before the place no item is repeated
pub record IsFirstRepeat {A : Type 0} (xs : List A) (place : ℕ) : Type 0 where
  pub earlier : ℕ
  pub is_earlier : earlier < place
  pub item : A
  pub is_item : slice_get xs place ≡ Some item
  pub is_same : slice_get xs earlier ≡ Some item
  pub none_before : AreDistinct (take place xs)

-- from 1 to 256 items, all different
pub record MakeDomain {A : Type 0} (xs : List A) : Type 0 where
  pub some : 0 < length xs
  pub few : length xs ≤ 256
  pub distinct : AreDistinct xs

-- the rank of an item is the one place where it stands, and without such a place there is none
pub record IsRank {A : Type 0} (xs : List A) (x : A) (rank : Option ℕ) : Type 0 where
  pub found : (k : ℕ) → rank ≡ Some k → slice_get xs k ≡ Some x
  pub every : (k : ℕ) → slice_get xs k ≡ Some x → rank ≡ Some k
