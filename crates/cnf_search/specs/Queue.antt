-- Which clauses are still to be looked at, and the lists that name the clauses of each literal.
use Rattle.std.specs.Prelude.{◌≡◌, ℕ, ◌+◌, ◌*◌, Bool, true, ◌&&◌, ◌||◌, not, nat_eq, if◌then◌else◌, Some, is_none, List, [], ◌∷◌, drop, slice_get, slice_index_or}
use Rattle.std.specs.List.{list_any}
use Rattle.cnf_base.specs.declared.lit.Lit.{Lit}
use Rattle.cnf_base.specs.Clauses.{has, negate}
use Rattle.cnf_base.specs.Known.{Partial}
use Rattle.cnf_base.specs.Derivation.{lone, is_all_false}
use Rattle.cnf_search.specs.Trails.{Entry, HasReason, IsConflict}
use Rattle.cnf_search.specs.declared.unit.Task.{Task}
use Rattle.cnf_search.specs.declared.unit.Task.TheVariants.{Conflict, Forced, Quiet}

-- nothing is to do in a clause: it has a true literal, or two literals without a value
abbrev pub is_calm : Partial → List Lit → Bool
is_calm p c = is_none (lone p c) && not (is_all_false p c)

-- whether these entries made a literal of the clause false
abbrev pub is_touched : List Entry → List Lit → Bool
is_touched late c = list_any (λ e. has c (negate e.lit)) late

-- each clause is calm, or has a literal that a late entry made false, or its number is among those that are left
pub record AreSettled (f : List (List Lit)) (p : Partial) (late : List Entry) (left : List ℕ) : Type 0 where
  pub at : (n : ℕ) (c : List Lit) → slice_get f n ≡ Some c → is_calm p c || (is_touched late c || list_any (nat_eq n) left) ≡ true

-- where the list of a literal stands
abbrev pub place_of : Lit → ℕ
place_of l = if l.positive then 2 * l.var + 1 else 2 * l.var

-- the numbers of the clauses that have a literal
abbrev pub numbers_at : List (List ℕ) → Lit → List ℕ
numbers_at lists l = slice_index_or lists (place_of l) []

-- the lists name, for each literal, every clause that has it
pub record IsIndex (f : List (List Lit)) (lists : List (List ℕ)) : Type 0 where
  pub at : (n : ℕ) (c : List Lit) (l : Lit) → slice_get f n ≡ Some c → has c l ≡ true → list_any (nat_eq n) (numbers_at lists l) ≡ true

-- one more clause is named, and none is forgotten
pub record Names (old new : List (List ℕ)) (c : List Lit) (number : ℕ) : Type 0 where
  pub kept : (n : ℕ) (l : Lit) → list_any (nat_eq n) (numbers_at old l) ≡ true → list_any (nat_eq n) (numbers_at new l) ≡ true
  pub named : (l : Lit) → has c l ≡ true → list_any (nat_eq number) (numbers_at new l) ≡ true

-- what the clause of a number asks for
abbrev pub AsksAt : List (List Lit) → Partial → ℕ → Task → Type 0
AsksAt f p number Conflict = IsConflict f p number
AsksAt f p number (Forced l) = HasReason f p number l
AsksAt f p number Quiet = (c : List Lit) → slice_get f number ≡ Some c → is_calm p c ≡ true

-- an entry of the trail has this literal, and the entries from it on begin with it
pub record IsLitAt (es : List Entry) (n : ℕ) (l : Lit) : Type 0 where
  pub entry : Entry
  pub split : drop n es ≡ entry ∷ drop (n + 1) es
  pub lit : l ≡ entry.lit
