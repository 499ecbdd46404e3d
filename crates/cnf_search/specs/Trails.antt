-- Why each literal of a trail is true.
use Rattle.std.specs.Prelude.{◌≡◌, ℕ, true, ◌||◌, Option, Some, None, List, [], ◌∷◌, ◌++◌, slice_get, length, take, ◌≤◌, is_some}
use Rattle.std.specs.List.{list_all}
use Rattle.cnf_base.specs.declared.lit.Lit.{Lit}
use Rattle.cnf_base.specs.Clauses.{is_same, has}
use Rattle.cnf_base.specs.Known.{Partial, is_false, made_true, value_of}
use Rattle.cnf_base.specs.Derivation.{is_all_false}

-- a literal that was made true, with the number of the clause that made it so; a decision has none
pub record Entry : Type 0 where
  pub lit : Lit
  pub reason : Option ℕ

-- the clause leaves this literal alone: it has no value, and all others are false
pub record IsReason (p : Partial) (c : List Lit) (l : Lit) : Type 0 where
  pub others : list_all (λ m. is_same l m || is_false p m) c ≡ true
  pub there : has c l ≡ true
  pub open_yet : p l.var ≡ None

pub record HasReason (cs : List (List Lit)) (p : Partial) (h : ℕ) (l : Lit) : Type 0 where
  pub clause : List Lit
  pub named : slice_get cs h ≡ Some clause
  pub reason : IsReason p clause l

-- why an entry could be made true
abbrev pub Why : List (List Lit) → Partial → Option ℕ → Lit → Type 0
Why cs p None l = p l.var ≡ None
Why cs p (Some h) l = HasReason cs p h l

-- each entry has its reason under the entries before it
abbrev pub Explained : List (List Lit) → Partial → List Entry → Type 0
Explained cs p [] = Unit {0}
Explained cs p (e ∷ es) = Why cs p e.reason e.lit × Explained cs (made_true p e.lit) es

-- the values after the entries
abbrev pub after : Partial → List Entry → Partial
after p [] = p
after p (e ∷ es) = after (made_true p e.lit) es

-- nothing has a value
abbrev pub nothing : Partial
nothing n = None

-- the values of a trail
abbrev pub values : List Entry → Partial
values es = after nothing es

abbrev pub entries_of : List Lit → List (Option ℕ) → List Entry
entries_of [] rs = []
entries_of (l ∷ ls) [] = []
entries_of (l ∷ ls) (r ∷ rs) = (record { lit = l; reason = r }) ∷ entries_of ls rs

-- what contracts see of a trace
pub record Told : Type 0 where
  pub entries : List Entry
  pub size : ℕ

-- what a trace keeps true of its parts
pub record IsTrace (lits : List Lit) (reasons : List (Option ℕ)) (size : ℕ) : Type 0 where
  pub paired : length reasons ≡ length lits
  pub agree : values (entries_of lits reasons) ≡ value_of lits
  pub fronts : (n : ℕ) → n ≤ length lits → values (entries_of (take n lits) (take n reasons)) ≡ value_of (take n lits)

-- the later trail has the earlier one in front, and then entries with reasons
pub record Grows (old new : List Entry) : Type 0 where
  pub more : List Entry
  pub joined : new ≡ old ++ more
  pub implied : list_all (λ e. is_some e.reason) more ≡ true

-- a clause of this number is false
pub record IsConflict (f : List (List Lit)) (p : Partial) (n : ℕ) : Type 0 where
  pub clause : List Lit
  pub named : slice_get f n ≡ Some clause
  pub fails : is_all_false p clause ≡ true
