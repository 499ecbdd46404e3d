-- The levels of a walk: which group has which value, where its decision stands, and the walk's place in the tree of choices as a number.
use Rattle.std.specs.Prelude.{◌≡◌, ℕ, ◌+◌, ◌*◌, ◌<◌, ◌≤◌, Bool, true, false, ◌&&◌, if◌then◌else◌, nat_eq, Some, None, List, [], ◌∷◌, length, take, drop, slice_get, slice_index_or}
use Rattle.std.specs.List.{list_any}
use Rattle.cnf_base.specs.declared.lit.Lit.{Lit}
use Rattle.cnf_base.specs.Derivation.{is_all_false}
use Rattle.cnf_gate.specs.Built.{is_quiet, is_decided}
use Rattle.cnf_search.specs.Trails.{Entry, values}
use Rattle.cnf_search.specs.Lines.{choices}
use Rattle.cnf_search.specs.declared.level.Level.{Level}

-- how many values of its group a level has behind it
abbrev pub digit : Level → ℕ
digit v = if v.decided then v.value else v.value + 1

-- each value behind counts as often as there are choices of the later groups
abbrev pub spot : List (List Lit) → List Level → ℕ
spot gs [] = 0
spot gs (v ∷ vs) = digit v * choices (drop (v.depth + 1) gs) + spot gs vs

-- the groups rise from this one on, and each has a value that isn't behind
abbrev pub AreRanked : List (List Lit) → ℕ → List Level → Type 0
AreRanked gs from [] = Unit {0}
AreRanked gs from (v ∷ vs) = (from ≤ v.depth) × (v.depth < length gs) × (digit v < length (slice_index_or gs v.depth [])) × AreRanked gs (v.depth + 1) vs

-- a level with a decision: the entry at its start is the group's literal, a later one of the group is left, and the clauses of that time were quiet
pub record IsTaken (gs cs : List (List Lit)) (es : List Entry) (v : Level) : Type 0 where
  pub lit : Lit
  pub value : slice_get (slice_index_or gs v.depth []) v.value ≡ Some lit
  pub more : v.value + 1 < length (slice_index_or gs v.depth [])
  pub entry : slice_get es v.start ≡ Some (record { lit = lit; reason = None })
  pub known : v.known ≤ length cs
  pub quiet : is_quiet (values (take v.start es)) (take v.known cs) ≡ true

-- before its start the earlier groups have a true literal, and the values behind are false
pub record IsLevel (gs cs : List (List Lit)) (es : List Entry) (v : Level) : Type 0 where
  pub start : v.start ≤ length es
  pub earlier : is_decided (values (take v.start es)) (take v.depth gs) ≡ true
  pub behind : is_all_false (values (take v.start es)) (take (digit v) (slice_index_or gs v.depth [])) ≡ true
  pub taken : v.decided ≡ true → IsTaken gs cs es v

-- where the next level may start
abbrev pub next_start : Level → ℕ
next_start v = if v.decided then v.start + 1 else v.start

-- levels one after the other, from a place of the trail on
abbrev pub AreLevels : List (List Lit) → List (List Lit) → List Entry → ℕ → List Level → Type 0
AreLevels gs cs es low [] = Unit {0}
AreLevels gs cs es low (v ∷ vs) = (low ≤ v.start) × IsLevel gs cs es v × AreLevels gs cs es (next_start v) vs

-- whether a level has its decision at this place of the trail
abbrev pub starts_at : List Level → ℕ → Bool
starts_at vs i = list_any (λ v. v.decided && nat_eq v.start i) vs

-- each decision of the trail is that of a level
abbrev pub AreStarted : List Entry → List Level → Type 0
AreStarted es vs = (i : ℕ) (l : Lit) → slice_get es i ≡ Some (record { lit = l; reason = None }) → starts_at vs i ≡ true

-- the group of the last level
abbrev pub last_depth : ℕ → List Level → ℕ
last_depth n [] = n
last_depth n (v ∷ vs) = last_depth v.depth vs

-- the level after its value was refuted, where the trail has this length
abbrev pub refuted : Level → ℕ → Level
refuted v n = record { depth = v.depth; value = v.value; start = n; known = v.known; decided = false }
