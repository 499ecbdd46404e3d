-- What the parts of a turn do to the levels of a walk.
use Rattle.std.specs.Prelude.{◌≡◌, ℕ, Bool, false, ◌&&◌, not, nat_eq, List, [], ◌∷◌, ◌++◌, ◌⊎◌}
use Rattle.cnf_search.specs.declared.level.Level.{Level}

-- whether the last level is of this group and has no decision
abbrev pub ends_refuted : Bool → List Level → ℕ → Bool
ends_refuted b [] n = b
ends_refuted b (v ∷ vs) n = ends_refuted (not v.decided && nat_eq v.depth n) vs n

-- the last level went, or none where it isn't one of this group without a decision
abbrev pub Drops : List Level → List Level → ℕ → Type 0
Drops old new n =
    ((v : Level) × (old ≡ new ++ v ∷ []) × (v.decided ≡ false) × (v.depth ≡ n))
    ⊎ ((new ≡ old) × (ends_refuted false old n ≡ false))

-- a level came behind those that stay
abbrev pub Puts : List Level → List Level → Level → Type 0
Puts old new v = (mid : List Level) × Drops old mid v.depth × (new ≡ mid ++ v ∷ [])

-- levels from this one on went
abbrev pub TakesOff : List Level → List Level → Level → Type 0
TakesOff old new v = (later : List Level) × (old ≡ new ++ v ∷ later)
