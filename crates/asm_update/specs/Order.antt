-- The order in which pairs of a slot and a value are kept.
use Rattle.std.specs.Prelude.{◌≡◌, ◌<◌, ◌≤◌, length, slice_index_or, ℕ, ℤ, pos, Bool as Truth, true, false, List, [], ◌∷◌}
use Rattle.std.specs.declared.cmp.Ordering.{Ordering}
use Rattle.std.specs.declared.cmp.Ordering.TheVariants.{Less}
use Rattle.std.specs.Ordering.{int_cmp, is_lt}
use Rattle.std.specs.Cmp.Lexicographic.{slice_cmp}
use Rattle.asm_domain.specs.declared.value.Value.{Value}
use Rattle.asm_domain.specs.declared.value.Value.TheVariants.{Undef, Bool, Int, Elem}
use Rattle.asm_node.specs.UpdateSet.{Pair}

-- the number of a truth value: false before true
abbrev pub truth_key : Truth → ℤ
truth_key false = pos 0
truth_key true = pos 1

-- a value as numbers: `undef` before truth values, numbers and elements, each of which are in their own order
abbrev pub value_rank : Value → List ℤ
value_rank Undef = pos 0 ∷ pos 0 ∷ pos 0 ∷ []
value_rank (Bool b) = pos 1 ∷ truth_key b ∷ pos 0 ∷ []
value_rank (Int n) = pos 2 ∷ n ∷ pos 0 ∷ []
value_rank (Elem d k) = pos 3 ∷ pos d ∷ pos k ∷ []

-- a pair as numbers: the slot, and then the value
abbrev pub rank_key : Pair → List ℤ
rank_key p = pos p.0 ∷ value_rank p.1

-- by slot, and at one slot by value
abbrev pub rank_cmp : Pair → Pair → Ordering
rank_cmp p q = slice_cmp int_cmp (rank_key p) (rank_key q)

-- the first pairs of a list, up to a place, are before a pair
abbrev pub AreBefore : Pair → List Pair → ℕ → Type 0
AreBefore p qs place = (k : ℕ) (d : Pair) → k < place → rank_cmp (slice_index_or qs k d) p ≡ Less

-- the pairs of a list from a place on aren't before a pair
abbrev pub AreNotBefore : Pair → List Pair → ℕ → Type 0
AreNotBefore p qs place = (k : ℕ) (d : Pair) → place ≤ k → k < length qs → is_lt (rank_cmp (slice_index_or qs k d) p) ≡ false

-- the first pairs of a list, up to a place, are of slots before a slot
abbrev pub AreBelow : ℕ → List Pair → ℕ → Type 0
AreBelow slot ps place = (k : ℕ) (d : Pair) → k < place → (slice_index_or ps k d).0 < slot

-- the pairs of a list from a place on are of no slots before a slot
abbrev pub AreNotBelow : ℕ → List Pair → ℕ → Type 0
AreNotBelow slot ps place = (k : ℕ) (d : Pair) → place ≤ k → k < length ps → slot ≤ (slice_index_or ps k d).0
