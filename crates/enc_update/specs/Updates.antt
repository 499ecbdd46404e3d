-- What pairs of a slot and a value, and the literal of a fault, say of what a rule gives.
use Rattle.std.specs.Prelude.{◌≡◌, ℕ, Bool, true, false, ◌&&◌, ◌||◌, nat_eq, List, [], ◌∷◌, ◌++◌, map}
use Rattle.std.specs.List.{list_any}
use Rattle.std.specs.FinSet as set
use Rattle.cnf_base.specs.declared.lit.Lit.{Lit}
use Rattle.cnf_base.specs.Clauses.{lit_true, clause_variables}
use Rattle.asm_domain.specs.declared.value.Value.{Value}
use Rattle.asm_node.specs.Values.{same}
use Rattle.asm_node.specs.UpdateSet.{UpdateSet}
use Rattle.asm_node.specs.Taking.{Attempt, Yields, Faults, and_then}
use Rattle.enc_update.specs.declared.pair.Pair.{Pair}
use Rattle.enc_update.specs.declared.pair.UpdateBits.{UpdateBits}

-- what a rule gives where each choice is made at its path
abbrev pub Taken : Type 0
Taken = Attempt (Unit {0}) UpdateSet

abbrev pub is_fault : Taken → Bool
is_fault (Yields u s) = false
is_fault (Faults stop s) = true

-- whether it gives a set with this pair
abbrev pub yields_pair : ℕ → Value → Taken → Bool
yields_pair l x (Yields u s) = set.contains u (l, x)
yields_pair l x (Faults stop s) = false

-- whether there is a true literal of this pair
abbrev pub has_pair : (ℕ → Bool) → List Pair → ℕ → Value → Bool
has_pair v ps l x = list_any (λ p. (nat_eq p.slot l && same p.value x) && lit_true v p.lit) ps

-- the literals mean what a rule gives: the fault's is true exactly where it ends in a fault; where it gives a set, that has exactly the pairs whose literals are true
pub record Takes (v : ℕ → Bool) (ps : List Pair) (fault : Lit) (a : Taken) : Type 0 where
  pub faults : lit_true v fault ≡ is_fault a
  pub pairs : is_fault a ≡ false → (l : ℕ) (x : Value) → has_pair v ps l x ≡ yields_pair l x a

-- the least number above each variable
abbrev pub pair_variables : List Pair → ℕ
pair_variables ps = clause_variables (map (λ p. p.lit) ps)

-- ---- several rules in one state

-- the union of what they give, after the set so far; the first fault is the fault
abbrev pub union_of : List Taken → UpdateSet → Taken
union_of [] u = Yields u tt
union_of (a ∷ given) u = and_then a (λ w s. union_of given (set.union u w))

-- the pairs of all parts, one part after the other
abbrev pub pairs_of : List UpdateBits → List Pair
pairs_of [] = []
pairs_of (b ∷ bs) = b.pairs ++ pairs_of bs

abbrev pub faults_of : List UpdateBits → List Lit
faults_of bs = map (λ b. b.fault) bs

-- each part means what the rule at its place gives
abbrev pub TakesEach : (ℕ → Bool) → List Taken → List UpdateBits → Type 0
TakesEach v [] [] = Unit {0}
TakesEach v (a ∷ given) (b ∷ bs) = Takes v b.pairs b.fault a × TakesEach v given bs
TakesEach v _ _ = ⊥

-- ---- clashes

-- at least two literals of a list are true
abbrev pub two_true : (ℕ → Bool) → List Lit → Bool
two_true v [] = false
two_true v (l ∷ ls) = (lit_true v l && list_any (lit_true v) ls) || two_true v ls
