-- How many definitions and macro rules may stand inside one another.
use Rattle.std.specs.Prelude.{◌≡◌, ◌≤◌, ℕ, List}
use Rattle.asm_domain.specs.declared.value.Value.{Value}
use Rattle.asm_node.specs.Tree.{Tree}
use Rattle.asm_node.specs.RuleTree.{Rule}
use Rattle.asm_node.specs.Term.{World, Reads, Places, calls_within, calls_of, value_of}
use Rattle.asm_node.specs.Taking.{Pick, Path, taken, bodies_within}

-- from n levels of definitions on, a function gives the same at all arguments
abbrev pub GivesAlike : World → ℕ → ℕ → Type 0
GivesAlike w n f = (k : ℕ) (vs : List Value) → n ≤ k → calls_within w k f vs ≡ calls_within w n f vs

-- with more than 32 levels of definitions a term has the same value
abbrev pub HasOneValue : World → Tree → Type 0
HasOneValue w t = (k : ℕ) (reads : Reads) → 32 ≤ k → value_of w (calls_within w k) reads t ≡ value_of w (calls_of w) reads t

-- with more than 32 levels of macro rules a rule gives the same
abbrev pub HasOneOutcome : {S : Type 0} → Pick S → World → Rule → Type 0
HasOneOutcome pick w r =
    (k : ℕ) (path : Path) (e : Places) (left : _) → 32 ≤ k → taken pick (bodies_within pick k) path w e r left ≡ taken pick (bodies_within pick 32) path w e r left
