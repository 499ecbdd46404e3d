use Rattle.std.proofs.Common.{◌≡◌, ℕ, length, drop, Some}
use Rattle.cnf_search.specs.Passes.{with_clause}
use Rattle.cnf_search.specs.Backs.{marked}
use Rattle.cnf_search.proofs.back.mark.Given as goal

abbrev pub invariant-loop-lit : goal.invariant-loop-lit
invariant-loop-lit l =
    (length l.seen.items ≡ length l.fn.seen.items)
    × ((n : ℕ) → with_clause (Some (drop l.lit-index l.lit-items)) (marked l.seen.items) n ≡ with_clause (Some l.lit-items) (marked l.fn.seen.items) n)
