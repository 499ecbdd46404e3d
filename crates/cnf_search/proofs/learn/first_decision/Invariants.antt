use Rattle.std.proofs.Common.{◌≡◌, Option, ℕ, take, false}
use Rattle.std.specs.Prelude.{is_none}
use Rattle.std.specs.List.{list_any}
use Rattle.cnf_search.proofs.learn.first_decision.Given as goal

abbrev pub invariant-loop-place : goal.invariant-loop-place
invariant-loop-place l = list_any (λ (o : Option ℕ). is_none o) (take l.place l.reasons) ≡ false
