use Rattle.std.proofs.Common.{◌≡◌, take, true}
use Rattle.std.specs.Prelude.{is_some}
use Rattle.std.specs.List.{list_all}
use Rattle.cnf_base.specs.declared.lit.Lit.{Lit}
use Rattle.cnf_search.specs.Trails.{values}
use Rattle.cnf_search.proofs.walk.next_value.Given as goal

abbrev pub invariant-loop-place : goal.invariant-loop-place
invariant-loop-place l = list_all (λ (m : Lit). is_some (values l.trace.entries m.var)) (take l.place l.group) ≡ true
