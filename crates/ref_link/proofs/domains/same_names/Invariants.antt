use Rattle.std.proofs.Common.{◌≡◌, drop, bytes_eq}
use Rattle.ref_link.specs.Linkable.{alike}
use Rattle.ref_link.proofs.domains.same_names.Given as goal

abbrev pub invariant-loop-place : goal.invariant-loop-place
invariant-loop-place l = alike bytes_eq (drop l.place l.names) (drop l.place l.others) ≡ alike bytes_eq l.names l.others
