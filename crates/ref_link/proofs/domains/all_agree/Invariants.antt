use Rattle.std.proofs.Common.{◌≡◌, drop}
use Rattle.ref_link.specs.Linkable.{alike, domains_agree}
use Rattle.ref_link.proofs.domains.all_agree.Given as goal

abbrev pub invariant-loop-place : goal.invariant-loop-place
invariant-loop-place l = alike (domains_agree l.a l.c) (drop l.place l.first) (drop l.place l.second) ≡ alike (domains_agree l.a l.c) l.first l.second
