use Rattle.std.proofs.Common.{◌≡◌, ◌++◌}
use Rattle.ref_link.specs.Linked.{links_without_file}
use Rattle.ref_link.proofs.Begun.{later}
use Rattle.ref_link.proofs.linking.links_by_name.Given as goal

-- what is made, with what is left, is the whole
abbrev pub invariant-loop-number : goal.invariant-loop-number
invariant-loop-number l = l.links ++ later l.a l.c l.a.signature.functions l.number ≡ links_without_file l.a l.c
