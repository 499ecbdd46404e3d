use Rattle.std.proofs.Common.{◌≡◌, drop}
use Rattle.ref_link.specs.Linked.{links_of}
use Rattle.ref_link.proofs.Begun.{begun}
use Rattle.ref_link.proofs.linking.all_links.Given as goal

-- what is made, with what is left, is the whole
abbrev pub invariant-loop-raw : goal.invariant-loop-raw
invariant-loop-raw l = begun l.links (links_of l.a l.c (drop l.raw-index l.raws)) ≡ links_of l.a l.c l.raws
