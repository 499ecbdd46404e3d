use Rattle.std.proofs.Common.{◌≡◌, ◌++◌, drop}
use Rattle.std.specs.List.{flat_map}
use Rattle.ref_report.specs.Texts.{link_line}
use Rattle.ref_report.proofs.links.append_all.Given as goal

abbrev pub invariant-links : goal.invariant-links
invariant-links l = l.text ++ flat_map (link_line l.a l.c) (drop l.link-index l.links) ≡ l.fn.text ++ flat_map (link_line l.a l.c) l.links
