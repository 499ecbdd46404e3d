use Rattle.std.proofs.Common.{sym, ap, ◌∙◌, take}
use Rattle.std.specs.Prelude.{map}
use Rattle.std.proofs.lemmas.List.{take-map}
use Rattle.asm_ranges.specs.Bound.{bound_of}
use Rattle.asm_ranges.proofs.scope.Scope.leave.Goals as goal

pub returns : goal.returns
returns c = ap (map bound_of) c.truncate.ensures.items ∙ sym (take-map bound_of c.args.depth _) ∙ ap (take c.args.depth) c.self.view_is
