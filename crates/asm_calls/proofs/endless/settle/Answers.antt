use Rattle.std.proofs.Common.{List, Bool, sym, ap, ◌∙◌}
use Rattle.std.specs.List.{list_any}
use Rattle.call_graph.specs.Calls.{calls_at, is_in}
use Rattle.asm_calls.proofs.Bounding.{settled}
use Rattle.asm_calls.proofs.endless.settle.Goals as goal

pub returns : goal.returns
returns c =
    settled c.args.graph.now c.args.row.now.items c.args.number c.requires
    (ap (λ (row : List Bool). list_any (is_in row) (calls_at c.args.graph.now c.args.number)) (sym c.deref.ensures.value) ∙ sym c.calls_one.ensures ∙ c.if-calls_one.false)
