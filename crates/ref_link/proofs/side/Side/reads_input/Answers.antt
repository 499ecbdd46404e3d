use Rattle.std.proofs.Common.{ap, ◌∙◌}
use Rattle.ref_link.specs.Linkable.{reads_input}
use Rattle.ref_link.specs.Rows.{is_in}
use Rattle.ref_link.proofs.Reading.{in_row}
use Rattle.ref_link.proofs.side.Side.reads_input.Goals as goal

pub returns : goal.returns
returns c =
    c.is_in.ensures ∙ ap (λ row. is_in row c.args.number) (c.deref.ensures.value ∙ c.self.invariant.reading_is)
    ∙ in_row _ 32 c.args.number ∙ ap (λ m. reads_input m 32 c.args.number) c.self.view_is
