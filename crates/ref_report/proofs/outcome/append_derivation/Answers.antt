use Rattle.std.specs.Prelude.{codes, decimal}
use Rattle.ref_report.proofs.Rest.{three}
use Rattle.ref_report.proofs.outcome.append_derivation.Goals as goal

pub returns : goal.returns
returns c =
    three c.append_str-2.result c.args.text.now c.append_str.new.text c.append_number.new.text c.append_str-2.new.text (codes "derivation ") (decimal c.args.lines) (codes "\n")
    c.in_ok-append_str.ensures.ok c.in_ok-append_number.ensures.ok c.append_str-2.ensures.ok
