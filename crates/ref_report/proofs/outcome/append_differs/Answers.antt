use Rattle.std.proofs.Common.{◌++◌}
use Rattle.std.specs.Prelude.{codes, slice_get}
use Rattle.asm_text.specs.Texts.{line, value_text}
use Rattle.ref_report.specs.Reported.{differs_line, linked_text}
use Rattle.ref_report.proofs.Rest.{three, worded, line_of_six}
use Rattle.ref_report.proofs.outcome.append_differs.Goals as goal

pub returns : goal.returns
returns c =
    let d = c.args.difference.now in
    let a = c.args.a.now in
    let place = linked_text a d.arguments (slice_get c.args.links.now d.link) in
    let first = value_text a d.abstract_value in
    let second = value_text c.args.c.now d.concrete_value in
    worded c.append_values.result c.args.text.now c.append_values.new.text
    (codes "not proved: initial states differ at " ++ (place ++ (codes ": " ++ first ++ codes " and " ++ line second))) (differs_line a c.args.c.now c.args.links.now d)
    (line_of_six (codes "not proved: initial states differ at ") place (codes ": ") first (codes " and ") second (codes "\n"))
    (three c.append_values.result c.args.text.now c.append_str.new.text c.append_place.new.text c.append_values.new.text (codes "not proved: initial states differ at ") place (codes ": " ++ first ++ codes " and " ++ line second)
    c.in_ok-append_str.ensures.ok c.in_ok-append_place.ensures c.append_values.ensures)
