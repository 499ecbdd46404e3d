use Rattle.std.proofs.Common.{◌++◌, ap, sym, append_assoc}
use Rattle.std.specs.Prelude.{codes, decimal}
use Rattle.ref_report.specs.Reported.{invariant_line}
use Rattle.ref_report.proofs.Rest.{three, worded}
use Rattle.ref_report.proofs.outcome.append_invariant.Goals as goal

pub returns : goal.returns
returns c =
    worded c.append_str-2.result c.args.text.now c.append_str-2.new.text
    (codes "not proved: abstract invariant " ++ (decimal c.args.number ++ codes " is false initially\n")) (invariant_line c.args.number)
    (ap (λ zs. codes "not proved: abstract invariant " ++ zs) (sym (append_assoc (decimal c.args.number) (codes " is false initially") (codes "\n"))))
    (three c.append_str-2.result c.args.text.now c.append_str.new.text c.append_number.new.text c.append_str-2.new.text (codes "not proved: abstract invariant ") (decimal c.args.number) (codes " is false initially\n")
    c.in_ok-append_str.ensures.ok c.in_ok-append_number.ensures.ok c.append_str-2.ensures.ok)
