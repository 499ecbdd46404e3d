use Rattle.std.proofs.Common.{ap, ◌++◌}
use Rattle.std.specs.Prelude.{map, decimal}
use Rattle.asm_text.proofs.Pieces.{all_from}
use Rattle.ref_report.proofs.input.append_listed.Goals as goal

pub words-init : goal.words-init
words-init c = ap (λ zs. c.args.text.now ++ zs) (all_from (map decimal c.args.words.now))
