use Rattle.std.proofs.Common.{Err, ap}
use Rattle.asm_unit.proofs.Faults.{long_text}
use Rattle.asm_unit.proofs.one.read_text.Goals as goal

pub returns-in_ok-copied-in-Err-TooLong-clause-told : goal.returns-in_ok-copied-in-Err-TooLong-clause-told
returns-in_ok-copied-in-Err-TooLong-clause-told g c = λ files told.
    (c.in_ok-copied-in-Err-TooLong.ensures, long_text files c.text.result.now c.args.name.now c.args.limit c.text.ensures ((c.in-Err-TooLong.ensures.told files told).too_long (ap Err c.in-Err-TooLong.field-0-is)))
