use Rattle.std.proofs.Common.{◌≡◌, ◌≤◌, drop}
use Rattle.std.specs.Prelude.{fold}
use Rattle.asm_cli.specs.Words.{with_digit, number_of}
use Rattle.asm_cli.proofs.option.number_of.Given as goal

-- the number so far, with the digits that are left, is the whole
abbrev pub invariant-digits : goal.invariant-digits
invariant-digits l = record {
  whole : fold with_digit l.number (drop l.byte-index l.digits) ≡ number_of l.digits;
  small : l.number ≤ l.limit;
}
