use Rattle.std.proofs.Common.{◌≡◌, ◌++◌}
use Rattle.asm_canonical.specs.Pieces.{line_text}
use Rattle.asm_canonical.proofs.layout.line.Given as goal

abbrev pub invariant-levels : goal.invariant-levels
invariant-levels l = l.text ≡ l.fn.text ++ line_text l._level
