use Rattle.std.proofs.Common.{◌≡◌, ◌∙◌, ◌+◌, suc, ℕ, ap, arith}
use Rattle.asm_unit.specs.Loading.{new_file}
use Rattle.asm_unit.proofs.Enough.{enough}
use Rattle.asm_unit.proofs.laws.levels_suffice.Goals as goal

pub returns : goal.returns
returns c = λ files first levels name sources units le long.
    let more : levels + 1 ≡ suc levels = omega arith in
    ap (λ (n : ℕ). new_file files first n name sources units) more ∙ enough files first levels name sources units (omega arith)
