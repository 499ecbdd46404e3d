-- How a command ends.
use Rattle.std.specs.Prelude.{ℕ}
use Rattle.asm_cli.specs.declared.exit.Exit.{Exit}
use Rattle.asm_cli.specs.declared.exit.Exit.TheVariants.{Code, ReadFault, WriteFault, Memory}

-- the status of the process
abbrev pub status_of : Exit → ℕ
status_of (Code k) = k
status_of ReadFault = 7
status_of WriteFault = 8
status_of Memory = 9

-- it holds of the code, where the end has one
abbrev pub OnCode : Exit → (ℕ → Type 0) → Type 0
OnCode (Code k) P = P k
OnCode ReadFault P = Unit {0}
OnCode WriteFault P = Unit {0}
OnCode Memory P = Unit {0}

-- it holds, where the end has no code
abbrev pub OnFault : Exit → Type 0 → Type 0
OnFault (Code k) P = Unit {0}
OnFault ReadFault P = P
OnFault WriteFault P = P
OnFault Memory P = P
