-- The code of what sessions show, by which proofs tell it apart.
use Rattle.std.specs.Prelude.{ℕ, Option}
use Rattle.std.proofs.Common.{refl}
use Rattle.std.specs.Coded.{Coded, code_by, coded_ℕ, coded_option, coded×}
use Rattle.asm_node.specs.Codes.{machine_code}
use Rattle.asm_node.specs.Machine.{Machine, State}
use Rattle.asm_state.specs.State.{state_code}
use Rattle.asm_run.specs.Session.{Shown}

abbrev pub shown_code : Coded Shown
shown_code =
    code_by (Machine × (State × Option ℕ)) (coded× machine_code (coded× state_code (coded_option coded_ℕ)))
    (λ s. (s.machine, (s.state, s.stopped))) (λ p. record { machine = p.0; state = p.1.0; stopped = p.1.1 }) (λ _. refl)
