use Rattle.asm_gen.specs.Ring.{case_text}
use Rattle.asm_gen.proofs.Further.{written_further}
use Rattle.asm_gen.proofs.concrete_model.append_cases.Goals as goal

pub stations-preserved : goal.stations-preserved
stations-preserved c = written_further case_text c.stations.station c.args.text.now c.stations.text c.append_case.new.text c.stations.invariant c.in_ok-append_case.ensures
