-- An evaluation's error as a rule's: a need is a fault.
use Rattle.asm_eval.specs.declared.error.EvalError.{EvalError}
use Rattle.asm_eval.specs.declared.error.EvalError.TheVariants as of_term
use Rattle.asm_fire.specs.declared.error.FireError.{FireError}
use Rattle.asm_fire.specs.declared.error.FireError.TheVariants as of_rule
use Rattle.asm_node.specs.declared.stop.Stop.TheVariants.{Input}

abbrev pub fire_error : EvalError → FireError
fire_error (of_term.Need l) = of_rule.Stop (Input l)
fire_error of_term.Memory = of_rule.Memory
