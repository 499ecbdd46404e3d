use Rattle.std.proofs.Common.{sym, subst, List}
use Rattle.std.specs.FinSet as set
use Rattle.asm_domain.specs.declared.value.Value.{Value}
use Rattle.asm_node.specs.Machine.{tuples_of}
use Rattle.enc_update.specs.Updates.{Taken, Takes}
use Rattle.enc_update.proofs.Unions.{each_is_union}
use Rattle.enc_rule.specs.Rules.{instance_given}
use Rattle.enc_rule.proofs.forms.forall_updates.Goals as goal

pub returns-clause-means : goal.returns-clause-means
returns-clause-means c = λ v t s place bs g p h.
    let given : List Value → Unit {0} → Taken = λ vs u. instance_given s place bs g p vs in
    subst (Takes v c.in_ok-union.union.pairs c.in_ok-union.union.fault) (sym (each_is_union given (tuples_of s.world.machine.signature bs) set.empty)) (c.in_ok-union.ensures.means v t _ h)
