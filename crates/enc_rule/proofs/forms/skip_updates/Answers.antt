use Rattle.std.proofs.Common.{sym, ap, ◌∙◌}
use Rattle.std.specs.FinSet as set
use Rattle.asm_node.specs.UpdateSet.{pair_cmp}
use Rattle.enc_update.specs.Updates.{has_pair}
use Rattle.enc_rule.proofs.forms.skip_updates.Goals as goal

pub returns-clause-means : goal.returns-clause-means
returns-clause-means c = λ v t s place. record {
  faults = c.in_ok-fault.ensures.means v t;
  pairs = λ fine l x. ap (λ ps. has_pair v ps l x) c.new.ensures ∙ sym (set.contains-empty pair_cmp (l, x));
}
