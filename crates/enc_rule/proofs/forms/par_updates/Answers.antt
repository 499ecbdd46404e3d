use Rattle.std.proofs.Common.{sym, subst}
use Rattle.std.specs.FinSet as set
use Rattle.enc_update.specs.Updates.{Takes}
use Rattle.enc_rule.proofs.Parts.{parts_are_union}
use Rattle.enc_rule.proofs.forms.par_updates.Goals as goal

pub returns-clause-means : goal.returns-clause-means
returns-clause-means c = λ v t s place rs h.
    subst (Takes v c.in_ok-union.union.pairs c.in_ok-union.union.fault) (sym (parts_are_union s 0 rs set.empty)) (c.in_ok-union.ensures.means v t _ h)
