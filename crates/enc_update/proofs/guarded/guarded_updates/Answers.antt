use Rattle.std.proofs.Common.{◌∙◌, ap, true, false, not, ◌&&◌, ◌||◌}
use Rattle.cnf_base.specs.Clauses.{lit_true}
use Rattle.asm_domain.specs.declared.value.Value.TheVariants as value
use Rattle.enc_update.specs.Updates.{has_pair}
use Rattle.enc_update.proofs.Guards.{guarded_takes}
use Rattle.enc_update.proofs.guarded.guarded_updates.Goals as goal

pub returns-clause-means : goal.returns-clause-means
returns-clause-means c = λ v t place o a m k.
    let t1 = c.either-2.ensures.grows.holds v t in
    let t2 = c.pairs_under.ensures.grows.holds v t1 in
    let t3 = c.both.ensures.grows.holds v t2 in
    let t4 = c.either.ensures.grows.holds v t3 in
    let t5 = c.literal_of-2.ensures.grows.holds v t4 in
    guarded_takes v place o a c.args.body.now.pairs c.in_ok-pairs.pairs c.args.body.now.fault c.in_ok-fault.fault (lit_true v c.in_ok-on.on) (lit_true v c.in_ok-off.off)
    (c.in_ok-on.ensures.means v t5 ∙ m.at (value.Bool true)) (c.in_ok-off.ensures.means v t4 ∙ m.at (value.Bool false)) k
    (c.in_ok-fault.ensures.means v t
    ∙ (λ i. (c.not.ensures.means v ∙ ap not (c.in_ok-known.ensures.means v t3)) i || c.in_ok-inner.ensures.means v t2 i))
    (λ l x. c.in_ok-pairs.ensures.means v t1 l x ∙ ap (λ ps. lit_true v c.in_ok-on.on && has_pair v ps l x) c.slice.ensures)
