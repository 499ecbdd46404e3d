use Rattle.asm_node.specs.Term.{val}
use Rattle.enc_group.specs.declared.group.Entry.{Entry}
use Rattle.enc_group.proofs.Groups.{pick}
use Rattle.enc_rule.specs.Rules.{let_given}
use Rattle.enc_rule.proofs.Coming.{cases_take}
use Rattle.enc_rule.proofs.cases.let_updates.Goals as goal

pub returns-clause-means : goal.returns-clause-means
returns-clause-means c = λ v h s place x t p m all.
    cases_take v (λ (e : Entry). e.value) (λ (e : Entry). e.lit) (let_given s x p) c.args.bound.now (val s.world s.places t) c.in_ok-union.union.pairs c.in_ok-union.union.fault c.in_ok-fault.fault
    (λ q. pick v c.args.bound.now (val s.world s.places t) q m)
    (c.in_ok-union.ensures.means v (c.missing_or.ensures.grows.holds v h) _ all)
    (c.in_ok-fault.ensures.means v h)
