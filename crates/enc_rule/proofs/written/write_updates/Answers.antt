use Rattle.std.proofs.Common.{List, ◌∙◌, ap, not, arith, slice_get}
use Rattle.std.specs.List.{list_any}
use Rattle.cnf_base.specs.Clauses.{lit_true}
use Rattle.asm_node.specs.Term.{val, vals}
use Rattle.enc_group.specs.declared.group.Entry.{Entry}
use Rattle.enc_group.specs.Group.{group_variables}
use Rattle.enc_update.specs.declared.pair.Pair.{Pair}
use Rattle.enc_rule.specs.Written.{some_written}
use Rattle.enc_rule.proofs.Writing.{update_takes, writable_at_variables}
use Rattle.enc_rule.proofs.written.write_updates.Goals as goal

pub written_pairs-requires-clause-values : goal.written_pairs-requires-clause-values
written_pairs-requires-clause-values c =
    omega (arith, ap group_variables (c.slice.ensures ∙ c.in_ok-values.ensures), writable_at_variables c.args.signature.now.domains (slice_get c.args.signature.now.functions c.args.function) c.args.value.now, c.requires.value)

pub returns-clause-means : goal.returns-clause-means
returns-clause-means c = λ v h s place ts t is m n.
    update_takes v s.world place c.args.function (vals s.world s.places ts) (val s.world s.places t) c.args.arguments.now c.args.value.now c.args.signature.now c.in_ok-pairs.pairs c.in_ok-fault.fault
    is m n
    (λ q. c.in_ok-pairs.ensures.means v (c.nothing_of.ensures.grows.holds v h) q
    ∙ ap (λ (es : List Entry). some_written v q c.args.signature.now c.args.function es c.args.arguments.now) (c.slice.ensures ∙ c.in_ok-values.ensures))
    (c.in_ok-fault.ensures.means v h ∙ ap (λ (ps : List Pair). not (list_any (λ p. lit_true v p.lit) ps)) c.slice-2.ensures)
