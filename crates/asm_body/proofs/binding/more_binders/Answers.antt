use Rattle.std.proofs.Common.{◌+◌, ◌-◌, arith, ap, sym, ◌∙◌, length, [], ◌∷◌, false}
use Rattle.asm_grammar.proofs.Loops.{with_front, turn_gives}
use Rattle.asm_tree.specs.Words.{kind_of}
use Rattle.asm_tree.specs.declared.class.Class.TheVariants.{Comma}
use Rattle.asm_tree.specs.Language.{models, after}
use Rattle.asm_tree.specs.Terms.{binder, more_binders}
use Rattle.asm_body.specs.Reading.{read_flat}
use Rattle.asm_body.specs.Seen.{all_seen}
use Rattle.asm_body.proofs.Opening.{more_is}
use Rattle.asm_body.proofs.binding.more_binders.Goals as goal

pub binders-init : goal.binders-init
unfolding more_binders binder
binders-init c = rw (c.in_ok-push.ensures.ok, c.new-binders.ensures) (ap (with_front models (c.args.first ∷ [])) (sym (more_is 0 false (after Comma (binder false)) c.args.tokens.now)))

pub binders-preserved : goal.binders-preserved
binders-preserved c =
    rw (c.in_ok-push-2.ensures.ok)
    (turn_gives models (read_flat (after Comma (binder false))) (kind_of Comma ∷ []) (with_front models (c.args.first ∷ []) (read_flat (more_binders false) (all_seen c.args.tokens.now))) (length c.args.tokens.now - c.binders._turn) (length c.args.tokens.now - (c.binders._turn + 1))
    c.binders.binders (all_seen c.binders.rest.now) c.binders.invariant (omega arith) (sym c.begins.ensures ∙ c.if-not-begins.false) c.in_ok-binder.binder (all_seen c.in_ok-binder.after.now) c.in_ok-binder.ensures)
