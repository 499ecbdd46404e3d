use Rattle.std.proofs.Common.{◌+◌, ◌-◌, arith, ap, sym, ◌∙◌, length, [], ◌∷◌, true, false}
use Rattle.asm_grammar.proofs.Loops.{with_front, turn_gives}
use Rattle.asm_tree.specs.Words.{kind_of}
use Rattle.asm_tree.specs.declared.class.Class.TheVariants as class_is
use Rattle.asm_tree.specs.Language.{models, after}
use Rattle.asm_tree.specs.Rules as rules
use Rattle.asm_body.specs.Reading.{read_flat}
use Rattle.asm_body.specs.Seen.{all_seen}
use Rattle.asm_body.proofs.Opening.{more_is}
use Rattle.avalla_parse.proofs.constant.more_constants.Goals as goal

pub items-init : goal.items-init
unfolding rules.more_constants
items-init c = rw (c.in_ok-push.ensures.ok, c.new-items.ensures) (ap (with_front models (c.args.first ∷ [])) (sym (more_is 0 false (after class_is.Comma (rules.constant true)) c.args.tokens.now)))

pub items-preserved : goal.items-preserved
items-preserved c =
    rw (c.in_ok-push-2.ensures.ok)
    (turn_gives models (read_flat (after class_is.Comma (rules.constant true))) (kind_of class_is.Comma ∷ []) (with_front models (c.args.first ∷ []) (read_flat (rules.more_constants true) (all_seen c.args.tokens.now))) (length c.args.tokens.now - c.items._turn) (length c.args.tokens.now - (c.items._turn + 1))
    c.items.items (all_seen c.items.rest.now) c.items.invariant (omega arith) (sym c.begins.ensures ∙ c.if-not-begins.false) c.in_ok-item.item (all_seen c.in_ok-item.after.now) c.in_ok-item.ensures)
