use Rattle.std.proofs.Common.{◌+◌, ◌-◌, arith, sym, ◌∙◌, length, false}
use Rattle.asm_grammar.proofs.Loops.{front_nil, turn_gives}
use Rattle.asm_grammar.specs.Grammar.{many, many_at, firsts}
use Rattle.asm_tree.specs.Language.{models}
use Rattle.asm_body.specs.Reading.{read_flat}
use Rattle.asm_body.specs.Seen.{all_seen}
use Rattle.asm_body.proofs.Opening.{more_is}
use Rattle.link_parse.specs.Links as language
use Rattle.link_parse.proofs.link.links.Goals as goal

pub items-init : goal.items-init
items-init c =
    rw c.new-items.ensures
    (front_nil models (many_at models (read_flat language.link) (firsts models language.link) (length c.args.tokens.now - 0) (all_seen c.args.tokens.now)) ∙ sym (more_is 0 false language.link c.args.tokens.now))

pub items-preserved : goal.items-preserved
items-preserved c =
    rw (c.in_ok-push.ensures.ok)
    (turn_gives models (read_flat language.link) (firsts models language.link) (read_flat (many language.link) (all_seen c.args.tokens.now)) (length c.args.tokens.now - c.items._turn) (length c.args.tokens.now - (c.items._turn + 1))
    c.items.items (all_seen c.items.rest.now) c.items.invariant (omega arith) (sym c.begins_link.ensures ∙ c.if-not-begins_link.false) c.in_ok-item.item (all_seen c.in_ok-item.after.now) c.in_ok-item.ensures)
