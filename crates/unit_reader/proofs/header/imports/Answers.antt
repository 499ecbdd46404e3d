use Rattle.std.proofs.Common.{◌+◌, ◌-◌, arith, sym, ◌∙◌, length, [], ◌∷◌, false}
use Rattle.asm_grammar.proofs.Loops.{front_nil, turn_gives}
use Rattle.asm_grammar.specs.Grammar.{many_at}
use Rattle.asm_tree.specs.Words.{kind_of}
use Rattle.asm_tree.specs.declared.class.Class.TheVariants as class_is
use Rattle.asm_tree.specs.Language.{models, after}
use Rattle.asm_tree.specs.Units as units
use Rattle.asm_body.specs.Reading.{read_flat}
use Rattle.asm_body.specs.Seen.{all_seen}
use Rattle.asm_body.proofs.Opening.{more_is}
use Rattle.unit_reader.proofs.header.imports.Goals as goal

pub items-init : goal.items-init
unfolding units.imports
items-init c =
    rw c.new-items.ensures
    (front_nil models (many_at models (read_flat (after class_is.Import units.path)) (kind_of class_is.Import ∷ []) (length c.args.tokens.now - 0) (all_seen c.args.tokens.now)) ∙ sym (more_is 0 false (after class_is.Import units.path) c.args.tokens.now))

pub items-preserved : goal.items-preserved
items-preserved c =
    rw (c.in_ok-push.ensures.ok)
    (turn_gives models (read_flat (after class_is.Import units.path)) (kind_of class_is.Import ∷ []) (read_flat units.imports (all_seen c.args.tokens.now)) (length c.args.tokens.now - c.items._turn) (length c.args.tokens.now - (c.items._turn + 1))
    c.items.items (all_seen c.items.rest.now) c.items.invariant (omega arith) (sym c.begins.ensures ∙ c.if-not-begins.false) c.in_ok-item.item (all_seen c.in_ok-item.after.now) c.in_ok-item.ensures)
