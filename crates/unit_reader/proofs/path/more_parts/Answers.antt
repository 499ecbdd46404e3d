use Rattle.std.proofs.Common.{◌+◌, ◌-◌, arith, ap, sym, ◌∙◌, length, [], ◌∷◌, false}
use Rattle.asm_grammar.specs.Grammar.{shown}
use Rattle.asm_grammar.proofs.Loops.{with_front, turn_gives}
use Rattle.asm_tree.specs.Words.{kind_of}
use Rattle.asm_tree.specs.declared.class.Class.TheVariants.{Slash}
use Rattle.asm_tree.specs.Language.{models, after}
use Rattle.asm_tree.specs.Units.{part, more_parts}
use Rattle.asm_body.specs.Reading.{read_flat}
use Rattle.asm_body.specs.Seen.{all_seen}
use Rattle.asm_body.proofs.Opening.{more_is}
use Rattle.unit_reader.proofs.path.more_parts.Goals as goal

pub parts-init : goal.parts-init
unfolding more_parts
parts-init c = rw (c.in_ok-push.ensures.ok, c.new-parts.ensures) (ap (with_front models (c.args.first ∷ [])) (sym (more_is 0 false (after Slash (shown (λ p. p.1) part)) c.args.tokens.now)))

pub parts-preserved : goal.parts-preserved
parts-preserved c =
    rw (c.in_ok-push-2.ensures.ok)
    (turn_gives models (read_flat (after Slash (shown (λ p. p.1) part))) (kind_of Slash ∷ []) (with_front models (c.args.first ∷ []) (read_flat more_parts (all_seen c.args.tokens.now))) (length c.args.tokens.now - c.parts._turn) (length c.args.tokens.now - (c.parts._turn + 1))
    c.parts.parts (all_seen c.parts.rest.now) c.parts.invariant (omega arith) (sym c.begins.ensures ∙ c.if-not-begins.false) c.in_ok-part.part (all_seen c.in_ok-part.after.now) c.in_ok-part.ensures)
