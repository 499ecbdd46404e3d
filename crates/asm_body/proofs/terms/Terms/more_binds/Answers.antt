use Rattle.std.proofs.Common.{◌+◌, ◌-◌, arith, ap, sym, ◌∙◌, length, [], ◌∷◌}
use Rattle.asm_grammar.proofs.Loops.{with_front, turn_gives}
use Rattle.asm_tree.specs.Words.{kind_of}
use Rattle.asm_tree.specs.declared.class.Class.TheVariants.{Comma}
use Rattle.asm_tree.specs.Language.{models, after}
use Rattle.asm_tree.specs.Terms.{bind, more_binds}
use Rattle.asm_body.specs.Reading.{read_in}
use Rattle.asm_body.specs.Seen.{all_seen}
use Rattle.asm_body.proofs.Opening.{more_is}
use Rattle.asm_body.proofs.terms.Terms.more_binds.Goals as goal

pub binds-init : goal.binds-init
unfolding more_binds
binds-init g c = rw (c.in_ok-push.ensures.ok, c.new-binds.ensures) (ap (with_front models (c.args.first ∷ [])) (sym (more_is c.args.levels c.args.self.now.script (after Comma (bind c.args.self.now.script)) c.args.tokens.now)))

pub binds-preserved : goal.binds-preserved
binds-preserved g c =
    rw (c.in_ok-push-2.ensures.ok)
    (turn_gives models (read_in c.args.levels c.args.self.now.script (after Comma (bind c.args.self.now.script))) (kind_of Comma ∷ []) (with_front models (c.args.first ∷ []) (read_in c.args.levels c.args.self.now.script (more_binds c.args.self.now.script) (all_seen c.args.tokens.now))) (length c.args.tokens.now - c.binds._turn) (length c.args.tokens.now - (c.binds._turn + 1))
    c.binds.binds (all_seen c.binds.rest.now) c.binds.invariant (omega arith) (sym c.begins.ensures ∙ c.if-not-begins.false) c.in_ok-bind.bind (all_seen c.in_ok-bind.after.now) c.in_ok-bind.ensures)
