use Rattle.std.proofs.Common.{◌+◌, ◌-◌, arith, ap, sym, ◌∙◌, length, [], ◌∷◌}
use Rattle.asm_grammar.specs.Grammar.{firsts}
use Rattle.asm_grammar.proofs.Loops.{with_front, turn_gives}
use Rattle.asm_tree.specs.Language.{models}
use Rattle.asm_tree.specs.Rules.{rule, more_rules}
use Rattle.asm_body.specs.Reading.{read_in}
use Rattle.asm_body.specs.Seen.{all_seen}
use Rattle.asm_body.proofs.Opening.{more_is}
use Rattle.asm_body.proofs.rules.Rules.more_rules.Goals as goal

pub rules-init : goal.rules-init
unfolding more_rules
rules-init g c = rw (c.in_ok-push.ensures.ok, c.new-rules.ensures) (ap (with_front models (c.args.first ∷ [])) (sym (more_is c.args.levels c.args.self.now.script (rule c.args.self.now.script) c.args.tokens.now)))

pub rules-preserved : goal.rules-preserved
rules-preserved g c =
    rw (c.in_ok-push-2.ensures.ok)
    (turn_gives models (read_in c.args.levels c.args.self.now.script (rule c.args.self.now.script)) (firsts models (rule c.args.self.now.script)) (with_front models (c.args.first ∷ []) (read_in c.args.levels c.args.self.now.script (more_rules c.args.self.now.script) (all_seen c.args.tokens.now))) (length c.args.tokens.now - c.rules._turn) (length c.args.tokens.now - (c.rules._turn + 1))
    c.rules.rules (all_seen c.rules.rest.now) c.rules.invariant (omega arith) (sym c.begins_rule.ensures ∙ c.if-not-begins_rule.false) c.in_ok-rule.rule (all_seen c.in_ok-rule.after.now) c.in_ok-rule.ensures)
