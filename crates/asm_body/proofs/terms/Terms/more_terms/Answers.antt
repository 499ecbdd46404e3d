use Rattle.std.proofs.Common.{◌+◌, ◌-◌, arith, ap, sym, ◌∙◌, length, [], ◌∷◌}
use Rattle.asm_grammar.proofs.Loops.{with_front, turn_gives}
use Rattle.asm_tree.specs.Words.{kind_of}
use Rattle.asm_tree.specs.declared.class.Class.TheVariants.{Comma}
use Rattle.asm_tree.specs.Language.{models, after}
use Rattle.asm_tree.specs.Terms.{term, more_terms}
use Rattle.asm_body.specs.Reading.{read_in}
use Rattle.asm_body.specs.Seen.{all_seen}
use Rattle.asm_body.proofs.Opening.{more_is}
use Rattle.asm_body.proofs.terms.Terms.more_terms.Goals as goal

pub terms-init : goal.terms-init
unfolding more_terms
terms-init g c = rw (c.in_ok-push.ensures.ok, c.new-terms.ensures) (ap (with_front models (c.args.first ∷ [])) (sym (more_is c.args.levels c.args.self.now.script (after Comma (term c.args.self.now.script)) c.args.tokens.now)))

pub terms-preserved : goal.terms-preserved
terms-preserved g c =
    rw (c.in_ok-push-2.ensures.ok)
    (turn_gives models (read_in c.args.levels c.args.self.now.script (after Comma (term c.args.self.now.script))) (kind_of Comma ∷ []) (with_front models (c.args.first ∷ []) (read_in c.args.levels c.args.self.now.script (more_terms c.args.self.now.script) (all_seen c.args.tokens.now))) (length c.args.tokens.now - c.terms._turn) (length c.args.tokens.now - (c.terms._turn + 1))
    c.terms.terms (all_seen c.terms.rest.now) c.terms.invariant (omega arith) (sym c.begins.ensures ∙ c.if-not-begins.false) c.in_ok-term.term (all_seen c.in_ok-term.after.now) c.in_ok-term.ensures)
