use Rattle.std.proofs.Common.{◌+◌, ◌-◌, arith, ap, sym, ◌∙◌, length, [], ◌∷◌}
use Rattle.asm_grammar.proofs.Loops.{with_front, turn_gives}
use Rattle.asm_tree.specs.Words.{kind_of}
use Rattle.asm_tree.specs.declared.class.Class.TheVariants.{Case}
use Rattle.asm_tree.specs.Language.{models}
use Rattle.asm_tree.specs.Terms.{case_term, more_case_terms}
use Rattle.asm_body.specs.Reading.{read_in}
use Rattle.asm_body.specs.Seen.{all_seen}
use Rattle.asm_body.proofs.Opening.{more_is}
use Rattle.asm_body.proofs.terms.Terms.more_cases.Goals as goal

pub cases-init : goal.cases-init
unfolding case_term more_case_terms
cases-init g c = rw (c.in_ok-push.ensures.ok, c.new-cases.ensures) (ap (with_front models (c.args.first ∷ [])) (sym (more_is c.args.levels c.args.self.now.script (case_term c.args.self.now.script) c.args.tokens.now)))

pub cases-preserved : goal.cases-preserved
cases-preserved g c =
    rw (c.in_ok-push-2.ensures.ok)
    (turn_gives models (read_in c.args.levels c.args.self.now.script (case_term c.args.self.now.script)) (kind_of Case ∷ []) (with_front models (c.args.first ∷ []) (read_in c.args.levels c.args.self.now.script (more_case_terms c.args.self.now.script) (all_seen c.args.tokens.now))) (length c.args.tokens.now - c.cases._turn) (length c.args.tokens.now - (c.cases._turn + 1))
    c.cases.cases (all_seen c.cases.rest.now) c.cases.invariant (omega arith) (sym c.begins.ensures ∙ c.if-not-begins.false) c.in_ok-case.case (all_seen c.in_ok-case.after.now) c.in_ok-case.ensures)
