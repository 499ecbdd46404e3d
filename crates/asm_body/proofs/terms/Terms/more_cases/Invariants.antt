use Rattle.std.proofs.Common.{◌≡◌, ◌-◌, [], ◌∷◌}
use Rattle.asm_grammar.specs.Grammar.{many_at}
use Rattle.asm_grammar.proofs.Loops.{with_front}
use Rattle.asm_tree.specs.Words.{kind_of}
use Rattle.asm_tree.specs.declared.class.Class.TheVariants.{Case}
use Rattle.asm_tree.specs.Language.{models}
use Rattle.asm_tree.specs.Terms.{case_term, more_case_terms}
use Rattle.asm_body.specs.Reading.{read_in}
use Rattle.asm_body.specs.Seen.{all_seen}
use Rattle.asm_body.proofs.terms.Terms.more_cases.Given as goal

abbrev pub invariant-cases : goal.invariant-cases
invariant-cases g l = with_front models l.cases (many_at models (read_in l.levels l.self.script (case_term l.self.script)) (kind_of Case ∷ []) (l._turn-end - l._turn) (all_seen l.rest)) ≡ with_front models (l.fn.first ∷ []) (read_in l.levels l.self.script (more_case_terms l.self.script) (all_seen l.tokens))
