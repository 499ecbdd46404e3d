use Rattle.std.proofs.Common.{◌≡◌, ◌-◌, [], ◌∷◌}
use Rattle.asm_grammar.specs.Grammar.{many_at, firsts}
use Rattle.asm_grammar.proofs.Loops.{with_front}
use Rattle.asm_tree.specs.Language.{models}
use Rattle.asm_tree.specs.Rules.{rule, more_rules}
use Rattle.asm_body.specs.Reading.{read_in}
use Rattle.asm_body.specs.Seen.{all_seen}
use Rattle.asm_body.proofs.rules.Rules.more_rules.Given as goal

abbrev pub invariant-rules : goal.invariant-rules
invariant-rules g l = with_front models l.rules (many_at models (read_in l.levels l.self.script (rule l.self.script)) (firsts models (rule l.self.script)) (l._turn-end - l._turn) (all_seen l.rest)) ≡ with_front models (l.fn.first ∷ []) (read_in l.levels l.self.script (more_rules l.self.script) (all_seen l.tokens))
