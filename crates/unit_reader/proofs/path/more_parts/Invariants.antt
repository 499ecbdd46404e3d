use Rattle.std.proofs.Common.{◌≡◌, ◌-◌, [], ◌∷◌}
use Rattle.asm_grammar.specs.Grammar.{many_at, shown}
use Rattle.asm_grammar.proofs.Loops.{with_front}
use Rattle.asm_tree.specs.Words.{kind_of}
use Rattle.asm_tree.specs.declared.class.Class.TheVariants.{Slash}
use Rattle.asm_tree.specs.Language.{models, after}
use Rattle.asm_tree.specs.Units.{part, more_parts}
use Rattle.asm_body.specs.Reading.{read_flat}
use Rattle.asm_body.specs.Seen.{all_seen}
use Rattle.unit_reader.proofs.path.more_parts.Given as goal

abbrev pub invariant-parts : goal.invariant-parts
invariant-parts l = with_front models l.parts (many_at models (read_flat (after Slash (shown (λ p. p.1) part))) (kind_of Slash ∷ []) (l._turn-end - l._turn) (all_seen l.rest)) ≡ with_front models (l.fn.first ∷ []) (read_flat more_parts (all_seen l.tokens))
