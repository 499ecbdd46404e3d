use Rattle.std.proofs.Common.{◌≡◌, ◌-◌, [], ◌∷◌}
use Rattle.asm_grammar.proofs.Loops.{with_front}
use Rattle.asm_grammar.specs.Grammar.{many_at, both, shown, word}
use Rattle.asm_tree.specs.Words.{kind_of}
use Rattle.asm_tree.specs.declared.class.Class.TheVariants as class_is
use Rattle.asm_tree.specs.Language.{models, after, name}
use Rattle.asm_tree.specs.Language as language
use Rattle.asm_tree.specs.Units as units
use Rattle.asm_body.specs.Reading.{read_flat}
use Rattle.asm_body.specs.Seen.{all_seen}
use Rattle.unit_reader.proofs.declaration.more_elements.Given as goal

abbrev pub invariant-items : goal.invariant-items
invariant-items l = with_front models l.items (many_at models (read_flat (shown (λ p. p.1) (both (word (kind_of class_is.Bar ∷ kind_of class_is.Comma ∷ [])) (name language.elements)))) (kind_of class_is.Bar ∷ kind_of class_is.Comma ∷ []) (l._turn-end - l._turn) (all_seen l.rest)) ≡ with_front models (l.fn.first ∷ []) (read_flat units.more_elements (all_seen l.tokens))
