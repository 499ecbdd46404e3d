use Rattle.std.proofs.Common.{◌≡◌, ◌-◌, [], ◌∷◌, false}
use Rattle.asm_grammar.proofs.Loops.{with_front}
use Rattle.asm_grammar.specs.Grammar.{many_at}
use Rattle.asm_tree.specs.Words.{kind_of}
use Rattle.asm_tree.specs.declared.class.Class.TheVariants as class_is
use Rattle.asm_tree.specs.Language.{models}
use Rattle.asm_tree.specs.Units as units
use Rattle.asm_body.specs.Reading.{read_in}
use Rattle.asm_body.specs.Seen.{all_seen}
use Rattle.unit_reader.proofs.file.function_bodies.Given as goal

abbrev pub invariant-items : goal.invariant-items
invariant-items l = with_front models l.items (many_at models (read_in l.levels false units.function_body) (kind_of class_is.Function ∷ []) (l._turn-end - l._turn) (all_seen l.rest)) ≡ read_in l.levels false units.function_bodies (all_seen l.tokens)
