use Rattle.std.proofs.Common.{◌≡◌, ◌-◌, [], ◌∷◌, true}
use Rattle.asm_grammar.proofs.Loops.{with_front}
use Rattle.asm_grammar.specs.Grammar.{many_at}
use Rattle.asm_tree.specs.Words.{kind_of}
use Rattle.asm_tree.specs.declared.class.Class.TheVariants as class_is
use Rattle.asm_tree.specs.Language.{models, after}
use Rattle.asm_tree.specs.Rules as rules
use Rattle.asm_body.specs.Reading.{read_flat}
use Rattle.asm_body.specs.Seen.{all_seen}
use Rattle.avalla_parse.proofs.constant.more_constants.Given as goal

abbrev pub invariant-items : goal.invariant-items
invariant-items l = with_front models l.items (many_at models (read_flat (after class_is.Comma (rules.constant true))) (kind_of class_is.Comma ∷ []) (l._turn-end - l._turn) (all_seen l.rest)) ≡ with_front models (l.fn.first ∷ []) (read_flat (rules.more_constants true) (all_seen l.tokens))
