use Rattle.std.proofs.Common.{◌≡◌, ◌-◌, [], ◌∷◌, false}
use Rattle.asm_grammar.specs.Grammar.{many_at}
use Rattle.asm_grammar.proofs.Loops.{with_front}
use Rattle.asm_tree.specs.Words.{kind_of}
use Rattle.asm_tree.specs.declared.class.Class.TheVariants.{Comma}
use Rattle.asm_tree.specs.Language.{models, after}
use Rattle.asm_tree.specs.Terms.{binder, more_binders}
use Rattle.asm_body.specs.Reading.{read_flat}
use Rattle.asm_body.specs.Seen.{all_seen}
use Rattle.asm_body.proofs.binding.more_binders.Given as goal

abbrev pub invariant-binders : goal.invariant-binders
invariant-binders l = with_front models l.binders (many_at models (read_flat (after Comma (binder false))) (kind_of Comma ∷ []) (l._turn-end - l._turn) (all_seen l.rest)) ≡ with_front models (l.fn.first ∷ []) (read_flat (more_binders false) (all_seen l.tokens))
