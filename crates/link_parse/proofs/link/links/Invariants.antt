use Rattle.std.proofs.Common.{◌≡◌, ◌-◌}
use Rattle.asm_grammar.proofs.Loops.{with_front}
use Rattle.asm_grammar.specs.Grammar.{many, many_at, firsts}
use Rattle.asm_tree.specs.Language.{models}
use Rattle.asm_body.specs.Reading.{read_flat}
use Rattle.asm_body.specs.Seen.{all_seen}
use Rattle.link_parse.specs.Links as language
use Rattle.link_parse.proofs.link.links.Given as goal

abbrev pub invariant-items : goal.invariant-items
invariant-items l = with_front models l.items (many_at models (read_flat language.link) (firsts models language.link) (l._turn-end - l._turn) (all_seen l.rest)) ≡ read_flat (many language.link) (all_seen l.tokens)
