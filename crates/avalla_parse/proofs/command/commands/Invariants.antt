use Rattle.std.proofs.Common.{◌≡◌, ◌-◌, true}
use Rattle.asm_grammar.proofs.Loops.{with_front}
use Rattle.asm_grammar.specs.Grammar.{many_at, firsts}
use Rattle.asm_tree.specs.Language.{models}
use Rattle.asm_tree.specs.Scripts as scripts
use Rattle.asm_body.specs.Reading.{read_in}
use Rattle.asm_body.specs.Seen.{all_seen}
use Rattle.avalla_parse.proofs.command.commands.Given as goal

abbrev pub invariant-items : goal.invariant-items
invariant-items l = with_front models l.items (many_at models (read_in l.levels true scripts.command) (firsts models scripts.command) (l._turn-end - l._turn) (all_seen l.rest)) ≡ read_in l.levels true scripts.commands (all_seen l.tokens)
