-- Tokens and phrases as the grammar sees them.
use Rattle.std.specs.Prelude.{List, map}
use Rattle.asm_tree.specs.Language.{TokenText}
use Rattle.asm_body.specs.declared.lexeme.Lexeme.{Lexeme}

abbrev pub seen : Lexeme → TokenText
seen x = record { at = x.at; text = x.text }

abbrev pub all_seen : List Lexeme → List TokenText
all_seen xs = map seen xs
