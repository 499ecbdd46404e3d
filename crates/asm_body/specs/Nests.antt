-- A function value that reads operands with fewer levels than a number.
use Rattle.std.specs.Prelude.{ℕ, ◌<◌, Bool, List, Result}
use Rattle.std.specs.Borrow.{Bor}
use Rattle.std.specs.declared.alloc.Global.{Global}
use Rattle.asm_grammar.specs.declared.Stop.{Stop}
use Rattle.asm_grammar.specs.Grammar.{Gives}
use Rattle.asm_tree.specs.Language.{models}
use Rattle.asm_body.specs.declared.lexeme.Lexeme.{Lexeme}
use Rattle.asm_body.specs.declared.level.Level.{Level}
use Rattle.asm_body.specs.declared.phrase.Phrase.{Phrase}
use Rattle.asm_body.specs.Seen.{all_seen}
use Rattle.asm_body.specs.Phrases.{seen_phrase}
use Rattle.asm_body.specs.Levels.{operand}
use Rattle.asm_body.specs.Reading.{read_in}

pub record Nests (below : ℕ) (script : Bool) (pre : Global → Level → Bor (List Lexeme) → ℕ → Bool → Type 0)
    (post : Global → Level → Bor (List Lexeme) → ℕ → Bool → Result (Phrase × Bor (List Lexeme)) Stop → Type 0) : Type 0 where
  pub callable : (alloc : Global) (level : Level) (tokens : Bor (List Lexeme)) (levels : ℕ) → levels < below → pre alloc level tokens levels script
  pub reads : (alloc : Global) (level : Level) (tokens : Bor (List Lexeme)) (levels : ℕ) (r : Result (Phrase × Bor (List Lexeme)) Stop) → levels < below → post alloc level tokens levels script r
      → Gives models (λ x. (seen_phrase x.0, all_seen x.1.now)) r (read_in levels script (operand script level) (all_seen tokens.now))
