-- A function value that reads rules with fewer levels than a number.
use Rattle.std.specs.Prelude.{ℕ, ◌<◌, Bool, List, Result}
use Rattle.std.specs.Borrow.{Bor}
use Rattle.std.specs.declared.alloc.Global.{Global}
use Rattle.asm_grammar.specs.declared.Stop.{Stop}
use Rattle.asm_grammar.specs.Grammar.{Gives}
use Rattle.asm_tree.specs.declared.rule.RawRule.{RawRule}
use Rattle.asm_tree.specs.Language.{models}
use Rattle.asm_tree.specs.Rules.{rule}
use Rattle.asm_body.specs.declared.lexeme.Lexeme.{Lexeme}
use Rattle.asm_body.specs.Seen.{all_seen}
use Rattle.asm_body.specs.Reading.{read_in}

pub record NestsRules (below : ℕ) (script : Bool) (pre : Global → Bor (List Lexeme) → ℕ → Bool → Type 0)
    (post : Global → Bor (List Lexeme) → ℕ → Bool → Result (RawRule × Bor (List Lexeme)) Stop → Type 0) : Type 0 where
  pub callable : (alloc : Global) (tokens : Bor (List Lexeme)) (levels : ℕ) → levels < below → pre alloc tokens levels script
  pub reads : (alloc : Global) (tokens : Bor (List Lexeme)) (levels : ℕ) (r : Result (RawRule × Bor (List Lexeme)) Stop) → levels < below → post alloc tokens levels script r
      → Gives models (λ x. (x.0, all_seen x.1.now)) r (read_in levels script (rule script) (all_seen tokens.now))
