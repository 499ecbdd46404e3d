use Rattle.std.proofs.Common.{ap, sym, ◌∙◌, length, ◌-◌, List}
use Rattle.asm_body.specs.Fronts.{error_of, left_out}
use Rattle.asm_body.specs.Seen.{all_seen}
use Rattle.asm_body.proofs.Parsing.{stop_plain, to_end}
use Rattle.asm_body.specs.declared.lexeme.Lexeme.{Lexeme}
use Rattle.asm_body.proofs.parse.explained.Goals as goal

-- src/parse.rt:34:1
pub returns-else-begins : goal.returns-else-begins
returns-else-begins c = sym (ap (error_of (all_seen c.args.lexemes.now) c.args.tokens) c.in-Syntax.is ∙ stop_plain c.args.lexemes.now c.in-Syntax.left (c.args.tokens - c.in-Syntax.left) (sym (ap (λ (l : List Lexeme). left_out (all_seen l)) (to_end (length c.args.lexemes.now - c.in-Syntax.left) c.args.lexemes.now)) ∙ sym c.begins.ensures ∙ c.if-begins.false))
