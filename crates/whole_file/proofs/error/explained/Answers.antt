use Rattle.std.proofs.Common.{ap, sym, ◌∙◌, length, ◌-◌, List}
use Rattle.asm_body.specs.Fronts.{error_of, left_out}
use Rattle.asm_body.specs.Seen.{all_seen}
use Rattle.asm_body.proofs.Parsing.{stop_plain, to_end}
use Rattle.asm_body.specs.declared.lexeme.Lexeme.{Lexeme}
use Rattle.whole_file.proofs.error.explained.Goals as goal

pub returns-else-begins : goal.returns-else-begins
returns-else-begins c = sym (ap (error_of (all_seen c.args.tokens.now) (length c.args.tokens.now)) c.in-Syntax.is ∙ stop_plain c.args.tokens.now c.in-Syntax.left (length c.args.tokens.now - c.in-Syntax.left) (sym (ap (λ (l : List Lexeme). left_out (all_seen l)) (to_end (length c.args.tokens.now - c.in-Syntax.left) c.args.tokens.now)) ∙ sym c.begins.ensures ∙ c.if-begins.false))
