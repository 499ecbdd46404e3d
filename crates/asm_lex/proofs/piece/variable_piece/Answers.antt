use Rattle.std.proofs.Common.{◌∙◌, sym, ap}
use Rattle.asm_lex.specs.Cut.{in_word, run_of}
use Rattle.asm_lex.proofs.Words.{slice_to_end}
use Rattle.asm_lex.proofs.Pieces.{front_variable_of}
use Rattle.asm_lex.proofs.piece.variable_piece.Goals as goal

pub returns-then-is_letter-clause-taken : goal.returns-then-is_letter-clause-taken
returns-then-is_letter-clause-taken c =
    let r = c.args.rest.now in
    front_variable_of c.args.at c.run_length.result r _ c.in-len1-up.len_at_least (sym c.is_letter.ensures ∙ c.if-is_letter.true) (c.run_length.ensures.counted ∙ ap (run_of in_word) (slice_to_end 1 r))
