use Rattle.std.proofs.Common.{ℕ, List, subst}
use Rattle.asm_lex.specs.declared.token.Token.{Token}
use Rattle.asm_unit.specs.Loading.{Follows, Judges, tokens_in}
use Rattle.avalla_parse.specs.Parsed.{parsed_inputs}
use Rattle.asm_cli.specs.Answer.{most_input_bytes, settings_of}
use Rattle.asm_cli.specs.Saying.{spelled}
use Rattle.asm_cli.proofs.Settled.{read_follows}
use Rattle.asm_cli.proofs.settings.settings_of.Goals as goal

pub returns-clause-told : goal.returns-clause-told
returns-clause-told g c = λ files told.
    subst (λ (file : ℕ). Follows (settings_of file (tokens_in files most_input_bytes c.args.name.now c.args.sources.now)) c.load_one.new.sources c.spelled.result) c.len-file.ensures
    (read_follows c.load_one.new.sources parsed_inputs (tokens_in files most_input_bytes c.args.name.now c.args.sources.now) c.len-file.result c.text_in.result.now c.in_ok-tokens.tokens c.spelled.result
    (c.in_ok-tokens.ensures.told files told) c.text_in.ensures
    (subst (λ (ts : List Token). Judges c.spelled.result (spelled c.len-file.result c.text_in.result.now ts (parsed_inputs c.text_in.result.now ts))) c.slice.ensures c.spelled.ensures))
