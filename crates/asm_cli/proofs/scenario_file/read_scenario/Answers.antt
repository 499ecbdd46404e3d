use Rattle.std.proofs.Common.{List, subst}
use Rattle.asm_source.specs.declared.sources.Source.{Source}
use Rattle.asm_lex.specs.declared.token.Token.{Token}
use Rattle.asm_unit.specs.Loading.{Follows, Judges, tokens_in}
use Rattle.avalla_parse.specs.Parsed.{parsed_scenario}
use Rattle.asm_cli.specs.Saying.{most_input_bytes, read_as, spelled}
use Rattle.asm_cli.proofs.Settled.{read_follows}
use Rattle.asm_cli.proofs.scenario_file.read_scenario.Goals as goal

pub returns-clause-told : goal.returns-clause-told
returns-clause-told g c = λ files told.
    subst (λ (sources : List Source). Follows (read_as parsed_scenario 0 (tokens_in files most_input_bytes c.args.name.now sources)) c.load_one.new.sources c.spelled.result) c.requires.none
    (read_follows c.load_one.new.sources parsed_scenario (tokens_in files most_input_bytes c.args.name.now c.args.sources.now) 0 c.text_in.result.now c.in_ok-tokens.tokens c.spelled.result
    (c.in_ok-tokens.ensures.told files told) c.text_in.ensures
    (subst (λ (ts : List Token). Judges c.spelled.result (spelled 0 c.text_in.result.now ts (parsed_scenario c.text_in.result.now ts))) c.slice.ensures c.spelled.ensures))
