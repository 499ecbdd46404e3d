-- What the tokens of an input file or of a scenario are.
use Rattle.std.specs.Prelude.{ℕ, List, Result}
use Rattle.asm_lex.specs.declared.token.Token.{Token}
use Rattle.asm_tree.specs.declared.error.ParseError.{ParseError}
use Rattle.asm_tree.specs.declared.script.RawInputs.{RawInputs}
use Rattle.asm_tree.specs.declared.script.RawScenario.{RawScenario}
use Rattle.asm_tree.specs.Scripts as language
use Rattle.whole_file.specs.Parsed.{parsed}

-- what the tokens of the text spell as settings, or the first token with which no input file goes on or that nests too deep
abbrev pub parsed_inputs : List ℕ → List Token → Result RawInputs ParseError
parsed_inputs text tokens = parsed language.inputs text tokens

-- the same for scenarios
abbrev pub parsed_scenario : List ℕ → List Token → Result RawScenario ParseError
parsed_scenario text tokens = parsed language.scenario text tokens
