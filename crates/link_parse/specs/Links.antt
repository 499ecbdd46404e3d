-- The grammar of link files. The words of scenarios name functions there, as in models.
use Rattle.std.specs.Prelude.{ℕ, false, List, Result}
use Rattle.asm_grammar.specs.Grammar.{Grammar, both, many, shown}
use Rattle.asm_lex.specs.declared.token.Token.{Token}
use Rattle.asm_tree.specs.declared.class.Class.TheVariants as class
use Rattle.asm_tree.specs.declared.error.ParseError.{ParseError}
use Rattle.asm_tree.specs.declared.term.RawName.{RawName}
use Rattle.asm_tree.specs.Language.{models, after, before, name, functions}
use Rattle.whole_file.specs.Parsed.{parsed}
use Rattle.link_parse.specs.declared.tree.RawLink.{RawLink}
use Rattle.link_parse.specs.declared.tree.RawLinks.{RawLinks}

abbrev pub link_of : RawName × RawName → RawLink
link_of p = record { abstract_function = p.0; concrete_function = p.1 }

-- link = Fun "=" Fun ";"
unfoldable pub link : Grammar models RawLink
link = shown link_of (both (name (functions false)) (after class.Equal (before (name (functions false)) class.Semicolon)))

abbrev pub links_of : List RawLink → RawLinks
links_of links = record { links = links }

-- links = { link }
unfoldable pub links : Grammar models RawLinks
links = shown links_of (many link)

-- what the tokens of a link file spell, or the first token with which no link file goes on
abbrev pub parsed_links : List ℕ → List Token → Result RawLinks ParseError
parsed_links text tokens = parsed links text tokens
