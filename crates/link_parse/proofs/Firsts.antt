-- How links are read.
use Rattle.std.proofs.Common.{◌≡◌, ℕ, true, false, List, Ok, refl}
use Rattle.asm_grammar.specs.Grammar.{firsts, many, and_then}
use Rattle.asm_tree.specs.Language.{TokenText, models, functions}
use Rattle.asm_body.specs.Reading.{read_in, read_flat}
use Rattle.link_parse.specs.Links.{link, links, links_of}

pub begins_link_is : firsts models link ≡ functions false
unfolding link
begins_link_is = refl

-- a link opens no level
pub links_are : (n : ℕ) (w : List TokenText) → read_in n true links w ≡ and_then models (read_flat (many link) w) (λ ls r. Ok (links_of ls, r))
unfolding links link
links_are n w = refl
