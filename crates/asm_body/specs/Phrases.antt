-- Phrases as the grammar sees them.
use Rattle.asm_tree.specs.Language as language
use Rattle.asm_body.specs.declared.phrase.Phrase.{Phrase}
use Rattle.asm_body.specs.declared.phrase.Grouping.{Grouping}
use Rattle.asm_body.specs.declared.phrase.Grouping.TheVariants as grouping
use Rattle.asm_body.specs.Seen.{seen}

abbrev pub seen_phrase : Phrase → language.Phrase
seen_phrase p = record { begins = seen p.begins.now; term = p.term }

abbrev pub seen_grouping : Grouping → language.Grouping
seen_grouping (grouping.Quantified k) = language.Quantified k
seen_grouping (grouping.Plain t) = language.Plain t
