-- The grammar of link files passes the checks of the theory.
use Rattle.std.proofs.Common.{true, refl}
use Rattle.asm_grammar.proofs.Whole.{CheckedWhole}
use Rattle.asm_tree.specs.Words.{class_of, number}
use Rattle.asm_tree.specs.Language.{models}
use Rattle.asm_tree.specs.Rules.{body}
use Rattle.asm_tree.proofs.Checks.{table, late}
use Rattle.asm_tree.proofs.Wholes.{bodies}
use Rattle.link_parse.specs.Links.{link, links}

pub checked_links : CheckedWhole models (body true) links table late
unfolding number class_of link links
checked_links = record { bodies = bodies true; good = refl; closed = refl; settled = refl; unbarred = refl }
