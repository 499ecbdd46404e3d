use Rattle.std.proofs.Common.{◌≡◌, None, sym, ap, ◌∙◌}
use Rattle.std.specs.String.{string_eq}
use Rattle.indexmap.proofs.CallerLemmas.{insert_entry-new}
use Rattle.name_table.specs.Numbered.{number_in}
use Rattle.name_table.proofs.Entering.{entered-found, entered-new, none_from}
use Rattle.name_table.proofs.entries.place_of.Goals as goal

pub returns-in-Some-clause-ok : goal.returns-in-Some-clause-ok
returns-in-Some-clause-ok c =
    let found = c.in-Some.ensures in
    entered-found _ _ _ _ (sym found.index) (sym found.found) found.within

pub returns-clause-ok : goal.returns-clause-ok
returns-clause-ok c =
    let none : number_in c.args.entries.now.entries c.args.text.now ≡ None = none_from _ (sym c.in_default.ensures.found) in
    let is = c.in_ok-from_str.ensures.ok in
    entered-new _ _ c.in_ok-from_str.field-0 _ _ _ is c.len-place.ensures.len (c.in_ok-insert.ensures.entries ∙ insert_entry-new string_eq c.args.entries.now c.in_ok-from_str.field-0 c.args.number (ap (number_in c.args.entries.now.entries) is ∙ none)) none
