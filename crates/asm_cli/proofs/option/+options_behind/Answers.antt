use Rattle.std.proofs.Common.{rules, subst, ◌≡◌, IfOk, option_map, ◌∷◌, Option, Some}
use Rattle.asm_cli.specs.Words.{Options, options_seen, with_option}
use Rattle.asm_cli.proofs.Numbered.{option_met}
use Rattle.asm_cli.proofs.option.+options_behind.Goals as goal

pub returns-in-Some-2 : goal.returns-in-Some-2
returns-in-Some-2 t c =
    let words_are : c.args.words.now ≡ c.in-Some.name.now ∷ c.in-Some.after.now = search rules in
    let after_is : c.in-Some.after.now ≡ c.in-Some-split_first.value.now ∷ c.in-Some-split_first.rest.now = search rules in
    let met : with_option (options_seen c.args.options) c.in-Some.name.now c.in-Some-split_first.value.now ≡ Some (options_seen c.in-Some-2.more) = search rules in
    subst (λ (o : Option Options). IfOk c.options_behind.result (λ r. option_map options_seen r ≡ o))
    (option_met (options_seen c.args.options) (options_seen c.in-Some-2.more) c.args.words.now c.in-Some.after.now c.in-Some-split_first.rest.now c.in-Some.name.now c.in-Some-split_first.value.now words_are after_is met) c.options_behind.ensures
