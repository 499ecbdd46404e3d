use Rattle.std.proofs.Common.{[], refl}
use Rattle.asm_build.proofs.Growing.{same_maker}
use Rattle.asm_build.proofs.Adding.{macro_added, rule_copied}
use Rattle.asm_build.proofs.whole.add_main.Goals as goal

pub returns-clause-made : goal.returns-clause-made
returns-clause-made c = c.in_ok-body.ensures.made

pub returns-clause-added : goal.returns-clause-added
returns-clause-added c units n known place =
    macro_added c.args.known.now units (record { unit = n; name = c.args.raw.now.name; parameters = []; body = c.args.raw.now.rule }) c.args.file [] c.new-parameters.result c.in_ok-copy.copy
    known place refl (same_maker c.args.maker.now) c.in_ok-body.ensures.grown (record { are = λ number agrees. c.new-parameters.ensures })
    (rule_copied c.in_ok-body.body.value c.in_ok-copy.copy.value c.in_ok-copy.ensures.cases c.in_ok-body.ensures.made) c.in_ok-push_macro.ensures
