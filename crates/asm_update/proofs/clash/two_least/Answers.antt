use Rattle.std.proofs.Common.{◌∙◌, sym, ap}
use Rattle.std.specs.FinSet as set
use Rattle.std.specs.List.{filter}
use Rattle.std.specs.Option.{option_to_list}
use Rattle.asm_domain.specs.declared.value.Value.{Value}
use Rattle.asm_domain.specs.Universe.{elements}
use Rattle.asm_sign.specs.Vocabulary.{function_at}
use Rattle.asm_node.proofs.UpdateSets.{of_list}
use Rattle.asm_update.specs.Clash.{first_pair}
use Rattle.asm_update.proofs.Clashes.{ranked-codomain, found_second, found_first, found_none}
use Rattle.asm_update.proofs.Differing.{alone_quiet, differing}
use Rattle.asm_update.proofs.clash.two_least.Goals as goal
use Rattle.asm_update.proofs.clash.two_least.Goals.{then-has+in-None, else-has}

pub returns-then-not-has_two-clause-values : goal.returns-then-not-has_two-clause-values
returns-then-not-has_two-clause-values c =
    let ranked = ranked-codomain c.args.signature.now (function_at c.args.signature.now c.args.slot) c.codomain-codomain.result.now c.codomain-codomain.ensures in
    sym (alone_quiet c.args.signature.now c.args.pairs.now c.args.slot (c.has_two.ensures c.if-not-has_two.true) c.codomain-codomain.result.now ranked c.size-size.ensures.distinct)

pub returns-in-Some-clause-values : goal.returns-in-Some-clause-values
returns-in-Some-clause-values c =
    let test = λ (v : Value). set.contains (of_list c.args.pairs.now) (c.args.slot, v) in
    let vs = elements c.codomain-codomain.result.now in
    let ranked = ranked-codomain c.args.signature.now (function_at c.args.signature.now c.args.slot) c.codomain-codomain.result.now c.codomain-codomain.ensures in
    sym (ap (λ ws. first_pair (filter test ws)) ranked
    ∙ found_second test vs c.loop-rank.rank c.loop-rank.first c.loop-rank.invariant c.element-value.result c.element-value.ensures c.has-in-loop-rank.result c.has-in-loop-rank.ensures c.in-Some.least c.in-Some.is c.if-has.true)

pub returns-in-Some-clause-consistent : goal.returns-in-Some-clause-consistent
returns-in-Some-clause-consistent c agrees =
    let ranked = ranked-codomain c.args.signature.now (function_at c.args.signature.now c.args.slot) c.codomain-codomain.result.now c.codomain-codomain.ensures in
    absurd (differing c.args.signature.now c.args.pairs.now c.args.slot c.in-Some.least c.element-value.result (sym (returns-in-Some-clause-values c)) c.codomain-codomain.result.now ranked c.size-size.ensures.distinct agrees)

pub loop-rank-preserved : goal.loop-rank-preserved
loop-rank-preserved c =
    let test = λ (v : Value). set.contains (of_list c.args.pairs.now) (c.args.slot, v) in
    let vs = elements c.codomain-codomain.result.now in
    elim c.if-has.branch [
      | then-has+in-None w ↦ ap option_to_list w.first-is
          ∙ found_first test vs c.loop-rank.rank c.loop-rank.first c.loop-rank.invariant c.element-value.result c.element-value.ensures c.has-in-loop-rank.result c.has-in-loop-rank.ensures w.in-None.is w.if-has.true
      | else-has w ↦ ap option_to_list w.first-is
          ∙ found_none test vs c.loop-rank.rank c.loop-rank.first c.loop-rank.invariant c.element-value.result c.element-value.ensures c.has-in-loop-rank.result c.has-in-loop-rank.ensures w.if-has.false
    ]
