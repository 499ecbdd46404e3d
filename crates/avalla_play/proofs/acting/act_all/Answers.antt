use Rattle.std.proofs.Common.{◌≡◌, ◌∙◌, ◌+◌, List, ◌∷◌, Some, None, drop, ap, sym, subst, arith, refl}
use Rattle.std.proofs.lemmas.Result.{err_from_is_err_and}
use Rattle.asm_io.proofs.Printing.{front_none}
use Rattle.asm_node.specs.Model.{machine_of}
use Rattle.asm_node.specs.Words.{left}
use Rattle.asm_run.proofs.Runs.{stopped, went_on, written_all}
use Rattle.avalla_command.specs.declared.command.Command.{Command}
use Rattle.avalla_play.specs.declared.stage.Stage.{Stage}
use Rattle.avalla_command.specs.Acts.{Act, IsAct, act_of, acts_of}
use Rattle.avalla_play.specs.Moves.{Move, Point, acted, all_acted, onward}
use Rattle.avalla_play.specs.Standing.{Lands, point_of}
use Rattle.avalla_play.proofs.Commands.{act-at, acts-cut, acts-none}
use Rattle.avalla_play.proofs.Landing.{then-is}
use Rattle.avalla_play.proofs.acting.act_all.Goals as goal

pub commands-init : goal.commands-init
commands-init g c = record {
  ready = c.requires.ready;
  printed = front_none g.K.Sink.written g.K.Sink.faults c.args.sink.now _;
  same_end = refl;
  same_words = refl;
  few = omega (arith, c.requires.none);
}

pub act-requires-clause-act : goal.act-requires-clause-act
act-requires-clause-act g c =
    let m = machine_of c.args.context.now.model.now in
    subst (λ (x : Command). IsAct m (act_of x)) (sym c.deref.ensures) (act-at m c.args.commands.now c.commands.command-index c.command-item.result c.commands-test.true c.command-item.is c.requires.acts)

pub returns-in_err-end-clause-writes : goal.returns-in_err-end-clause-writes
returns-in_err-end-clause-writes g c =
    let m = machine_of c.args.context.now.model.now in
    let sources = c.args.context.now.sources.now in
    let budget = c.args.context.now.budget in
    let q : Point = point_of c.commands.stage (left c.commands.words) in
    let others : List Act = drop (c.commands.command-index + 1) (acts_of c.args.commands.now) in
    let a : Act = act_of c.deref.result.now in
    let acts : drop c.commands.command-index (acts_of c.args.commands.now) ≡ a ∷ others =
    acts-cut c.args.commands.now c.commands.command-index c.command-item.result c.commands-test.true c.command-item.is ∙ ap (λ (x : Command). act_of x ∷ others) (sym c.deref.ensures) in
    let p = err_from_is_err_and c.from_residual.result c.from_residual.ensures.1 in
    let cut = ap (λ xs. (all_acted m sources budget xs q).text) acts in
    rw (p.1, p.2) (stopped g.K.Sink.written g.K.Sink.faults _ _ _ _ _ _ (onward (acted m sources budget a q).to (all_acted m sources budget others)).text _ cut c.commands.invariant.printed c.in_err-end.ensures.writes)

pub returns-in-Some-clause-writes : goal.returns-in-Some-clause-writes
returns-in-Some-clause-writes g c =
    let m = machine_of c.args.context.now.model.now in
    let sources = c.args.context.now.sources.now in
    let budget = c.args.context.now.budget in
    let q : Point = point_of c.commands.stage (left c.commands.words) in
    let new : Stage = c.act.new.stage in
    let rest = left c.act.new.words in
    let others : List Act = drop (c.commands.command-index + 1) (acts_of c.args.commands.now) in
    let a : Act = act_of c.deref.result.now in
    let acts : drop c.commands.command-index (acts_of c.args.commands.now) ≡ a ∷ others =
    acts-cut c.args.commands.now c.commands.command-index c.command-item.result c.commands-test.true c.command-item.is ∙ ap (λ (x : Command). act_of x ∷ others) (sym c.deref.ensures) in
    let more : Point → Move = all_acted m sources budget others in
    let lands = subst (λ o. Lands o m new rest (acted m sources budget a q).to) c.in-Some.is c.in_ok-end.ensures.lands in
    let cut = ap (λ xs. (all_acted m sources budget xs q).text) acts ∙ ap (λ (z : Move). z.text) (then-is m new rest (Some c.in-Some.end) (acted m sources budget a q) more lands) in
    written_all g.K.Sink.written g.K.Sink.faults _ _ _ _ _ refl (went_on g.K.Sink.written g.K.Sink.faults _ _ _ _ _ _ _ _ cut c.commands.invariant.printed c.in_ok-end.ensures.writes)

pub returns-in-Some-clause-lands : goal.returns-in-Some-clause-lands
returns-in-Some-clause-lands g c =
    let m = machine_of c.args.context.now.model.now in
    let sources = c.args.context.now.sources.now in
    let budget = c.args.context.now.budget in
    let q : Point = point_of c.commands.stage (left c.commands.words) in
    let new : Stage = c.act.new.stage in
    let rest = left c.act.new.words in
    let others : List Act = drop (c.commands.command-index + 1) (acts_of c.args.commands.now) in
    let a : Act = act_of c.deref.result.now in
    let acts : drop c.commands.command-index (acts_of c.args.commands.now) ≡ a ∷ others =
    acts-cut c.args.commands.now c.commands.command-index c.command-item.result c.commands-test.true c.command-item.is ∙ ap (λ (x : Command). act_of x ∷ others) (sym c.deref.ensures) in
    let more : Point → Move = all_acted m sources budget others in
    let lands = subst (λ o. Lands o m new rest (acted m sources budget a q).to) c.in-Some.is c.in_ok-end.ensures.lands in
    sym c.commands.invariant.same_end ∙ ap (λ xs. (all_acted m sources budget xs q).to) acts ∙ ap (λ (z : Move). z.to) (then-is m new rest (Some c.in-Some.end) (acted m sources budget a q) more lands)

pub commands-preserved : goal.commands-preserved
commands-preserved g c =
    let m = machine_of c.args.context.now.model.now in
    let sources = c.args.context.now.sources.now in
    let budget = c.args.context.now.budget in
    let q : Point = point_of c.commands.stage (left c.commands.words) in
    let new : Stage = c.act.new.stage in
    let rest = left c.act.new.words in
    let others : List Act = drop (c.commands.command-index + 1) (acts_of c.args.commands.now) in
    let a : Act = act_of c.deref.result.now in
    let acts : drop c.commands.command-index (acts_of c.args.commands.now) ≡ a ∷ others =
    acts-cut c.args.commands.now c.commands.command-index c.command-item.result c.commands-test.true c.command-item.is ∙ ap (λ (x : Command). act_of x ∷ others) (sym c.deref.ensures) in
    let more : Point → Move = all_acted m sources budget others in
    let lands = subst (λ o. Lands o m new rest (acted m sources budget a q).to) c.in_default.is c.in_ok-end.ensures.lands in
    let next = then-is m new rest None (acted m sources budget a q) more lands in
    let cut = ap (λ xs. (all_acted m sources budget xs q).text) acts ∙ ap (λ (z : Move). z.text) next in
    record {
      ready = lands.ready;
      printed = went_on g.K.Sink.written g.K.Sink.faults _ _ _ _ _ _ _ _ cut c.commands.invariant.printed c.in_ok-end.ensures.writes;
      same_end = sym (ap (λ xs. (all_acted m sources budget xs q).to) acts ∙ ap (λ (z : Move). z.to) next) ∙ c.commands.invariant.same_end;
      same_words = c.in_ok-end.ensures.same_words ∙ c.commands.invariant.same_words;
      few = omega (arith, c.in_ok-end.ensures.checks, c.commands.invariant.few);
    }

pub returns-clause-writes : goal.returns-clause-writes
returns-clause-writes g c =
    let m = machine_of c.args.context.now.model.now in
    let q : Point = point_of c.commands.stage (left c.commands.words) in
    let none = ap (λ xs. (all_acted m c.args.context.now.sources.now c.args.context.now.budget xs q).text) (acts-none c.args.commands.now c.commands.command-index c.commands-test.false) in
    written_all g.K.Sink.written g.K.Sink.faults _ _ _ _ _ none c.commands.invariant.printed

pub returns-clause-lands : goal.returns-clause-lands
returns-clause-lands g c =
    let m = machine_of c.args.context.now.model.now in
    let q : Point = point_of c.commands.stage (left c.commands.words) in
    let none = ap (λ xs. (all_acted m c.args.context.now.sources.now c.args.context.now.budget xs q).to) (acts-none c.args.commands.now c.commands.command-index c.commands-test.false) in
    record { leads = sym c.commands.invariant.same_end ∙ none; ready = c.commands.invariant.ready }
