use Rattle.std.proofs.Common.{◌≡◌, ◌++◌, ℕ, Option, sym, ap, subst, append-nil, ◌∙◌}
use Rattle.std.proofs.lemmas.Result.{err_from_is_err_and}
use Rattle.asm_node.specs.Model.{machine_of}
use Rattle.asm_node.specs.Machine.{Input}
use Rattle.asm_node.specs.Step.{IsInput, broken}
use Rattle.asm_node.specs.Words.{left}
use Rattle.asm_run.specs.Printed.{numbered_state}
use Rattle.asm_run.proofs.Runs.{one-written}
use Rattle.asm_run.proofs.Truths.{no_input-is}
use Rattle.avalla_play.specs.declared.playing.Played.{Played}
use Rattle.avalla_command.specs.Acts.{acts_of}
use Rattle.avalla_play.specs.Moves.{Move, Point, all_acted}
use Rattle.avalla_play.specs.Printed.{finished, first_point}
use Rattle.avalla_play.specs.Standing.{told}
use Rattle.avalla_play.proofs.Beginning.{end-stopped, none-broken, rest-stopped, start-cut, start-ends, start-leaves, start_end, start_rest, start_words, words-stopped}
use Rattle.avalla_play.proofs.Writing.{first-stopped, from_ok, then-last}
use Rattle.avalla_play.proofs.playing.play_from.Goals as goal

pub returns-in_err-end-clause-writes : goal.returns-in_err-end-clause-writes
returns-in_err-end-clause-writes g c =
    let m = machine_of c.args.context.now.model.now in
    let sources = c.args.context.now.sources.now in
    let b : Option ℕ = broken m c.args.session.state in
    let q : Point = first_point c.args.session.state (left c.args.words.now) in
    let more : Point → Move = all_acted m sources c.args.context.now.budget (acts_of c.args.commands.now) in
    let first = numbered_state m 0 c.args.session.state in
    let p = err_from_is_err_and c.from_residual.result c.from_residual.ensures.1 in
    rw (p.1, p.2) (first-stopped g.K.Sink.written g.K.Sink.faults c.args.sink.now c.tell_state.new.sink (first ++ told m sources b) (start_rest m sources q more b) _ _ (start-cut m sources q more first b) c.in_err-end.ensures.writes)

pub returns-in-Some-clause-writes : goal.returns-in-Some-clause-writes
returns-in-Some-clause-writes g c =
    let m = machine_of c.args.context.now.model.now in
    let sources = c.args.context.now.sources.now in
    let b : Option ℕ = broken m c.args.session.state in
    let q : Point = first_point c.args.session.state (left c.args.words.now) in
    let more : Point → Move = all_acted m sources c.args.context.now.budget (acts_of c.args.commands.now) in
    let first = numbered_state m 0 c.args.session.state in
    let ends = sym c.in_ok-end.ensures.end ∙ c.in-Some.is in
    let text = start-cut m sources q more first b ∙ ap (λ z. (first ++ told m sources b) ++ z) (rest-stopped m sources q more b c.in-Some.end ends) ∙ append-nil (first ++ told m sources b) in
    one-written g.K.Sink.written g.K.Sink.faults c.args.sink.now c.tell_state.new.sink (first ++ told m sources b) _ _ _ text c.in_ok-end.ensures.writes

pub returns-in-Some-clause-end : goal.returns-in-Some-clause-end
returns-in-Some-clause-end g c =
    let m = machine_of c.args.context.now.model.now in
    let sources = c.args.context.now.sources.now in
    let b : Option ℕ = broken m c.args.session.state in
    let q : Point = first_point c.args.session.state (left c.args.words.now) in
    let more : Point → Move = all_acted m sources c.args.context.now.budget (acts_of c.args.commands.now) in
    let first = numbered_state m 0 c.args.session.state in
    let ends = sym c.in_ok-end.ensures.end ∙ c.in-Some.is in
    end-stopped m sources q more b c.in-Some.end ends ∙ sym (start-ends m sources q more first b)

pub play_on-requires-clause-ready : goal.play_on-requires-clause-ready
play_on-requires-clause-ready g c =
    let m = machine_of c.args.context.now.model.now in
    let none = none-broken (broken m c.args.session.state) (sym c.in_ok-end.ensures.end ∙ c.in-None.is) in
    record {
      machine = c.requires.machine;
      going = c.in_ok-end.ensures.stopped ∙ none;
      input = subst (IsInput m) (sym c.new.ensures) (no_input-is m);
    }

pub returns-clause-writes : goal.returns-clause-writes
returns-clause-writes g c =
    let m = machine_of c.args.context.now.model.now in
    let sources = c.args.context.now.sources.now in
    let b : Option ℕ = broken m c.args.session.state in
    let q : Point = first_point c.args.session.state (left c.args.words.now) in
    let more : Point → Move = all_acted m sources c.args.context.now.budget (acts_of c.args.commands.now) in
    let first = numbered_state m 0 c.args.session.state in
    let none = none-broken b (sym c.in_ok-end.ensures.end ∙ c.in-None.is) in
    let at : Input → Move = λ i. more (record { number = 0; state = c.args.session.state; input = i; words = left c.args.words.now; checks = 0 }) in
    let text = start-cut m sources q more first b ∙ ap (λ o. (first ++ told m sources b) ++ start_rest m sources q more o) none ∙ ap (λ i. (first ++ told m sources b) ++ (finished (at i)).text) (sym c.new.ensures) in
    then-last g.K.Sink.written g.K.Sink.faults c.args.sink.now c.tell_state.new.sink c.play_on.new.sink (first ++ told m sources b) (finished (at c.new.result)).text _ _ c.play_on.result text c.in_ok-end.ensures.writes c.play_on.ensures.writes

pub returns-clause-end : goal.returns-clause-end
returns-clause-end g c =
    let m = machine_of c.args.context.now.model.now in
    let sources = c.args.context.now.sources.now in
    let b : Option ℕ = broken m c.args.session.state in
    let q : Point = first_point c.args.session.state (left c.args.words.now) in
    let more : Point → Move = all_acted m sources c.args.context.now.budget (acts_of c.args.commands.now) in
    let first = numbered_state m 0 c.args.session.state in
    let none = none-broken b (sym c.in_ok-end.ensures.end ∙ c.in-None.is) in
    let at : Input → Move = λ i. more (record { number = 0; state = c.args.session.state; input = i; words = left c.args.words.now; checks = 0 }) in
    let same = start-ends m sources q more first b ∙ ap (start_end m sources q more) none ∙ ap (λ i. (finished (at i)).end) (sym c.new.ensures) in
    from_ok c.play_on.result (λ (e : Played). e ≡ (finished (at c.new.result)).end) _ (λ e is. is ∙ sym same) c.play_on.ensures.end

pub returns-in-Some-clause-words : goal.returns-in-Some-clause-words
returns-in-Some-clause-words g c =
    let m = machine_of c.args.context.now.model.now in
    let sources = c.args.context.now.sources.now in
    let b : Option ℕ = broken m c.args.session.state in
    let q : Point = first_point c.args.session.state (left c.args.words.now) in
    let more : Point → Move = all_acted m sources c.args.context.now.budget (acts_of c.args.commands.now) in
    let first = numbered_state m 0 c.args.session.state in
    let ends = sym c.in_ok-end.ensures.end ∙ c.in-Some.is in
    words-stopped m sources q more b c.in-Some.end ends ∙ sym (start-leaves m sources q more first b)

pub returns-clause-words : goal.returns-clause-words
returns-clause-words g c =
    let m = machine_of c.args.context.now.model.now in
    let sources = c.args.context.now.sources.now in
    let b : Option ℕ = broken m c.args.session.state in
    let q : Point = first_point c.args.session.state (left c.args.words.now) in
    let more : Point → Move = all_acted m sources c.args.context.now.budget (acts_of c.args.commands.now) in
    let first = numbered_state m 0 c.args.session.state in
    let none = none-broken b (sym c.in_ok-end.ensures.end ∙ c.in-None.is) in
    let at : Input → Move = λ i. more (record { number = 0; state = c.args.session.state; input = i; words = left c.args.words.now; checks = 0 }) in
    let same = start-leaves m sources q more first b ∙ ap (start_words m sources q more) none ∙ ap (λ i. (finished (at i)).words) (sym c.new.ensures) in
    from_ok c.play_on.result (λ (e : Played). left c.play_on.new.words ≡ (finished (at c.new.result)).words) _ (λ e is. is ∙ sym same) c.play_on.ensures.words
