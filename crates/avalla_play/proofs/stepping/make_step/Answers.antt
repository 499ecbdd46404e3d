use Rattle.std.proofs.Common.{◌≡◌, ℕ, ◌+◌, List, ◌++◌, Option, option_map, unwrap_or, sym, ap, subst, ◌∙◌}
use Rattle.std.specs.Prelude.{MatchOption, Result, Ok, Err, IfOk, ⊤, option_copied}
use Rattle.asm_node.specs.declared.stop.Stop.{Stop}
use Rattle.asm_node.specs.Machine.{State}
use Rattle.asm_node.specs.Model.{machine_of}
use Rattle.asm_node.specs.RuleTree.{Rule, plain_rule}
use Rattle.asm_node.specs.Step.{IsInput, broken, next}
use Rattle.asm_node.specs.WellFormed.{IsRule}
use Rattle.asm_node.specs.Words.{left}
use Rattle.asm_run.specs.Printed.{numbered_state}
use Rattle.asm_run.specs.Reached.{landed}
use Rattle.asm_run.proofs.Runs.{goes-none, goes-some}
use Rattle.avalla_play.specs.declared.playing.Played.TheVariants.{Stopped}
use Rattle.avalla_play.specs.declared.stage.Stage.{Stage}
use Rattle.avalla_play.specs.Moves.{Point, moved, point_after, unless_broken}
use Rattle.avalla_play.specs.Standing.{Lands, point_of, told}
use Rattle.avalla_play.proofs.Inputs.{kept-is_input}
use Rattle.avalla_play.proofs.Landing.{lands-stop, lands-told, next-by, told-is}
use Rattle.avalla_play.proofs.Writing.{same-text}
use Rattle.avalla_play.proofs.stepping.make_step.Goals as goal

pub go_on-requires-clause-rule : goal.go_on-requires-clause-rule
go_on-requires-clause-rule g c = subst (λ n. MatchOption (option_copied c.args.rule) ⊤ (λ r. IsRule n (plain_rule r.value))) (sym c.requires.ready.machine) c.requires.rule

pub go_on-requires-clause-input : goal.go_on-requires-clause-input
go_on-requires-clause-input g c = subst (λ n. IsInput n c.args.stage.now.input) (sym c.requires.ready.machine) c.requires.ready.input

pub returns-in-Some-clause-writes : goal.returns-in-Some-clause-writes
returns-in-Some-clause-writes g c =
    let m = machine_of c.args.context.now.model.now in
    let s = c.args.stage.now in
    let p : Point = point_of s (left c.args.words.now) in
    let rule : Option Rule = option_map (λ r. plain_rule r.value) (option_copied c.args.rule) in
    let from : Result (State × List ℕ) Stop = next s.session.machine s.session.state s.input (left c.args.words.now) (unwrap_or rule s.session.machine.main) in
    let stops = next-by m s.session.machine s.session.state s.input (left c.args.words.now) rule (Err c.in-Some.stop) c.requires.ready.machine (goes-some c.in_ok-stop.field-0 c.in-Some.stop c.go_on.new.session.state (left c.go_on.new.words) from c.in-Some.is c.in_ok-stop.ensures.goes) in
    same-text g.K.Sink.written g.K.Sink.faults c.args.sink.now c.stop_by.new.sink _ _ c.stop_by.result (sym (ap (λ o. (moved m c.args.context.now.sources.now p o).text) stops)) c.stop_by.ensures.writes

pub returns-in-Some-clause-lands : goal.returns-in-Some-clause-lands
returns-in-Some-clause-lands g c =
    let m = machine_of c.args.context.now.model.now in
    let s = c.args.stage.now in
    let p : Point = point_of s (left c.args.words.now) in
    let rule : Option Rule = option_map (λ r. plain_rule r.value) (option_copied c.args.rule) in
    let from : Result (State × List ℕ) Stop = next s.session.machine s.session.state s.input (left c.args.words.now) (unwrap_or rule s.session.machine.main) in
    let stops = next-by m s.session.machine s.session.state s.input (left c.args.words.now) rule (Err c.in-Some.stop) c.requires.ready.machine (goes-some c.in_ok-stop.field-0 c.in-Some.stop c.go_on.new.session.state (left c.go_on.new.words) from c.in-Some.is c.in_ok-stop.ensures.goes) in
    let kept : left c.go_on.new.words ≡ left c.args.words.now = ap (λ (q : State × List ℕ). q.1) (c.in_ok-stop.ensures.lands ∙ ap (landed (s.session.state, left c.args.words.now)) (goes-some c.in_ok-stop.field-0 c.in-Some.stop c.go_on.new.session.state (left c.go_on.new.words) from c.in-Some.is c.in_ok-stop.ensures.goes)) in
    lands-stop m (record s { session = c.go_on.new.session }) (left c.go_on.new.words) (Stopped c.in-Some.stop) _ c.stop_by.result c.stop_by.ensures.end
    (ap (λ o. (moved m c.args.context.now.sources.now p o).to) stops ∙ ap (λ (ws : List ℕ). Err (record { end = Stopped c.in-Some.stop; words = ws })) (sym kept))

pub tell_state-requires-clause-machine : goal.tell_state-requires-clause-machine
tell_state-requires-clause-machine g c = ap (λ (s : Stage). s.session.machine) c.in_ok-settle-in-None.ensures ∙ c.in_ok-stop.ensures.machine ∙ c.requires.ready.machine

pub returns-in_ok-settle-in-None-clause-writes : goal.returns-in_ok-settle-in-None-clause-writes
returns-in_ok-settle-in-None-clause-writes g c =
    let m = machine_of c.args.context.now.model.now in
    let sources = c.args.context.now.sources.now in
    let s = c.args.stage.now in
    let new : Stage = c.settle.new.stage in
    let rest = left c.go_on.new.words in
    let p : Point = point_of s (left c.args.words.now) in
    let rule : Option Rule = option_map (λ r. plain_rule r.value) (option_copied c.args.rule) in
    let from : Result (State × List ℕ) Stop = next s.session.machine s.session.state s.input (left c.args.words.now) (unwrap_or rule s.session.machine.main) in
    let leads = next-by m s.session.machine s.session.state s.input (left c.args.words.now) rule (Ok (c.go_on.new.session.state, rest)) c.requires.ready.machine (goes-none c.in_ok-stop.field-0 c.go_on.new.session.state rest from c.in-None.is c.in_ok-stop.ensures.goes) in
    let text = ap (λ o. (moved m sources p o).text) leads
    ∙ ap (λ z. numbered_state m (s.number + 1) c.go_on.new.session.state ++ z) (told-is m sources (broken m c.go_on.new.session.state) (point_after m p (c.go_on.new.session.state, rest)))
    ∙ ap (λ (z : Stage). numbered_state m z.number z.session.state ++ told m sources (broken m z.session.state)) (sym c.in_ok-settle-in-None.ensures) in
    same-text g.K.Sink.written g.K.Sink.faults c.args.sink.now c.tell_state.new.sink _ _ c.tell_state.result (sym text) c.tell_state.ensures.writes

pub returns-in_ok-settle-in-None-clause-lands : goal.returns-in_ok-settle-in-None-clause-lands
returns-in_ok-settle-in-None-clause-lands g c =
    let m = machine_of c.args.context.now.model.now in
    let sources = c.args.context.now.sources.now in
    let s = c.args.stage.now in
    let new : Stage = c.settle.new.stage in
    let rest = left c.go_on.new.words in
    let p : Point = point_of s (left c.args.words.now) in
    let rule : Option Rule = option_map (λ r. plain_rule r.value) (option_copied c.args.rule) in
    let from : Result (State × List ℕ) Stop = next s.session.machine s.session.state s.input (left c.args.words.now) (unwrap_or rule s.session.machine.main) in
    let leads = next-by m s.session.machine s.session.state s.input (left c.args.words.now) rule (Ok (c.go_on.new.session.state, rest)) c.requires.ready.machine (goes-none c.in_ok-stop.field-0 c.go_on.new.session.state rest from c.in-None.is c.in_ok-stop.ensures.goes) in
    let settled = c.in_ok-settle-in-None.ensures in
    let q : Point = point_after m p (new.session.state, rest) in
    let to : (moved m sources p (next m s.session.state s.input (left c.args.words.now) (unwrap_or rule m.main))).to ≡ (unless_broken m sources (broken m new.session.state) q).to =
    ap (λ o. (moved m sources p o).to) leads ∙ ap (λ (z : Stage). (unless_broken m sources (broken m z.session.state) (point_after m p (z.session.state, rest))).to) (sym settled) in
    let machine = ap (λ (z : Stage). z.session.machine) settled ∙ c.in_ok-stop.ensures.machine ∙ c.requires.ready.machine in
    let input = subst (λ (z : Stage). IsInput m z.input) (sym settled) (kept-is_input m s.input c.requires.ready.input) in
    let reached : q ≡ point_of new rest = ap (λ (z : Stage). point_after m p (z.session.state, rest)) settled ∙ sym (ap (λ (z : Stage). point_of z rest) settled) in
    subst (λ to. IfOk c.tell_state.result (λ end. Lands end m new rest to)) (sym to) (lands-told m new rest sources q c.tell_state.result c.tell_state.ensures.end c.tell_state.ensures.stopped machine input reached)
