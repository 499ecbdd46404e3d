use Rattle.std.proofs.Common.{◌≡◌, ℕ, List, true, false, Some, sym, ap, subst, ◌∙◌, arith}
use Rattle.std.proofs.lemmas.Result.{err_from_is_err_and}
use Rattle.std.specs.Prelude.{Ok}
use Rattle.asm_node.specs.declared.stop.Stop.TheVariants.{Input}
use Rattle.asm_node.specs.Model.{machine_of}
use Rattle.asm_node.specs.Term.{Gives, Needs}
use Rattle.asm_node.specs.Tree.{plain}
use Rattle.asm_run.proofs.Runs.{one-written}
use Rattle.avalla_play.specs.declared.playing.Played.TheVariants.{Stopped}
use Rattle.avalla_play.specs.declared.stage.Stage.{Stage}
use Rattle.avalla_command.specs.Acts.{Checks}
use Rattle.avalla_play.specs.Moves.{Move, acted, checked, worth}
use Rattle.avalla_play.specs.Standing.{IsReady, Lands, point_of, said}
use Rattle.avalla_play.proofs.Landing.{judged-is}
use Rattle.avalla_play.proofs.Writing.{from_ok, if_ok, not-written, one-stopped, same-text}
use Rattle.avalla_play.proofs.checking.check.Goals as goal

pub returns-in_err-judge-clause-writes : goal.returns-in_err-judge-clause-writes
returns-in_err-judge-clause-writes g c = λ words.
    let p = err_from_is_err_and c.from_residual.result c.from_residual.ensures.1 in
    rw (p.1, p.2) (not-written g.K.Sink.written g.K.Sink.faults c.args.sink.now _)

pub returns-in_err-pass-in-Met-clause-writes : goal.returns-in_err-pass-in-Met-clause-writes
returns-in_err-pass-in-Met-clause-writes g c = λ words.
    let m = machine_of c.args.context.now.model.now in
    let t = plain c.args.condition.now.value in
    let q = point_of c.args.stage.now words in
    let is = judged-is m c.args.context.now.sources.now q.words (worth m t q) (Gives true) (checked q) (c.in_ok-judge.ensures ∙ ap said c.in-Met.is) in
    let p = err_from_is_err_and c.from_residual-in_err-pass-in-Met.result c.from_residual-in_err-pass-in-Met.ensures.1 in
    rw (p.1, p.2) (one-stopped g.K.Sink.written g.K.Sink.faults c.args.sink.now c.pass.new.sink _ _ _ (sym (ap (λ (z : Move). z.text) is)) c.in_err-pass-in-Met.ensures.writes)

pub returns-in_ok-pass-in-Met-clause-writes : goal.returns-in_ok-pass-in-Met-clause-writes
returns-in_ok-pass-in-Met-clause-writes g c = λ words.
    let m = machine_of c.args.context.now.model.now in
    let t = plain c.args.condition.now.value in
    let q = point_of c.args.stage.now words in
    let is = judged-is m c.args.context.now.sources.now q.words (worth m t q) (Gives true) (checked q) (c.in_ok-judge.ensures ∙ ap said c.in-Met.is) in
    one-written g.K.Sink.written g.K.Sink.faults c.args.sink.now c.pass.new.sink _ _ _ _ (ap (λ (z : Move). z.text) is) c.in_ok-pass-in-Met.ensures.writes

pub returns-in_ok-pass-in-Met-clause-lands : goal.returns-in_ok-pass-in-Met-clause-lands
returns-in_ok-pass-in-Met-clause-lands g c = λ words.
    let m = machine_of c.args.context.now.model.now in
    let t = plain c.args.condition.now.value in
    let q = point_of c.args.stage.now words in
    let is = judged-is m c.args.context.now.sources.now q.words (worth m t q) (Gives true) (checked q) (c.in_ok-judge.ensures ∙ ap said c.in-Met.is) in
    let counts = c.in_ok-pass-in-Met.ensures.counts in
    record {
      leads = ap (λ (z : Move). z.to) is ∙ sym (ap (λ (s : Stage). Ok (point_of s words)) counts);
      ready = subst (IsReady m) (sym counts) (record { machine = c.requires.ready.machine; going = c.requires.ready.going; input = c.requires.ready.input });
    }

pub returns-in_ok-pass-in-Met-clause-checks : goal.returns-in_ok-pass-in-Met-clause-checks
returns-in_ok-pass-in-Met-clause-checks g c =
    let counts = ap (λ (s : Stage). s.checks) c.in_ok-pass-in-Met.ensures.counts in
    omega (arith, counts)

pub returns-in_err-fail-in-Unmet-clause-writes : goal.returns-in_err-fail-in-Unmet-clause-writes
returns-in_err-fail-in-Unmet-clause-writes g c = λ words.
    let m = machine_of c.args.context.now.model.now in
    let t = plain c.args.condition.now.value in
    let q = point_of c.args.stage.now words in
    let is = judged-is m c.args.context.now.sources.now q.words (worth m t q) (Gives false) (checked q) (c.in_ok-judge.ensures ∙ ap said c.in-Unmet.is) in
    let p = err_from_is_err_and c.from_residual-in_err-fail-in-Unmet.result c.from_residual-in_err-fail-in-Unmet.ensures.1 in
    rw (p.1, p.2) (one-stopped g.K.Sink.written g.K.Sink.faults c.args.sink.now c.fail.new.sink _ _ _ (sym (ap (λ (z : Move). z.text) is)) c.in_err-fail-in-Unmet.ensures)

pub returns-in_ok-fail-in-Unmet-clause-writes : goal.returns-in_ok-fail-in-Unmet-clause-writes
returns-in_ok-fail-in-Unmet-clause-writes g c = λ words.
    let m = machine_of c.args.context.now.model.now in
    let t = plain c.args.condition.now.value in
    let q = point_of c.args.stage.now words in
    let is = judged-is m c.args.context.now.sources.now q.words (worth m t q) (Gives false) (checked q) (c.in_ok-judge.ensures ∙ ap said c.in-Unmet.is) in
    one-written g.K.Sink.written g.K.Sink.faults c.args.sink.now c.fail.new.sink _ _ _ _ (ap (λ (z : Move). z.text) is) c.in_ok-fail-in-Unmet.ensures

pub returns-in_ok-fail-in-Unmet-clause-lands : goal.returns-in_ok-fail-in-Unmet-clause-lands
returns-in_ok-fail-in-Unmet-clause-lands g c = λ words.
    let m = machine_of c.args.context.now.model.now in
    let t = plain c.args.condition.now.value in
    let q = point_of c.args.stage.now words in
    ap (λ (z : Move). z.to) (judged-is m c.args.context.now.sources.now q.words (worth m t q) (Gives false) (checked q) (c.in_ok-judge.ensures ∙ ap said c.in-Unmet.is))

pub returns-in-Lacks-clause-writes : goal.returns-in-Lacks-clause-writes
returns-in-Lacks-clause-writes g c = λ words.
    let m = machine_of c.args.context.now.model.now in
    let t = plain c.args.condition.now.value in
    let q = point_of c.args.stage.now words in
    let is = judged-is m c.args.context.now.sources.now q.words (worth m t q) (Needs c.in-Lacks.slot) (checked q) (c.in_ok-judge.ensures ∙ ap said c.in-Lacks.is) in
    same-text g.K.Sink.written g.K.Sink.faults c.args.sink.now c.stop_by.new.sink _ _ c.stop_by.result (sym (ap (λ (z : Move). z.text) is)) c.stop_by.ensures.writes

pub returns-in-Lacks-clause-lands : goal.returns-in-Lacks-clause-lands
returns-in-Lacks-clause-lands g c =
    let m = machine_of c.args.context.now.model.now in
    let sources = c.args.context.now.sources.now in
    let s : Stage = c.args.stage.now in
    let t = plain c.args.condition.now.value in
    let lacks = c.in_ok-judge.ensures ∙ ap said c.in-Lacks.is in
    from_ok c.stop_by.result (λ end. end ≡ Some (Stopped (Input c.in-Lacks.slot))) (λ end. (words : List ℕ) → Lands end m s words (acted m sources c.args.context.now.budget (Checks t) (point_of s words)).to)
    (λ end is words. subst (λ z. Lands z m s words (acted m sources c.args.context.now.budget (Checks t) (point_of s words)).to) (sym is)
    (ap (λ (z : Move). z.to) (judged-is m sources words (worth m t (point_of s words)) (Needs c.in-Lacks.slot) (checked (point_of s words)) lacks)))
    c.stop_by.ensures.end

pub returns-in-Lacks-clause-checks : goal.returns-in-Lacks-clause-checks
returns-in-Lacks-clause-checks g c = if_ok c.stop_by.result _ (λ _. omega arith)
