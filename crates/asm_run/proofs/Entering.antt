-- What a refused step leaves of a session.
use Rattle.std.proofs.Common.{◌≡◌, inr, ℕ, List, None, ap, ◌∙◌}
use Rattle.std.specs.Prelude.{Result, Err}
use Rattle.asm_node.specs.declared.stop.Stop.{Stop}
use Rattle.asm_node.specs.declared.stop.Stop.TheVariants as stop
use Rattle.asm_node.specs.Machine.{State}
use Rattle.asm_run.specs.declared.error.StepError.{StepError}
use Rattle.asm_run.specs.declared.error.StepError.TheVariants.{Stop as Stops, Memory}
use Rattle.asm_run.specs.Session.{Shown, Outcome, moved, unless_stopped, advanced, HasStood, Stopped, Answers}
use Rattle.asm_run.specs.Stepping.{Refuses}

module _ (old new : Shown) (before after : List ℕ × ℕ) where
  stood : (o : Outcome) (e : Stop) → HasStood o e old new before after → Stopped o e old new before after
  stood o (stop.Invariant n) h = inr h
  stood o (stop.Clash slot x y) h = h
  stood o (stop.Input slot) h = h
  stood o (stop.Choice place) h = h
  stood o (stop.UndefGuard place) h = h
  stood o (stop.BadArgument place) h = h
  stood o (stop.BadValue place slot x) h = h
  stood o (stop.BadInitial slot x) h = h

  -- the step is refused
  pub answers-refused : (step : Result (State × List ℕ) Stop) (e : StepError) → old.stopped ≡ None → Refuses e step → new ≡ old → after ≡ before → Answers (advanced old step) (Err e) old new before after
  answers-refused step Memory is refuses same words = record { session = same; words = words }
  answers-refused step (Stops e) is refuses same words =
      stood (advanced old step) e (record {
        comes_to = ap (λ b. unless_stopped b (moved old.machine step)) is ∙ ap (moved old.machine) refuses;
        stays = record { session = same; words = words };
      })
