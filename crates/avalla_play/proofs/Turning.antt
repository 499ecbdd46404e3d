-- The turns of a `step until`.
use Rattle.std.proofs.Common.{◌≡◌, ℕ, zero, suc, ◌-◌, ◌<◌, Bool as Truth, true, false, if◌then◌else◌, List, [], ◌++◌, Option, Some, None, refl, sym, ap, ◌∙◌, append-nil, arith, sub-one}
use Rattle.std.specs.Prelude.{Result}
use Rattle.asm_source.specs.declared.sources.Source.{Source}
use Rattle.asm_node.specs.declared.stop.Stop.TheVariants as stop
use Rattle.asm_node.specs.Machine.{Machine}
use Rattle.asm_node.specs.Term.{Outcome, Gives, Needs}
use Rattle.asm_node.specs.Tree.{Tree}
use Rattle.asm_text.specs.Texts.{stop_line}
use Rattle.avalla_play.specs.declared.playing.Played.{Played}
use Rattle.avalla_play.specs.declared.playing.Played.TheVariants.{Stopped}
use Rattle.avalla_play.specs.declared.stage.Stage.{Stage}
use Rattle.avalla_play.specs.Moves.{Point, Ended, Move, after, ends, onward, stays, step, steps_until, then_move, worth}
use Rattle.avalla_play.specs.Standing.{IsReadyAfter, Lands, rest_of, tested, truth_of, turn_of}
use Rattle.avalla_play.proofs.Landing.{judged-is, judged_by}

module _ (m : Machine) (sources : List Source) (t : Tree) (p : Point) where
  -- the condition is true
  pub turn-met : truth_of (worth m t p) ≡ Gives true → (more : Point → Move) → tested m sources t p more ≡ after (turn_of m sources t p).text (stays p)
  turn-met is more =
      judged-is m sources p.words (worth m t p) (Gives true) (λ holds. if holds then stays p else then_move (step m sources m.main p) more) is
      ∙ sym (ap (λ (z : Move). after z.text (stays p)) (judged-is m sources p.words (worth m t p) (Gives true) (λ holds. if holds then stays p else step m sources m.main p) is))

  pub turn-met-text : truth_of (worth m t p) ≡ Gives true → (turn_of m sources t p).text ≡ []
  turn-met-text is = ap (λ (z : Move). z.text) (judged-is m sources p.words (worth m t p) (Gives true) (λ holds. if holds then stays p else step m sources m.main p) is)

  -- it needs an input that isn't set
  pub turn-lacks-text : (l : ℕ) → truth_of (worth m t p) ≡ Needs l → (turn_of m sources t p).text ≡ stop_line m.signature sources (stop.Input l)
  turn-lacks-text l is = ap (λ (z : Move). z.text) (judged-is m sources p.words (worth m t p) (Needs l) (λ holds. if holds then stays p else step m sources m.main p) is)

  pub turn-lacks : (l : ℕ) → truth_of (worth m t p) ≡ Needs l → (more : Point → Move) → tested m sources t p more ≡ after (turn_of m sources t p).text (ends [] (Stopped (stop.Input l)) p.words)
  turn-lacks l is more =
      judged-is m sources p.words (worth m t p) (Needs l) (λ holds. if holds then stays p else then_move (step m sources m.main p) more) is
      ∙ ap (λ z. ends z (Stopped (stop.Input l)) p.words) (sym (append-nil (stop_line m.signature sources (stop.Input l))))
      ∙ sym (ap (λ z. after z (ends [] (Stopped (stop.Input l)) p.words)) (turn-lacks-text l is))

  -- a step is made
  pub turn-unmet-text : truth_of (worth m t p) ≡ Gives false → (turn_of m sources t p).text ≡ (step m sources m.main p).text
  turn-unmet-text is = ap (λ (z : Move). z.text) (judged-is m sources p.words (worth m t p) (Gives false) (λ holds. if holds then stays p else step m sources m.main p) is)

  pub turn-unmet : truth_of (worth m t p) ≡ Gives false → (to : Result Point Ended) → (step m sources m.main p).to ≡ to → (more : Point → Move) → tested m sources t p more ≡ after (turn_of m sources t p).text (onward to more)
  turn-unmet is to leads more =
      judged-is m sources p.words (worth m t p) (Gives false) (λ holds. if holds then stays p else then_move (step m sources m.main p) more) is
      ∙ ap (λ r. after (step m sources m.main p).text (onward r more)) leads
      ∙ sym (ap (λ z. after z (onward to more)) (turn-unmet-text is))

  -- what is printed after a turn
  abbrev pub turn_rest : Outcome Truth → Result Point Ended → (Point → Move) → List ℕ
  turn_rest (Gives true) to more = []
  turn_rest (Gives false) to more = (onward to more).text
  turn_rest (Needs l) to more = []

  pub turn-cut : (more : Point → Move) → (tested m sources t p more).text ≡ (turn_of m sources t p).text ++ turn_rest (truth_of (worth m t p)) (step m sources m.main p).to more
  turn-cut more =
      ap (λ (z : Move). z.text) (judged-is m sources p.words (worth m t p) (truth_of (worth m t p)) (λ holds. if holds then stays p else then_move (step m sources m.main p) more) refl)
      ∙ by (truth_of (worth m t p))
      ∙ ap (λ (z : Move). z.text ++ turn_rest (truth_of (worth m t p)) (step m sources m.main p).to more) (sym (judged-is m sources p.words (worth m t p) (truth_of (worth m t p)) (λ holds. if holds then stays p else step m sources m.main p) refl))
    where
      by : (w : Outcome Truth) → (judged_by m sources p.words w (λ holds. if holds then stays p else then_move (step m sources m.main p) more)).text ≡ (judged_by m sources p.words w (λ holds. if holds then stays p else step m sources m.main p)).text ++ turn_rest w (step m sources m.main p).to more
      by (Gives true) = refl
      by (Gives false) = refl
      by (Needs l) = sym (append-nil (stop_line m.signature sources (stop.Input l)))

  -- a turn of those that are left
  pub until-more : (budget n : ℕ) → 0 < n → steps_until m sources budget t n p ≡ tested m sources t p (steps_until m sources budget t (n - 1))
  until-more budget zero some = absurd (omega arith)
  until-more budget (suc n) some = ap (λ k. tested m sources t p (steps_until m sources budget t k)) (sym (sub-one (suc n)))

  -- no turn is left
  pub until-last : (budget n : ℕ) → n ≡ 0 → steps_until m sources budget t n p ≡ steps_until m sources budget t 0 p
  until-last budget n is = ap (λ k. steps_until m sources budget t k p) is

-- nothing is printed after the last turn
pub rest-none : (end : Option Played) (s : Stage) (words : List ℕ) (more : Point → Move) → (rest_of (Some end) s words more).text ≡ []
rest-none None s words more = refl
rest-none (Some e) s words more = refl

-- how the play ends by the last turn
pub lands-after : (m : Machine) (end : Option Played) (s : Stage) (words : List ℕ) (more : Point → Move) (to : Result Point Ended) → IsReadyAfter (Some end) m s → to ≡ (rest_of (Some end) s words more).to → Lands end m s words to
lands-after m None s words more to ready is = record { leads = is; ready = ready }
lands-after m (Some e) s words more to ready is = is
