-- Where moves lead, and how a play ends by them.
use Rattle.std.proofs.Common.{◌≡◌, ℕ, Bool as Truth, List, [], ◌++◌, Option, Some, None, unwrap_or, refl, sym, ap, ◌∙◌, subst, append-nil, append_assoc}
use Rattle.std.specs.Prelude.{Result, Ok, Err, IfOk, codes}
use Rattle.asm_domain.specs.declared.value.Value.{Value}
use Rattle.asm_source.specs.declared.sources.Source.{Source}
use Rattle.asm_node.specs.declared.stop.Stop.{Stop}
use Rattle.asm_node.specs.declared.stop.Stop.TheVariants as stop
use Rattle.asm_node.specs.Machine.{Machine, State, Input}
use Rattle.asm_node.specs.RuleTree.{Rule}
use Rattle.asm_node.specs.Step.{IsInput, broken, next}
use Rattle.asm_node.specs.Term.{Outcome, Gives, Needs}
use Rattle.asm_run.specs.declared.error.OutError.{OutError}
use Rattle.asm_text.specs.Texts.{line}
use Rattle.avalla_play.specs.declared.playing.Played.{Played}
use Rattle.avalla_play.specs.declared.stage.Stage.{Stage}
use Rattle.avalla_play.specs.Moves.{Point, Ended, Move, after, ends, judged, onward, stops, then_move, unless_broken}
use Rattle.avalla_play.specs.Printed.{finished, passed_unless}
use Rattle.avalla_play.specs.Standing.{Lands, Reaches, end_at, point_of, told, truth_of}

-- ---- steps

-- the line of a false invariant
pub told-is : (m : Machine) (sources : List Source) (b : Option ℕ) (p : Point) → (unless_broken m sources b p).text ≡ told m sources b
told-is m sources (Some n) p = refl
told-is m sources None p = refl

-- a step is the same by an equal machine
pub next-by : (m n : Machine) (s : State) (i : Input) (words : List ℕ) (rule : Option Rule) (answer : Result (State × List ℕ) Stop) → n ≡ m → next n s i words (unwrap_or rule n.main) ≡ answer → next m s i words (unwrap_or rule m.main) ≡ answer
next-by m n s i words rule answer same is = ap (λ k. next k s i words (unwrap_or rule k.main)) (sym same) ∙ is

-- a step that leads to a stage, which may be stopped there
pub lands-at : (m : Machine) (sources : List Source) (s : Stage) (words : List ℕ) (q : Point) (b : Option ℕ) (end : Option Played)
    → end ≡ end_at b → s.session.stopped ≡ b → s.session.machine ≡ m → IsInput m s.input → q ≡ point_of s words → Lands end m s words (unless_broken m sources b q).to
lands-at m sources s words q (Some n) end is stopped machine input same = subst (λ e. Lands e m s words (unless_broken m sources (Some n) q).to) (sym is) (ap (λ (p : Point). (stops m sources (stop.Invariant n) p.words).to) same)
lands-at m sources s words q None end is stopped machine input same =
    subst (λ e. Lands e m s words (unless_broken m sources None q).to) (sym is) (record { leads = ap Ok same; ready = record { machine = machine; going = stopped; input = input } })

module _ (m : Machine) (s : Stage) (words : List ℕ) where
  -- a call that says how the play ends
  pub lands-stop : (e : Played) (to : Result Point Ended) (r : Result (Option Played) OutError) → IfOk r (λ end. end ≡ Some e) → to ≡ Err (record { end = e; words = words }) → IfOk r (λ end. Lands end m s words to)
  lands-stop e to (Ok end) is stops = subst (λ z. Lands z m s words to) (sym is) stops
  lands-stop e to (Err error) is stops = tt

  -- a call that tells the state that is reached
  pub lands-told : (sources : List Source) (q : Point) (r : Result (Option Played) OutError) → IfOk r (λ end. end ≡ end_at (broken m s.session.state)) → IfOk r (λ _. s.session.stopped ≡ broken m s.session.state)
      → s.session.machine ≡ m → IsInput m s.input → q ≡ point_of s words → IfOk r (λ end. Lands end m s words (unless_broken m sources (broken m s.session.state) q).to)
  lands-told sources q (Ok end) is stopped machine input same = lands-at m sources s words q (broken m s.session.state) end is stopped machine input same
  lands-told sources q (Err error) is stopped machine input same = tt

-- what an answer says of the move
pub lands-some : (m : Machine) (s : Stage) (words : List ℕ) (to : Result Point Ended) (answer : Option Played) (e : Played) → answer ≡ Some e → Lands answer m s words to → to ≡ Err (record { end = e; words = words })
lands-some m s words to answer e is lands = subst (λ a. Lands a m s words to) is lands

pub lands-none : (m : Machine) (s : Stage) (words : List ℕ) (to : Result Point Ended) (answer : Option Played) → answer ≡ None → Lands answer m s words to → Reaches m s words to
lands-none m s words to answer is lands = subst (λ a. Lands a m s words to) is lands

-- ---- conditions

-- what is done by whether a condition is true
abbrev pub judged_by : Machine → List Source → List ℕ → Outcome Truth → (Truth → Move) → Move
judged_by m sources words (Gives b) more = more b
judged_by m sources words (Needs l) more = stops m sources (stop.Input l) words

pub judged-is : (m : Machine) (sources : List Source) (words : List ℕ) (o : Outcome Value) (truth : Outcome Truth) (more : Truth → Move) → truth_of o ≡ truth → judged m sources words o more ≡ judged_by m sources words truth more
judged-is m sources words o truth more is = by o ∙ ap (λ w. judged_by m sources words w more) is
  where
    by : (o : Outcome Value) → judged m sources words o more ≡ judged_by m sources words (truth_of o) more
    by (Gives v) = refl
    by (Needs l) = refl

-- ---- moves one after the other

-- what is left to do after a move that ends, or doesn't end, the play
abbrev pub rest_after : Option Played → Stage → List ℕ → (Point → Move) → Move
rest_after None s words more = more (point_of s words)
rest_after (Some end) s words more = ends [] end words

pub then-is : (m : Machine) (s : Stage) (words : List ℕ) (end : Option Played) (move : Move) (more : Point → Move) → Lands end m s words move.to → then_move move more ≡ after move.text (rest_after end s words more)
then-is m s words None move more lands = ap (λ to. after move.text (onward to more)) lands.leads
then-is m s words (Some e) move more lands = ap (λ to. after move.text (onward to more)) lands

-- ---- the end of a play

-- what is printed after all moves
abbrev pub last_line : Result Point Ended → List ℕ
last_line (Ok p) = line (codes "passed")
last_line (Err end) = []

pub finished-cut : (move : Move) → (finished move).text ≡ move.text ++ last_line move.to
finished-cut move = by move.text move.to
  where
    by : (text : List ℕ) (to : Result Point Ended) → (passed_unless text to).text ≡ text ++ last_line to
    by text (Ok p) = refl
    by text (Err e) = sym (append-nil text)

pub finished-after-text : (text : List ℕ) (move : Move) → (finished (after text move)).text ≡ text ++ (finished move).text
finished-after-text text move = by move.text move.to
  where
    by : (others : List ℕ) (to : Result Point Ended) → (passed_unless (text ++ others) to).text ≡ text ++ (passed_unless others to).text
    by others (Ok p) = append_assoc text others (line (codes "passed"))
    by others (Err e) = refl

pub finished-after-end : (text : List ℕ) (move : Move) → (finished (after text move)).end ≡ (finished move).end
finished-after-end text move = by move.text move.to
  where
    by : (others : List ℕ) (to : Result Point Ended) → (passed_unless (text ++ others) to).end ≡ (passed_unless others to).end
    by others (Ok p) = refl
    by others (Err e) = refl

pub finished-after-words : (text : List ℕ) (move : Move) → (finished (after text move)).words ≡ (finished move).words
finished-after-words text move = by move.text move.to
  where
    by : (others : List ℕ) (to : Result Point Ended) → (passed_unless (text ++ others) to).words ≡ (passed_unless others to).words
    by others (Ok p) = refl
    by others (Err e) = refl
