-- How a play begins, and how it ends in state 0.
use Rattle.std.proofs.Common.{◌≡◌, ℕ, List, [], ◌++◌, Option, Some, None, refl, sym, ◌∙◌, append_assoc}
use Rattle.asm_domain.specs.declared.value.Value.{Value}
use Rattle.asm_source.specs.declared.sources.Source.{Source}
use Rattle.asm_node.specs.declared.stop.Stop.TheVariants as stop
use Rattle.asm_node.specs.Machine.{Machine}
use Rattle.asm_text.specs.Texts.{stop_line}
use Rattle.avalla_play.specs.declared.playing.Played.{Played}
use Rattle.avalla_play.specs.declared.playing.Played.TheVariants.{Stopped}
use Rattle.avalla_play.specs.Moves.{Point, Move, after, then_move, unless_broken}
use Rattle.avalla_play.specs.Printed.{finished}
use Rattle.avalla_play.specs.Standing.{end_at, told}
use Rattle.avalla_play.proofs.Landing.{finished-after-end, finished-after-text, finished-after-words}

module _ (m : Machine) (sources : List Source) (p : Point) (more : Point → Move) where
  -- what is printed after state 0
  abbrev pub start_rest : Option ℕ → List ℕ
  start_rest (Some n) = []
  start_rest None = (finished (more p)).text

  -- how a play ends
  abbrev pub start_end : Option ℕ → Played
  start_end (Some n) = Stopped (stop.Invariant n)
  start_end None = (finished (more p)).end

  -- the words that are left then
  abbrev pub start_words : Option ℕ → List ℕ
  start_words (Some n) = p.words
  start_words None = (finished (more p)).words

  pub start-cut : (first : List ℕ) (b : Option ℕ) → (finished (after first (then_move (unless_broken m sources b p) more))).text ≡ (first ++ told m sources b) ++ start_rest b
  start-cut first b = finished-after-text first (then_move (unless_broken m sources b p) more) ∙ by b
    where
      by : (b : Option ℕ) → first ++ (finished (then_move (unless_broken m sources b p) more)).text ≡ (first ++ told m sources b) ++ start_rest b
      by (Some n) = sym (append_assoc first (stop_line m.signature sources (stop.Invariant n)) [])
      by None = sym (append_assoc first [] (finished (more p)).text)

  pub start-ends : (first : List ℕ) (b : Option ℕ) → (finished (after first (then_move (unless_broken m sources b p) more))).end ≡ start_end b
  start-ends first b = finished-after-end first (then_move (unless_broken m sources b p) more) ∙ by b
    where
      by : (b : Option ℕ) → (finished (then_move (unless_broken m sources b p) more)).end ≡ start_end b
      by (Some n) = refl
      by None = refl

  pub start-leaves : (first : List ℕ) (b : Option ℕ) → (finished (after first (then_move (unless_broken m sources b p) more))).words ≡ start_words b
  start-leaves first b = finished-after-words first (then_move (unless_broken m sources b p) more) ∙ by b
    where
      by : (b : Option ℕ) → (finished (then_move (unless_broken m sources b p) more)).words ≡ start_words b
      by (Some n) = refl
      by None = refl

  -- the play ends there
  pub rest-stopped : (b : Option ℕ) (end : Played) → end_at b ≡ Some end → start_rest b ≡ []
  rest-stopped (Some n) end is = refl
  rest-stopped None end is = absurd (cc is)

  pub end-stopped : (b : Option ℕ) (end : Played) → end_at b ≡ Some end → end ≡ start_end b
  end-stopped (Some n) end is = cc is
  end-stopped None end is = absurd (cc is)

  pub words-stopped : (b : Option ℕ) (end : Played) → end_at b ≡ Some end → p.words ≡ start_words b
  words-stopped (Some n) end is = refl
  words-stopped None end is = absurd (cc is)

-- it goes on
pub none-broken : (b : Option ℕ) → end_at b ≡ None → b ≡ None
none-broken (Some n) is = absurd (cc is)
none-broken None is = refl

-- a bad initial value by equal names
pub same-stop : (l k : ℕ) (v w : Value) → l ≡ k → v ≡ w → stop.BadInitial l v ≡ stop.BadInitial k w
same-stop l k v w slots values = λ i. stop.BadInitial (slots i) (values i)
