-- What a chooser's calls promise, whatever way to choose and whatever path it stands for.
use Rattle.std.specs.Prelude.{◌≡◌, ℕ, List, [], ◌∷◌, ◌++◌, Result, Ok, Err, slice_index_or}
use Rattle.asm_source.specs.declared.sources.Place.{Place}
use Rattle.asm_domain.specs.declared.value.Value.{Value}
use Rattle.asm_node.specs.declared.path.Step as of_path
use Rattle.asm_node.specs.declared.path.Step.TheVariants as step
use Rattle.asm_node.specs.Taking.{Attempt, Yields, Path, Pick}
use Rattle.asm_fire.specs.declared.chooser.Entry.{Entry}
use Rattle.asm_fire.specs.declared.chooser.Entry.TheVariants as entry
use Rattle.asm_fire.specs.declared.error.FireError.{FireError}
use Rattle.asm_fire.specs.Answer.{Fires, Halts}

-- the ways to choose, and the paths, for which a chooser may stand
abbrev pub Ways : Type 1
Ways = Pick (List ℕ) → Path → Type 0

abbrev pub step_of : Entry → of_path.Step
step_of (entry.Part k) = step.Part k
step_of (entry.Called f) = step.Called f
step_of (entry.Bound vs) = step.Bound vs.now

-- what was stood for before is stood for after
abbrev pub Stay : Ways → Ways → Type 0
Stay before after = (pick : Pick (List ℕ)) (path : Path) → before pick path → after pick path

-- the same at the part of the rule to which the step leads
abbrev pub Enter : Ways → of_path.Step → Ways → Type 0
Enter before step after = (pick : Pick (List ℕ)) (path : Path) → before pick path → after pick (path ++ step ∷ [])

-- and back from it
abbrev pub Leave : Ways → Ways → Type 0
Leave before after = (pick : Pick (List ℕ)) (path : Path) (step : of_path.Step) → before pick (path ++ step ∷ []) → after pick path

-- the answer is that of the definition for each of the ways, or the fault is
abbrev pub FiresBy : {A : Type 0} → Ways → Result A FireError → List ℕ → (Pick (List ℕ) → Path → Attempt (List ℕ) A) → Type 0
FiresBy ways result words definition = (pick : Pick (List ℕ)) (path : Path) → ways pick path → Fires result words (definition pick path)

-- the answer is the number of the chosen one among the candidates
abbrev pub ChoosesAs : Result ℕ FireError → List ℕ → List (List Value) → Attempt (List ℕ) (List Value) → Type 0
ChoosesAs (Ok k) words found a = a ≡ Yields (slice_index_or found k []) words
ChoosesAs (Err e) words found a = Halts e words a

abbrev pub ChoosesBy : Ways → Result ℕ FireError → List ℕ → Place → List (List Value) → List ℕ → Type 0
ChoosesBy ways result after place found before = (pick : Pick (List ℕ)) (path : Path) → ways pick path → ChoosesAs result after found (pick path place found before)
