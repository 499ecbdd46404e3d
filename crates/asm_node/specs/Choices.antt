-- Choices at paths, as a finite map from paths to tuples.
use Rattle.std.specs.Prelude.{◌≡◌, ℕ, suc, zero, ◌<◌, List, [], ◌∷◌, map, length, slice_get, Option, Some, None}
use mathlib.Core.Path.{refl, ap}
use Rattle.std.specs.declared.cmp.Ordering.{Ordering}
use Rattle.std.specs.Ordering.{nat_cmp}
use Rattle.std.specs.FinMap as finite
use Rattle.std.specs.Coded.{Coded, code_by, coded_list, coded_ℕ}
use Rattle.std.specs.Cmp.Lexicographic.{slice_cmp}
use Rattle.asm_domain.specs.declared.value.Value.{Value}
use Rattle.asm_node.specs.declared.choices.Choice.{Choice}
use Rattle.asm_node.specs.declared.path.Step.{Step}
use Rattle.asm_node.specs.declared.path.Step.TheVariants.{Part, Called, Bound}
use Rattle.asm_node.specs.Taking.{Path}
use Rattle.asm_node.specs.UpdateSet.{value_key, value_from, value_from-key}

-- steps and paths as lists, by which paths are kept in order; no meaning depends on that order
abbrev pub step_key : Step → List (List ℕ)
step_key (Part k) = (0 ∷ k ∷ []) ∷ []
step_key (Called f) = (1 ∷ f ∷ []) ∷ []
step_key (Bound vs) = (2 ∷ []) ∷ map value_key vs

abbrev pub step_from : List (List ℕ) → Step
step_from ((zero ∷ k ∷ _) ∷ _) = Part k
step_from ((suc zero ∷ f ∷ _) ∷ _) = Called f
step_from (_ ∷ ks) = Bound (map value_from ks)
step_from [] = Bound []

abbrev pub values_from-key : (vs : List Value) → map value_from (map value_key vs) ≡ vs
values_from-key [] = refl
values_from-key (v ∷ vs) = λ i. value_from-key v i ∷ values_from-key vs i

abbrev pub step_from-key : (s : Step) → step_from (step_key s) ≡ s
step_from-key (Part k) = refl
step_from-key (Called f) = refl
step_from-key (Bound vs) = ap Bound (values_from-key vs)

abbrev pub path_key : Path → List (List (List ℕ))
path_key path = map step_key path

abbrev pub path_from : List (List (List ℕ)) → Path
path_from keys = map step_from keys

abbrev pub path_from-key : (path : Path) → path_from (path_key path) ≡ path
path_from-key [] = refl
path_from-key (s ∷ path) = λ i. step_from-key s i ∷ path_from-key path i

abbrev pub path_code : Coded Path
path_code = code_by (List (List (List ℕ))) (coded_list (coded_list (coded_list coded_ℕ))) path_key path_from path_from-key

abbrev pub path_cmp : Path → Path → Ordering
path_cmp p q = slice_cmp (slice_cmp (slice_cmp nat_cmp)) (path_key p) (path_key q)

-- the tuple that is chosen at each path that has one
abbrev pub Chosen : Type 0
Chosen = finite.FinMap path_cmp (List Value)

-- the choice that stands at a place
abbrev pub StandsAt : List Choice → ℕ → Choice → Type 0
StandsAt choices k choice = slice_get choices k ≡ Some choice

-- no choice before the place is one at the path
abbrev pub NoneBefore : List Choice → Path → ℕ → Type 0
NoneBefore choices path n = (k : ℕ) (choice : Choice) → k < n → StandsAt choices k choice → ¬ (choice.path ≡ path)

-- the first place of a choice at the path, if there is one
abbrev pub IsPlace : List Choice → Path → Option ℕ → Type 0
IsPlace choices path (Some n) = ((choice : Choice) × StandsAt choices n choice × (choice.path ≡ path)) × NoneBefore choices path n
IsPlace choices path None = NoneBefore choices path (length choices)
