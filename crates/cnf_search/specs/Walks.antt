-- What a walk keeps, and what each part of a turn does.
use Rattle.std.specs.Prelude.{◌≡◌, ℕ, ◌+◌, ◌*◌, ◌-◌, ◌<◌, ◌≤◌, true, false, Some, None, is_some, List, [], ◌∷◌, ◌++◌, length, take, drop, slice_get, slice_index_or}
use Rattle.std.specs.List.{list_any, list_all}
use Rattle.cnf_base.specs.declared.lit.Lit.{Lit}
use Rattle.cnf_base.specs.declared.line.Line.{Line}
use Rattle.cnf_base.specs.Clauses.{negate, formula_true, variables, clause_variables}
use Rattle.cnf_base.specs.Known.{is_true}
use Rattle.cnf_base.specs.Derivation.{EndsEmpty}
use Rattle.cnf_check.specs.Checked.{AreDistinct}
use Rattle.cnf_gate.specs.Built.{is_decided, is_filled}
use Rattle.cnf_search.specs.Trails.{Explained, values, nothing, Grows}
use Rattle.cnf_search.specs.Ended.{completed}
use Rattle.cnf_search.specs.Lines.{known, choices}
use Rattle.cnf_search.specs.Levels.{spot, AreRanked, AreLevels, AreStarted, refuted, last_depth}
use Rattle.cnf_search.specs.Moves.{Puts, TakesOff}
use Rattle.cnf_search.specs.Passes.{IsLearned}
use Rattle.cnf_search.specs.Unforced.{Unforced}
use Rattle.cnf_search.specs.Queue.{AreSettled, IsIndex, IsLitAt}
use Rattle.cnf_search.specs.declared.level.Level.{Level}
use Rattle.cnf_search.specs.declared.walk.Walk.{Walk}
use Rattle.cnf_search.specs.declared.walk.Turn.{Turn}
use Rattle.cnf_search.specs.declared.walk.Turn.TheVariants.{On, Ended}
use Rattle.cnf_search.specs.declared.walk.End.{End}
use Rattle.cnf_search.specs.declared.walk.End.TheVariants.{Solved, Refuted, Spent}

-- each entry has its reason, no line asks for the opposite of a decision, no two lines are the same, each has a literal, the index names all clauses, each decision is that of a level, and the lines are within the budget
pub record IsSound (w : Walk) : Type 0 where
  pub explained : Explained (known w.checker) nothing w.trace.entries
  pub unforced : Unforced w.checker.lines nothing w.trace.entries
  pub distinct : AreDistinct w.checker.lines
  pub filled : list_all (λ x. is_filled x.clause) w.checker.lines ≡ true
  pub room : variables (known w.checker) ≤ w.trace.size
  pub indexed : IsIndex (known w.checker) w.lists.items
  pub long : 2 * w.trace.size ≤ length w.lists.items
  pub started : AreStarted w.trace.entries w.levels.items
  pub within : length w.checker.lines ≤ w.budget

-- the levels are those of the groups, and there are at most as many lines as choices behind the walk
pub record IsPlaced (gs : List (List Lit)) (w : Walk) : Type 0 where
  pub levels : AreLevels gs (known w.checker) w.trace.entries 0 w.levels.items
  pub ranked : AreRanked gs 0 w.levels.items
  pub spotted : length w.checker.lines ≤ spot gs w.levels.items

-- the entries from a place on, and the clauses from a number on, are still to be looked at
pub record IsPending (w : Walk) : Type 0 where
  pub head : w.head ≤ length w.trace.entries
  pub settled : AreSettled (take w.left (known w.checker)) (values w.trace.entries) (drop w.head w.trace.entries) []

pub record IsWalking (gs : List (List Lit)) (w : Walk) : Type 0 where
  pub sound : IsSound w
  pub placed : IsPlaced gs w
  pub pending : IsPending w

-- what is still ahead: the choices, and then the entries
abbrev pub ahead : List (List Lit) → Walk → ℕ
ahead gs w = (choices gs - spot gs w.levels.items) * (w.trace.size + 1) + (w.trace.size - length w.trace.entries)

-- propagation
pub record Settles (old new : Walk) : Type 0 where
  pub explained : Explained (known old.checker) nothing new.trace.entries
  pub grows : Grows old.trace.entries new.trace.entries
  pub size : new.trace.size ≡ old.trace.size
  pub checker : new.checker ≡ old.checker
  pub lists : new.lists.items ≡ old.lists.items
  pub levels : new.levels.items ≡ old.levels.items
  pub budget : new.budget ≡ old.budget

-- one more line, which is in the index too
pub record Keeps (old new : Walk) (line : Line) : Type 0 where
  pub formula : new.checker.formula ≡ old.checker.formula
  pub lines : new.checker.lines ≡ old.checker.lines ++ line ∷ []
  pub indexed : IsIndex (known new.checker) new.lists.items
  pub long : length new.lists.items ≡ length old.lists.items
  pub trace : new.trace ≡ old.trace
  pub levels : new.levels.items ≡ old.levels.items
  pub budget : new.budget ≡ old.budget

-- the trail ends before the decision at a place again, and then has its negation with a line as reason
pub record Returns (old new : Walk) (start number : ℕ) : Type 0 where
  pub level : Level
  pub off : (before : List Level) × TakesOff old.levels.items before level × (new.levels.items ≡ before ++ refuted level (start + 1) ∷ [])
  pub decided : level.decided ≡ true
  pub at : level.start ≡ start
  pub lit : Lit
  pub entry : IsLitAt old.trace.entries start lit
  pub entries : new.trace.entries ≡ take start old.trace.entries ++ (record { lit = negate lit; reason = Some number }) ∷ []
  pub size : new.trace.size ≡ old.trace.size
  pub head : new.head ≡ start
  pub left : new.left ≡ level.known
  pub checker : new.checker ≡ old.checker
  pub lists : new.lists.items ≡ old.lists.items
  pub budget : new.budget ≡ old.budget

-- a line is learned, and the walk goes back to the decision that it refutes
pub record Learns (old new : Walk) : Type 0 where
  pub mid : Walk
  pub line : Line
  pub start : ℕ
  pub below : length old.checker.lines < old.budget
  pub within : clause_variables line.clause ≤ old.trace.size
  pub learned : IsLearned nothing 0 old.trace.entries line.clause start
  pub keeps : Keeps old mid line
  pub returns : Returns mid new start (length (known old.checker))

-- the empty line is learned
pub record Refutes (old new : Walk) : Type 0 where
  pub line : Line
  pub below : length old.checker.lines < old.budget
  pub keeps : Keeps old new line
  pub clause : line.clause ≡ []

abbrev pub Fails : Walk → Walk → Turn → Type 0
Fails old new On = Learns old new
Fails old new (Ended Solved) = ⊥
Fails old new (Ended Refuted) = Refutes old new
Fails old new (Ended Spent) = (old.budget ≤ length old.checker.lines) × (new ≡ old)

-- a literal is decided
pub record Decides (old new : Walk) (depth value : ℕ) (lit : Lit) : Type 0 where
  pub entries : new.trace.entries ≡ old.trace.entries ++ (record { lit = lit; reason = None }) ∷ []
  pub size : new.trace.size ≡ old.trace.size
  pub short : length new.trace.entries ≤ new.trace.size
  pub levels : Puts old.levels.items new.levels.items
      (record { depth = depth; value = value; start = length old.trace.entries; known = length (known old.checker); decided = true })
  pub head : new.head ≡ length old.trace.entries
  pub left : new.left ≡ length (known old.checker)
  pub checker : new.checker ≡ old.checker
  pub lists : new.lists.items ≡ old.lists.items
  pub budget : new.budget ≡ old.budget

-- the first group without a true literal, from the last level's on, and its first literal without a value
pub record IsNext (gs : List (List Lit)) (w : Walk) (depth value : ℕ) (lit : Lit) : Type 0 where
  pub later : last_depth 0 w.levels.items ≤ depth
  pub within : depth < length gs
  pub earlier : is_decided (values w.trace.entries) (take depth gs) ≡ true
  pub untrue : list_any (is_true (values w.trace.entries)) (slice_index_or gs depth []) ≡ false
  pub valued : list_all (λ l. is_some (values w.trace.entries l.var)) (take value (slice_index_or gs depth [])) ≡ true
  pub at : slice_get (slice_index_or gs depth []) value ≡ Some lit
  pub open_yet : values w.trace.entries lit.var ≡ None

pub record Chosen (gs : List (List Lit)) (old new : Walk) : Type 0 where
  pub depth : ℕ
  pub value : ℕ
  pub lit : Lit
  pub is : IsNext gs old depth value lit
  pub decides : Decides old new depth value lit

abbrev pub Chooses : List (List Lit) → Walk → Walk → Turn → Type 0
Chooses gs old new On = Chosen gs old new
Chooses gs old new (Ended Solved) = (is_decided (values old.trace.entries) gs ≡ true) × (new ≡ old)
Chooses gs old new (Ended Refuted) = ⊥
Chooses gs old new (Ended Spent) = ⊥

-- what stays
pub record IsKept (f : List (List Lit)) (budget : ℕ) (w : Walk) : Type 0 where
  pub formula : w.checker.formula ≡ f
  pub allowed : w.budget ≡ budget

-- the trail's values satisfy the formula
pub record IsSolved (w : Walk) : Type 0 where
  pub holds : formula_true (completed (values w.trace.entries)) w.checker.formula ≡ true
  pub room : variables w.checker.formula ≤ w.trace.size

-- the empty line is the last one
pub record IsRefuted (w : Walk) : Type 0 where
  pub ends : EndsEmpty w.checker.lines
  pub distinct : AreDistinct w.checker.lines
  pub counted : 0 < w.budget

-- the budget is used up, and there were more choices than it
pub record IsSpent (gs : List (List Lit)) (w : Walk) : Type 0 where
  pub distinct : AreDistinct w.checker.lines
  pub many : w.budget ≤ length w.checker.lines
  pub over : w.budget < choices gs

abbrev pub EndsWith : List (List Lit) → Walk → End → Type 0
EndsWith gs w Solved = IsSolved w
EndsWith gs w Refuted = IsRefuted w
EndsWith gs w Spent = IsSpent gs w

-- how a turn ends: the walk goes on with less ahead, or it is at its end
abbrev pub Takes : List (List Lit) → Walk → Walk → Turn → Type 0
Takes gs old new On = IsWalking gs new × (ahead gs new < ahead gs old)
Takes gs old new (Ended e) = EndsWith gs new e

-- a walk that has done nothing yet
pub record Begins (f : List (List Lit)) (budget : ℕ) (w : Walk) : Type 0 where
  pub formula : w.checker.formula ≡ f
  pub lines : w.checker.lines ≡ []
  pub entries : w.trace.entries ≡ []
  pub size : w.trace.size ≡ variables f
  pub indexed : IsIndex f w.lists.items
  pub long : length w.lists.items ≡ 2 * variables f
  pub levels : w.levels.items ≡ []
  pub head : w.head ≡ 0
  pub left : w.left ≡ 0
  pub allowed : w.budget ≡ budget
