-- What contracts see of a builder, and what holds of each circuit.
use Rattle.std.specs.Prelude.{◌≡◌, ℕ, zero, suc, ◌+◌, ◌<◌, ◌≤◌, Bool, true, false, not, ◌&&◌, List, [], ◌∷◌, ◌++◌, length, is_none, is_some, if◌then◌else◌}
use Rattle.std.specs.List.{list_all, list_any}
use Rattle.std.specs.Bool.{beq}
use Rattle.cnf_base.specs.declared.lit.Lit.{Lit}
use Rattle.cnf_base.specs.Clauses.{lit_true, formula_true, variables}
use Rattle.cnf_base.specs.Known.{Partial, is_true}
use Rattle.cnf_base.specs.Derivation.{lone, is_all_false}
use Rattle.cnf_gate.specs.Gates.{literals}

-- group and gate clauses, required clauses, groups, and the number of variables
pub record Built : Type 0 where
  pub fixed : List (List Lit)
  pub required : List (List Lit)
  pub groups : List (List Lit)
  pub count : ℕ

-- exactly one literal of a list is true
abbrev pub exactly_one : (ℕ → Bool) → List Lit → Bool
exactly_one v [] = false
exactly_one v (l ∷ ls) = if lit_true v l then not (list_any (lit_true v) ls) else exactly_one v ls

-- exactly one literal of each group is true
abbrev pub is_choice : (ℕ → Bool) → List (List Lit) → Bool
is_choice v groups = list_all (exactly_one v) groups

-- a clause in which nothing is to do: it has a true literal, or two literals without a value
abbrev pub is_quiet : Partial → List (List Lit) → Bool
is_quiet p f = list_all (λ c. is_none (lone p c) && not (is_all_false p c)) f

-- some literal of each group is true
abbrev pub is_decided : Partial → List (List Lit) → Bool
is_decided p groups = list_all (list_any (is_true p)) groups

-- whether two assignments make the same literals of the groups true
abbrev pub is_agreed : (ℕ → Bool) → (ℕ → Bool) → List (List Lit) → Bool
is_agreed v w groups = list_all (λ g. list_all (λ l. beq (lit_true v l) (lit_true w l)) g) groups

-- whether the literal at this place of a group is true, and no other
abbrev pub is_only_at : (ℕ → Bool) → List Lit → ℕ → Bool
is_only_at v [] k = false
is_only_at v (l ∷ g) zero = lit_true v l && not (list_any (lit_true v) g)
is_only_at v (l ∷ g) (suc k) = not (lit_true v l) && is_only_at v g k

-- whether the chosen literals are true, one per group by its place, and no other of the groups
abbrev pub is_chosen : (ℕ → Bool) → List (List Lit) → List ℕ → Bool
is_chosen v [] [] = true
is_chosen v [] (k ∷ ks) = false
is_chosen v (g ∷ gs) [] = false
is_chosen v (g ∷ gs) (k ∷ ks) = is_only_at v g k && is_chosen v gs ks

-- a choice of one literal per group, by its place
abbrev pub ArePlaces : List (List Lit) → List ℕ → Type 0
ArePlaces [] [] = Unit {0}
ArePlaces [] (k ∷ ks) = ⊥
ArePlaces (g ∷ gs) [] = ⊥
ArePlaces (g ∷ gs) (k ∷ ks) = (k < length g) × ArePlaces gs ks

-- the variables of a list of literals rise from this number on
abbrev pub AreRising : ℕ → List Lit → Type 0
AreRising n [] = Unit {0}
AreRising n (l ∷ ls) = (n ≤ l.var) × AreRising (l.var + 1) ls

-- whether a group has a literal
abbrev pub is_filled : List Lit → Bool
is_filled [] = false
is_filled (l ∷ g) = true

-- what holds of group and gate clauses
pub record IsDetermined (fixed groups : List (List Lit)) (count : ℕ) : Type 0 where
  pub counted : variables fixed ≡ count
  pub grouped : variables groups ≤ count
  -- two assignments with the same group literals are the same
  pub unique : (v w : ℕ → Bool) → formula_true v fixed ≡ true → formula_true w fixed ≡ true → is_agreed v w groups ≡ true
      → (n : ℕ) → n < count → v n ≡ w n
  -- each choice has an assignment
  pub exists : (u : ℕ → Bool) → is_choice u groups ≡ true
      → (v : ℕ → Bool) × (formula_true v fixed ≡ true) × (is_agreed v u groups ≡ true)
  -- unit propagation from one true literal of each group values every variable
  pub propagates : (p : Partial) → is_decided p groups ≡ true → is_quiet p fixed ≡ true → (n : ℕ) → n < count → is_some (p n) ≡ true

-- in every assignment of the group and gate clauses exactly one literal of each group is true
abbrev pub AlwaysChoose : List (List Lit) → List (List Lit) → Type 0
AlwaysChoose fixed groups = (v : ℕ → Bool) → formula_true v fixed ≡ true → is_choice v groups ≡ true

-- what holds of groups: exactly one literal of each is true, each is quiet as a clause where the group and gate clauses are, each has a literal, all are positive, and every choice can be made
pub record AreGroups (fixed groups : List (List Lit)) : Type 0 where
  pub one : AlwaysChoose fixed groups
  pub stated : (p : Partial) → is_quiet p fixed ≡ true → is_quiet p groups ≡ true
  pub filled : list_all is_filled groups ≡ true
  pub positive : list_all (list_all (λ l. l.positive)) groups ≡ true
  pub free : (places : List ℕ) → ArePlaces groups places → (u : ℕ → Bool) × (is_chosen u groups places ≡ true)

-- what a builder keeps true of its parts
pub record IsBuilt (fixed required groups : List (List Lit)) (count size : ℕ) : Type 0 where
  pub determined : IsDetermined fixed groups count
  pub grouped : AreGroups fixed groups
  pub posed : variables required ≤ count
  pub sized : literals fixed + literals required ≡ size
  pub few : count ≤ 2000000
  pub short : size ≤ 30000000

-- gate clauses were added, and nothing else changed but the number of variables
pub record AddsGate (old new : Built) : Type 0 where
  pub more : List (List Lit)
  pub fixed : new.fixed ≡ old.fixed ++ more
  pub required : new.required ≡ old.required
  pub groups : new.groups ≡ old.groups

-- a group and its clauses were added, and nothing else changed but the number of variables
pub record AddsGroup (old new : Built) (g : List Lit) : Type 0 where
  pub more : List (List Lit)
  pub fixed : new.fixed ≡ old.fixed ++ more
  pub required : new.required ≡ old.required
  pub groups : new.groups ≡ old.groups ++ g ∷ []

-- how many literals a builder has in all clauses
abbrev pub size_of : Built → ℕ
size_of b = literals b.fixed + literals b.required

-- a builder has grown: each assignment of its group and gate clauses is one of those before, its variables are the old ones and perhaps more, and these groups and required clauses came behind the old ones
pub record Grows (old new : Built) (groups required : List (List Lit)) : Type 0 where
  pub holds : (v : ℕ → Bool) → formula_true v new.fixed ≡ true → formula_true v old.fixed ≡ true
  pub count : old.count ≤ new.count
  pub groups_are : new.groups ≡ old.groups ++ groups
  pub required_are : new.required ≡ old.required ++ required
