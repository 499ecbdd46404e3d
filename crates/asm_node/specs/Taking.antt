-- What a rule gives: its update set, or the first fault.
use Rattle.std.specs.Prelude.{ℕ, zero, suc, ◌%◌, ◌||◌, List, [], ◌∷◌, ◌++◌, Option, Some, None, slice_get, slice_index_or, length, if◌then◌else◌}
use Rattle.std.specs.List.{list_any}
use Rattle.std.specs.FinSet as set
use Rattle.asm_source.specs.declared.sources.Place.{Place}
use Rattle.asm_domain.specs.declared.value.Value.{Value}
use Rattle.asm_sign.specs.declared.function.Function.{Function}
use Rattle.asm_node.specs.declared.stop.Stop.{Stop}
use Rattle.asm_node.specs.declared.stop.Stop.TheVariants.{Input, UndefGuard, BadArgument, BadValue, Choice}
use Rattle.asm_node.specs.declared.path.Step.{Step}
use Rattle.asm_node.specs.declared.path.Step.TheVariants.{Part, Called, Bound}
use Rattle.asm_node.specs.declared.term.Binder.{Binder}
use Rattle.asm_node.specs.Tree.{Const, Trees, more as more_terms, Within}
use Rattle.asm_node.specs.RuleTree.{Rule, Rules, Skip, Update, Par, Seq, If, Let, Forall, Choose, Call, none, more}
use Rattle.asm_node.specs.Values.{is_element, is_undef, same_all}
use Rattle.asm_node.specs.Machine.{Macro, slot_at, tuples_of}
use Rattle.asm_node.specs.Term.{World, Outcome, Gives, Needs, val, vals, branch, Places, nowhere, put, put_tuple, close}
use Rattle.asm_node.specs.UpdateSet.{UpdateSet, one, consistent, override, fire}

-- the way to a part of a rule: parts by their numbers, macros' bodies, and bodies under bound values
abbrev pub Path : Type 0
Path = List Step

-- what an attempt ends with, and what is left then of that by which choices are made: its answer, or the first fault
pub data Attempt (S A : Type 0) : Type 0 where
  Yields : (answer : A) (left : S) → Attempt S A
  Faults : (stop : Stop) (left : S) → Attempt S A

-- how one of the candidates is chosen at a path and a place
abbrev pub Pick : Type 0 → Type 0
Pick S = Path → Place → List (List Value) → S → Attempt S (List Value)

-- what macro rules give: at a path, in a world, with what the caller's variables stand for, and the actual terms
abbrev pub Bodies : Type 0 → Type 0
Bodies S = ℕ → Path → World → Places → Trees → S → Attempt S UpdateSet

-- the world after a set is fired
abbrev pub fired : World → UpdateSet → World
fired w u = record w { state = fire w.state u }

-- the parameters stand for the actual terms, closed by the caller's variables, inside their domains
abbrev pub stand_for : List Binder → Places → Trees → Places
stand_for (p ∷ ps) e (more_terms t ts) = put p.variable (Within p.domain (close e t)) (stand_for ps e ts)
stand_for _ e _ = nowhere

module _ {S : Type 0} where
  -- goes on with the answer; a fault ends the attempt
  abbrev pub and_then : {A B : Type 0} → Attempt S A → (A → S → Attempt S B) → Attempt S B
  and_then (Yields a s) f = f a s
  and_then (Faults stop s) f = Faults stop s

  -- goes on with the answer of an evaluation; a need is a fault
  abbrev pub evaluated : {A B : Type 0} → Outcome A → S → (A → Attempt S B) → Attempt S B
  evaluated (Gives a) s f = f a
  evaluated (Needs l) s f = Faults (Input l) s

  -- the one pair of a location and a value, which has to be `undef` or in the codomain
  abbrev pub valued : World → Place → ℕ → ℕ → Value → S → Attempt S UpdateSet
  valued w place codomain l v s =
      if is_undef v || is_element w.machine.signature.domains codomain v then Yields (one l v) s else Faults (BadValue place l v) s

  -- an update of a location; without a location an argument is bad, and the value isn't evaluated
  abbrev pub updated : World → Place → ℕ → Option ℕ → Outcome Value → S → Attempt S UpdateSet
  updated w place codomain (Some l) value s = evaluated value s (λ v. valued w place codomain l v s)
  updated w place codomain None value s = Faults (BadArgument place) s

  -- an update of a function at arguments
  abbrev pub update : World → Place → ℕ → Option Function → List Value → Outcome Value → S → Attempt S UpdateSet
  update w place f (Some function) vs value s = updated w place function.codomain (slot_at w.machine.signature f vs) value s
  update w place f None vs value s = Faults (BadArgument place) s

  -- the union of what the instances of a rule give for tuples in order, after the set so far
  abbrev pub each : (List Value → S → Attempt S UpdateSet) → List (List Value) → UpdateSet → S → Attempt S UpdateSet
  each instance [] u s = Yields u s
  each instance (tuple ∷ tuples) u s = and_then (instance tuple s) (λ v s. each instance tuples (set.union u v) s)

  -- what a body gives where its guard is true, and nothing where it is false
  abbrev pub guarded : Place → Outcome Value → Attempt S UpdateSet → S → Attempt S UpdateSet
  guarded place guard body s = evaluated guard s (λ v. branch v body (Yields set.empty s) (Faults (UndefGuard place) s))

  -- the tuples whose guard is true in order, after those so far
  abbrev pub candidates : Place → (List Value → Outcome Value) → List (List Value) → List (List Value) → S → Attempt S (List (List Value))
  candidates place guard [] found s = Yields found s
  candidates place guard (tuple ∷ tuples) found s =
      evaluated (guard tuple) s (λ v.
      branch v (candidates place guard tuples (found ++ tuple ∷ []) s) (candidates place guard tuples found s) (Faults (UndefGuard place) s))

  -- what is given where there are candidates, and where there are none
  abbrev pub chosen : List (List Value) → Attempt S UpdateSet → Attempt S UpdateSet → Attempt S UpdateSet
  chosen [] body otherwise = otherwise
  chosen (tuple ∷ tuples) body otherwise = body

  -- what a later part adds to the set of the part before it, which stands alone where it is inconsistent
  abbrev pub after_set : UpdateSet → S → (S → Attempt S UpdateSet) → Attempt S UpdateSet
  after_set u s later = if consistent u then and_then (later s) (λ v s. Yields (override u v) s) else Yields u s

  abbrev mutual
    -- `skip` gives the empty set
    -- an update evaluates its arguments, finds the location, evaluates the value, and gives their pair
    -- `par` gives the union of what its parts give in the same state
    -- `seq` takes its second part in the state after the first, and gives the first set overridden by the second
    -- `if` gives what the branch gives that its guard takes
    -- `let` gives what its body gives where the variable stands for the term's value
    -- `forall` gives the union of what the body gives for the tuples whose guard is true
    -- `choose` gives what the body gives for the chosen candidate, and without candidates what its other rule gives
    -- a call gives what the macro's body gives for the actual terms, which are read anew at each use
    pub taken : Pick S → Bodies S → Path → World → Places → Rule → S → Attempt S UpdateSet
    taken pick bodies path w e (Skip place) s = Yields set.empty s
    taken pick bodies path w e (Update place f ts t) s =
        evaluated (vals w e ts) s (λ vs. update w place f (slice_get w.machine.signature.functions f) vs (val w e t) s)
    taken pick bodies path w e (Par place rs) s = taken_all pick bodies path 0 w e rs set.empty s
    taken pick bodies path w e (Seq place p q) s =
        and_then (taken pick bodies (path ++ Part 0 ∷ []) w e p s) (λ u s.
        after_set u s (λ s. taken pick bodies (path ++ Part 1 ∷ []) (fired w u) e q s))
    taken pick bodies path w e (If place g p q) s =
        evaluated (val w e g) s (λ v.
        branch v (taken pick bodies (path ++ Part 0 ∷ []) w e p s) (taken pick bodies (path ++ Part 1 ∷ []) w e q s) (Faults (UndefGuard place) s))
    taken pick bodies path w e (Let place x t p) s =
        evaluated (val w e t) s (λ v. taken pick bodies (path ++ Bound (v ∷ []) ∷ []) w (put x (Const v) e) p s)
    taken pick bodies path w e (Forall place bs g p) s =
        each (λ vs s. guarded place (val w (put_tuple bs vs e) g) (taken pick bodies (path ++ Bound vs ∷ []) w (put_tuple bs vs e) p s) s)
        (tuples_of w.machine.signature bs) set.empty s
    taken pick bodies path w e (Choose place bs g p q) s =
        and_then (candidates place (λ vs. val w (put_tuple bs vs e) g) (tuples_of w.machine.signature bs) [] s) (λ found s.
        chosen found
        (and_then (pick path place found s) (λ vs s. taken pick bodies (path ++ Bound vs ∷ []) w (put_tuple bs vs e) p s))
        (taken pick bodies (path ++ Part 1 ∷ []) w e q s))
    taken pick bodies path w e (Call place f ts) s = bodies f (path ++ Called f ∷ []) w e ts s

    -- the union of what the parts from number k on give in order, after the set so far
    pub taken_all : Pick S → Bodies S → Path → ℕ → World → Places → Rules → UpdateSet → S → Attempt S UpdateSet
    taken_all pick bodies path k w e none u s = Yields u s
    taken_all pick bodies path k w e (more r rs) u s =
        and_then (taken pick bodies (path ++ Part k ∷ []) w e r s) (λ v s. taken_all pick bodies path (suc k) w e rs (set.union u v) s)

  abbrev pub body_taken : Pick S → Bodies S → Path → World → Places → Option Macro → Trees → S → Attempt S UpdateSet
  body_taken pick bodies path w e (Some m) ts s = taken pick bodies path w (stand_for m.parameters e ts) m.body s
  body_taken pick bodies path w e None ts s = Yields set.empty s

  -- what macro rules give where at most n of them stand inside one another
  abbrev pub bodies_within : Pick S → ℕ → Bodies S
  bodies_within pick zero f path w e ts s = Yields set.empty s
  bodies_within pick (suc n) f path w e ts s = body_taken pick (bodies_within pick n) path w e (slice_get w.machine.rules f) ts s

  -- what a rule without free variables gives: in a model no chain of rules is longer than 32
  abbrev pub outcome : Pick S → World → Rule → S → Attempt S UpdateSet
  outcome pick w rule s = taken pick (bodies_within pick 32) [] w nowhere rule s

-- by words: a choice among n candidates takes the next word, and the candidate at the word's rest by n
abbrev pub by_words : Pick (List ℕ)
by_words path place found [] = Faults (Choice place) []
by_words path place found (word ∷ words) = Yields (slice_index_or found (word % length found) []) words

-- what is chosen at each path
abbrev pub Choosing : Type 0
Choosing = Path → Option (List Value)

abbrev pub candidate : Place → List (List Value) → Option (List Value) → Attempt (Unit {0}) (List Value)
candidate place found (Some tuple) = if list_any (same_all tuple) found then Yields tuple tt else Faults (Choice place) tt
candidate place found None = Faults (Choice place) tt

-- by paths: each choice is made at its path, and has to be one of the candidates
abbrev pub by_paths : Choosing → Pick (Unit {0})
by_paths choosing path place found s = candidate place found (choosing path)
