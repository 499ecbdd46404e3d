-- More levels of macro rules give the same.
use Rattle.std.proofs.Common.{◌≡◌, ℕ, zero, suc, ◌≤◌, [], ◌∷◌, ◌++◌, Option, Some, None, slice_get, refl, arith}
use Rattle.std.specs.FinSet as set
use Rattle.asm_node.specs.declared.stop.Stop.TheVariants.{UndefGuard}
use Rattle.asm_node.specs.declared.path.Step.TheVariants.{Part, Called, Bound}
use Rattle.asm_node.specs.Tree.{Const, Trees}
use Rattle.asm_node.specs.RuleTree.{Rule, Rules, Skip, Update, Par, Seq, If, Let, Forall, Choose, Call, none, more}
use Rattle.asm_node.specs.Machine.{Machine, Macro, State, Input, tuples_of}
use Rattle.asm_node.specs.Term.{World, Places, val, put, put_tuple, branch}
use Rattle.asm_node.specs.UpdateSet.{UpdateSet, fire}
use Rattle.asm_node.specs.Reads.{OfNumbers, CallsOnly, CallOnly, MacroCallsOnly, may_be_called}
use Rattle.asm_node.specs.Taking.{Faults, Pick, Bodies, Path, and_then, evaluated, each, guarded, candidates, chosen, after_set, taken, taken_all, body_taken, bodies_within, stand_for}
use Rattle.asm_node.specs.WellFormed.{IsWellFormed}
use Rattle.asm_laws.specs.Levels.{HasOneOutcome}

module _ {S : Type 0} (pick : Pick S) (m : Machine) (input : Input) where
  abbrev pub At : State → World
  At s = record { machine = m; state = s; input = input }

  -- two meanings of macro rules that agree on those of which it holds
  abbrev pub AgreeOn : OfNumbers → Bodies S → Bodies S → Type 0
  AgreeOn holds bodies bodies' = (f : ℕ) (path : Path) (s : State) (e : Places) (ts : Trees) (left : S) → holds f → bodies f path (At s) e ts left ≡ bodies' f path (At s) e ts left

  module _ (holds : OfNumbers) (bodies bodies' : Bodies S) (agree : AgreeOn holds bodies bodies') where
    mutual
      pub taken_same : (r : Rule) (path : Path) (s : State) (e : Places) (left : S) → CallsOnly holds r → taken pick bodies path (At s) e r left ≡ taken pick bodies' path (At s) e r left
      taken_same (Skip place) path s e left h = refl
      taken_same (Update place f ts t) path s e left h = refl
      taken_same (Par place rs) path s e left h = taken_all_same rs path 0 s e set.empty left h
      taken_same (Seq place p q) path s e left h = λ i.
          and_then (taken_same p (path ++ Part 0 ∷ []) s e left h.0 i) (λ u left. after_set u left (λ left. taken_same q (path ++ Part 1 ∷ []) (fire s u) e left h.1 i))
      taken_same (If place g p q) path s e left h = λ i.
          evaluated (val (At s) e g) left (λ v. branch v (taken_same p (path ++ Part 0 ∷ []) s e left h.0 i) (taken_same q (path ++ Part 1 ∷ []) s e left h.1 i) (Faults (UndefGuard place) left))
      taken_same (Let place x t p) path s e left h = λ i. evaluated (val (At s) e t) left (λ v. taken_same p (path ++ Bound (v ∷ []) ∷ []) s (put x (Const v) e) left h i)
      taken_same (Forall place bs g p) path s e left h = λ i.
          each (λ vs left. guarded place (val (At s) (put_tuple bs vs e) g) (taken_same p (path ++ Bound vs ∷ []) s (put_tuple bs vs e) left h i) left) (tuples_of m.signature bs) set.empty left
      taken_same (Choose place bs g p q) path s e left h = λ i.
          and_then (candidates place (λ vs. val (At s) (put_tuple bs vs e) g) (tuples_of m.signature bs) [] left)
          (λ found left. chosen found
          (and_then (pick path place found left) (λ vs left. taken_same p (path ++ Bound vs ∷ []) s (put_tuple bs vs e) left h.0 i))
          (taken_same q (path ++ Part 1 ∷ []) s e left h.1 i))
      taken_same (Call place f ts) path s e left h = agree f (path ++ Called f ∷ []) s e ts left h

      pub taken_all_same : (rs : Rules) (path : Path) (k : ℕ) (s : State) (e : Places) (u : UpdateSet) (left : S) → CallOnly holds rs → taken_all pick bodies path k (At s) e rs u left ≡ taken_all pick bodies' path k (At s) e rs u left
      taken_all_same none path k s e u left h = refl
      taken_all_same (more r rs) path k s e u left h = λ i.
          and_then (taken_same r (path ++ Part k ∷ []) s e left h.0 i) (λ v left. taken_all_same rs path (suc k) s e (set.union u v) left h.1 i)

  body_same : (holds : OfNumbers) (bodies bodies' : Bodies S) (agree : AgreeOn holds bodies bodies') (o : Option Macro) (path : Path) (s : State) (e : Places) (ts : Trees) (left : S) → MacroCallsOnly holds o
      → body_taken pick bodies path (At s) e o ts left ≡ body_taken pick bodies' path (At s) e o ts left
  body_same holds bodies bodies' agree None path s e ts left h = refl
  body_same holds bodies bodies' agree (Some macro) path s e ts left h = taken_same holds bodies bodies' agree macro.body path s (stand_for macro.parameters e ts) left h

  -- from the levels on that a macro rule needs, it gives the same
  pub bodies_same : (n k : ℕ) → n ≤ k → AgreeOn (may_be_called m n) (bodies_within pick k) (bodies_within pick n)
  bodies_same zero k le f path s e ts left h = absurd h
  bodies_same (suc n) zero le f path s e ts left h = absurd (omega (arith, le))
  bodies_same (suc n) (suc k) le f path s e ts left h =
      body_same (may_be_called m n) (bodies_within pick k) (bodies_within pick n) (bodies_same n k (omega (arith, le))) (slice_get m.rules f) path s e ts left h

mutual
  calls_any : (holds : OfNumbers) (all : (f : ℕ) → holds f) (r : Rule) → CallsOnly holds r
  calls_any holds all (Skip place) = tt
  calls_any holds all (Update place f ts t) = tt
  calls_any holds all (Par place rs) = call_any holds all rs
  calls_any holds all (Seq place p q) = (calls_any holds all p, calls_any holds all q)
  calls_any holds all (If place g p q) = (calls_any holds all p, calls_any holds all q)
  calls_any holds all (Let place x t p) = calls_any holds all p
  calls_any holds all (Forall place bs g p) = calls_any holds all p
  calls_any holds all (Choose place bs g p q) = (calls_any holds all p, calls_any holds all q)
  calls_any holds all (Call place f ts) = all f

  call_any : (holds : OfNumbers) (all : (f : ℕ) → holds f) (rs : Rules) → CallOnly holds rs
  call_any holds all none = tt
  call_any holds all (more r rs) = (calls_any holds all r, call_any holds all rs)

-- in a well-formed model 32 levels suffice
pub one_outcome : {S : Type 0} (pick : Pick S) (w : World) → IsWellFormed w.machine → (r : Rule) → HasOneOutcome pick w r
one_outcome pick w well r k path e left le =
    taken_same pick w.machine w.input (may_be_called w.machine 32) (bodies_within pick k) (bodies_within pick 32) (bodies_same pick w.machine w.input 32 k le) r path w.state e left
    (calls_any (may_be_called w.machine 32) well.rules_end r)
