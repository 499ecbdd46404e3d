-- What literals say of a rule.
use Rattle.std.specs.Prelude.{ℕ, suc, Bool, true, false, List, [], ◌∷◌, ◌++◌, map}
use Rattle.std.specs.FinSet as set
use Rattle.asm_source.specs.declared.sources.Place.{Place}
use Rattle.cnf_base.specs.Clauses.{lit_true}
use Rattle.asm_domain.specs.declared.value.Value.{Value}
use Rattle.asm_node.specs.declared.path.Step.{Step}
use Rattle.asm_node.specs.declared.path.Step.TheVariants.{Part, Called, Bound}
use Rattle.asm_node.specs.declared.term.Binder.{Binder}
use Rattle.asm_node.specs.Tree.{Tree, Const, Trees}
use Rattle.asm_node.specs.RuleTree.{Rule, Rules, none, more}
use Rattle.asm_node.specs.Machine.{Macro}
use Rattle.asm_node.specs.Term.{World, Places, val, put, put_tuple}
use Rattle.asm_node.specs.Taking.{Path, Bodies, Choosing, Yields, taken, by_paths, guarded, bodies_within, stand_for}
use Rattle.enc_group.specs.declared.group.Entry.{Entry}
use Rattle.enc_update.specs.declared.pair.UpdateBits.{UpdateBits}
use Rattle.enc_update.specs.Updates.{Taken, Takes}

-- where a rule is taken: what is chosen at each path, what macro rules give, the path of the rule, the world, and what its
-- variables stand for
pub record Setting : Type 0 where
  pub choosing : Choosing
  pub bodies : Bodies (Unit {0})
  pub path : Path
  pub world : World
  pub places : Places

-- what the rule gives there
abbrev pub given_by : Setting → Rule → Taken
given_by s r = taken (by_paths s.choosing) s.bodies s.path s.world s.places r tt

-- the setting of a part, one step further on the path
abbrev pub inside : Setting → Step → Setting
inside s step = record s { path = s.path ++ step ∷ [] }

-- the setting of a body where the variables have the values
abbrev pub bound_to : Setting → List Binder → List Value → Setting
bound_to s bs vs = record s { path = s.path ++ Bound vs ∷ []; places = put_tuple bs vs s.places }

-- the literals mean what the rule gives
abbrev pub MeansRule : (ℕ → Bool) → UpdateBits → Setting → Rule → Type 0
MeansRule v bits s r = Takes v bits.pairs bits.fault (given_by s r)

-- what the parts from number k on give
abbrev pub parts_given : Setting → ℕ → Rules → List Taken
parts_given s k none = []
parts_given s k (more r rs) = given_by (inside s (Part k)) r ∷ parts_given s (suc k) rs

-- what a body under a guard gives for a tuple
abbrev pub instance_given : Setting → Place → List Binder → Tree → Rule → List Value → Taken
instance_given s place bs g p vs = guarded place (val s.world (put_tuple bs vs s.places) g) (given_by (bound_to s bs vs) p) tt

-- what a rule gives under a condition; else the empty set
abbrev pub taken_if : Bool → Taken → Taken
taken_if true a = a
taken_if false a = Yields set.empty tt

-- what the body of a `let` gives where the variable has the value
abbrev pub let_given : Setting → ℕ → Rule → Value → Taken
let_given s x p y = given_by (record s { path = s.path ++ Bound (y ∷ []) ∷ []; places = put x (Const y) s.places }) p

-- what the body gives for each value of the term's group, under its literal
abbrev pub cases_given : (ℕ → Bool) → (Value → Taken) → List Entry → List Taken
cases_given v f es = map (λ e. taken_if (lit_true v e.lit) (f e.value)) es

-- where the body of a macro rule is taken: one level of calls deeper, its parameters in the place of the actual terms
abbrev pub called_in : Setting → ℕ → ℕ → Macro → Trees → Setting
called_in s n f m ts = record s { bodies = bodies_within (by_paths s.choosing) n; path = s.path ++ Called f ∷ []; places = stand_for m.parameters s.places ts }
