-- Values of terms, initial states, invariants and inputs of small machines, as the language has them.
use Rattle.std.proofs.Common.{Some, None, Ok, Err, ◌≡◌, ℕ, true, false, List, [], ◌∷◌, pos, neg_ℤ, refl}
use Rattle.std.specs.Ordering.{nat_cmp}
use Rattle.std.specs.FinMap as finite
use Rattle.asm_domain.specs.declared.value.Value.{Value}
use Rattle.asm_domain.specs.declared.value.Value.TheVariants.{Undef, Bool, Int, Elem}
use Rattle.asm_domain.specs.Universe.{Truths, Numbers, Named}
use Rattle.asm_sign.specs.declared.function.DeclaredDomain.{DeclaredDomain}
use Rattle.asm_sign.specs.declared.function.Function.{Function}
use Rattle.asm_sign.specs.declared.function.FunKind.{FunKind}
use Rattle.asm_sign.specs.declared.function.FunKind.TheVariants.{Static, Controlled, Shared, Monitored}
use Rattle.asm_source.specs.declared.sources.Place.{Place}
use Rattle.asm_node.specs.declared.operator.Op.{Op}
use Rattle.asm_node.specs.declared.operator.Op.TheVariants.{And, Or, Equal, Less, Plus, Idiv, Mod, IsDefined}
use Rattle.asm_node.specs.declared.operator.Quantifier.TheVariants.{Forall, Exist, ExistUnique}
use Rattle.asm_node.specs.declared.stop.Stop.TheVariants as stop
use Rattle.asm_node.specs.declared.term.Binder.{Binder}
use Rattle.asm_node.specs.Tree.{Tree, Const, Var, Within, Get, Oper, Cond, Let, Quant, none, more}
use Rattle.asm_node.specs.RuleTree.{Rule, Skip, Update, Choose}
use Rattle.asm_node.specs.Machine.{Machine, Definition, State, Input, no_input}
use Rattle.asm_node.specs.Term.{World, Gives, Needs, val, nowhere}
use Rattle.asm_node.specs.Taking.{Yields, Faults, by_words, by_paths, outcome}
use Rattle.asm_node.specs.Step.{world_at, initial, broken}
use Rattle.std.specs.Cmp.{nat_cmp_total}
use Rattle.asm_node.proofs.UpdateSets.{of_list}
use Rattle.asm_node.proofs.Revising.{get-shared}

abbrev here : Place
here = record { file = 0; at = 70 }

-- the numbers 1 to 3, the truth values, and an abstract domain with the constants `a` and `b`
abbrev domains : List DeclaredDomain
domains = record { name = None; domain = Numbers (pos 1 ∷ pos 2 ∷ pos 3 ∷ []) }
    ∷ record { name = None; domain = Truths }
    ∷ record { name = None; domain = Named 2 ((97 ∷ []) ∷ (98 ∷ []) ∷ []) } ∷ []

abbrev function : List ℕ → FunKind → List ℕ → ℕ → Function
function name kind domains codomain = record { name = name; kind = kind; domains = domains; codomain = codomain }

-- a kept number, two monitored truth values, a shared one, a kept one, a constant, and a function that doubles
abbrev functions : List Function
functions = function [] Controlled [] 0 ∷ function [] Monitored [] 1 ∷ function [] Monitored [] 1 ∷ function [] Shared [] 1 ∷ function [] Controlled [] 1
    ∷ function (98 ∷ []) Static [] 2 ∷ function [] Static (0 ∷ []) 0 ∷ []

abbrev both : Op → Tree → Tree → Tree
both o t u = Oper o (more t (more u none))

abbrev number : ℕ → Tree
number n = Const (Int (pos n))

abbrev x : Tree
x = Get 0 none

abbrev m : Tree
m = Get 1 none

abbrev n : Tree
n = Get 2 none

abbrev double : Tree → Tree
double t = Get 6 (more t none)

abbrev machine : List Definition → Rule → Machine
machine initial_terms main = record {
  signature = record { domains = domains; functions = functions };
  definitions = record { function = 6; parameters = 9 ∷ []; body = both Plus (Var 9) (Var 9) } ∷ [];
  initial_terms = initial_terms;
  rules = [];
  invariants = Const (Bool true) ∷ both Less x (number 3) ∷ [];
  main = main;
}

abbrev values : Value → List (ℕ × Value)
values v = (0, v) ∷ (3, Undef) ∷ (4, Undef) ∷ []

abbrev state : Value → State
state v = finite.from_entries (values v)

abbrev world_with : Value → World
world_with v = record { machine = machine [] (Skip here); state = state v; input = no_input }

abbrev world : World
world = world_with (Int (pos 2))

x_is : (v : Value) → finite.get (state v) 0 ≡ Some v
x_is v = finite.get-from_entries nat_cmp_total (values v) 0

-- `undef` is the same as itself alone, and no operator but the four tests tells it
pub undef_is_undef : val world nowhere (both Equal (Const Undef) (Const Undef)) ≡ Gives (Bool true)
undef_is_undef = refl

pub undef_is_no_element : val world nowhere (both Equal (Const Undef) x) ≡ Gives (Bool false)
undef_is_no_element = rw (x_is (Int (pos 2))) refl

pub and_is_strict : val world nowhere (both And (Const (Bool false)) (Const Undef)) ≡ Gives Undef
and_is_strict = refl

pub or_is_strict : val world nowhere (both Or (Const (Bool true)) (Const Undef)) ≡ Gives Undef
or_is_strict = refl

pub is_defined : val world nowhere (Oper IsDefined (more (Const Undef) none)) ≡ Gives (Bool false)
is_defined = refl

-- division truncates towards zero, a rest has the dividend's sign, and there is none by 0
pub quotient : val world nowhere (both Idiv (Const (Int (neg_ℤ (pos 7)))) (number 2)) ≡ Gives (Int (neg_ℤ (pos 3)))
quotient = refl

pub rest : val world nowhere (both Mod (Const (Int (neg_ℤ (pos 7)))) (number 2)) ≡ Gives (Int (neg_ℤ (pos 1)))
rest = refl

pub no_quotient : val world nowhere (both Idiv x (number 0)) ≡ Gives Undef
no_quotient = rw (x_is (Int (pos 2))) refl

-- a definition's value outside the codomain, and a value at an argument outside its domain, is `undef`
pub doubled : val (world_with (Int (pos 1))) nowhere (double x) ≡ Gives (Int (pos 2))
doubled = rw (x_is (Int (pos 1))) refl

pub outside_the_codomain : val world nowhere (double x) ≡ Gives Undef
outside_the_codomain = rw (x_is (Int (pos 2))) refl

pub outside_the_domain : val world nowhere (double (number 0)) ≡ Gives Undef
outside_the_domain = refl

-- a constant of an abstract domain is its element
pub constant : val world nowhere (Get 5 none) ≡ Gives (Elem 2 1)
constant = refl

-- `Within` is `undef` outside the domain; 4,294,967,295 is the domain of all numbers from -2^31 to 2^31
pub within : val world nowhere (Within 0 (both Plus x x)) ≡ Gives Undef
within = rw (x_is (Int (pos 2))) refl

pub within_whole : val world nowhere (Within 4294967295 (number 2147483648)) ≡ Gives (Int (pos 2147483648))
within_whole = refl

pub beyond_whole : val world nowhere (Within 4294967295 (number 2147483649)) ≡ Gives Undef
beyond_whole = refl

-- a `let` hides an outer variable of the same number in its body alone
pub let_in_let : val world nowhere (Let 0 x (both Plus (Let 0 (number 3) (Var 0)) (Var 0))) ≡ Gives (Int (pos 5))
let_in_let = rw (x_is (Int (pos 2))) refl

abbrev binder : ℕ → Binder
binder k = record { variable = k; domain = 0 }

-- quantifiers over one variable and over two
pub exist : val world nowhere (Quant Exist (binder 0 ∷ []) (both Less (Var 0) x)) ≡ Gives (Bool true)
exist = rw (x_is (Int (pos 2))) refl

pub exist_unique : val world nowhere (Quant ExistUnique (binder 0 ∷ []) (both Less (Var 0) x)) ≡ Gives (Bool true)
exist_unique = rw (x_is (Int (pos 2))) refl

pub exist_two : val world nowhere (Quant ExistUnique (binder 0 ∷ []) (both Less (Var 0) (number 3))) ≡ Gives (Bool false)
exist_two = refl

pub forall : val world nowhere (Quant Forall (binder 0 ∷ binder 1 ∷ []) (both Less (Var 0) (both Plus (Var 1) (number 3)))) ≡ Gives (Bool true)
forall = refl

pub not_forall : val world nowhere (Quant Forall (binder 0 ∷ binder 1 ∷ []) (both Less (Var 0) (both Plus (Var 1) (number 2)))) ≡ Gives (Bool false)
not_forall = refl

-- one `undef` guard makes a quantifier `undef`: the quotient by 0
pub undef_guard : val world nowhere (Quant Exist (binder 0 ∷ []) (both Less (both Idiv (number 3) (both Plus (Var 0) (Const (Int (neg_ℤ (pos 1)))))) x)) ≡ Gives Undef
undef_guard = refl

-- the first need in the order of evaluation is the answer
pub first_need : val world nowhere (both And n m) ≡ Needs 2
first_need = rw (finite.get-empty nat_cmp 2) refl

-- a conditional reads its guard and the taken branch alone, and is `undef` where the guard is
pub taken_branch : val world nowhere (Cond (both Equal x x) x m) ≡ Gives (Int (pos 2))
taken_branch = rw (x_is (Int (pos 2))) refl

pub undef_condition : val world nowhere (Cond (Const Undef) x x) ≡ Gives Undef
undef_condition = refl

-- an update that reads two monitored locations
abbrev conjunction : Rule
conjunction = Update here 4 none (both And m n)

pub inputs_given : (i : Input) → finite.get i 1 ≡ Some (Bool true) → finite.get i 2 ≡ Some (Bool true) → outcome by_words (world_at (machine [] conjunction) (state Undef) i) conjunction [] ≡ Yields (of_list ((4, Bool true) ∷ [])) []
inputs_given i first second = rw (first, second) refl

pub no_input_given : outcome by_words (world_at (machine [] conjunction) (state Undef) no_input) conjunction [] ≡ Faults (stop.Input 1) []
no_input_given = rw (finite.get-empty nat_cmp 1) refl

-- a shared location has the input's value in the step
abbrev copy : Rule
copy = Update here 4 none (Get 3 none)

pub shared_given : (i : Input) → finite.get i 3 ≡ Some (Bool true) → outcome by_words (world_at (machine [] copy) (state Undef) i) copy [] ≡ Yields (of_list ((4, Bool true) ∷ [])) []
shared_given i given = rw (get-shared (record { domains = domains; functions = functions }) (values Undef) i 3, given) refl

-- the initial state, and the first bad initial value
abbrev initially : ℕ → Tree → Definition
initially f t = record { function = f; parameters = []; body = t }

pub initial_state : initial (machine (initially 0 (number 3) ∷ []) (Skip here)) ≡ Ok (state (Int (pos 3)))
initial_state = refl

pub bad_initial : initial (machine (initially 0 (number 7) ∷ []) (Skip here)) ≡ Err (stop.BadInitial 0 (Int (pos 7)))
bad_initial = refl

-- the first invariant that isn't true, also where it is `undef`
pub all_hold : broken (machine [] (Skip here)) (state (Int (pos 2))) ≡ None
all_hold = rw (x_is (Int (pos 2))) refl

pub second_fails : broken (machine [] (Skip here)) (state (Int (pos 3))) ≡ Some 2
second_fails = rw (x_is (Int (pos 3))) refl

pub second_is_undef : broken (machine [] (Skip here)) (state Undef) ≡ Some 2
second_is_undef = rw (x_is Undef) refl

-- a choice by its path, which has to be a candidate's
abbrev choose : Rule
choose = Choose here (binder 0 ∷ []) (both Less (Var 0) (number 3)) (Update here 0 none (Var 0)) (Skip here)

pub chosen : outcome (by_paths (λ path. Some (Int (pos 2) ∷ []))) world choose tt ≡ Yields (of_list ((0, Int (pos 2)) ∷ [])) tt
chosen = refl

pub no_candidate : outcome (by_paths (λ path. Some (Int (pos 3) ∷ []))) world choose tt ≡ Faults (stop.Choice here) tt
no_candidate = refl
