-- Steps of small machines, as the language has them.
use Rattle.std.proofs.Common.{None, Ok, Err, ◌≡◌, ℕ, true, List, [], ◌∷◌, pos, refl, ap, ◌∙◌}
use Rattle.asm_source.specs.declared.sources.Place.{Place}
use Rattle.asm_domain.specs.declared.value.Value.{Value}
use Rattle.asm_domain.specs.declared.value.Value.TheVariants.{Undef, Bool, Int}
use Rattle.asm_domain.specs.Universe.{Numbers}
use Rattle.asm_sign.specs.declared.function.DeclaredDomain.{DeclaredDomain}
use Rattle.asm_sign.specs.declared.function.Function.{Function}
use Rattle.asm_sign.specs.declared.function.FunKind.TheVariants.{Controlled}
use Rattle.asm_node.specs.declared.operator.Op.{Op}
use Rattle.asm_node.specs.declared.operator.Op.TheVariants.{Plus, Greater}
use Rattle.asm_node.specs.declared.stop.Stop.TheVariants as stop
use Rattle.asm_node.specs.declared.term.Binder.{Binder}
use Rattle.asm_node.specs.Tree.{Tree, Const, Var, Get, Oper, none, more}
use Rattle.asm_node.specs.RuleTree.{Rule, Skip, Update, Par, Seq, If, Let, Choose, Call, none as no_rules, more as more_rules}
use Rattle.asm_node.specs.Machine.{Machine, Macro, no_input}
use Rattle.asm_node.specs.Term.{World, Gives, val, nowhere, put}
use Rattle.asm_node.specs.UpdateSet.{Pair}
use Rattle.asm_node.specs.declared.path.Step.TheVariants.{Called, Bound, Part}
use Rattle.asm_node.specs.Taking.{Yields, evaluated, taken, stand_for, bodies_within, outcome, by_words}
use Rattle.asm_node.specs.Step.{next}
use Rattle.std.specs.Ordering.{nat_cmp}
use Rattle.std.specs.Cmp.{nat_cmp_total}
use Rattle.std.specs.FinMap as finite
use Rattle.asm_node.proofs.UpdateSets.{of_list}
use Rattle.asm_laws.proofs.Listing.{held, world_of, next-is, par-listed, seq-alone, seq-listed, clashes, goes_on}

-- the numbers 1 to 3, and two controlled functions
abbrev numbers : DeclaredDomain
numbers = record { name = None; domain = Numbers (pos 1 ∷ pos 2 ∷ pos 3 ∷ []) }

abbrev controlled : Function
controlled = record { name = []; kind = Controlled; domains = []; codomain = 0 }

abbrev machine : List Macro → Rule → Machine
machine rules main = record {
  signature = record { domains = numbers ∷ []; functions = controlled ∷ controlled ∷ [] };
  definitions = [];
  initial_terms = [];
  rules = rules;
  invariants = [];
  main = main;
}

abbrev here : Place
here = record { file = 0; at = 70 }

abbrev number : ℕ → Tree
number n = Const (Int (pos n))

abbrev set_x : Tree → Rule
set_x t = Update here 0 none t

abbrev set_y : Tree → Rule
set_y t = Update here 1 none t

abbrev x : Tree
x = Get 0 none

abbrev y : Tree
y = Get 1 none

abbrev both : Op → Tree → Tree → Tree
both o t u = Oper o (more t (more u none))

abbrev pair : Rule → Rule → Rule
pair p q = Par here (more_rules p (more_rules q no_rules))

abbrev three : List (ℕ × Value)
three = (0, Int (pos 3)) ∷ (1, Undef) ∷ []

abbrev one_of : ℕ → Value → List Pair
one_of l v = (l, v) ∷ []

abbrev world : Rule → List (ℕ × Value) → World
world main es = world_of (machine [] main) es

x_is : (es : List (ℕ × Value)) → finite.get (held es) 0 ≡ finite.find nat_cmp 0 es
x_is es = finite.get-from_entries nat_cmp_total es 0

y_is : (es : List (ℕ × Value)) → finite.get (held es) 1 ≡ finite.find nat_cmp 1 es
y_is es = finite.get-from_entries nat_cmp_total es 1

-- two values of one location are a clash, which names the lesser one first
abbrev unequal : Rule
unequal = pair (set_x (number 2)) (set_x (number 1))

abbrev two_and_one : List Pair
two_and_one = (0, Int (pos 2)) ∷ (0, Int (pos 1)) ∷ []

pub unequal_updates_clash : next (machine [] unequal) (held three) no_input [] unequal ≡ Err (stop.Clash 0 (Int (pos 1)) (Int (pos 2)))
unequal_updates_clash =
    clashes (machine [] unequal) three [] unequal two_and_one [] (0, Int (pos 1), Int (pos 2))
    (par-listed by_words (bodies_within by_words 32) [] (world unequal three) nowhere here (set_x (number 2)) (set_x (number 1)) [] [] [] (one_of 0 (Int (pos 2))) (one_of 0 (Int (pos 1))) refl refl)
    refl

-- two equal updates are one pair
abbrev equal : Rule
equal = pair (set_x (number 2)) (set_x (number 2))

pub equal_updates_are_one : next (machine [] equal) (held three) no_input [] equal ≡ Ok (held ((0, Int (pos 2)) ∷ (1, Undef) ∷ []), [])
equal_updates_are_one =
    goes_on (machine [] equal) three [] equal ((0, Int (pos 2)) ∷ (0, Int (pos 2)) ∷ []) []
    (par-listed by_words (bodies_within by_words 32) [] (world equal three) nowhere here (set_x (number 2)) (set_x (number 2)) [] [] [] (one_of 0 (Int (pos 2))) (one_of 0 (Int (pos 2))) refl refl)
    refl refl

-- a second part is not taken after an inconsistent first one: both pairs of x stay, and there is none of y
abbrev after_unequal : Rule
after_unequal = Seq here unequal (set_y (number 3))

pub seq_stops_at_an_inconsistent_part : outcome by_words (world after_unequal three) after_unequal [] ≡ Yields (of_list two_and_one) []
seq_stops_at_an_inconsistent_part =
    seq-alone by_words (bodies_within by_words 32) [] (world after_unequal three) nowhere here unequal (set_y (number 3)) [] [] [] two_and_one []
    (par-listed by_words (bodies_within by_words 32) (Part 0 ∷ []) (world after_unequal three) nowhere here (set_x (number 2)) (set_x (number 1)) [] [] [] (one_of 0 (Int (pos 2))) (one_of 0 (Int (pos 1))) refl refl)
    refl

-- a value outside the codomain
abbrev increase : Rule
increase = set_x (both Plus x (number 1))

pub bad_value : next (machine [] increase) (held three) no_input [] increase ≡ Err (stop.BadValue here 0 (Int (pos 4)))
bad_value = next-is (machine [] increase) three [] increase ∙ rw (x_is three) refl

-- a guard that is `undef`
abbrev undefined : Rule
undefined = If here (both Greater y (number 1)) (set_x (number 1)) (Skip here)

pub undefined_guard : next (machine [] undefined) (held three) no_input [] undefined ≡ Err (stop.UndefGuard here)
undefined_guard = next-is (machine [] undefined) three [] undefined ∙ rw (y_is three) refl

-- the first fault in text order ends the rule
pub first_fault : next (machine [] (pair undefined increase)) (held three) no_input [] (pair undefined increase) ≡ Err (stop.UndefGuard here)
first_fault = next-is (machine [] (pair undefined increase)) three [] (pair undefined increase) ∙ rw (y_is three) refl

pub other_first_fault : next (machine [] (pair increase undefined)) (held three) no_input [] (pair increase undefined) ≡ Err (stop.BadValue here 0 (Int (pos 4)))
other_first_fault = next-is (machine [] (pair increase undefined)) three [] (pair increase undefined) ∙ rw (x_is three) refl

abbrev binder : ℕ → Binder
binder n = record { variable = n; domain = 0 }

abbrev empty_state : List (ℕ × Value)
empty_state = (0, Undef) ∷ (1, Undef) ∷ []

-- word 7 among three candidates takes that at place 1
abbrev choose : Rule
choose = Choose here (binder 0 ∷ []) (Const (Bool true)) (set_x (Var 0)) (Skip here)

pub word_7_of_three : next (machine [] choose) (held empty_state) no_input (7 ∷ 5 ∷ []) choose ≡ Ok (held ((0, Int (pos 2)) ∷ (1, Undef) ∷ []), 5 ∷ [])
word_7_of_three = goes_on (machine [] choose) empty_state (7 ∷ 5 ∷ []) choose (one_of 0 (Int (pos 2))) (5 ∷ []) refl refl refl

pub no_word : next (machine [] choose) (held empty_state) no_input [] choose ≡ Err (stop.Choice here)
no_word = next-is (machine [] choose) empty_state [] choose

-- without candidates the other rule is taken, and no word
abbrev choose_none : Rule
choose_none = Choose here (binder 0 ∷ []) (both Greater (Var 0) (number 3)) (set_x (Var 0)) (set_x (number 1))

pub no_candidates : next (machine [] choose_none) (held empty_state) no_input [] choose_none ≡ Ok (held ((0, Int (pos 1)) ∷ (1, Undef) ∷ []), [])
no_candidates = goes_on (machine [] choose_none) empty_state [] choose_none (one_of 0 (Int (pos 1))) [] refl refl refl

-- of two variables the first is the slowest
abbrev choose_two : Rule
choose_two = Choose here (binder 0 ∷ binder 1 ∷ []) (Const (Bool true)) (pair (set_x (Var 0)) (set_y (Var 1))) (Skip here)

pub first_variable_slowest : next (machine [] choose_two) (held empty_state) no_input (5 ∷ []) choose_two ≡ Ok (held ((0, Int (pos 2)) ∷ (1, Int (pos 3)) ∷ []), [])
first_variable_slowest =
    goes_on (machine [] choose_two) empty_state (5 ∷ []) choose_two ((0, Int (pos 2)) ∷ (1, Int (pos 3)) ∷ []) []
    (par-listed by_words (bodies_within by_words 32) (Bound (Int (pos 2) ∷ Int (pos 3) ∷ []) ∷ []) (world choose_two empty_state)
    (put 0 (Const (Int (pos 2))) (put 1 (Const (Int (pos 3))) nowhere)) here (set_x (Var 0)) (set_y (Var 1)) [] [] [] (one_of 0 (Int (pos 2))) (one_of 1 (Int (pos 3))) refl refl)
    refl refl

abbrev from_one : List (ℕ × Value)
from_one = (0, Int (pos 1)) ∷ (1, Undef) ∷ []

-- a variable keeps its value
abbrev keep_value : Rule
keep_value = Let here 0 x (Seq here increase (set_y (Var 0)))

x_of_one : (main : Rule) → val (world main from_one) nowhere x ≡ Gives (Int (pos 1))
x_of_one main = rw (x_is from_one) refl

pub variable_keeps_its_value : next (machine [] keep_value) (held from_one) no_input [] keep_value ≡ Ok (held ((0, Int (pos 2)) ∷ (1, Int (pos 1)) ∷ []), [])
variable_keeps_its_value =
    goes_on (machine [] keep_value) from_one [] keep_value ((0, Int (pos 2)) ∷ (1, Int (pos 1)) ∷ []) []
    (ap (λ o. evaluated o [] (λ v. taken by_words (bodies_within by_words 32) (Bound (v ∷ []) ∷ []) (world keep_value from_one) (put 0 (Const v) nowhere) (Seq here increase (set_y (Var 0))) [])) (x_of_one keep_value)
    ∙ seq-listed by_words (bodies_within by_words 32) (Bound (Int (pos 1) ∷ []) ∷ []) (world keep_value from_one) (put 0 (Const (Int (pos 1))) nowhere)
    here increase (set_y (Var 0)) [] [] [] (one_of 0 (Int (pos 2))) (one_of 1 (Int (pos 1))) from_one refl (rw (x_is from_one) refl) refl refl)
    refl refl

-- a parameter is read anew at each use
abbrev two : Macro
two = record { name = []; parameters = binder 0 ∷ []; body = Seq here increase (set_y (Var 0)) }

abbrev call : Rule
call = Call here 0 (more x none)

pub parameter_is_read_anew : next (machine (two ∷ []) call) (held from_one) no_input [] call ≡ Ok (held ((0, Int (pos 2)) ∷ (1, Int (pos 2)) ∷ []), [])
parameter_is_read_anew =
    goes_on (machine (two ∷ []) call) from_one [] call ((0, Int (pos 2)) ∷ (1, Int (pos 2)) ∷ []) []
    (seq-listed by_words (bodies_within by_words 31) (Called 0 ∷ []) (world_of (machine (two ∷ []) call) from_one) (stand_for (binder 0 ∷ []) nowhere (more x none))
    here increase (set_y (Var 0)) [] [] [] (one_of 0 (Int (pos 2))) (one_of 1 (Int (pos 2))) from_one refl (rw (x_is from_one) refl) refl (rw (x_is ((0, Int (pos 2)) ∷ (1, Undef) ∷ [])) refl))
    refl refl
