-- The numbers that terms may give: the interval of each term, by what stands in it.
use Rattle.std.specs.Prelude.{◌≡◌, ◌⊎◌, ℕ, ℤ, pos, ◌+ℤ◌, ◌-ℤ◌, ◌*ℤ◌, neg_ℤ, unsigned_abs, true, false, ⊤, nat_eq, if◌then◌else◌, List, [], ◌∷◌, Option, Some, None, slice_get}
use Rattle.std.specs.Int.{int_min, int_max}
use Rattle.asm_domain.specs.declared.value.Value.{Value}
use Rattle.asm_domain.specs.declared.value.Value.TheVariants.{Undef, Int}
use Rattle.asm_domain.specs.declared.interval.Interval.{Interval}
use Rattle.asm_domain.specs.Interval.{IsWithin, Spans}
use Rattle.asm_domain.specs.Narrow.{IsNarrow}
use Rattle.asm_sign.specs.declared.function.Function.{Function}
use Rattle.asm_sign.specs.Vocabulary.{Vocabulary}
use Rattle.asm_node.specs.declared.operator.Op.{Op}
use Rattle.asm_node.specs.declared.operator.Op.TheVariants as op
use Rattle.asm_node.specs.declared.term.Binder.{Binder}
use Rattle.asm_node.specs.Tree.{Tree, Const, Var, Within, Get, Oper, Cond, Let, Quant, Trees, none, more}
use Rattle.asm_node.specs.Values.{is_element, whole}
use Rattle.asm_node.specs.Machine.{Machine, Definition, definition_of}

-- no number, or the numbers of an interval
pub data Range : Type 0 where
  NoNumber : Range
  From : (interval : Interval) → Range

-- a set of numbers
abbrev pub Numbers : Type 1
Numbers = ℤ → Type 0

abbrev pub numbers_in : Range → Numbers
numbers_in NoNumber z = ⊥
numbers_in (From i) z = IsWithin i z

-- the range reaches from the least to the greatest of some numbers
abbrev pub IsRangeOf : Numbers → Range → Type 0
IsRangeOf numbers NoNumber = (z : ℤ) → numbers z → ⊥
IsRangeOf numbers (From i) = Spans numbers i

-- no bound is over 2^62 in absolute value
abbrev pub IsNarrowRange : Range → Type 0
IsNarrowRange NoNumber = ⊤
IsNarrowRange (From i) = IsNarrow i.low × IsNarrow i.high

-- a value is no number, or one of the range
abbrev pub IsIn : Range → Value → Type 0
IsIn r (Int z) = numbers_in r z
IsIn r _ = ⊤

-- ---- numbers of parts

-- what an operation gives of a number of each range
abbrev pub results : (ℤ → ℤ → ℤ) → Range → Range → Numbers
results f r s z = (x : ℤ) × (y : ℤ) × numbers_in r x × numbers_in s y × (f x y ≡ z)

abbrev pub results_of_one : (ℤ → ℤ) → Range → Numbers
results_of_one f r z = (x : ℤ) × numbers_in r x × (f x ≡ z)

-- the numbers with the absolute value of one of the range
abbrev pub sizes : Range → Numbers
sizes r z = (x : ℤ) × numbers_in r x × (unsigned_abs z ≡ unsigned_abs x)

abbrev pub numbers_in_either : Range → Range → Numbers
numbers_in_either r s z = numbers_in r z ⊎ numbers_in s z

abbrev pub no_numbers : Numbers
no_numbers z = ⊥

abbrev pub of_one : Op → Range → Numbers
of_one op.Negate r = results_of_one neg_ℤ r
of_one op.Abs r = results_of_one (λ x. pos (unsigned_abs x)) r
of_one _ r = no_numbers

-- a division gives at most the size of what is divided
abbrev pub of_two : Op → Range → Range → Numbers
of_two op.Plus r s = results ◌+ℤ◌ r s
of_two op.Minus r s = results ◌-ℤ◌ r s
of_two op.Times r s = results ◌*ℤ◌ r s
of_two op.Mod r s = sizes r
of_two op.Idiv r s = sizes r
of_two op.Min r s = results int_min r s
of_two op.Max r s = results int_max r s
of_two _ r s = no_numbers

-- what an operator may give of arguments of these ranges
abbrev pub operator_numbers : Op → List Range → Numbers
operator_numbers o (r ∷ []) = of_one o r
operator_numbers o (r ∷ s ∷ []) = of_two o r s
operator_numbers o _ = no_numbers

-- a number is that alone, and another constant is no number
abbrev pub constant_numbers : Value → Numbers
constant_numbers (Int x) z = x ≡ z
constant_numbers _ z = ⊥

-- the range of a constant; that of `undef` may be any
abbrev pub IsConstantRange : Value → Range → Type 0
IsConstantRange Undef r = ⊤
IsConstantRange v r = IsRangeOf (constant_numbers v) r

-- ---- ranges of variables

abbrev pub Ranges : Type 0
Ranges = ℕ → Range

-- no variable stands for a number
abbrev pub no_ranges : Ranges
no_ranges = λ y. NoNumber

abbrev pub put_range : ℕ → Range → Ranges → Ranges
put_range x r rs = λ y. if nat_eq x y then r else rs y

module _ (signature : Vocabulary) where
  -- the numbers of a domain
  abbrev pub IsDomainRange : ℕ → Range → Type 0
  IsDomainRange d r = IsRangeOf (λ z. is_element signature.domains d (Int z) ≡ true) r

  abbrev pub AreDomainRanges : List ℕ → List Range → Type 0
  AreDomainRanges [] [] = ⊤
  AreDomainRanges (d ∷ ds) (r ∷ rs) = IsDomainRange d r × AreDomainRanges ds rs
  AreDomainRanges _ _ = ⊥

  -- the numbers of a function's codomain
  abbrev pub IsCodomainRange : Option Function → Range → Type 0
  IsCodomainRange (Some f) r = IsDomainRange f.codomain r
  IsCodomainRange None r = r ≡ NoNumber

  -- variables with the ranges of their domains, which are finite
  abbrev pub AreBound : List Binder → Ranges → Ranges → Type 0
  AreBound [] rs inner = (y : ℕ) → inner y ≡ rs y
  AreBound (b ∷ bs) rs inner =
      (r : Range) × (others : Ranges) × IsDomainRange b.domain r × AreBound bs rs others × ((y : ℕ) → inner y ≡ put_range b.variable r others y) × (nat_eq b.domain whole ≡ false)

  -- parameters with the ranges of their domains
  abbrev pub AreParameters : List ℕ → List ℕ → Ranges → Type 0
  AreParameters (x ∷ xs) (d ∷ ds) inner = (r : Range) × (others : Ranges) × IsDomainRange d r × AreParameters xs ds others × ((y : ℕ) → inner y ≡ put_range x r others y)
  AreParameters _ _ inner = (y : ℕ) → inner y ≡ NoNumber

  -- ---- the range of a term, where no interval in it is refused

  abbrev mutual
    -- a constant has its own number, and `undef` any range; a variable has the range of what it stands for; `Within` and a
    -- read have those of their domains
    -- an operator has what it may give of its arguments, a conditional what either branch may give
    -- a `let` has the range of its body, where the variable has that of its term; a quantifier has no number
    pub HasRange : Ranges → Tree → Range → Type 0
    HasRange rs (Const v) r = IsConstantRange v r × IsNarrowRange r
    HasRange rs (Var x) r = rs x ≡ r
    HasRange rs (Within d t) r = ((s : Range) × HasRange rs t s) × IsDomainRange d r
    HasRange rs (Get f ts) r = ((ss : List Range) × HaveRanges rs ts ss) × IsCodomainRange (slice_get signature.functions f) r
    HasRange rs (Oper o ts) r = (ss : List Range) × HaveRanges rs ts ss × IsRangeOf (operator_numbers o ss) r × IsNarrowRange r
    HasRange rs (Cond g t u) r = ((q : Range) × HasRange rs g q) × ((p : Range) × (q : Range) × HasRange rs t p × HasRange rs u q × IsRangeOf (numbers_in_either p q) r)
    HasRange rs (Let x t u) r = (s : Range) × HasRange rs t s × HasRange (put_range x s rs) u r
    HasRange rs (Quant q bs g) r = ((inner : Ranges) × (s : Range) × AreBound bs rs inner × HasRange inner g s) × (r ≡ NoNumber)

    pub HaveRanges : Ranges → Trees → List Range → Type 0
    HaveRanges rs none [] = ⊤
    HaveRanges rs (more t ts) (r ∷ ss) = HasRange rs t r × HaveRanges rs ts ss
    HaveRanges rs _ _ = ⊥

  -- a term in which no interval is refused
  abbrev pub IsRanged : Ranges → Tree → Type 0
  IsRanged rs t = (r : Range) × HasRange rs t r

-- in no definition of a machine an interval is refused
abbrev pub AreDefinitionsRanged : Machine → Type 0
AreDefinitionsRanged m =
    (f : ℕ) (function : Function) (d : Definition) → slice_get m.signature.functions f ≡ Some function → definition_of m.definitions f ≡ Some d
    → (inner : Ranges) × AreParameters m.signature d.parameters function.domains inner × IsRanged m.signature inner d.body
