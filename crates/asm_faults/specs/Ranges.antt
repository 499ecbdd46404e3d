-- The intervals of integer terms, and what is wrong where one is refused.
use Rattle.std.specs.Prelude.{ℕ, ◌^◌, ℤ, pos, neg_ℤ, ◌+ℤ◌, ◌-ℤ◌, ◌*ℤ◌, unsigned_abs, int_le, max, Bool as Truth, false, ◌||◌, nat_eq, nat_lt, if◌then◌else◌, List, [], ◌∷◌, ◌++◌, map, Option, Some, None, bytes_eq, slice_get}
use Rattle.std.specs.Int.{int_min, int_max}
use Rattle.std.specs.List.{flat_map}
use Rattle.asm_domain.specs.Universe.{Universe, Truths, Numbers, Named}
use Rattle.asm_sign.specs.declared.function.DeclaredDomain.{DeclaredDomain}
use Rattle.asm_sign.specs.declared.function.Function.{Function}
use Rattle.asm_sign.specs.Vocabulary.{Vocabulary}
use Rattle.asm_node.specs.Values.{whole}
use Rattle.asm_tree.specs.declared.operator.Op.{Op}
use Rattle.asm_tree.specs.declared.operator.Op.TheVariants as op
use Rattle.asm_tree.specs.declared.operator.UnaryOp.{UnaryOp}
use Rattle.asm_tree.specs.declared.operator.UnaryOp.TheVariants as unary
use Rattle.asm_tree.specs.declared.term.RawBinder.{RawBinder}
use Rattle.asm_tree.specs.declared.term.RawBind.{RawBind}
use Rattle.asm_tree.specs.declared.term.RawTerm.{RawTerm, RawTerm-F, fold-RawTerm}
use Rattle.asm_tree.specs.declared.term.RawTermKind.TheOpen.{RawTermKind-F, RawBind-F, RawCase-F}
use Rattle.asm_tree.specs.declared.rule.RawRule.{RawRule, RawRule-F, fold-RawRule}
use Rattle.asm_tree.specs.declared.rule.RawRuleKind.TheOpen.{RawRuleKind-F, RawRuleCase-F}
use Rattle.asm_tree.specs.declared.unit.RawFunction.{RawFunction}
use Rattle.asm_tree.specs.declared.unit.RawInvariant.{RawInvariant}
use Rattle.asm_tree.specs.declared.unit.LoadedUnit.{LoadedUnit}
use Rattle.asm_faults.specs.declared.fault.Fault.{Fault}
use Rattle.asm_faults.specs.declared.fault.ModelFault.TheVariants.{RangeTooWide}
use Rattle.asm_faults.specs.At.{Name, token}
use Rattle.asm_faults.specs.Files.{Of, DeclaredRule, rules, definitions, initials, invariants}
use Rattle.asm_faults.specs.FunctionFaults.{domain_number}
use Rattle.asm_faults.specs.Terms.{function_named}

-- the interval of a term: none, since it gives no number; from a least to a greatest number; or none, since an interval
-- from which it is taken is refused
pub data Spread : Type 0 where
  NoNumber : Spread
  Between : (low high : ℤ) → Spread
  Missing : Spread

-- ---- what operators give

-- where an interval is taken from two others
abbrev pub of_both : (ℤ → ℤ → ℤ → ℤ → Spread) → Spread → Spread → Spread
of_both f Missing s = Missing
of_both f s Missing = Missing
of_both f (Between a b) (Between c d) = f a b c d
of_both f r s = NoNumber

-- from the least to the greatest of four numbers
abbrev pub among : ℤ → ℤ → ℤ → ℤ → Spread
among w x y z = Between (int_min (int_min w x) (int_min y z)) (int_max (int_max w x) (int_max y z))

-- from -m to m for the greatest size m of a number of the interval
abbrev pub sizes : Spread → Spread
sizes (Between a b) = Between (neg_ℤ (pos (max (unsigned_abs a) (unsigned_abs b)))) (pos (max (unsigned_abs a) (unsigned_abs b)))
sizes r = r

abbrev pub of_two : Op → Spread → Spread → Spread
of_two op.Plus r s = of_both (λ a b c d. Between (a +ℤ c) (b +ℤ d)) r s
of_two op.Minus r s = of_both (λ a b c d. Between (a -ℤ d) (b -ℤ c)) r s
of_two op.Times r s = of_both (λ a b c d. among (a *ℤ c) (a *ℤ d) (b *ℤ c) (b *ℤ d)) r s
of_two op.Min r s = of_both (λ a b c d. Between (int_min a c) (int_min b d)) r s
of_two op.Max r s = of_both (λ a b c d. Between (int_max a c) (int_max b d)) r s
of_two op.Mod r s = sizes r
of_two op.Idiv r s = sizes r
of_two _ r s = NoNumber

abbrev pub opposite : Spread → Spread
opposite (Between a b) = Between (neg_ℤ b) (neg_ℤ a)
opposite r = r

abbrev pub absolute : Spread → Spread
absolute (Between a b) =
    if int_le (pos 0) a then Between a b
    else (if int_le b (pos 0) then Between (neg_ℤ b) (neg_ℤ a) else Between (pos 0) (pos (max (unsigned_abs a) (unsigned_abs b))))
absolute r = r

abbrev pub of_one : UnaryOp → Spread → Spread
of_one unary.Negate r = opposite r
of_one unary.Abs r = absolute r
of_one _ r = NoNumber

-- the least interval that holds both
abbrev pub either : Spread → Spread → Spread
either Missing s = Missing
either r Missing = Missing
either NoNumber s = s
either r NoNumber = r
either (Between a b) (Between c d) = Between (int_min a c) (int_max b d)

-- ---- what is refused

-- over 2^62 in absolute value
abbrev pub is_wide : ℤ → Truth
is_wide z = nat_lt (2 ^ 62) (unsigned_abs z)

abbrev pub is_refused : Spread → Truth
is_refused (Between a b) = is_wide a || is_wide b
is_refused r = false

abbrev pub unless_refused : Spread → Spread
unless_refused r = if is_refused r then Missing else r

-- ---- domains

abbrev pub spread_from : ℤ → ℤ → List ℤ → Spread
spread_from low high [] = Between low high
spread_from low high (z ∷ zs) = spread_from (int_min low z) (int_max high z) zs

-- from the least to the greatest element, where the elements are numbers
abbrev pub universe_spread : Universe → Spread
universe_spread Truths = NoNumber
universe_spread (Numbers []) = NoNumber
universe_spread (Numbers (z ∷ zs)) = spread_from z z zs
universe_spread (Named number names) = NoNumber

abbrev pub declared_spread : Option DeclaredDomain → Spread
declared_spread None = NoNumber
declared_spread (Some d) = universe_spread d.domain

-- the numbers of the domain of a number
abbrev pub domain_spread : List DeclaredDomain → ℕ → Spread
domain_spread domains d = if nat_eq d whole then Between (neg_ℤ (pos (2 ^ 31))) (pos (2 ^ 31)) else declared_spread (slice_get domains d)

abbrev pub numbered_spread : List DeclaredDomain → Option ℕ → Spread
numbered_spread domains None = NoNumber
numbered_spread domains (Some d) = domain_spread domains d

abbrev pub spread_named : Vocabulary → Name → Spread
spread_named v text = numbered_spread v.domains (domain_number v.domains text)

abbrev pub codomain_spread : Vocabulary → Option Function → Spread
codomain_spread v None = NoNumber
codomain_spread v (Some f) = domain_spread v.domains f.codomain

-- ---- terms

-- a bound variable and its interval
pub record Spreading : Type 0 where
  pub name : Name
  pub spread : Spread

-- the variables that are bound, the innermost last
abbrev pub Scope : Type 0
Scope = List Spreading

abbrev pub or_bound : Option Spread → Option Spread → Option Spread
or_bound None other = other
or_bound (Some r) other = Some r

abbrev pub bound_spread : Scope → Name → Option Spread
bound_spread [] x = None
bound_spread (b ∷ scope) x = or_bound (bound_spread scope x) (if bytes_eq b.name x then Some b.spread else None)

abbrev pub spread_or_none : Option Spread → Spread
spread_or_none None = NoNumber
spread_or_none (Some r) = r

-- a term's interval in a scope, and the parts of it whose intervals are refused
pub record Measured : Type 0 where
  pub spread : Scope → Spread
  pub faults : Scope → List Fault

abbrev pub Bound : Type 0
Bound = Name × Measured

abbrev pub within_let : List Bound → Scope → Scope
within_let [] scope = scope
within_let ((x, m) ∷ bs) scope = within_let bs (scope ++ record { name = x; spread = m.spread scope } ∷ [])

abbrev pub bind_faults : List Bound → Scope → List Fault
bind_faults [] scope = []
bind_faults ((x, m) ∷ bs) scope = m.faults scope ++ bind_faults bs (scope ++ record { name = x; spread = m.spread scope } ∷ [])

abbrev pub each : Scope → List Measured → List Fault
each scope ms = flat_map (λ (m : Measured). m.faults scope) ms

abbrev pub case_faults : Scope → List (Measured × Measured) → List Fault
case_faults scope cases = flat_map (λ (c : Measured × Measured). c.0.faults scope ++ c.1.faults scope) cases

-- the least interval that holds those of all values and of the last one
abbrev pub either_case : Scope → List (Measured × Measured) → Measured → Spread
either_case scope [] other = other.spread scope
either_case scope ((label, m) ∷ cases) other = either (m.spread scope) (either_case scope cases other)

module _ (v : Vocabulary) where
  abbrev pub within : List RawBinder → Scope → Scope
  within [] scope = scope
  within (b ∷ bs) scope = within bs scope ++ record { name = b.variable.text; spread = spread_named v b.domain.text } ∷ []

  module _ (n : ℕ) where
    abbrev pub refused : Spread → ℕ → Name → List Fault
    refused r at first = if is_refused r then token RangeTooWide n at first ∷ [] else []

    abbrev pub Kind : Type 0
    Kind = ℕ → Name → Measured

    abbrev pub made : (Scope → Spread) → (Scope → List Fault) → Kind
    made spread faults at first = record { spread = spread; faults = faults }

    -- an operator's interval may be refused; a number's too, though none over 2^31 is written
    abbrev pub operation : (Scope → Spread) → (Scope → List Fault) → Kind
    operation spread faults at first = record { spread = λ s. unless_refused (spread s); faults = λ s. faults s ++ refused (spread s) at first }

    abbrev pub measure_kind : RawTermKind-F Kind Bound (Measured × Measured) Measured → Kind
    measure_kind (RawTermKind-F.Number x) = operation (λ s. Between (pos x) (pos x)) (λ s. [])
    measure_kind (RawTermKind-F.Truth b) = made (λ s. NoNumber) (λ s. [])
    measure_kind RawTermKind-F.Undef = made (λ s. Between (pos 0) (pos 0)) (λ s. [])
    measure_kind (RawTermKind-F.Variable x) = made (λ s. spread_or_none (bound_spread s x)) (λ s. [])
    measure_kind (RawTermKind-F.Element e) = made (λ s. NoNumber) (λ s. [])
    measure_kind (RawTermKind-F.Call f ms) = made (λ s. codomain_spread v (function_named v f)) (λ s. each s ms)
    measure_kind (RawTermKind-F.Unary o m) = operation (λ s. of_one o (m.spread s)) (λ s. m.faults s)
    measure_kind (RawTermKind-F.Binary o m k) = operation (λ s. of_two o (m.spread s) (k.spread s)) (λ s. m.faults s ++ k.faults s)
    measure_kind (RawTermKind-F.Cond g m k) = made (λ s. either (m.spread s) (k.spread s)) (λ s. g.faults s ++ (m.faults s ++ k.faults s))
    measure_kind (RawTermKind-F.Switch m cases k) = made (λ s. either_case s cases k) (λ s. m.faults s ++ (case_faults s cases ++ k.faults s))
    measure_kind (RawTermKind-F.Let bs m) = made (λ s. m.spread (within_let bs s)) (λ s. bind_faults bs s ++ m.faults (within_let bs s))
    measure_kind (RawTermKind-F.Quant q bs g) = made (λ s. NoNumber) (λ s. g.faults (within bs s))

    -- a term of the unit of number n
    abbrev pub measured : RawTerm → Measured
    measured = fold-RawTerm Kind Bound (Measured × Measured) Measured measure_kind
        (λ (b : RawBind-F Kind Bound (Measured × Measured) Measured). (b.variable.text, b.term))
        (λ (c : RawCase-F Kind Bound (Measured × Measured) Measured). (c.label, c.value))
        (λ (t : RawTerm-F Kind Bound (Measured × Measured) Measured). t.kind t.at t.first)

    -- ---- rules

    abbrev pub term_faults : RawTerm → Scope → List Fault
    term_faults t = (measured t).faults

    abbrev pub bound : List RawBind → List Bound
    bound bs = map (λ (b : RawBind). (b.variable.text, measured b.term)) bs

    abbrev pub Faults : Type 0
    Faults = Scope → List Fault

    abbrev pub rule_kind : RawRuleKind-F Faults Faults (RawTerm × Faults) → Faults
    rule_kind RawRuleKind-F.Skip s = []
    rule_kind (RawRuleKind-F.Update f ts t) s = each s (map measured ts) ++ term_faults t s
    rule_kind (RawRuleKind-F.Par ps) s = flat_map (λ p. p s) ps
    rule_kind (RawRuleKind-F.Seq ps) s = flat_map (λ p. p s) ps
    rule_kind (RawRuleKind-F.If g p q) s = term_faults g s ++ (p s ++ q s)
    rule_kind (RawRuleKind-F.Switch t cases q) s = term_faults t s ++ (flat_map (λ (c : RawTerm × Faults). term_faults c.0 s ++ c.1 s) cases ++ q s)
    rule_kind (RawRuleKind-F.Let bs p) s = bind_faults (bound bs) s ++ p (within_let (bound bs) s)
    rule_kind (RawRuleKind-F.Forall bs g p) s = term_faults g (within bs s) ++ p (within bs s)
    rule_kind (RawRuleKind-F.Choose bs g p q) s = term_faults g (within bs s) ++ (p (within bs s) ++ q s)
    rule_kind (RawRuleKind-F.Call r ts) s = each s (map measured ts)

    abbrev pub rule_faults : RawRule → Faults
    rule_faults = fold-RawRule Faults Faults (RawTerm × Faults) rule_kind
        (λ (r : RawRule-F Faults Faults (RawTerm × Faults)). r.kind)
        (λ (c : RawRuleCase-F Faults Faults (RawTerm × Faults)). (c.label, c.rule))

  -- ---- the model

  abbrev pub function_faults : Of RawFunction → List Fault
  function_faults (n, f) = term_faults n f.term (within f.parameters [])

  -- an interval is refused in a definition, a rule, an invariant or an initial value
  abbrev pub range_faults : List LoadedUnit → List Fault
  range_faults units =
      flat_map function_faults (definitions units)
      ++ (flat_map (λ (r : DeclaredRule). rule_faults r.unit r.body (within r.parameters [])) (rules units)
      ++ (flat_map (λ (p : Of RawInvariant). term_faults p.0 p.1.term []) (invariants units)
      ++ flat_map function_faults (initials units)))
