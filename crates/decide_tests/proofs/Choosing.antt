-- What a circuit of one group of two says.
use Rattle.std.proofs.Common.{◌≡◌, ℕ, zero, suc, ◌<◌, ◌≤◌, Bool, true, false, not, ◌&&◌, ◌||◌, List, [], ◌∷◌, ◌++◌, length, slice_index_or, refl, ap, sym, ◌∙◌, subst, arith}
use Rattle.std.specs.Prelude.{⊤}
use Rattle.std.specs.Bool.{beq}
use Rattle.cnf_base.specs.declared.lit.Lit.{Lit}
use Rattle.cnf_base.specs.Clauses.{IsSatisfied, lit_true, clause_true, formula_true, value_in, negate, variables}
use Rattle.cnf_base.proofs.Sound.{formula_true-append, and_true}
use Rattle.cnf_base.proofs.VariableBounds.{variables-append}
use Rattle.cnf_gate.specs.Circuit.{Drawn, EachChoiceOnce}
use Rattle.cnf_gate.specs.Built.{is_only_at}
use Rattle.cnf_search.specs.Lines.{choices}
use Rattle.decide_tests.specs.Choices.{ChoosesAmong, forbidden, is_allowed}
use Rattle.decide_tests.specs.declared.rows.Rows.{Rows}
use Rattle.decide_tests.specs.Answered.{met_by}
use Rattle.decide_tests.specs.Tables.{meets_at, Meets, Asks, is_met, is_first}
use Rattle.two_level.specs.Asking.{formula_of, Tells}

or_false : (b : Bool) → b || false ≡ b
or_false true = refl
or_false false = refl

beq_not : (a b : Bool) → beq a (not b) ≡ not (beq a b)
beq_not true true = refl
beq_not true false = refl
beq_not false true = refl
beq_not false false = refl

negate_not : (v : ℕ → Bool) (l : Lit) → lit_true v (negate l) ≡ not (lit_true v l)
negate_not v l = beq_not (v l.var) l.positive

behind : (v : ℕ → Bool) (f g : List (List Lit)) → formula_true v (f ++ g) ≡ true → formula_true v g ≡ true
behind v [] g e = e
behind v (c ∷ f) g e = behind v f g (and_true (clause_true v c) (formula_true v (f ++ g)) e).1

single : (b : Bool) → (b || false) && true ≡ true → b ≡ true
single true e = refl
single false e = cc

of_single : (b : Bool) → b ≡ true → (b || false) && true ≡ true
of_single true e = refl
of_single false e = cc

no_falsehood : false ≡ true → ⊥
no_falsehood e = cc

flipped : (v : ℕ → Bool) (l : Lit) (b : Bool) → lit_true v l ≡ b → lit_true v (negate l) ≡ not b
flipped v l b e = negate_not v l ∙ ap not e

-- what is true where the clauses are is allowed
allowed_by : (v : ℕ → Bool) (l : Lit) (first second b : Bool) → lit_true v l ≡ b
    → formula_true v (forbidden first (negate l) ++ forbidden second l) ≡ true → is_allowed first second b ≡ true
allowed_by v l true second true is e = refl
allowed_by v l false second true is e =
    let there : (lit_true v (negate l) || false) ≡ true = (and_true (clause_true v (negate l ∷ [])) (formula_true v (forbidden second l)) e).0 in
    absurd (no_falsehood (sym (flipped v l true is) ∙ sym (or_false (lit_true v (negate l))) ∙ there))
allowed_by v l first true false is e = refl
allowed_by v l first false false is e =
    let there : formula_true v ((l ∷ []) ∷ []) ≡ true = behind v (forbidden first (negate l)) ((l ∷ []) ∷ []) e in
    absurd (no_falsehood (sym is ∙ single (lit_true v l) there))

-- the clauses are true where what is true is allowed
required_by : (v : ℕ → Bool) (l : Lit) (first second b : Bool) → lit_true v l ≡ b → is_allowed first second b ≡ true
    → formula_true v (forbidden first (negate l) ++ forbidden second l) ≡ true
required_by v l true true b is e = refl
required_by v l true false true is e = of_single (lit_true v l) is
required_by v l true false false is e = absurd (no_falsehood e)
required_by v l false true true is e = absurd (no_falsehood e)
required_by v l false true false is e = of_single (lit_true v (negate l)) (flipped v l false is)
required_by v l false false true is e = absurd (no_falsehood e)
required_by v l false false false is e = absurd (no_falsehood e)

not_true : (b : Bool) → not b ≡ true → b ≡ false
not_true true e = cc
not_true false e = refl

-- there is a solution of the group clauses for each value of the first literal
one_each : (fixed : List (List Lit)) (l m : Lit) → EachChoiceOnce fixed ((l ∷ m ∷ []) ∷ []) → (b : Bool)
    → (a : List Bool) × (length a ≡ variables fixed) × (formula_true (value_in a) fixed ≡ true) × (lit_true (value_in a) l ≡ b)
one_each fixed l m once true =
    let s = once (0 ∷ []) (omega arith, tt) in
    let v = value_in s.0 in
    let here : is_only_at v (l ∷ m ∷ []) 0 ≡ true = (and_true (is_only_at v (l ∷ m ∷ []) 0) true s.1.chosen).0 in
    (s.0, s.1.whole, s.1.holds, (and_true (lit_true v l) (not (lit_true v m || false)) here).0)
one_each fixed l m once false =
    let s = once (1 ∷ []) (omega arith, tt) in
    let v = value_in s.0 in
    let here : is_only_at v (l ∷ m ∷ []) 1 ≡ true = (and_true (is_only_at v (l ∷ m ∷ []) 1) true s.1.chosen).0 in
    (s.0, s.1.whole, s.1.holds, not_true (lit_true v l) (and_true (not (lit_true v l)) (is_only_at v (m ∷ []) 0) here).0)

of_pair : (c : Drawn) (l m : Lit) (first second : Bool) → c.groups ≡ (l ∷ m ∷ []) ∷ []
    → c.required ≡ forbidden first (negate l) ++ forbidden second l → EachChoiceOnce c.fixed c.groups → variables c.required ≤ variables c.fixed
    → ChoosesAmong first second c l
of_pair c l m first second groups required once posed = record {
  allowed = λ a is. allowed_by (value_in a) l first second (lit_true (value_in a) l) refl
      (subst (λ f. formula_true (value_in a) f ≡ true) required (behind (value_in a) c.fixed c.required is.clauses));
  solved = λ b e.
      let s = one_each c.fixed l m (subst (EachChoiceOnce c.fixed) groups once) b in
      let rest : formula_true (value_in s.0) c.required ≡ true =
      subst (λ f. formula_true (value_in s.0) f ≡ true) (sym required) (required_by (value_in s.0) l first second b s.3 e) in (
        s.0,
        record {
          whole = omega (arith, variables-append c.fixed c.required, s.1, posed);
          clauses = formula_true-append (value_in s.0) c.fixed c.required s.2 rest;
        },
      );
  few = subst (λ (gs : List (List Lit)). choices gs ≤ 2) (sym groups) (omega arith);
}

pub choosing : (c : Drawn) (g : List Lit) (l d : Lit) (first second : Bool) → length g ≡ 2 → l ≡ slice_index_or g 0 d → c.groups ≡ g ∷ []
    → c.required ≡ forbidden first (negate l) ++ forbidden second l → EachChoiceOnce c.fixed c.groups → variables c.required ≤ variables c.fixed
    → ChoosesAmong first second c l
choosing c [] l d first second long is groups = absurd (omega (arith, long))
choosing c (x ∷ []) l d first second long is groups = absurd (omega (arith, long))
choosing c (x ∷ m ∷ []) l d first second long is groups = of_pair c l m first second
    (subst (λ y. c.groups ≡ (y ∷ m ∷ []) ∷ []) (sym is) groups)
choosing c (x ∷ m ∷ n ∷ g) l d first second long is groups = absurd (omega (arith, long))

-- each answer that meets the case gives a solution of a circuit that allows those that do
pub meeting_solved : (m : Rows) (k zero_meets one_meets : Bool) (c : Drawn) (l : Lit) → zero_meets ≡ meets_at m 0 k → one_meets ≡ meets_at m 1 k
    → ChoosesAmong zero_meets one_meets c l → (n : ℕ) → n < 2 → Meets m n k → (a : List Bool) × IsSatisfied (formula_of c) a
meeting_solved m k z o c l zero_is one_is chooses zero less meets = chooses.solved true (zero_is ∙ meets)
meeting_solved m k z o c l zero_is one_is chooses (suc zero) less meets = chooses.solved false (one_is ∙ meets)
meeting_solved m k z o c l zero_is one_is chooses (suc (suc n)) less meets = absurd (omega (arith, less))

-- a circuit that allows the cases that none of the answers meets asks for them
pub unmet_asked : (m : Rows) (ns : List ℕ) (first second : Bool) (c : Drawn) (l : Lit) → first ≡ is_met m ns true → second ≡ is_met m ns false
    → ChoosesAmong (not first) (not second) c l → Asks m ns c
unmet_asked m ns f s c l first_is second_is chooses true e = chooses.solved true (ap not (first_is ∙ e))
unmet_asked m ns f s c l first_is second_is chooses false e = chooses.solved false (ap not (second_is ∙ e))

met_allowed : (m : Rows) (ns : List ℕ) (first second k : Bool) → first ≡ is_met m ns true → second ≡ is_met m ns false
    → is_met m ns k ≡ true → is_allowed (not first) (not second) k ≡ true → ⊥
met_allowed m ns f s true first_is second_is e allowed = no_falsehood (sym (ap not (first_is ∙ e)) ∙ allowed)
met_allowed m ns f s false first_is second_is e allowed = no_falsehood (sym (ap not (second_is ∙ e)) ∙ allowed)

-- each of its solutions stands for such a case
pub unmet_told : (m : Rows) (ns : List ℕ) (first second : Bool) (c : Drawn) (l : Lit) → first ≡ is_met m ns true → second ≡ is_met m ns false
    → ChoosesAmong (not first) (not second) c l → Tells (λ (k : Bool). ⊤) (Meets m) ns c (is_first l)
unmet_told m ns f s c l first_is second_is chooses a is = (
  tt,
  λ n named meets. met_allowed m ns f s (is_first l a) first_is second_is (met_by m ns n (is_first l a) named meets) (chooses.allowed a is),
)
