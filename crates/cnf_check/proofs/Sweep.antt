-- The literals of a clause, made false in one pass.
use Rattle.std.proofs.Common.{◌≡◌, ℕ, List, [], ◌∷◌, sym, ◌∙◌, Option, Some, None, Bool, true, false, cond, eqb, not, ◌&&◌, ◌||◌, refl, ap}
use Rattle.std.specs.Bool.{beq}
use Rattle.std.specs.List.{list_any}
use Rattle.cnf_base.specs.declared.lit.Lit.{Lit}
use Rattle.cnf_base.specs.Clauses.{is_negation}
use Rattle.cnf_base.specs.Known.{Partial, is_true, is_false, is_value, made_true}
use Rattle.cnf_base.specs.Derivation.{falsified, is_tautology}
use Rattle.cnf_base.proofs.Sound.{and_true, eqb_same, some_same, is_value_some}
use Rattle.cnf_check.proofs.Scan.{unvalued}

-- one literal made false
abbrev pub made_false : Partial → Lit → Partial
made_false p l n = cond (eqb l.var n) (Some (not l.positive)) (p n)

-- the pass: none where a literal is true before its turn
abbrev pub sweep : Partial → List Lit → Option Partial
sweep p [] = Some p
sweep p (l ∷ c) = cond (is_true p l) None (cond (is_false p l) (sweep p c) (sweep (made_false p l) c))

abbrev pub over : Option Bool → Option Bool → Option Bool
over None y = y
over (Some x) y = Some x

abbrev pub over_all : Partial → Partial → Partial
over_all p q n = over (p n) (q n)

or_agree : (n a t : Bool) → (n ≡ true → a ≡ true) → a || t ≡ a || (n || t)
or_agree true a t h = let e : a ≡ true = h refl in rw e refl
or_agree false a t h = refl

or_swap : (a b c d : Bool) → (a || b) || (c || d) ≡ (a || c) || (b || d)
or_swap true b c d = refl
or_swap false true true d = refl
or_swap false true false d = refl
or_swap false false c d = refl

or_assoc : (a b c : Bool) → (a || b) || c ≡ a || (b || c)
or_assoc true b c = refl
or_assoc false b c = refl

or_false : (a : Bool) → a || false ≡ a
or_false true = refl
or_false false = refl

beq-not : (a b : Bool) → beq (not a) b ≡ not (beq a b)
beq-not true true = refl
beq-not true false = refl
beq-not false true = refl
beq-not false false = refl

over-None : (x : Option Bool) → over x None ≡ x
over-None None = refl
over-None (Some x) = refl

any_or : (f g h : Lit → Bool) → ((x : Lit) → f x ≡ g x || h x) → (c : List Lit) → list_any f c ≡ list_any g c || list_any h c
any_or f g h e [] = refl
any_or f g h e (l ∷ c) = rw (e l, any_or f g h e c) (or_swap (g l) (h l) (list_any g c) (list_any h c))

-- the negation of a false literal is true
negation_true : (p : Partial) (l m : Lit) → is_false p l ≡ true → is_negation l m ≡ true → is_true p m ≡ true
negation_true p l m h k =
    let s : (eqb l.var m.var ≡ true) × (not (beq l.positive m.positive) ≡ true) = and_true (eqb l.var m.var) (not (beq l.positive m.positive)) k in
    let n : l.var ≡ m.var = eqb_same l.var m.var s.0 in
    let v : p l.var ≡ Some (not l.positive) = is_value_some (p l.var) (not l.positive) h in
    rw (← n, v, beq-not l.positive m.positive) s.1

any_negation : (p : Partial) (l : Lit) (c : List Lit) → is_false p l ≡ true → list_any (is_negation l) c ≡ true → list_any (is_true p) c ≡ true
any_negation p l [] h k = cc
any_negation p l (m ∷ c) h k =
    elim (is_negation l m) as (λ b. is_negation l m ≡ b → b || list_any (is_negation l) c ≡ true → is_true p m || list_any (is_true p) c ≡ true) [
      | true ↦ λ e _. rw (negation_true p l m h e) refl
      | false ↦ λ _ t. rw (any_negation p l c h t) (elim (is_true p m) as (λ b. b || true ≡ true) [ true ↦ refl | false ↦ refl ])
    ] refl k

more_true : (p : Partial) (l : Lit) → p l.var ≡ None → (m : Lit) → is_true (made_false p l) m ≡ is_true p m || is_negation l m
more_true p l h m =
    elim (eqb l.var m.var) as (λ b. eqb l.var m.var ≡ b → is_value (cond b (Some (not l.positive)) (p m.var)) m.positive ≡ is_value (p m.var) m.positive || (b && not (beq l.positive m.positive))) [
      | true ↦ λ e.
          let n : l.var ≡ m.var = eqb_same l.var m.var e in
          let v : p m.var ≡ None = ap p (sym n) ∙ h in
          rw v (beq-not l.positive m.positive)
      | false ↦ λ _. sym (or_false (is_value (p m.var) m.positive))
    ] refl

covered : (p : Partial) (l : Lit) (c : List Lit) → is_false p l ≡ true → over_all p (falsified c) ≡ over_all p (falsified (l ∷ c))
covered p l c h = λ i. λ n. at n i
  where
    at : (n : ℕ) → over (p n) (falsified c n) ≡ over (p n) (cond (eqb l.var n) (Some (not l.positive)) (falsified c n))
    at n = elim (eqb l.var n) as (λ b. eqb l.var n ≡ b → over (p n) (falsified c n) ≡ over (p n) (cond b (Some (not l.positive)) (falsified c n))) [
      | true ↦ λ e.
          let k : l.var ≡ n = eqb_same l.var n e in
          let v : p n ≡ Some (not l.positive) = ap p (sym k) ∙ is_value_some (p l.var) (not l.positive) h in
          rw v refl
      | false ↦ λ _. refl
    ] refl

added : (p : Partial) (l : Lit) (c : List Lit) → p l.var ≡ None → over_all (made_false p l) (falsified c) ≡ over_all p (falsified (l ∷ c))
added p l c h = λ i. λ n. at n i
  where
    at : (n : ℕ) → over (cond (eqb l.var n) (Some (not l.positive)) (p n)) (falsified c n) ≡ over (p n) (cond (eqb l.var n) (Some (not l.positive)) (falsified c n))
    at n = elim (eqb l.var n) as (λ b. eqb l.var n ≡ b → over (cond b (Some (not l.positive)) (p n)) (falsified c n) ≡ over (p n) (cond b (Some (not l.positive)) (falsified c n))) [
      | true ↦ λ e.
          let k : l.var ≡ n = eqb_same l.var n e in
          let v : p n ≡ None = ap p (sym k) ∙ h in
          rw v refl
      | false ↦ λ _. refl
    ] refl

-- what the pass answers
abbrev pub swept : Bool → Partial → Option Partial
swept b p = cond b None (Some p)

sweep_is : (p : Partial) (c : List Lit) → sweep p c ≡ swept (list_any (is_true p) c || is_tautology c) (over_all p (falsified c))
sweep_is p [] = let e : over_all p (falsified []) ≡ p = λ i. λ n. over-None (p n) i in ap Some (sym e)
sweep_is p (l ∷ c) =
    elim (is_true p l) as (λ b. is_true p l ≡ b → cond b None (cond (is_false p l) (sweep p c) (sweep (made_false p l) c))
    ≡ swept ((b || list_any (is_true p) c) || (list_any (is_negation l) c || is_tautology c)) (over_all p (falsified (l ∷ c)))) [
      | true ↦ λ _. refl
      | false ↦ λ t. elim (is_false p l) as (λ b. is_false p l ≡ b → cond b (sweep p c) (sweep (made_false p l) c)
          ≡ swept (list_any (is_true p) c || (list_any (is_negation l) c || is_tautology c)) (over_all p (falsified (l ∷ c)))) [
            | true ↦ λ f.
                let bits : list_any (is_true p) c || is_tautology c ≡ list_any (is_true p) c || (list_any (is_negation l) c || is_tautology c) =
                or_agree (list_any (is_negation l) c) (list_any (is_true p) c) (is_tautology c) (any_negation p l c f) in
                sweep_is p c ∙ both _ _ _ _ bits (covered p l c f)
            | false ↦ λ f.
                let none : p l.var ≡ None = unvalued (p l.var) l.positive t f in
                let bits : list_any (is_true (made_false p l)) c || is_tautology c ≡ list_any (is_true p) c || (list_any (is_negation l) c || is_tautology c) =
                ap (λ b. b || is_tautology c) (any_or (is_true (made_false p l)) (is_true p) (is_negation l) (more_true p l none) c)
                ∙ or_assoc (list_any (is_true p) c) (list_any (is_negation l) c) (is_tautology c) in
                sweep_is (made_false p l) c ∙ both _ _ _ _ bits (added p l c none)
          ] refl
    ] refl
  where
    both : (a b : Bool) (p q : Partial) → a ≡ b → p ≡ q → swept a p ≡ swept b q
    both a b p q e f = λ i. swept (e i) (f i)

any_none : (c : List Lit) → list_any (is_true (λ _. None)) c ≡ false
any_none [] = refl
any_none (l ∷ c) = any_none c

-- the values from which the pass starts
abbrev pub nothing : Partial
nothing n = None

pub sweep_start : (c : List Lit) → sweep nothing c ≡ swept (is_tautology c) (falsified c)
sweep_start c = sweep_is nothing c ∙ ap (λ b. swept (b || is_tautology c) (falsified c)) (any_none c)

pub sweep_true : (p : Partial) (l : Lit) (c : List Lit) → is_true p l ≡ true → sweep p (l ∷ c) ≡ None
sweep_true p l c h = rw h refl

pub sweep_skip : (p : Partial) (l : Lit) (c : List Lit) → is_true p l ≡ false → is_false p l ≡ true → sweep p (l ∷ c) ≡ sweep p c
sweep_skip p l c h k = rw (h, k) refl

pub sweep_set : (p : Partial) (l m : Lit) (c : List Lit) → is_true p l ≡ false → is_false p l ≡ false → m.var ≡ l.var → m.positive ≡ not l.positive
    → sweep p (l ∷ c) ≡ sweep (made_true p m) c
sweep_set p l m c h k e f = rw (h, k) (ap (λ (q : Partial). sweep q c) (λ i. λ n. cond (eqb ((sym e) i) n) (Some ((sym f) i)) (p n)))

pub swept_none : (c : List Lit) → sweep nothing c ≡ None → is_tautology c ≡ true
swept_none c h = none_is (is_tautology c) (falsified c) (sym (sweep_start c) ∙ h)
  where
    none_is : (b : Bool) (p : Partial) → swept b p ≡ None → b ≡ true
    none_is true p e = refl
    none_is false p e = cc

pub swept_some : (c : List Lit) (q : Partial) → sweep nothing c ≡ Some q → (is_tautology c ≡ false) × (q ≡ falsified c)
swept_some c q h = some_is (is_tautology c) (falsified c) (sym (sweep_start c) ∙ h)
  where
    some_is : (b : Bool) (p : Partial) → swept b p ≡ Some q → (b ≡ false) × (q ≡ p)
    some_is true p e = cc
    some_is false p e = (refl, sym (some_same p q e))
