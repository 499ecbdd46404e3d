-- No two lines have the same literals.
use Rattle.std.proofs.Common.{◌≡◌, ℕ, ◌+◌, ◌<◌, suc, zero, List, [], ◌∷◌, ◌++◌, length, get_or, arith, sym, ◌∙◌, Option, Some, None, Bool, true, false, eqb, not, ◌&&◌, ◌||◌, refl, ap, subst}
use Rattle.std.specs.Prelude.{is_none}
use Rattle.std.specs.Bool.{beq}
use Rattle.std.specs.List.{list_all}
use Rattle.cnf_base.specs.declared.lit.Lit.{Lit}
use Rattle.cnf_base.specs.declared.line.Line.{Line}
use Rattle.cnf_base.specs.Clauses.{is_same, has, is_within, same_literals, negate}
use Rattle.cnf_base.specs.Known.{Partial, is_false, is_value, made_true}
use Rattle.cnf_base.specs.Derivation.{lone}
use Rattle.cnf_base.proofs.Sound.{and_true, eqb_same, is_value_some}
use Rattle.cnf_check.specs.Checked.{AreDistinct}
use Rattle.cnf_search.specs.Trails.{Entry, IsReason, Explained, after}
use Rattle.cnf_search.proofs.Accepted.{same_parts, lone_of_reason}
use Rattle.cnf_search.proofs.Extends.{Extends, extends_after}
use Rattle.cnf_search.specs.Unforced.{UnforcedAt, Unforced}
use Rattle.cnf_search.proofs.Learned.{eqb_refl}

differ : true ≡ false → ⊥
differ h = cc

same_literal : (l m x : Lit) → is_same l m ≡ true → is_same l x ≡ is_same m x
same_literal l m x e = let a = same_parts l m e in λ i. eqb (a.0 i) x.var && beq (a.1 i) x.positive

same_turned : (m l x : Lit) → is_same l x ≡ true → is_same m l ≡ is_same m x
same_turned m l x e = let a = same_parts l x e in λ i. eqb m.var (a.0 i) && beq m.positive (a.1 i)

false_same : (p : Partial) (l x : Lit) → is_same l x ≡ true → is_false p l ≡ is_false p x
false_same p l x e = let a = same_parts l x e in λ i. is_value (p (a.0 i)) (not (a.1 i))

-- what a reason says of each of its literals
pub reason_each : (p : Partial) (c : List Lit) (m l : Lit) → list_all (λ x. is_same m x || is_false p x) c ≡ true → has c l ≡ true → is_same m l || is_false p l ≡ true
reason_each p [] m l h k = cc
reason_each p (x ∷ c) m l h k =
    let s = and_true (is_same m x || is_false p x) (list_all (λ x. is_same m x || is_false p x) c) h in
    elim (is_same l x) as (λ b. is_same l x ≡ b → b || has c l ≡ true → is_same m l || is_false p l ≡ true) [
      | true ↦ λ e _. (λ i. same_turned m l x e i || false_same p l x e i) ∙ s.0
      | false ↦ λ _ j. reason_each p c m l s.1 j
    ] refl k

reason_within : (p : Partial) (c d : List Lit) (m : Lit) → list_all (λ x. is_same m x || is_false p x) c ≡ true → is_within d c ≡ true
    → list_all (λ x. is_same m x || is_false p x) d ≡ true
reason_within p c [] m h k = refl
reason_within p c (x ∷ d) m h k =
    let s = and_true (has c x) (is_within d c) k in
    rw (reason_each p c m x h s.0) (reason_within p c d m h s.1)

has_same : (d : List Lit) (m l : Lit) → is_same l m ≡ true → has d m ≡ true → has d l ≡ true
has_same [] m l e j = cc
has_same (x ∷ d) m l e j =
    elim (is_same m x) as (λ b. is_same m x ≡ b → b || has d m ≡ true → is_same l x || has d l ≡ true) [
      | true ↦ λ t _. rw (same_literal l m x e, t) refl
      | false ↦ λ t i. rw (same_literal l m x e, t) (has_same d m l e i)
    ] refl j

has_within : (c d : List Lit) (l : Lit) → is_within c d ≡ true → has c l ≡ true → has d l ≡ true
has_within [] d l h k = cc
has_within (m ∷ c) d l h k =
    let s = and_true (has d m) (is_within c d) h in
    elim (is_same l m) as (λ b. is_same l m ≡ b → b || has c l ≡ true → has d l ≡ true) [
      | true ↦ λ e _. has_same d m l e s.0
      | false ↦ λ _ j. has_within c d l s.1 j
    ] refl k

-- a clause that asks for a literal differs from one that doesn't
pub reason_differs : (p : Partial) (c d : List Lit) (m : Lit) → IsReason p c m → (IsReason p d m → ⊥) → same_literals d c ≡ false
reason_differs p c d m r never =
    elim (same_literals d c) as (λ b. same_literals d c ≡ b → b ≡ false) [
      | true ↦ λ e.
          let s = and_true (is_within d c) (is_within c d) e in
          absurd (never (record { others = reason_within p c d m r.others s.0; there = has_within c d m s.1 r.there; open_yet = r.open_yet }))
      | false ↦ λ _. refl
    ] refl

pub unforced_split : (lines : List Line) (p : Partial) (xs ys : List Entry) → Unforced lines p (xs ++ ys) → Unforced lines p xs × Unforced lines (after p xs) ys
unforced_split lines p [] ys x = (tt, x)
unforced_split lines p (e ∷ xs) ys x = let r = unforced_split lines (made_true p e.lit) xs ys x.1 in ((x.0, r.0), r.1)

pub unforced_push : (lines : List Line) (p : Partial) (es : List Entry) (e : Entry) → Unforced lines p es → UnforcedAt lines (after p es) e.reason e.lit → Unforced lines p (es ++ e ∷ [])
unforced_push lines p [] e x w = (w, tt)
unforced_push lines p (y ∷ es) e x w = (x.0, unforced_push lines (made_true p y.lit) es e x.1 w)

-- what is learned for a decision is none of the earlier lines
pub learned_differs : (lines : List Line) (p : Partial) (front more : List Entry) (l : Lit) (c : List Lit) → Unforced lines p (front ++ (record { lit = l; reason = None }) ∷ more)
    → IsReason (after p front) c (negate l) → (i : ℕ) (d : Line) → i < length lines → same_literals (get_or lines i d).clause c ≡ false
learned_differs lines p front more l c u r i d h =
    let y : Entry = record { lit = l; reason = None } in
    let s = unforced_split lines p front (y ∷ more) u in
    reason_differs (after p front) c (get_or lines i d).clause (negate l) r (s.1.0 i d h)

get_left : {X : Type 0} (xs ys : List X) (i : ℕ) (d : X) → i < length xs → get_or (xs ++ ys) i d ≡ get_or xs i d
get_left [] ys i d h = absurd (omega arith)
get_left (x ∷ xs) ys zero d h = refl
get_left (x ∷ xs) ys (suc i) d h = get_left xs ys i d (omega arith)

get_last : {X : Type 0} (xs : List X) (y : X) (i : ℕ) (d : X) → i ≡ length xs → get_or (xs ++ y ∷ []) i d ≡ y
get_last [] y zero d h = refl
get_last [] y (suc i) d h = absurd (omega arith)
get_last (x ∷ xs) y zero d h = absurd (omega arith)
get_last (x ∷ xs) y (suc i) d h = get_last xs y i d (omega arith)

length_end : {X : Type 0} (xs : List X) (y : X) → length (xs ++ y ∷ []) ≡ length xs + 1
length_end [] y = refl
length_end (x ∷ xs) y = omega (arith, length_end xs y)

below_last : (n m : ℕ) → eqb n m ≡ false → n < m + 1 → n < m
below_last n m e k = grind arith

-- so all lines stay different
pub distinct_learned : (lines : List Line) (x : Line) → AreDistinct lines → ((i : ℕ) (d : Line) → i < length lines → same_literals (get_or lines i d).clause x.clause ≡ false)
    → AreDistinct (lines ++ x ∷ [])
distinct_learned lines x h f i j d a b =
    elim (eqb j (length lines)) as (λ v. eqb j (length lines) ≡ v → same_literals (get_or (lines ++ x ∷ []) i d).clause (get_or (lines ++ x ∷ []) j d).clause ≡ false) [
      | true ↦ λ e.
          let last : j ≡ length lines = eqb_same j (length lines) e in
          let first : i < length lines = omega arith in
          let one = get_left lines (x ∷ []) i d first in
          let two = get_last lines x j d last in
          (λ k. same_literals (one k).clause (two k).clause) ∙ f i d first
      | false ↦ λ e.
          let less : j < length lines = below_last j (length lines) e (omega (arith, length_end lines x)) in
          let one = get_left lines (x ∷ []) i d (omega arith) in
          let two = get_left lines (x ∷ []) j d less in
          (λ k. same_literals (one k).clause (two k).clause) ∙ h i j d a less
    ] refl

-- a clause whose literal `m` has no value yet asks for no other literal before
asks_none : (p q : Partial) (c : List Lit) (m l : Lit) → Extends p q → has c m ≡ true → q m.var ≡ None → is_same l m ≡ false → IsReason p c l → ⊥
asks_none p q c m l e h none away r =
    let t : is_same l m || is_false p m ≡ true = reason_each p c l m r.others h in
    let f : is_false p m ≡ true = (λ i. sym away i || is_false p m) ∙ t in
    let v : q m.var ≡ Some (not m.positive) = e.keeps m.var (not m.positive) (is_value_some (p m.var) (not m.positive) f) in
    let bad : None ≡ Some (not m.positive) = sym none ∙ v in
    cc

apart_same : (q : Partial) (l m : Lit) (b : Bool) → q l.var ≡ Some b → q m.var ≡ None → is_same (negate l) m ≡ false
apart_same q l m b some none =
    elim (eqb l.var m.var) as (λ t. eqb l.var m.var ≡ t → t && beq (not l.positive) m.positive ≡ false) [
      | true ↦ λ e. let bad : Some b ≡ None = sym some ∙ (ap q (eqb_same l.var m.var e) ∙ none) in cc
      | false ↦ λ _. refl
    ] refl

-- a new line with a literal that has no value after these entries
pub unforced_line : (cs : List (List Lit)) (lines : List Line) (p : Partial) (es : List Entry) (x : Line) (m : Lit) → Explained cs p es → Unforced lines p es
    → has x.clause m ≡ true → after p es m.var ≡ None → Unforced (lines ++ x ∷ []) p es
unforced_line cs lines p [] x m ex u h none = tt
unforced_line cs lines p (e ∷ es) x m ex u h none =
    (at e.reason u.0, unforced_line cs lines (made_true p e.lit) es x m ex.1 u.1 h none)
  where
    q : Partial
    q = after (made_true p e.lit) es

    value : q e.lit.var ≡ Some e.lit.positive
    value = (extends_after cs (made_true p e.lit) es ex.1).keeps e.lit.var e.lit.positive (rw (eqb_refl e.lit.var) refl)

    asks : IsReason p x.clause (negate e.lit) → ⊥
    asks r = asks_none p q x.clause m (negate e.lit) (extends_after cs p (e ∷ es) ex) h none (apart_same q e.lit m e.lit.positive value none) r

    at : (r : Option ℕ) → UnforcedAt lines p r e.lit → UnforcedAt (lines ++ x ∷ []) p r e.lit
    at (Some n) w = tt
    at None w = λ i d k r.
        let P : Line → Type 0 = λ z. IsReason p z.clause (negate e.lit) in
        elim (eqb i (length lines)) as (λ v. eqb i (length lines) ≡ v → ⊥) [
          | true ↦ λ s. asks (subst P (get_last lines x i d (eqb_same i (length lines) s)) r)
          | false ↦ λ s.
              let less : i < length lines = below_last i (length lines) s (omega (arith, length_end lines x)) in
              w i d less (subst P (get_left lines (x ∷ []) i d less) r)
        ] refl

-- a line in which nothing is to do asks for nothing, so a decision may be made where all lines are quiet
pub calm_unforced : (p : Partial) (c : List Lit) (l : Lit) → is_none (lone p c) ≡ true → IsReason p c l → ⊥
calm_unforced p c l h r =
    let m = lone_of_reason p c l r in
    let bad : false ≡ true = ap is_none (sym m.1) ∙ h in
    cc
