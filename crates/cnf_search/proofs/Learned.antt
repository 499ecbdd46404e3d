-- The clause that a pass makes is accepted by its hints, and leaves just the negation of its last decision before it.
use Rattle.std.proofs.Common.{◌≡◌, ℕ, ◌+◌, List, [], ◌∷◌, ◌++◌, slice_get, arith, sym, ◌∙◌, Option, Some, None, Bool, true, false, cond, eqb, not, ◌&&◌, ◌||◌, refl, ap}
use Rattle.std.specs.Prelude.{is_some}
use Rattle.std.specs.List.{list_any, list_all}
use Rattle.std.proofs.lemmas.Bool.Decides.{Decides-eqb}
use Rattle.cnf_base.specs.declared.lit.Lit.{Lit}
use Rattle.cnf_base.specs.Clauses.{is_same, negate, is_negation}
use Rattle.cnf_base.specs.Known.{Partial, is_false, is_value, made_true}
use Rattle.cnf_base.specs.Derivation.{accepted, is_all_false, follow, falsified, is_tautology, outcome}
use Rattle.cnf_base.proofs.Sound.{and_true, eqb_same, beq_refl, is_value_some}
use Rattle.cnf_search.specs.Trails.{Entry, HasReason, Why, Explained, after, values, nothing}
use Rattle.cnf_search.proofs.Accepted.{follow_reason, follow_last}
use Rattle.cnf_search.specs.Passes.{Pass, with_clause, step, late_after, pass, begun}

pub why_open : (cs : List (List Lit)) (p : Partial) (o : Option ℕ) (l : Lit) → Why cs p o l → p l.var ≡ None
why_open cs p None l w = w
why_open cs p (Some h) l w = w.reason.open_yet

pub eqb_refl : (n : ℕ) → eqb n n ≡ true
eqb_refl n = (Decides-eqb n n).1 refl

-- a variable with a value isn't that of a literal without one
apart : (q : Partial) (m n : ℕ) (b : Bool) → q m ≡ None → q n ≡ Some b → eqb m n ≡ false
apart q m n b none some =
    elim (eqb m n) as (λ t. eqb m n ≡ t → t ≡ false) [
      | true ↦ λ e. let bad : None ≡ Some b = sym none ∙ (ap q (eqb_same m n e) ∙ some) in cc
      | false ↦ λ _. refl
    ] refl

-- what the values of the hints have to be at an entry
abbrev pub FitAt : Partial → Option ℕ → Lit → Bool → Bool → Type 0
FitAt q r l false t = Unit {0}
FitAt q None l true t = q l.var ≡ Some l.positive
FitAt q (Some h) l true true = q l.var ≡ Some l.positive
FitAt q (Some h) l true false = q l.var ≡ None

abbrev pub Fit : List (List Lit) → Bool → ℕ → Pass → Partial → List Entry → Type 0
Fit cs late i s q [] = Unit {0}
Fit cs late i s q (e ∷ es) =
    FitAt q e.reason e.lit ((pass cs (late_after late e) (i + 1) es s).seen e.lit.var) (late && is_some (pass cs (late_after late e) (i + 1) es s).found)
    × Fit cs (late_after late e) (i + 1) s q es

-- what was seen and has a value on the trail has it under the hints
pub record Shows (m : ℕ → Bool) (p q : Partial) : Type 0 where
  pub at : (n : ℕ) (b : Bool) → m n ≡ true → p n ≡ Some b → q n ≡ Some b

fit_moved : (q : Partial) (l : Lit) (r : Option ℕ) (m : Lit) (b t : Bool) → eqb l.var m.var ≡ false → FitAt q r m b t → FitAt (made_true q l) r m b t
fit_moved q l r m false t e f = f
fit_moved q l None m true t e f = rw e f
fit_moved q l (Some h) m true true e f = rw e f
fit_moved q l (Some h) m true false e f = rw e f

-- a value of an entry before these changes nothing in what fits them
fit_more : (cs : List (List Lit)) (late : Bool) (i : ℕ) (s : Pass) (p q : Partial) (l : Lit) (b : Bool) (es : List Entry) → Explained cs p es → p l.var ≡ Some b
    → Fit cs late i s q es → Fit cs late i s (made_true q l) es
fit_more cs late i s p q l b [] x v f = f
fit_more cs late i s p q l b (e ∷ es) x v f =
    let away : eqb e.lit.var l.var ≡ false = apart p e.lit.var l.var b (why_open cs p e.reason e.lit x.0) v in
    let other : eqb l.var e.lit.var ≡ false = turned e.lit.var l.var away in
    let still : made_true p e.lit l.var ≡ Some b = rw away v in (
      fit_moved q l e.reason e.lit ((pass cs (late_after late e) (i + 1) es s).seen e.lit.var) (late && is_some (pass cs (late_after late e) (i + 1) es s).found) other f.0,
      fit_more cs (late_after late e) (i + 1) s (made_true p e.lit) q l b es x.1 still f.1,
    )
  where
    turned : (m n : ℕ) → eqb m n ≡ false → eqb n m ≡ false
    turned m n h = grind (arith, Decides-eqb)

-- a false literal that was seen is false under the hints
shown_false : (m : ℕ → Bool) (p q : Partial) (x : Lit) → Shows m p q → m x.var ≡ true → is_false p x ≡ true → is_false q x ≡ true
shown_false m p q x s k f =
    let v : q x.var ≡ Some (not x.positive) = s.at x.var (not x.positive) k (is_value_some (p x.var) (not x.positive) f) in
    ap (λ (o : Option Bool). is_value o (not x.positive)) v ∙ beq_refl (not x.positive)

shown_all : (c : List Lit) (m : ℕ → Bool) (p q : Partial) → Shows m p q → list_all (λ x. m x.var) c ≡ true → is_all_false p c ≡ true → is_all_false q c ≡ true
shown_all [] m p q s k f = refl
shown_all (x ∷ c) m p q s k f =
    let a = and_true (m x.var) (list_all (λ x. m x.var) c) k in
    let b = and_true (is_false p x) (is_all_false p c) f in
    rw (shown_false m p q x s a.0 b.0) (shown_all c m p q s a.1 b.1)

shown_others : (c : List Lit) (l : Lit) (m : ℕ → Bool) (p q : Partial) → Shows m p q → list_all (λ x. m x.var) c ≡ true
    → list_all (λ x. is_same l x || is_false p x) c ≡ true → list_all (λ x. is_same l x || is_false q x) c ≡ true
shown_others [] l m p q s k f = refl
shown_others (x ∷ c) l m p q s k f =
    let a = and_true (m x.var) (list_all (λ x. m x.var) c) k in
    let b = and_true (is_same l x || is_false p x) (list_all (λ x. is_same l x || is_false p x) c) f in
    rw (either (is_same l x) b.0 (shown_false m p q x s a.0)) (shown_others c l m p q s a.1 b.1)
  where
    either : (t : Bool) → t || is_false p x ≡ true → (is_false p x ≡ true → is_false q x ≡ true) → t || is_false q x ≡ true
    either true h k = refl
    either false h k = k h

all_more : (c : List Lit) (m k : ℕ → Bool) → ((n : ℕ) → m n ≡ true → k n ≡ true) → list_all (λ x. m x.var) c ≡ true → list_all (λ x. k x.var) c ≡ true
all_more [] m k h f = refl
all_more (x ∷ c) m k h f =
    let a = and_true (m x.var) (list_all (λ x. m x.var) c) f in
    rw (h x.var a.0) (all_more c m k h a.1)

or_right : (a b : Bool) → b ≡ true → a || b ≡ true
or_right true b h = refl
or_right false b h = h

-- the variables of a clause are seen
pub clause_seen : (c : List Lit) (m : ℕ → Bool) → list_all (λ x. list_any (λ y. eqb y.var x.var) c || m x.var) c ≡ true
clause_seen [] m = refl
clause_seen (x ∷ c) m =
    rw (eqb_refl x.var) (all_more c (λ n. list_any (λ y. eqb y.var n) c || m n) (λ n. (eqb x.var n || list_any (λ y. eqb y.var n) c) || m n)
    (λ n h. wider (eqb x.var n) (list_any (λ y. eqb y.var n) c) (m n) h) (clause_seen c m))
  where
    wider : (a b c : Bool) → b || c ≡ true → (a || b) || c ≡ true
    wider true b c h = refl
    wider false b c h = h

-- the hints that are left are never empty
one_hint : (cs : List (List Lit)) (q : Partial) (i h : ℕ) (hs : List ℕ) (last : ℕ) (l : Lit) → HasReason cs q h l
    → follow cs (made_true q l) (i + 1) (hs ++ last ∷ []) ≡ accepted → follow cs q i (h ∷ (hs ++ last ∷ [])) ≡ accepted
one_hint cs q i h [] last l r k = follow_reason cs q i h last [] l r ∙ k
one_hint cs q i h (g ∷ hs) last l r k = follow_reason cs q i h g (hs ++ last ∷ []) l r ∙ k

-- the values with an entry that wasn't seen, or that the clause has
shows_kept : (m : ℕ → Bool) (p q : Partial) (l : Lit) → Shows m p q → (m l.var ≡ true → q l.var ≡ Some l.positive) → Shows m (made_true p l) q
shows_kept m p q l s k = record {
  at = λ n b seen. elim (eqb l.var n) as (λ t. eqb l.var n ≡ t → cond t (Some l.positive) (p n) ≡ Some b → q n ≡ Some b) [
    | true ↦ λ e v. let same : l.var ≡ n = eqb_same l.var n e in ap q (sym same) ∙ (k (ap m same ∙ seen) ∙ v)
    | false ↦ λ _ v. s.at n b seen v
  ] refl;
}

shows_resolved : (m k : ℕ → Bool) (p q : Partial) (l : Lit) → Shows k p q → ((n : ℕ) → m n ≡ true → k n ≡ true) → Shows m (made_true p l) (made_true q l)
shows_resolved m k p q l s h = record {
  at = λ n b seen. elim (eqb l.var n) as (λ t. cond t (Some l.positive) (p n) ≡ Some b → cond t (Some l.positive) (q n) ≡ Some b) [
    | true ↦ λ v. v
    | false ↦ λ v. s.at n b (h n seen) v
  ];
}

-- one entry
entry_passed : (cs : List (List Lit)) (p q : Partial) (i j : ℕ) (r : Option ℕ) (l : Lit) (s : Pass) (b t : Bool) (last : ℕ) → s.seen l.var ≡ b
    → Shows (step cs j r l s b t).seen p q → Why cs p r l → FitAt q r l b t
    → ((k : ℕ) → Shows s.seen (made_true p l) q → follow cs q k (s.hints ++ last ∷ []) ≡ accepted)
    → ((k : ℕ) → Shows s.seen (made_true p l) (made_true q l) → follow cs (made_true q l) k (s.hints ++ last ∷ []) ≡ accepted)
    → follow cs q i ((step cs j r l s b t).hints ++ last ∷ []) ≡ accepted
entry_passed cs p q i j r l s false t last e sh w f on res = on i (shows_kept s.seen p q l sh (λ k. let bad : true ≡ false = sym k ∙ e in cc))
entry_passed cs p q i j None l s true t last e sh w f on res = on i (shows_kept s.seen p q l sh (λ _. f))
entry_passed cs p q i j (Some h) l s true true last e sh w f on res = on i (shows_kept s.seen p q l sh (λ _. f))
entry_passed cs p q i j (Some h) l s true false last e sh w f on res =
    let known : with_clause (slice_get cs h) s.seen ≡ with_clause (Some w.clause) s.seen = ap (λ (o : Option (List Lit)). with_clause o s.seen) w.named in
    let sh2 : Shows (with_clause (Some w.clause) s.seen) p q = record { at = λ n b k v. sh.at n b (ap (λ (g : ℕ → Bool). g n) known ∙ k) v } in
    let reason : HasReason cs q h l = record {
      clause = w.clause;
      named = w.named;
      reason = record {
        others = shown_others w.clause l (with_clause (Some w.clause) s.seen) p q sh2 (clause_seen w.clause s.seen) w.reason.others;
        there = w.reason.there;
        open_yet = f;
      };
    } in
    one_hint cs q i h s.hints last l reason
    (res (i + 1) (shows_resolved s.seen (with_clause (Some w.clause) s.seen) p q l sh2 (λ n k. or_right (list_any (λ y. eqb y.var n) w.clause) (s.seen n) k)))

-- the hints of a pass lead to the false clause
pub pass_accepted : (cs : List (List Lit)) (late : Bool) (p q : Partial) (i j : ℕ) (es : List Entry) (last : ℕ) (c : List Lit) → Explained cs p es
    → Shows (pass cs late j es (begun c)).seen p q → Fit cs late j (begun c) q es → slice_get cs last ≡ Some c → is_all_false (after p es) c ≡ true
    → follow cs q i ((pass cs late j es (begun c)).hints ++ last ∷ []) ≡ accepted
pass_accepted cs late p q i j [] last c x sh f e a = follow_last cs q i last c e (shown_all c (λ n. list_any (λ y. eqb y.var n) c) p q sh (own c) a)
  where
    own : (c : List Lit) → list_all (λ x. list_any (λ y. eqb y.var x.var) c) c ≡ true
    own c = all_more c (λ n. list_any (λ y. eqb y.var n) c || false) (λ n. list_any (λ y. eqb y.var n) c) (λ n h. less (list_any (λ y. eqb y.var n) c) h) (clause_seen c (λ n. false))
      where
        less : (a : Bool) → a || false ≡ true → a ≡ true
        less true h = refl
        less false h = h
pass_accepted cs late p q i j (y ∷ es) last c x sh f e a =
    let s : Pass = pass cs (late_after late y) (j + 1) es (begun c) in
    entry_passed cs p q i j y.reason y.lit s (s.seen y.lit.var) (late && is_some s.found) last refl sh x.0 f.0
    (λ k now. pass_accepted cs (late_after late y) (made_true p y.lit) q k (j + 1) es last c x.1 now f.1 e a)
    (λ k now. pass_accepted cs (late_after late y) (made_true p y.lit) (made_true q y.lit) k (j + 1) es last c x.1 now
    (fit_more cs (late_after late y) (j + 1) (begun c) (made_true p y.lit) q y.lit y.lit.positive es x.1 (rw (eqb_refl y.lit.var) refl) f.1) e a)

-- the literal of an entry before these stands nowhere in the clause
step_free : (cs : List (List Lit)) (i : ℕ) (r : Option ℕ) (l : Lit) (s : Pass) (b t : Bool) (n : ℕ) → eqb l.var n ≡ false
    → falsified (step cs i r l s b t).clause n ≡ falsified s.clause n
step_free cs i r l s false t n e = refl
step_free cs i None l s true t n e = rw e refl
step_free cs i (Some h) l s true true n e = rw e refl
step_free cs i (Some h) l s true false n e = refl

pass_free : (cs : List (List Lit)) (late : Bool) (i : ℕ) (p : Partial) (es : List Entry) (c : List Lit) (n : ℕ) (b : Bool) → Explained cs p es → p n ≡ Some b
    → falsified (pass cs late i es (begun c)).clause n ≡ None
pass_free cs late i p [] c n b x v = refl
pass_free cs late i p (e ∷ es) c n b x v =
    let s : Pass = pass cs (late_after late e) (i + 1) es (begun c) in
    let away : eqb e.lit.var n ≡ false = apart p e.lit.var n b (why_open cs p e.reason e.lit x.0) v in
    let still : made_true p e.lit n ≡ Some b = rw away v in
    step_free cs i e.reason e.lit s (s.seen e.lit.var) (late && is_some s.found) n away ∙ pass_free cs (late_after late e) (i + 1) (made_true p e.lit) es c n b x.1 still

twice : (b : Bool) → not (not b) ≡ b
twice true = refl
twice false = refl

step_fits : (cs : List (List Lit)) (d : Partial) (i : ℕ) (r : Option ℕ) (l : Lit) (s : Pass) (b t : Bool) → falsified s.clause l.var ≡ None
    → d l.var ≡ falsified (step cs i r l s b t).clause l.var → FitAt d r l b t
step_fits cs d i r l s false t none e = tt
step_fits cs d i None l s true t none e = e ∙ (rw (eqb_refl l.var) (ap Some (twice l.positive)))
step_fits cs d i (Some h) l s true true none e = e ∙ (rw (eqb_refl l.var) (ap Some (twice l.positive)))
step_fits cs d i (Some h) l s true false none e = e ∙ none

-- the values that make the clause false fit the trail
pass_fits : (cs : List (List Lit)) (late : Bool) (i : ℕ) (d p : Partial) (es : List Entry) (c : List Lit)
    → ((n : ℕ) → p n ≡ None → d n ≡ falsified (pass cs late i es (begun c)).clause n) → Explained cs p es → Fit cs late i (begun c) d es
pass_fits cs late i d p [] c same x = tt
pass_fits cs late i d p (e ∷ es) c same x =
    let s : Pass = pass cs (late_after late e) (i + 1) es (begun c) in
    let none : falsified s.clause e.lit.var ≡ None = pass_free cs (late_after late e) (i + 1) (made_true p e.lit) es c e.lit.var e.lit.positive x.1 (rw (eqb_refl e.lit.var) refl) in (
      step_fits cs d i e.reason e.lit s (s.seen e.lit.var) (late && is_some s.found) none (same e.lit.var (why_open cs p e.reason e.lit x.0)),
      pass_fits cs (late_after late e) (i + 1) d (made_true p e.lit) es c (λ n k. later n k) x.1,
    )
  where
    later : (n : ℕ) → made_true p e.lit n ≡ None → d n ≡ falsified (pass cs (late_after late e) (i + 1) es (begun c)).clause n
    later n k =
        elim (eqb e.lit.var n) as (λ b. eqb e.lit.var n ≡ b → cond b (Some e.lit.positive) (p n) ≡ None → d n ≡ falsified (pass cs (late_after late e) (i + 1) es (begun c)).clause n) [
          | true ↦ λ _ j. cc
          | false ↦ λ f j. same n j ∙ step_free cs i e.reason e.lit (pass cs (late_after late e) (i + 1) es (begun c))
              ((pass cs (late_after late e) (i + 1) es (begun c)).seen e.lit.var) (late && is_some (pass cs (late_after late e) (i + 1) es (begun c)).found) n f
        ] refl k

-- a clause without a variable has no literal beside its negation
no_negation : (c : List Lit) (l : Lit) → falsified c l.var ≡ None → list_any (is_negation l) c ≡ false
no_negation [] l h = refl
no_negation (m ∷ c) l h =
    elim (eqb m.var l.var) as (λ b. eqb m.var l.var ≡ b → cond b (Some (not m.positive)) (falsified c l.var) ≡ None → is_negation l m || list_any (is_negation l) c ≡ false) [
      | true ↦ λ _ k. cc
      | false ↦ λ f k. rw (turned f) (no_negation c l k)
    ] refl h
  where
    turned : eqb m.var l.var ≡ false → eqb l.var m.var ≡ false
    turned f = grind (arith, Decides-eqb)

step_plain : (cs : List (List Lit)) (i : ℕ) (r : Option ℕ) (l : Lit) (s : Pass) (b t : Bool) → falsified s.clause l.var ≡ None → is_tautology s.clause ≡ false
    → is_tautology (step cs i r l s b t).clause ≡ false
step_plain cs i r l s false t none k = k
step_plain cs i None l s true t none k = rw (no_negation s.clause (negate l) none) k
step_plain cs i (Some h) l s true true none k = rw (no_negation s.clause (negate l) none) k
step_plain cs i (Some h) l s true false none k = k

pass_plain : (cs : List (List Lit)) (late : Bool) (i : ℕ) (p : Partial) (es : List Entry) (c : List Lit) → Explained cs p es → is_tautology (pass cs late i es (begun c)).clause ≡ false
pass_plain cs late i p [] c x = refl
pass_plain cs late i p (e ∷ es) c x =
    let s : Pass = pass cs (late_after late e) (i + 1) es (begun c) in
    let none : falsified s.clause e.lit.var ≡ None = pass_free cs (late_after late e) (i + 1) (made_true p e.lit) es c e.lit.var e.lit.positive x.1 (rw (eqb_refl e.lit.var) refl) in
    step_plain cs i e.reason e.lit s (s.seen e.lit.var) (late && is_some s.found) none (pass_plain cs (late_after late e) (i + 1) (made_true p e.lit) es c x.1)

-- what is learned from a conflict is a line that the checker accepts
pub learned_line : (cs : List (List Lit)) (es : List Entry) (n : ℕ) (c : List Lit) → Explained cs nothing es → slice_get cs n ≡ Some c → is_all_false (values es) c ≡ true
    → outcome cs (pass cs false 0 es (begun c)).clause ((pass cs false 0 es (begun c)).hints ++ n ∷ []) ≡ accepted
learned_line cs es n c x e a =
    let d : Partial = falsified (pass cs false 0 es (begun c)).clause in
    let shows : Shows (pass cs false 0 es (begun c)).seen nothing d = record { at = λ m b s v. cc } in
    rw (pass_plain cs false 0 nothing es c x)
    (pass_accepted cs false nothing d 0 0 es n c x shows (pass_fits cs false 0 d nothing es c (λ m _. refl) x) e a)
