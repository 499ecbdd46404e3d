-- The clause that is learned leaves just the negation of its last decision before that decision.
use Rattle.std.proofs.Common.{◌≡◌, ℕ, ◌+◌, List, [], ◌∷◌, arith, sym, ◌∙◌, Option, Some, None, Bool, true, false, not, ◌&&◌, ◌||◌, refl, ap, subst}
use Rattle.std.specs.Prelude.{is_some}
use Rattle.cnf_base.specs.declared.lit.Lit.{Lit}
use Rattle.cnf_base.specs.Clauses.{is_same, has, negate}
use Rattle.cnf_base.specs.Known.{Partial, is_false, is_value, made_true}
use Rattle.cnf_base.proofs.Sound.{beq_refl}
use Rattle.cnf_search.specs.Trails.{Entry, Explained, after}
use Rattle.cnf_search.proofs.Extends.{extends_after, explained_split}
use Rattle.cnf_search.specs.Passes.{Pass, first, step, late_after, pass, begun, IsLearned}
use Rattle.cnf_search.proofs.Learned.{why_open, eqb_refl}

twice : (b : Bool) → not (not b) ≡ b
twice true = refl
twice false = refl

same_refl : (l : Lit) → is_same l l ≡ true
same_refl l = rw (eqb_refl l.var) (beq_refl l.positive)

or_right : (a b : Bool) → b ≡ true → a || b ≡ true
or_right true b h = refl
or_right false b h = h

-- what is learned from a part of the trail, and what isn't found
pub record Finds (p : Partial) (i : ℕ) (es : List Entry) (s : Pass) : Type 0 where
  pub some : (k : ℕ) → s.found ≡ Some k → IsLearned p i es s.clause k
  pub none : s.found ≡ None → s.clause ≡ []

-- an entry before it
learned_before : (p : Partial) (i : ℕ) (e : Entry) (es : List Entry) (c : List Lit) (k : ℕ) → IsLearned (made_true p e.lit) (i + 1) es c k → IsLearned p i (e ∷ es) c k
learned_before p i e es c k h = record {
  front = e ∷ h.front;
  decision = h.decision;
  more = h.more;
  split = ap (λ (z : List Entry). e ∷ z) h.split;
  at = omega (arith, h.at);
  reason = h.reason;
}

-- and its negation in the clause
learned_kept : (cs : List (List Lit)) (p : Partial) (i : ℕ) (e : Entry) (es : List Entry) (c : List Lit) (k : ℕ) → Explained cs (made_true p e.lit) es
    → IsLearned (made_true p e.lit) (i + 1) es c k → IsLearned p i (e ∷ es) (negate e.lit ∷ c) k
learned_kept cs p i e es c k x h = record {
  front = e ∷ h.front;
  decision = h.decision;
  more = h.more;
  split = ap (λ (z : List Entry). e ∷ z) h.split;
  at = omega (arith, h.at);
  reason = record {
    others = rw (or_right (is_same (negate h.decision) (negate e.lit)) (is_false (after (made_true p e.lit) h.front) (negate e.lit)) wrong) h.reason.others;
    there = or_right (is_same (negate h.decision) (negate e.lit)) (has c (negate h.decision)) h.reason.there;
    open_yet = h.reason.open_yet;
  };
}
  where
    y : Entry
    y = record { lit = h.decision; reason = None }

    front : Explained cs (made_true p e.lit) h.front
    front = (explained_split cs (made_true p e.lit) h.front (y ∷ h.more) (let P : List Entry → Type 0 = λ z. Explained cs (made_true p e.lit) z in subst P h.split x)).0

    value : after (made_true p e.lit) h.front e.lit.var ≡ Some e.lit.positive
    value = (extends_after cs (made_true p e.lit) h.front front).keeps e.lit.var e.lit.positive (rw (eqb_refl e.lit.var) refl)

    wrong : is_false (after (made_true p e.lit) h.front) (negate e.lit) ≡ true
    wrong = ap (λ (o : Option Bool). is_value o (not (not e.lit.positive))) value ∙ (rw (twice e.lit.positive) (beq_refl e.lit.positive))

-- the last decision that was seen
learned_here : (p : Partial) (i : ℕ) (e : Entry) (es : List Entry) → e.reason ≡ None → p e.lit.var ≡ None → IsLearned p i (e ∷ es) (negate e.lit ∷ []) i
learned_here p i e es r none = record {
  front = [];
  decision = e.lit;
  more = es;
  split = ap (λ (z : Option ℕ). (record { lit = e.lit; reason = z }) ∷ es) r;
  at = omega arith;
  reason = record {
    others = rw (same_refl (negate e.lit)) refl;
    there = rw (same_refl (negate e.lit)) refl;
    open_yet = none;
  };
}

clause_along : (p : Partial) (i : ℕ) (es : List Entry) (c d : List Lit) (k : ℕ) → d ≡ c → IsLearned p i es c k → IsLearned p i es d k
clause_along p i es c d k e h = let P : List Lit → Type 0 = λ z. IsLearned p i es z k in subst P (sym e) h

place_along : (p : Partial) (i : ℕ) (es : List Entry) (c : List Lit) (j k : ℕ) → j ≡ k → IsLearned p i es c j → IsLearned p i es c k
place_along p i es c j k e h = let P : ℕ → Type 0 = λ z. IsLearned p i es c z in subst P e h

step_finds : (cs : List (List Lit)) (p : Partial) (i : ℕ) (r : Option ℕ) (e : Entry) (es : List Entry) (s : Pass) (b late : Bool) → e.reason ≡ r → p e.lit.var ≡ None
    → Explained cs (made_true p e.lit) es → (o : Option ℕ) → s.found ≡ o → Finds (made_true p e.lit) (i + 1) es s
    → Finds p i (e ∷ es) (step cs i r e.lit s b (late && is_some o))
step_finds cs p i r e es s false late q none x o f h = record {
  some = λ k g. learned_before p i e es s.clause k (h.some k g);
  none = h.none;
}
step_finds cs p i None e es s true late q none x None f h = record {
  some = λ k g.
      let here : first s.found i ≡ Some i = ap (λ (z : Option ℕ). first z i) f in
      let same : i ≡ k = inside i k (sym here ∙ g) in
      clause_along p i (e ∷ es) (negate e.lit ∷ []) (negate e.lit ∷ s.clause) k (ap (λ (z : List Lit). negate e.lit ∷ z) (h.none f))
      (place_along p i (e ∷ es) (negate e.lit ∷ []) i k same (learned_here p i e es q none));
  none = λ g. let here : first s.found i ≡ Some i = ap (λ (z : Option ℕ). first z i) f in let bad : Some i ≡ None = sym here ∙ g in cc;
}
  where
    inside : (m n : ℕ) → Some m ≡ Some n → m ≡ n
    inside m n h = cc
step_finds cs p i None e es s true late q none x (Some j) f h = record {
  some = λ k g.
      let here : first s.found i ≡ Some j = ap (λ (z : Option ℕ). first z i) f in
      learned_kept cs p i e es s.clause k x (h.some k (f ∙ (sym here ∙ g)));
  none = λ g. let here : first s.found i ≡ Some j = ap (λ (z : Option ℕ). first z i) f in let bad : Some j ≡ None = sym here ∙ g in cc;
}
step_finds cs p i (Some n) e es s true false q none x o f h = record {
  some = λ k g. learned_before p i e es s.clause k (h.some k g);
  none = h.none;
}
step_finds cs p i (Some n) e es s true true q none x None f h = record {
  some = λ k g. learned_before p i e es s.clause k (h.some k g);
  none = h.none;
}
step_finds cs p i (Some n) e es s true true q none x (Some j) f h = record {
  some = λ k g. learned_kept cs p i e es s.clause k x (h.some k g);
  none = λ g. let bad : Some j ≡ None = sym f ∙ g in cc;
}

-- a pass finds the last decision of its clause, or the clause is empty
pub pass_finds : (cs : List (List Lit)) (late : Bool) (p : Partial) (i : ℕ) (es : List Entry) (c : List Lit) → Explained cs p es → Finds p i es (pass cs late i es (begun c))
pass_finds cs late p i [] c x = record { some = λ k g. cc; none = λ g. refl }
pass_finds cs late p i (e ∷ es) c x =
    let s : Pass = pass cs (late_after late e) (i + 1) es (begun c) in
    step_finds cs p i e.reason e es s (s.seen e.lit.var) late refl (why_open cs p e.reason e.lit x.0) x.1 s.found refl
    (pass_finds cs (late_after late e) (made_true p e.lit) (i + 1) es c x.1)
