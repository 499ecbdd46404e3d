-- A group, one literal after the other.
use Rattle.std.proofs.Common.{◌≡◌, ℕ, ◌+◌, ◌<◌, ◌≤◌, List, [], ◌∷◌, ◌++◌, arith, subst, sym, ◌∙◌, Option, Some, None, Bool, true, false, cond, eqb, not, ◌&&◌, ◌||◌, refl, ap, max}
use Rattle.std.specs.Prelude.{is_none, is_some}
use Rattle.std.specs.Bool.{beq}
use Rattle.std.specs.List.{list_any, list_all}
use Rattle.std.proofs.lemmas.Bool.Decides.{Decides-eqb}
use Rattle.cnf_base.specs.declared.lit.Lit.{Lit}
use Rattle.cnf_base.specs.Clauses.{negate, lit_true, clause_true, formula_true, clause_variables, variables}
use Rattle.cnf_base.specs.Known.{Partial, is_true, is_false, is_value}
use Rattle.cnf_base.specs.Derivation.{rest, only, lone, is_all_false}
use Rattle.cnf_base.proofs.VariableBounds.{variables-append}
use Rattle.cnf_base.proofs.Sound.{and_true, beq_same, beq_refl, formula_true-append, eqb_same}
use Rattle.cnf_gate.specs.Gates.{pair_clauses, gate_clauses}
use Rattle.cnf_gate.specs.Built.{is_quiet, is_agreed, is_filled, exactly_one, IsDetermined, AreGroups, AreRising}
use Rattle.cnf_gate.specs.Ladder.{at_most_one, rung_clauses, IsLadder}
use Rattle.cnf_gate.proofs.Meaning.{gate_true, variables-gate, clause_agrees, formula_agrees, lit_true-negate, false_negate}
use Rattle.cnf_gate.proofs.Chosen.{free-group}
use Rattle.cnf_gate.proofs.Step.{all_split, agreed_below, agreed_trans, set_lit, set_lit-same, set_lit-other}

pub all_join : {X : Type 0} (t : X → Bool) (f g : List X) → list_all t f ≡ true → list_all t g ≡ true → list_all t (f ++ g) ≡ true
all_join t [] g h k = k
all_join t (c ∷ f) g h k = let s = and_true (t c) (list_all t f) h in rw s.0 (all_join t f g s.1 k)

pub any_end : {X : Type 0} (t : X → Bool) (f : List X) (x : X) → list_any t (f ++ x ∷ []) ≡ list_any t f || t x
any_end t [] x = ends (t x)
  where
    ends : (b : Bool) → b || false ≡ b
    ends true = refl
    ends false = refl
any_end t (c ∷ f) x = rw (any_end t f x) (turn (t c) (list_any t f) (t x))
  where
    turn : (a b c : Bool) → a || (b || c) ≡ (a || b) || c
    turn true b c = refl
    turn false b c = refl

pub most_end : (v : ℕ → Bool) (xs : List Lit) (x : Lit) → at_most_one v (xs ++ x ∷ []) ≡ at_most_one v xs && not (list_any (lit_true v) xs && lit_true v x)
most_end v [] x = elim (lit_true v x) as (λ b. cond b true true ≡ true) [ true ↦ refl | false ↦ refl ]
most_end v (y ∷ xs) x = rw (any_end (lit_true v) xs x, most_end v xs x) (split (lit_true v y) (list_any (lit_true v) xs) (lit_true v x) (at_most_one v xs))
  where
    split : (y a x m : Bool) → cond y (not (a || x)) (m && not (a && x)) ≡ cond y (not a) m && not ((y || a) && x)
    split true true x m = refl
    split true false true m = refl
    split true false false m = refl
    split false a x m = refl

pub variables_end : (xs : List Lit) (x : Lit) → clause_variables (xs ++ x ∷ []) ≡ max (clause_variables xs) (x.var + 1)
variables_end [] x = omega arith
variables_end (y ∷ xs) x = omega (arith, variables_end xs x)

-- values that make the same literals of a list true
pub agreed_any : (v w : ℕ → Bool) (ls : List Lit) → list_all (λ l. beq (lit_true v l) (lit_true w l)) ls ≡ true
    → (list_any (lit_true v) ls ≡ list_any (lit_true w) ls) × (at_most_one v ls ≡ at_most_one w ls)
agreed_any v w [] h = (refl, refl)
agreed_any v w (l ∷ ls) h =
    let s = and_true (beq (lit_true v l) (lit_true w l)) (list_all (λ l. beq (lit_true v l) (lit_true w l)) ls) h in
    let here : lit_true v l ≡ lit_true w l = beq_same _ _ s.0 in
    let more = agreed_any v w ls s.1 in
    (rw (here, more.0) refl, rw (here, more.0, more.1) refl)

exact : (v : ℕ → Bool) (ls : List Lit) → exactly_one v ls ≡ true → (at_most_one v ls ≡ true) × (list_any (lit_true v) ls ≡ true)
exact v [] h = cc
exact v (l ∷ ls) h =
    elim (lit_true v l) as (λ b. cond b (not (list_any (lit_true v) ls)) (exactly_one v ls) ≡ true
    → (cond b (not (list_any (lit_true v) ls)) (at_most_one v ls) ≡ true) × (b || list_any (lit_true v) ls ≡ true)) [
      | true ↦ λ k. (k, refl)
      | false ↦ λ k. exact v ls k
    ] h

pub exactly : (v : ℕ → Bool) (ls : List Lit) → at_most_one v ls ≡ true → list_any (lit_true v) ls ≡ true → exactly_one v ls ≡ true
exactly v [] h k = k
exactly v (l ∷ ls) h k =
    elim (lit_true v l) as (λ b. cond b (not (list_any (lit_true v) ls)) (at_most_one v ls) ≡ true → b || list_any (lit_true v) ls ≡ true
    → cond b (not (list_any (lit_true v) ls)) (exactly_one v ls) ≡ true) [
      | true ↦ λ m _. m
      | false ↦ λ m a. exactly v ls m a
    ] h k

-- ---- quiet pairs

abbrev is_calm : Partial → List Lit → Bool
is_calm p c = is_none (lone p c) && not (is_all_false p c)

differ : true ≡ false → ⊥
differ h = cc

untrue : (x : Option Bool) (b : Bool) → is_value x b ≡ false → is_value x (not b) ≡ false → is_value x b ≡ false
untrue x b h k = h

-- in a quiet clause of two literals, where one is false the other is true
quiet_right : (p : Partial) (a b : Lit) → is_calm p (a ∷ b ∷ []) ≡ true → is_false p a ≡ true → is_true p b ≡ true
quiet_right p a b q f =
    let s = and_true (is_none (lone p (a ∷ b ∷ []))) (not (is_all_false p (a ∷ b ∷ []))) q in
    elim (is_false p b) as (λ t. is_false p b ≡ t → is_true p b ≡ true) [
      | true ↦ λ g.
          let all : is_all_false p (a ∷ b ∷ []) ≡ true = rw (f, g) refl in
          let wrong : false ≡ true = ap not (sym all) ∙ s.1 in
          absurd (differ (sym wrong))
      | false ↦ λ g. elim (is_true p b) as (λ t. is_true p b ≡ t → t ≡ true) [
        | true ↦ λ _. refl
        | false ↦ λ k.
            let single : rest p (a ∷ b ∷ []) ≡ b ∷ [] = rw (f, g) refl in
            let is : lone p (a ∷ b ∷ []) ≡ Some b = ap (only p) single ∙ (rw k refl) in
            let wrong : false ≡ true = ap is_none (sym is) ∙ s.0 in
            absurd (differ (sym wrong))
      ] refl
    ] refl

quiet_left : (p : Partial) (a b : Lit) → is_calm p (a ∷ b ∷ []) ≡ true → is_false p b ≡ true → is_true p a ≡ true
quiet_left p a b q f =
    let s = and_true (is_none (lone p (a ∷ b ∷ []))) (not (is_all_false p (a ∷ b ∷ []))) q in
    elim (is_false p a) as (λ t. is_false p a ≡ t → is_true p a ≡ true) [
      | true ↦ λ g.
          let all : is_all_false p (a ∷ b ∷ []) ≡ true = rw (g, f) refl in
          let wrong : false ≡ true = ap not (sym all) ∙ s.1 in
          absurd (differ (sym wrong))
      | false ↦ λ g. elim (is_true p a) as (λ t. is_true p a ≡ t → t ≡ true) [
        | true ↦ λ _. refl
        | false ↦ λ k.
            let single : rest p (a ∷ b ∷ []) ≡ a ∷ [] = rw (g, f) refl in
            let is : lone p (a ∷ b ∷ []) ≡ Some a = ap (only p) single ∙ (rw k refl) in
            let wrong : false ≡ true = ap is_none (sym is) ∙ s.0 in
            absurd (differ (sym wrong))
      ] refl
    ] refl

has_value : (x : Option Bool) (b : Bool) → is_value x b ≡ true → is_some x ≡ true
has_value None b h = cc
has_value (Some y) b h = refl

-- values that agree below a bound, and at it
cancel : (a b c : Bool) → beq a c ≡ beq b c → a ≡ b
cancel true true c h = refl
cancel true false true h = h
cancel true false false h = sym h
cancel false true true h = h
cancel false true false h = sym h
cancel false false c h = refl

next : (P : ℕ → Type 0) (m : ℕ) → ((n : ℕ) → n < m → P n) → P m → (n : ℕ) → n < m + 1 → P n
next P m below here n k =
    elim (eqb n m) as (λ t. eqb n m ≡ t → P n) [
      | true ↦ λ e. subst P (sym (eqb_same n m e)) here
      | false ↦ λ e. below n (less n m e k)
    ] refl
  where
    less : (n m : ℕ) → eqb n m ≡ false → n < m + 1 → n < m
    less n m e k = grind (arith, Decides-eqb)

-- ---- the first literal

pub IsLadder-first : (fixed groups : List (List Lit)) (x : Lit) → IsDetermined fixed groups x.var → IsLadder fixed groups (x ∷ []) x (x.var + 1)
IsLadder-first fixed groups x d = record {
  counted = omega (arith, d.counted);
  grouped = omega (arith, d.grouped);
  within = omega arith;
  means = λ v h. ends (lit_true v x);
  one = λ v h. alone (lit_true v x);
  unique = λ v w sv sw agree here n k.
      let s = and_true (beq (lit_true v x) (lit_true w x)) true (first_of v w here) in
      next (λ m. v m ≡ w m) x.var (d.unique v w sv sw agree) (cancel (v x.var) (w x.var) x.positive (beq_same (lit_true v x) (lit_true w x) s.0)) n k;
  exists = λ u c m.
      let e = d.exists u c in
      let v : ℕ → Bool = set_lit e.0 x (lit_true u x) in
      let old : (m : ℕ) → m < x.var → e.0 m ≡ v m = set_lit-other e.0 x (lit_true u x) in (
        v,
        sym (formula_agrees e.0 v fixed (λ m q. old m (omega (arith, d.counted)))) ∙ e.1,
        agreed_trans v e.0 u groups (agreed_below v e.0 groups (λ m q. sym (old m (omega (arith, d.grouped))))) e.2,
        rw (set_lit-same e.0 x (lit_true u x), beq_refl (lit_true u x)) refl,
      );
  down = λ p decided quiet f. next (λ n. is_some (p n) ≡ true) x.var (d.propagates p decided quiet) (has_value (p x.var) (not x.positive) f);
  up = λ p decided quiet a.
      let t : is_true p x ≡ true = only_one (is_true p x) a in
      (t, next (λ n. is_some (p n) ≡ true) x.var (d.propagates p decided quiet) (has_value (p x.var) x.positive t));
}
  where
    ends : (b : Bool) → b ≡ b || false
    ends true = refl
    ends false = refl

    alone : (b : Bool) → cond b true true ≡ true
    alone true = refl
    alone false = refl

    only_one : (b : Bool) → b || false ≡ true → b ≡ true
    only_one true h = refl
    only_one false h = h

    first_of : (v w : ℕ → Bool) → is_agreed v w ((x ∷ []) ∷ []) ≡ true → beq (lit_true v x) (lit_true w x) && true ≡ true
    first_of v w h = (and_true (beq (lit_true v x) (lit_true w x) && true) true h).0

-- ---- one more literal

-- the clauses of one more literal, where they are quiet or hold
calm_rung : (p : Partial) (o s x : Lit) → is_quiet p (rung_clauses o s x) ≡ true
    → (is_calm p (negate x ∷ negate s ∷ []) ≡ true) × (is_calm p (negate o ∷ negate s ∷ []) ≡ true) × (is_calm p (negate o ∷ negate x ∷ []) ≡ true)
calm_rung p o s x q =
    let a = and_true (is_calm p (negate x ∷ negate s ∷ [])) (is_quiet p (gate_clauses o (negate s ∷ negate x ∷ []))) q in
    let b = and_true (is_calm p (o ∷ negate (negate s) ∷ negate (negate x) ∷ [])) (is_quiet p (pair_clauses o (negate s ∷ negate x ∷ []))) a.1 in
    let c = and_true (is_calm p (negate o ∷ negate s ∷ [])) (is_quiet p (pair_clauses o (negate x ∷ []))) b.1 in
    let d = and_true (is_calm p (negate o ∷ negate x ∷ [])) true c.1 in
    (a.0, c.0, d.0)

rung_means : (v : ℕ → Bool) (o s x : Lit) → formula_true v (rung_clauses o s x) ≡ true
    → (lit_true v (negate o) ≡ lit_true v s || lit_true v x) × (not (lit_true v s && lit_true v x) ≡ true) × (lit_true v o ≡ list_all (lit_true v) (negate s ∷ negate x ∷ []))
rung_means v o s x h =
    let a = and_true (clause_true v (negate x ∷ negate s ∷ [])) (formula_true v (gate_clauses o (negate s ∷ negate x ∷ []))) h in
    let g : lit_true v o ≡ list_all (lit_true v) (negate s ∷ negate x ∷ []) = beq_same _ _ (sym (gate_true v o (negate s ∷ negate x ∷ [])) ∙ a.1) in
    let n : list_all (lit_true v) (negate s ∷ negate x ∷ []) ≡ not (lit_true v s) && (not (lit_true v x) && true) = rw (lit_true-negate v s, lit_true-negate v x) refl in
    let c : not (lit_true v x) || (not (lit_true v s) || false) ≡ true = rw (lit_true-negate v s, lit_true-negate v x) at a.0 in (
      lit_true-negate v o ∙ (ap not (g ∙ n) ∙ turn (lit_true v s) (lit_true v x)),
      both (lit_true v s) (lit_true v x) c,
      g,
    )
  where
    turn : (a b : Bool) → not (not a && (not b && true)) ≡ a || b
    turn true b = refl
    turn false true = refl
    turn false false = refl

    both : (a b : Bool) → not b || (not a || false) ≡ true → not (a && b) ≡ true
    both true true h = h
    both true false h = refl
    both false b h = refl

-- agreement on the groups, and on one more list, of its first part and its last literal
agreed_end : (v w : ℕ → Bool) (xs : List Lit) (x : Lit) → is_agreed v w ((xs ++ x ∷ []) ∷ []) ≡ true
    → (is_agreed v w (xs ∷ []) ≡ true) × (lit_true v x ≡ lit_true w x)
agreed_end v w xs x h =
    let s = and_true (list_all (λ l. beq (lit_true v l) (lit_true w l)) (xs ++ x ∷ [])) true h in
    let t = all_split (λ l. beq (lit_true v l) (lit_true w l)) xs (x ∷ []) s.0 in
    let last = and_true (beq (lit_true v x) (lit_true w x)) true t.1 in
    (rw t.0 refl, beq_same (lit_true v x) (lit_true w x) last.0)

agreed_list : (v w : ℕ → Bool) (xs : List Lit) → is_agreed v w (xs ∷ []) ≡ true → list_all (λ l. beq (lit_true v l) (lit_true w l)) xs ≡ true
agreed_list v w xs h = (and_true (list_all (λ l. beq (lit_true v l) (lit_true w l)) xs) true h).0

both_true : (a b : Bool) → a ≡ true → b ≡ true → a && b ≡ true
both_true a b h k = rw (h, k) refl

-- the values with the new literal's and the gate's set
abbrev climbed : (ℕ → Bool) → Lit → Lit → Lit → Bool → ℕ → Bool
climbed v o s x b = set_lit (set_lit v x b) o (list_all (lit_true (set_lit v x b)) (negate s ∷ negate x ∷ []))

climb : (v : ℕ → Bool) (o s x : Lit) (b : Bool) → o.var ≡ x.var + 1 → s.var < x.var → not (lit_true v s && b) ≡ true
    → ((n : ℕ) → n < x.var → v n ≡ climbed v o s x b n) × (lit_true (climbed v o s x b) x ≡ b) × (formula_true (climbed v o s x b) (rung_clauses o s x) ≡ true)
climb v o s x b e k h =
    let v1 : ℕ → Bool = set_lit v x b in
    let v2 : ℕ → Bool = climbed v o s x b in
    let low : (n : ℕ) → n < x.var → v n ≡ v2 n = λ n q. set_lit-other v x b n q ∙ set_lit-other v1 o (list_all (lit_true v1) (negate s ∷ negate x ∷ [])) n (omega arith) in
    let at_x : v1 x.var ≡ v2 x.var = set_lit-other v1 o (list_all (lit_true v1) (negate s ∷ negate x ∷ [])) x.var (omega arith) in
    let lx : lit_true v2 x ≡ b = ap (λ (t : Bool). beq t x.positive) (sym at_x) ∙ set_lit-same v x b in
    let ls : lit_true v2 s ≡ lit_true v s = ap (λ (t : Bool). beq t s.positive) (sym (low s.var k)) in
    let low1 : (n : ℕ) → n < o.var → v1 n ≡ v2 n = set_lit-other v1 o (list_all (lit_true v1) (negate s ∷ negate x ∷ [])) in
    let inputs : list_all (lit_true v1) (negate s ∷ negate x ∷ []) ≡ list_all (lit_true v2) (negate s ∷ negate x ∷ []) =
    (clause_agrees v1 v2 (negate s ∷ negate x ∷ []) (λ n q. low1 n (omega arith))).1 in
    let gate : formula_true v2 (gate_clauses o (negate s ∷ negate x ∷ [])) ≡ true =
    gate_true v2 o (negate s ∷ negate x ∷ []) ∙ (rw (set_lit-same v1 o (list_all (lit_true v1) (negate s ∷ negate x ∷ [])) ∙ inputs) (beq_refl (list_all (lit_true v2) (negate s ∷ negate x ∷ [])))) in
    let pair : clause_true v2 (negate x ∷ negate s ∷ []) ≡ true = rw (lit_true-negate v2 s, lit_true-negate v2 x, ls, lx) (apart (lit_true v s) b h) in
    (low, lx, both_true (clause_true v2 (negate x ∷ negate s ∷ [])) (formula_true v2 (gate_clauses o (negate s ∷ negate x ∷ []))) pair gate)
  where
    apart : (a b : Bool) → not (a && b) ≡ true → not b || (not a || false) ≡ true
    apart true true h = h
    apart true false h = refl
    apart false true h = refl
    apart false false h = refl

pub IsLadder-rung : (fixed groups : List (List Lit)) (xs : List Lit) (s x o : Lit) → IsLadder fixed groups xs s x.var → o.var ≡ x.var + 1
    → IsLadder (fixed ++ rung_clauses o s x) groups (xs ++ x ∷ []) (negate o) (x.var + 1 + 1)
IsLadder-rung fixed groups xs s x o d e = record {
  counted =
      omega (arith, d.counted, d.within, variables-append fixed (rung_clauses o s x), variables-gate o (negate s ∷ negate x ∷ []) (omega (arith, d.within)), variables_end xs x);
  grouped = omega (arith, d.grouped);
  within = omega arith;
  means = λ v h.
      let t = all_split (clause_true v) fixed (rung_clauses o s x) h in
      (rung_means v o s x t.1).0 ∙ (ap (λ (b : Bool). b || lit_true v x) (d.means v t.0) ∙ sym (any_end (lit_true v) xs x));
  one = λ v h.
      let t = all_split (clause_true v) fixed (rung_clauses o s x) h in
      let apart : not (list_any (lit_true v) xs && lit_true v x) ≡ true = ap (λ (b : Bool). not (b && lit_true v x)) (sym (d.means v t.0)) ∙ (rung_means v o s x t.1).1 in
      most_end v xs x ∙ both_true (at_most_one v xs) (not (list_any (lit_true v) xs && lit_true v x)) (d.one v t.0) apart;
  unique = λ v w sv sw agree here n k.
      let tv = all_split (clause_true v) fixed (rung_clauses o s x) sv in
      let tw = all_split (clause_true w) fixed (rung_clauses o s x) sw in
      let parts = agreed_end v w xs x here in
      let low : (m : ℕ) → m < x.var → v m ≡ w m = d.unique v w tv.0 tw.0 agree parts.0 in
      let at_x : v x.var ≡ w x.var = cancel (v x.var) (w x.var) x.positive parts.1 in
      let below : (m : ℕ) → m < x.var + 1 → v m ≡ w m = next (λ m. v m ≡ w m) x.var low at_x in
      let inputs : list_all (lit_true v) (negate s ∷ negate x ∷ []) ≡ list_all (lit_true w) (negate s ∷ negate x ∷ []) =
      (clause_agrees v w (negate s ∷ negate x ∷ []) (λ m q. below m (omega (arith, d.within)))).1 in
      let lits : lit_true v o ≡ lit_true w o = (rung_means v o s x tv.1).2 ∙ (inputs ∙ sym (rung_means w o s x tw.1).2) in
      let at_o : v (x.var + 1) ≡ w (x.var + 1) = let P : ℕ → Type 0 = λ m. v m ≡ w m in subst P e (cancel (v o.var) (w o.var) o.positive lits) in
      next (λ m. v m ≡ w m) (x.var + 1) below at_o n k;
  exists = λ u c m.
      let parts = and_true (at_most_one u xs) (not (list_any (lit_true u) xs && lit_true u x)) (sym (most_end u xs x) ∙ m) in
      let f = d.exists u c parts.0 in
      let v : ℕ → Bool = climbed f.0 o s x (lit_true u x) in
      let some : lit_true f.0 s ≡ list_any (lit_true u) xs = d.means f.0 f.1 ∙ (agreed_any f.0 u xs (agreed_list f.0 u xs f.3)).0 in
      let up = climb f.0 o s x (lit_true u x) e d.within (ap (λ (b : Bool). not (b && lit_true u x)) some ∙ parts.1) in
      let back : (n : ℕ) → n < x.var → v n ≡ f.0 n = λ n q. sym (up.0 n q) in
      let on_xs : is_agreed v u (xs ∷ []) ≡ true = agreed_trans v f.0 u (xs ∷ []) (agreed_below v f.0 (xs ∷ []) (λ n q. back n (omega (arith, d.counted)))) f.3 in
      let on_x : beq (lit_true v x) (lit_true u x) && true ≡ true = rw (up.1, beq_refl (lit_true u x)) refl in (
        v,
        formula_true-append v fixed (rung_clauses o s x) (sym (formula_agrees f.0 v fixed (λ n q. up.0 n (omega (arith, d.counted)))) ∙ f.1) up.2,
        agreed_trans v f.0 u groups (agreed_below v f.0 groups (λ n q. back n (omega (arith, d.grouped)))) f.2,
        both_true (list_all (λ l. beq (lit_true v l) (lit_true u l)) (xs ++ x ∷ [])) true (all_join (λ l. beq (lit_true v l) (lit_true u l)) xs (x ∷ []) (agreed_list v u xs on_xs) on_x) refl,
      );
  down = λ p decided quiet f.
      let q = all_split (is_calm p) fixed (rung_clauses o s x) quiet in
      let c = calm_rung p o s x q.1 in
      let fs : is_false p s ≡ true = quiet_right p (negate o) (negate s) c.1 f in
      let fx : is_false p x ≡ true = quiet_right p (negate o) (negate x) c.2 f in
      let fo : is_some (p o.var) ≡ true = has_value (p o.var) (not (not o.positive)) f in
      valued p (d.down p decided q.0 fs) (has_value (p x.var) (not x.positive) fx) fo;
  up = λ p decided quiet a.
      let q = all_split (is_calm p) fixed (rung_clauses o s x) quiet in
      let c = calm_rung p o s x q.1 in
      elim (list_any (is_true p) xs) as (λ b. list_any (is_true p) xs ≡ b → b || is_true p x ≡ true → (is_true p (negate o) ≡ true) × ((n : ℕ) → n < x.var + 1 + 1 → is_some (p n) ≡ true)) [
        | true ↦ λ t _.
            let old = d.up p decided q.0 t in
            let fs : is_false p (negate s) ≡ true = false_negate p s ∙ old.0 in
            let fx : is_false p x ≡ true = quiet_left p (negate x) (negate s) c.0 fs in
            let to : is_true p (negate o) ≡ true = quiet_left p (negate o) (negate s) c.1 fs in
            (to, valued p old.1 (has_value (p x.var) (not x.positive) fx) (has_value (p o.var) (not o.positive) to))
        | false ↦ λ _ t.
            let fx : is_false p (negate x) ≡ true = false_negate p x ∙ t in
            let fs : is_false p s ≡ true = quiet_right p (negate x) (negate s) c.0 fx in
            let to : is_true p (negate o) ≡ true = quiet_left p (negate o) (negate x) c.2 fx in
            (to, valued p (d.down p decided q.0 fs) (has_value (p x.var) x.positive t) (has_value (p o.var) (not o.positive) to))
      ] refl (sym (any_end (is_true p) xs x) ∙ a);
}
  where
    valued : (p : Partial) → ((n : ℕ) → n < x.var → is_some (p n) ≡ true) → is_some (p x.var) ≡ true → is_some (p o.var) ≡ true → (n : ℕ) → n < x.var + 1 + 1 → is_some (p n) ≡ true
    valued p low here last =
        let P : ℕ → Type 0 = λ n. is_some (p n) ≡ true in
        next P (x.var + 1) (next P x.var low here) (subst P e last)

-- ---- the whole group

pub IsDetermined-group : (fixed groups : List (List Lit)) (xs : List Lit) (s : Lit) (count : ℕ) → IsLadder fixed groups xs s count
    → IsDetermined (fixed ++ xs ∷ []) (groups ++ xs ∷ []) count
IsDetermined-group fixed groups xs s count d = record {
  counted = omega (arith, d.counted, variables-append fixed (xs ∷ []));
  grouped = omega (arith, d.counted, d.grouped, variables-append groups (xs ∷ []));
  unique = λ v w sv sw agree n k.
      let tv = all_split (clause_true v) fixed (xs ∷ []) sv in
      let tw = all_split (clause_true w) fixed (xs ∷ []) sw in
      let parts = all_split (λ g. list_all (λ l. beq (lit_true v l) (lit_true w l)) g) groups (xs ∷ []) agree in
      d.unique v w tv.0 tw.0 parts.0 parts.1 n k;
  exists = λ u c.
      let parts = all_split (exactly_one u) groups (xs ∷ []) c in
      let mine = exact u xs (and_true (exactly_one u xs) true parts.1).0 in
      let f = d.exists u parts.0 mine.0 in
      let some : clause_true f.0 xs ≡ true = (agreed_any f.0 u xs (agreed_list f.0 u xs f.3)).0 ∙ mine.1 in (
        f.0,
        formula_true-append f.0 fixed (xs ∷ []) f.1 (both_true (clause_true f.0 xs) true some refl),
        all_join (λ g. list_all (λ l. beq (lit_true f.0 l) (lit_true u l)) g) groups (xs ∷ []) f.2 f.3,
      );
  propagates = λ p decided quiet.
      let parts = all_split (list_any (is_true p)) groups (xs ∷ []) decided in
      (d.up p parts.0 (all_split (is_calm p) fixed (xs ∷ []) quiet).0 (and_true (list_any (is_true p) xs) true parts.1).0).1;
}

pub group_means : (fixed groups : List (List Lit)) (xs : List Lit) (s : Lit) (count : ℕ) (v : ℕ → Bool) → IsLadder fixed groups xs s count
    → formula_true v (fixed ++ xs ∷ []) ≡ true → exactly_one v xs ≡ true
group_means fixed groups xs s count v d h =
    let t = all_split (clause_true v) fixed (xs ∷ []) h in
    exactly v xs (d.one v t.0) (and_true (clause_true v xs) true t.1).0

pub AreGroups-group : (old fixed groups : List (List Lit)) (xs : List Lit) → AreGroups old groups
    → ((v : ℕ → Bool) → formula_true v fixed ≡ true → formula_true v old ≡ true) → ((v : ℕ → Bool) → formula_true v (fixed ++ xs ∷ []) ≡ true → exactly_one v xs ≡ true)
    → ((p : Partial) → is_quiet p fixed ≡ true → is_quiet p old ≡ true)
    → is_filled xs ≡ true → list_all (λ l. l.positive) xs ≡ true → (first : ℕ) → variables groups ≤ first → AreRising first xs
    → AreGroups (fixed ++ xs ∷ []) (groups ++ xs ∷ [])
AreGroups-group old fixed groups xs g earlier one front filled positive first low rising = record {
  one = λ v h.
      let t = all_split (clause_true v) fixed (xs ∷ []) h in
      all_join (exactly_one v) groups (xs ∷ []) (g.one v (earlier v t.0)) (both_true (exactly_one v xs) true (one v h) refl);
  stated = λ p q.
      let t = all_split (is_calm p) fixed (xs ∷ []) q in
      all_join (is_calm p) groups (xs ∷ []) (g.stated p (front p t.0)) t.1;
  filled = all_join is_filled groups (xs ∷ []) g.filled (both_true (is_filled xs) true filled refl);
  positive = all_join (list_all (λ l. l.positive)) groups (xs ∷ []) g.positive (both_true (list_all (λ l. l.positive) xs) true positive refl);
  free = free-group groups xs first low rising positive g.free;
}
