-- One more gate or clause keeps a circuit determined.
use Rattle.std.proofs.Common.{◌≡◌, ℕ, ◌+◌, ◌<◌, ◌≤◌, List, [], ◌∷◌, ◌++◌, arith, sym, ◌∙◌, Bool, true, false, cond, eqb, not, ◌&&◌, refl, ap}
use Rattle.std.proofs.lemmas.Bool.Decides.{Decides-eqb}
use Rattle.std.specs.Prelude.{is_none, is_some}
use Rattle.std.specs.Bool.{beq}
use Rattle.std.specs.List.{list_all}
use Rattle.cnf_base.specs.declared.lit.Lit.{Lit}
use Rattle.cnf_base.specs.Clauses.{lit_true, clause_true, formula_true, clause_variables, variables}
use Rattle.cnf_base.specs.Known.{Partial}
use Rattle.cnf_base.specs.Derivation.{lone, is_all_false}
use Rattle.cnf_base.proofs.VariableBounds.{variables-append}
use Rattle.cnf_base.proofs.Sound.{and_true, beq_same, beq_refl, formula_true-append, eqb_same}
use Rattle.cnf_gate.specs.Gates.{gate_clauses}
use Rattle.cnf_gate.specs.Built.{is_agreed, IsDetermined}
use Rattle.cnf_gate.proofs.Meaning.{gate_true, variables-gate, clause_agrees, formula_agrees, gate_quiet, is_valued}

-- both halves of a conjunction over joined lists
pub all_split : {X : Type 0} (t : X → Bool) (f g : List X) → list_all t (f ++ g) ≡ true → (list_all t f ≡ true) × (list_all t g ≡ true)
all_split t [] g h = (refl, h)
all_split t (c ∷ f) g h =
    let s = and_true (t c) (list_all t (f ++ g)) h in
    let r = all_split t f g s.1 in
    (rw s.0 r.0, r.1)

-- values that agree below a bound make the same literals of the groups true
pub agreed_below : (v w : ℕ → Bool) (groups : List (List Lit)) → ((n : ℕ) → n < variables groups → v n ≡ w n) → is_agreed v w groups ≡ true
agreed_below v w [] h = refl
agreed_below v w (g ∷ gs) h = rw (one g (λ n k. h n (omega arith))) (agreed_below v w gs (λ n k. h n (omega arith)))
  where
    one : (g : List Lit) → ((n : ℕ) → n < clause_variables g → v n ≡ w n) → list_all (λ l. beq (lit_true v l) (lit_true w l)) g ≡ true
    one [] h = refl
    one (l ∷ g) h =
        let here : v l.var ≡ w l.var = h l.var (omega arith) in
        rw (here, beq_refl (beq (w l.var) l.positive)) (one g (λ n k. h n (omega arith)))

pub agreed_trans : (u v w : ℕ → Bool) (groups : List (List Lit)) → is_agreed u v groups ≡ true → is_agreed v w groups ≡ true → is_agreed u w groups ≡ true
agreed_trans u v w [] h k = refl
agreed_trans u v w (g ∷ gs) h k =
    let s = and_true (list_all (λ l. beq (lit_true u l) (lit_true v l)) g) (is_agreed u v gs) h in
    let t = and_true (list_all (λ l. beq (lit_true v l) (lit_true w l)) g) (is_agreed v w gs) k in
    rw (one g s.0 t.0) (agreed_trans u v w gs s.1 t.1)
  where
    one : (g : List Lit) → list_all (λ l. beq (lit_true u l) (lit_true v l)) g ≡ true → list_all (λ l. beq (lit_true v l) (lit_true w l)) g ≡ true
        → list_all (λ l. beq (lit_true u l) (lit_true w l)) g ≡ true
    one [] h k = refl
    one (l ∷ g) h k =
        let s = and_true (beq (lit_true u l) (lit_true v l)) (list_all (λ l. beq (lit_true u l) (lit_true v l)) g) h in
        let t = and_true (beq (lit_true v l) (lit_true w l)) (list_all (λ l. beq (lit_true v l) (lit_true w l)) g) k in
        let e : lit_true u l ≡ lit_true w l = beq_same (lit_true u l) (lit_true v l) s.0 ∙ beq_same (lit_true v l) (lit_true w l) t.0 in
        rw (e, beq_refl (lit_true w l)) (one g s.1 t.1)

-- the values with one variable's set so that a literal has a given truth
abbrev pub set_lit : (ℕ → Bool) → Lit → Bool → ℕ → Bool
set_lit v o b n = cond (eqb n o.var) (beq b o.positive) (v n)

pub set_lit-same : (v : ℕ → Bool) (o : Lit) (b : Bool) → lit_true (set_lit v o b) o ≡ b
set_lit-same v o b = rw (eqb_refl o.var) (twice b o.positive)
  where
    eqb_refl : (n : ℕ) → eqb n n ≡ true
    eqb_refl n = (Decides-eqb n n).1 refl

    twice : (a b : Bool) → beq (beq a b) b ≡ a
    twice true true = refl
    twice true false = refl
    twice false true = refl
    twice false false = refl

pub set_lit-other : (v : ℕ → Bool) (o : Lit) (b : Bool) (n : ℕ) → n < o.var → v n ≡ set_lit v o b n
set_lit-other v o b n h =
    elim (eqb n o.var) as (λ t. eqb n o.var ≡ t → v n ≡ cond t (beq b o.positive) (v n)) [
      | true ↦ λ e. let same : n ≡ o.var = eqb_same n o.var e in absurd (omega arith)
      | false ↦ λ _. refl
    ] refl

less : (n m : ℕ) → eqb n m ≡ false → n < m + 1 → n < m
less n m e k = grind (arith, Decides-eqb)

valued_below : (p : Partial) (ls : List Lit) (m : ℕ) → clause_variables ls ≤ m → ((n : ℕ) → n < m → is_some (p n) ≡ true) → is_valued p ls ≡ true
valued_below p [] m h k = refl
valued_below p (l ∷ ls) m h k = rw (k l.var (omega arith)) (valued_below p ls m (omega arith) k)

-- a gate over a determined circuit
pub IsDetermined-gate : (fixed groups : List (List Lit)) (o : Lit) (ls : List Lit) → IsDetermined fixed groups o.var → clause_variables ls ≤ o.var
    → IsDetermined (fixed ++ gate_clauses o ls) groups (o.var + 1)
IsDetermined-gate fixed groups o ls d h = record {
  counted = rw (variables-append fixed (gate_clauses o ls), variables-gate o ls h) (omega (arith, d.counted));
  grouped = omega (arith, d.grouped);
  unique = λ v w sv sw agree n k.
      let pv = all_split (clause_true v) fixed (gate_clauses o ls) sv in
      let pw = all_split (clause_true w) fixed (gate_clauses o ls) sw in
      let below : (m : ℕ) → m < o.var → v m ≡ w m = d.unique v w pv.0 pw.0 agree in
      let ev : lit_true v o ≡ list_all (lit_true v) ls = beq_same _ _ (sym (gate_true v o ls) ∙ pv.1) in
      let ew : lit_true w o ≡ list_all (lit_true w) ls = beq_same _ _ (sym (gate_true w o ls) ∙ pw.1) in
      let inputs : list_all (lit_true v) ls ≡ list_all (lit_true w) ls = (clause_agrees v w ls (λ m q. below m (omega arith))).1 in
      let lits : beq (v o.var) o.positive ≡ beq (w o.var) o.positive = ev ∙ (inputs ∙ sym ew) in
      unique_at v w below (cancel (v o.var) (w o.var) o.positive lits) n k;
  exists = λ u c.
      let e = d.exists u c in
      let v : ℕ → Bool = set_lit e.0 o (list_all (lit_true e.0) ls) in
      let old : (m : ℕ) → m < o.var → e.0 m ≡ v m = set_lit-other e.0 o (list_all (lit_true e.0) ls) in
      let kept : formula_true v fixed ≡ true = sym (formula_agrees e.0 v fixed (λ m q. old m (omega (arith, d.counted)))) ∙ e.1 in
      let inputs : list_all (lit_true e.0) ls ≡ list_all (lit_true v) ls = (clause_agrees e.0 v ls (λ m q. old m (omega arith))).1 in
      let gate : formula_true v (gate_clauses o ls) ≡ true =
      gate_true v o ls ∙ (rw (set_lit-same e.0 o (list_all (lit_true e.0) ls) ∙ inputs) (beq_refl (list_all (lit_true v) ls))) in (
        v,
        formula_true-append v fixed (gate_clauses o ls) kept gate,
        agreed_trans v e.0 u groups (agreed_below v e.0 groups (λ m q. sym (old m (omega (arith, d.grouped))))) e.2,
      );
  propagates = λ p decided quiet n k.
      let q = all_split (λ c. is_none (lone p c) && not (is_all_false p c)) fixed (gate_clauses o ls) quiet in
      let below : (m : ℕ) → m < o.var → is_some (p m) ≡ true = d.propagates p decided q.0 in
      some_at p below (gate_quiet p o ls (valued_below p ls o.var h below) q.1) n k;
}
  where
    cancel : (a b c : Bool) → beq a c ≡ beq b c → a ≡ b
    cancel true true c h = refl
    cancel true false true h = h
    cancel true false false h = sym h
    cancel false true true h = h
    cancel false true false h = sym h
    cancel false false c h = refl

    unique_at : (v w : ℕ → Bool) → ((m : ℕ) → m < o.var → v m ≡ w m) → v o.var ≡ w o.var → (n : ℕ) → n < o.var + 1 → v n ≡ w n
    unique_at v w below here n k =
        elim (eqb n o.var) as (λ t. eqb n o.var ≡ t → v n ≡ w n) [
          | true ↦ λ e. let same : n ≡ o.var = eqb_same n o.var e in ap v same ∙ (here ∙ ap w (sym same))
          | false ↦ λ e. below n (less n o.var e k)
        ] refl

    some_at : (p : Partial) → ((m : ℕ) → m < o.var → is_some (p m) ≡ true) → is_some (p o.var) ≡ true → (n : ℕ) → n < o.var + 1 → is_some (p n) ≡ true
    some_at p below here n k =
        elim (eqb n o.var) as (λ t. eqb n o.var ≡ t → is_some (p n) ≡ true) [
          | true ↦ λ e. let same : n ≡ o.var = eqb_same n o.var e in ap (λ (m : ℕ). is_some (p m)) same ∙ here
          | false ↦ λ e. below n (less n o.var e k)
        ] refl
