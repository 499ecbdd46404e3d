-- How a walk ends, and what a turn comes to.
use Rattle.std.proofs.Common.{◌≡◌, ℕ, ◌+◌, ◌-◌, ◌<◌, ◌≤◌, suc, zero, List, [], ◌∷◌, ◌++◌, length, get_or, arith, sym, ◌∙◌, subst, true, false, not, ◌&&◌, refl, ap}
use Rattle.std.specs.Prelude.{is_none}
use Rattle.std.specs.List.{list_all}
use Rattle.cnf_base.specs.declared.lit.Lit.{Lit}
use Rattle.cnf_base.specs.declared.line.Line.{Line}
use Rattle.cnf_base.specs.Clauses.{same_literals}
use Rattle.cnf_base.specs.Known.{Partial}
use Rattle.cnf_base.specs.Derivation.{clauses_of, lone, is_all_false}
use Rattle.cnf_base.proofs.Sound.{and_true}
use Rattle.cnf_base.proofs.VariableBounds.{variables-append}
use Rattle.cnf_check.specs.Checked.{Checked, AreDistinct}
use Rattle.cnf_gate.specs.Built.{is_quiet, is_decided, is_filled}
use Rattle.cnf_gate.specs.Circuit.{IsCircuit}
use Rattle.cnf_gate.proofs.Step.{all_split}
use Rattle.cnf_search.specs.Trails.{values}
use Rattle.cnf_search.specs.Lines.{known}
use Rattle.cnf_search.specs.Guides.{Guides}
use Rattle.cnf_search.specs.Walks.{IsSound, IsPlaced, IsWalking, Settles, Refutes, Fails, Chooses, IsKept, IsSolved, IsRefuted, IsSpent, EndsWith, Takes, ahead}
use Rattle.cnf_search.specs.declared.walk.Walk.{Walk}
use Rattle.cnf_search.specs.declared.walk.Turn.{Turn}
use Rattle.cnf_search.specs.declared.walk.Turn.TheVariants.{On, Ended}
use Rattle.cnf_search.specs.declared.walk.End.{End}
use Rattle.cnf_search.specs.declared.walk.End.TheVariants.{Solved, Refuted, Spent}
use Rattle.cnf_search.proofs.Choosing.{quiet_parts, walking_on, ahead_on}
use Rattle.cnf_search.proofs.Ends.{quiet_solved}
use Rattle.cnf_search.proofs.Fresh.{distinct_learned}
use Rattle.cnf_search.proofs.Grown.{sound_grown, placed_grown, ahead_grown}
use Rattle.cnf_search.proofs.Lists.{length_end}
use Rattle.cnf_search.proofs.Returning.{walking_back, ahead_back}
use Rattle.cnf_search.proofs.Spots.{spot_least}

solved : (gs : List (List Lit)) (w : Walk) → Guides w.checker.formula gs → IsSound w → is_quiet (values w.trace.entries) (known w.checker) ≡ true → is_decided (values w.trace.entries) gs ≡ true
    → IsSolved w
solved gs w g s q d =
    let quiet = quiet_parts (values w.trace.entries) w.checker q in
    record {
      holds = quiet_solved (values w.trace.entries) w.checker.formula (λ n h. g.valued (values w.trace.entries) d quiet.0 n h) quiet.0;
      room = omega (arith, s.room, variables-append w.checker.formula (clauses_of w.checker.lines));
    }

-- the empty line is none of those with a literal
empty_differs : (lines : List Line) (c : List Lit) (i : ℕ) (d : Line) → list_all (λ x. is_filled x.clause) lines ≡ true → c ≡ [] → i < length lines → same_literals (get_or lines i d).clause c ≡ false
empty_differs [] c i d f e h = absurd (omega (arith, h))
empty_differs (x ∷ lines) c zero d f e h =
    ap (same_literals x.clause) e ∙ lacks x.clause (and_true (is_filled x.clause) (list_all (λ (y : Line). is_filled y.clause) lines) f).0
  where
    lacks : (c : List Lit) → is_filled c ≡ true → same_literals c [] ≡ false
    lacks [] k = cc
    lacks (l ∷ c) k = refl
empty_differs (x ∷ lines) c (suc i) d f e h =
    empty_differs lines c i d (and_true (is_filled x.clause) (list_all (λ (y : Line). is_filled y.clause) lines) f).1 e (omega (arith, h))

get_last : (lines : List Line) (x : Line) (i : ℕ) (d : Line) → i ≡ length lines → get_or (lines ++ x ∷ []) i d ≡ x
get_last [] x zero d h = refl
get_last [] x (suc i) d h = absurd (omega (arith, h))
get_last (y ∷ lines) x zero d h = absurd (omega (arith, h))
get_last (y ∷ lines) x (suc i) d h = get_last lines x i d (omega (arith, h))

refuted : (old new : Walk) → IsSound old → Refutes old new → IsRefuted new
refuted old new w r =
    let long : length new.checker.lines ≡ length old.checker.lines + 1 = omega (arith, ap length r.keeps.lines, length_end old.checker.lines r.line) in
    record {
      ends = record {
        some = omega (arith, long);
        last = λ d.
            ap (λ (z : List Line). (get_or z (length new.checker.lines - 1) d).clause) r.keeps.lines
            ∙ (ap (λ (z : Line). z.clause) (get_last old.checker.lines r.line (length new.checker.lines - 1) d (omega (arith, long))) ∙ r.clause);
      };
      distinct = subst AreDistinct (sym r.keeps.lines)
          (distinct_learned old.checker.lines r.line w.distinct (λ i d h. empty_differs old.checker.lines r.line.clause i d w.filled r.clause h));
      counted = omega (arith, r.below, r.keeps.budget);
    }

spent : (gs : List (List Lit)) (w : Walk) → list_all is_filled gs ≡ true → IsSound w → IsPlaced gs w → w.budget ≤ length w.checker.lines → IsSpent gs w
spent gs w f s p h = record {
  distinct = s.distinct;
  many = h;
  over = omega (arith, s.within, p.spotted, spot_least gs w.levels.items f p.ranked);
}

guides_along : (gs : List (List Lit)) (old mid : Walk) → Settles old mid → Guides old.checker.formula gs → Guides mid.checker.formula gs
guides_along gs old mid s g = let P : Checked → Type 0 = λ z. Guides z.formula gs in subst P (sym s.checker) g

less_trans : (a b c : ℕ) → a < b → b ≤ c → a < c
less_trans a b c h k = omega (arith, h, k)

pub takes_fail : (gs : List (List Lit)) (old mid new : Walk) (t : Turn) → Guides old.checker.formula gs → IsWalking gs old → Settles old mid → Fails mid new t → Takes gs old new t
takes_fail gs old mid new On g w s f =
    let sound : IsSound mid = sound_grown old mid w.sound s in
    let placed : IsPlaced gs mid = placed_grown gs old mid w.placed s in (
      walking_back gs mid new g.filled sound placed f,
      less_trans (ahead gs new) (ahead gs mid) (ahead gs old) (ahead_back gs mid new g.filled sound placed f) (ahead_grown gs old mid s),
    )
takes_fail gs old mid new (Ended Solved) g w s f = absurd f
takes_fail gs old mid new (Ended Refuted) g w s f = refuted mid new (sound_grown old mid w.sound s) f
takes_fail gs old mid new (Ended Spent) g w s f =
    let P : Walk → Type 0 = λ z. IsSpent gs z in
    subst P (sym f.1) (spent gs mid g.filled (sound_grown old mid w.sound s) (placed_grown gs old mid w.placed s) f.0)

pub takes_choose : (gs : List (List Lit)) (old mid new : Walk) (t : Turn) → Guides old.checker.formula gs → IsWalking gs old → Settles old mid
    → is_quiet (values mid.trace.entries) (known mid.checker) ≡ true → Chooses gs mid new t → Takes gs old new t
takes_choose gs old mid new On g w s q c =
    let sound : IsSound mid = sound_grown old mid w.sound s in
    let placed : IsPlaced gs mid = placed_grown gs old mid w.placed s in
    let guides : Guides mid.checker.formula gs = guides_along gs old mid s g in (
      walking_on gs mid new guides sound placed q c,
      less_trans (ahead gs new) (ahead gs mid) (ahead gs old) (ahead_on gs mid new guides sound placed q c) (ahead_grown gs old mid s),
    )
takes_choose gs old mid new (Ended Solved) g w s q c =
    subst IsSolved (sym c.1) (solved gs mid (guides_along gs old mid s g) (sound_grown old mid w.sound s) q c.0)
takes_choose gs old mid new (Ended Refuted) g w s q c = absurd c
takes_choose gs old mid new (Ended Spent) g w s q c = absurd c

-- the formula and the budget stay
pub kept_fail : (old mid new : Walk) (t : Turn) → Settles old mid → Fails mid new t → IsKept old.checker.formula old.budget new
kept_fail old mid new On s f = record {
  formula = ap (λ (c : Checked). c.formula) f.returns.checker ∙ (f.keeps.formula ∙ ap (λ (c : Checked). c.formula) s.checker);
  allowed = f.returns.budget ∙ (f.keeps.budget ∙ s.budget);
}
kept_fail old mid new (Ended Solved) s f = absurd f
kept_fail old mid new (Ended Refuted) s f = record { formula = f.keeps.formula ∙ ap (λ (c : Checked). c.formula) s.checker; allowed = f.keeps.budget ∙ s.budget }
kept_fail old mid new (Ended Spent) s f = record {
  formula = ap (λ (z : Walk). z.checker.formula) f.1 ∙ ap (λ (c : Checked). c.formula) s.checker;
  allowed = ap (λ (z : Walk). z.budget) f.1 ∙ s.budget;
}

pub kept_choose : (gs : List (List Lit)) (old mid new : Walk) (t : Turn) → Settles old mid → Chooses gs mid new t → IsKept old.checker.formula old.budget new
kept_choose gs old mid new On s c = record {
  formula = ap (λ (z : Checked). z.formula) c.decides.checker ∙ ap (λ (z : Checked). z.formula) s.checker;
  allowed = c.decides.budget ∙ s.budget;
}
kept_choose gs old mid new (Ended Solved) s c = record {
  formula = ap (λ (z : Walk). z.checker.formula) c.1 ∙ ap (λ (z : Checked). z.formula) s.checker;
  allowed = ap (λ (z : Walk). z.budget) c.1 ∙ s.budget;
}
kept_choose gs old mid new (Ended Refuted) s c = absurd c
kept_choose gs old mid new (Ended Spent) s c = absurd c

pub solved_by : (gs : List (List Lit)) (w : Walk) (e : End) → e ≡ Solved → EndsWith gs w e → IsSolved w
solved_by gs w e is h = let P : End → Type 0 = λ z. EndsWith gs w z in subst P is h

-- ---- the groups of a circuit

quiet_fixed : (fixed required : List (List Lit)) (p : Partial) → is_quiet p (fixed ++ required) ≡ true → is_quiet p fixed ≡ true
quiet_fixed fixed required p q = (all_split (λ c. is_none (lone p c) && not (is_all_false p c)) fixed required q).0

pub guides_circuit : (fixed required groups : List (List Lit)) → IsCircuit fixed required groups → Guides (fixed ++ required) groups
guides_circuit fixed required groups c = record {
  stated = λ p q. c.grouped.stated p (quiet_fixed fixed required p q);
  valued = λ p d q n h. c.determined.propagates p d (quiet_fixed fixed required p q) n (omega (arith, h, variables-append fixed required, c.posed));
  filled = c.grouped.filled;
  within = omega (arith, c.determined.grouped, variables-append fixed required);
}

pub spent_by : (gs : List (List Lit)) (w : Walk) (e : End) → e ≡ Spent → EndsWith gs w e → IsSpent gs w
spent_by gs w e is h = let P : End → Type 0 = λ z. EndsWith gs w z in subst P is h
