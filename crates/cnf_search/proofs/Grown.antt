-- The walk after propagation.
use Rattle.std.proofs.Common.{◌≡◌, ℕ, ◌+◌, ◌*◌, ◌-◌, ◌<◌, ◌≤◌, List, [], ◌∷◌, ◌++◌, length, take, arith, sym, ◌∙◌, subst, Option, Some, None, Bool, true, false, eqb, nat_lt, ◌||◌, refl, ap}
use Rattle.std.specs.Prelude.{is_some}
use Rattle.std.specs.List.{list_any, list_all}
use Rattle.std.proofs.lemmas.Bool.{ltb-true, ltb-false}
use Rattle.cnf_base.specs.declared.lit.Lit.{Lit}
use Rattle.cnf_base.specs.declared.line.Line.{Line}
use Rattle.cnf_base.specs.Clauses.{variables}
use Rattle.cnf_base.specs.Known.{Partial, made_true}
use Rattle.cnf_base.proofs.Sound.{and_true}
use Rattle.cnf_check.specs.Checked.{Checked, AreDistinct}
use Rattle.cnf_gate.specs.Built.{is_filled}
use Rattle.cnf_search.specs.Trails.{Entry, Explained, nothing}
use Rattle.cnf_search.specs.Lines.{known, choices}
use Rattle.cnf_search.specs.Levels.{spot, AreRanked, AreLevels, AreStarted}
use Rattle.cnf_search.specs.Queue.{is_calm, is_touched, AreSettled, IsIndex}
use Rattle.cnf_search.specs.Unforced.{UnforcedAt, Unforced}
use Rattle.cnf_search.specs.Walks.{IsSound, IsPlaced, Settles, ahead}
use Rattle.cnf_search.specs.declared.level.Level.{Level}
use Rattle.cnf_search.specs.declared.walk.Walk.{Walk}
use Rattle.cnf_search.proofs.Leveled.{levels_moved, within_trail, started_grown}
use Rattle.cnf_search.proofs.Lists.{get_take, get_short}
use Rattle.cnf_search.proofs.Traces.{take_front}
use Rattle.cnf_search.proofs.Visits.{grows_long}

-- the numbers from a place on are all that is left where the clauses before it are settled
pub settled_from : (cs : List (List Lit)) (k : ℕ) (p : Partial) (late : List Entry) (numbers : List ℕ) → AreSettled (take k cs) p late []
    → ((n : ℕ) → k ≤ n → n < length cs → list_any (eqb n) numbers ≡ true) → AreSettled cs p late numbers
settled_from cs k p late numbers s h = record {
  at = λ n c g. elim (nat_lt n k) as (λ b. nat_lt n k ≡ b → is_calm p c || (is_touched late c || list_any (eqb n) numbers) ≡ true) [
    | true ↦ λ t. shift (is_calm p c) (is_touched late c) (list_any (eqb n) numbers) (s.at n c (get_take cs k n (ltb-true n k t) ∙ g))
    | false ↦ λ t. let named : list_any (eqb n) numbers ≡ true = h n (ltb-false n k t) (get_short cs n c g) in rw named (both (is_calm p c) (is_touched late c))
  ] refl;
}
  where
    shift : (a b x : Bool) → a || (b || false) ≡ true → a || (b || x) ≡ true
    shift true b x h = refl
    shift false true x h = refl
    shift false false x h = cc

    both : (a b : Bool) → a || (b || true) ≡ true
    both true b = refl
    both false true = refl
    both false false = refl

-- entries with reasons ask nothing
pub unforced_grows : (lines : List Line) (p : Partial) (es more : List Entry) → Unforced lines p es → list_all (λ e. is_some e.reason) more ≡ true → Unforced lines p (es ++ more)
unforced_grows lines p [] more u h = implied p more h
  where
    at : (q : Partial) (r : Option ℕ) (l : Lit) → is_some r ≡ true → UnforcedAt lines q r l
    at q None l h = cc
    at q (Some n) l h = tt

    implied : (q : Partial) (es : List Entry) → list_all (λ e. is_some e.reason) es ≡ true → Unforced lines q es
    implied q [] h = tt
    implied q (e ∷ es) h =
        let s = and_true (is_some e.reason) (list_all (λ e. is_some e.reason) es) h in
        (at q e.reason e.lit s.0, implied (made_true q e.lit) es s.1)
unforced_grows lines p (e ∷ es) more u h = (u.0, unforced_grows lines (made_true p e.lit) es more u.1 h)

pub sound_grown : (old new : Walk) → IsSound old → Settles old new → IsSound new
sound_grown old new w s =
    let lines : new.checker.lines ≡ old.checker.lines = ap (λ (c : Checked). c.lines) s.checker in
    let cs : known new.checker ≡ known old.checker = ap known s.checker in
    let E : List (List Lit) → Type 0 = λ z. Explained z nothing new.trace.entries in
    let U : List Entry → Type 0 = λ z. Unforced old.checker.lines nothing z in
    let V : List Line → Type 0 = λ z. Unforced z nothing new.trace.entries in
    let X : List (List Lit) → Type 0 = λ z. IsIndex z new.lists.items in
    let Y : List (List ℕ) → Type 0 = λ z. IsIndex (known old.checker) z in
    let L : List Level → Type 0 = λ z. AreStarted new.trace.entries z in
    record {
      explained = subst E (sym cs) s.explained;
      unforced = subst V (sym lines) (subst U (sym s.grows.joined) (unforced_grows old.checker.lines nothing old.trace.entries s.grows.more w.unforced s.grows.implied));
      distinct = subst AreDistinct (sym lines) w.distinct;
      filled = ap (list_all (λ (x : Line). is_filled x.clause)) lines ∙ w.filled;
      room = omega (arith, ap variables cs, s.size, w.room);
      indexed = subst X (sym cs) (subst Y (sym s.lists) w.indexed);
      long = omega (arith, ap length s.lists, s.size, w.long);
      started = subst L (sym s.levels) (started_grown old.trace.entries new.trace.entries old.levels.items w.started s.grows);
      within = omega (arith, ap length lines, s.budget, w.within);
    }

pub ends : {X : Type 0} (xs : List X) → xs ++ [] ≡ xs
ends [] = refl
ends {X = X} (x ∷ xs) = ap (λ (z : List X). x ∷ z) (ends xs)

pub placed_grown : (gs : List (List Lit)) (old new : Walk) → IsPlaced gs old → Settles old new → IsPlaced gs new
placed_grown gs old new w s =
    let lines : new.checker.lines ≡ old.checker.lines = ap (λ (c : Checked). c.lines) s.checker in
    let cs : known new.checker ≡ known old.checker = ap known s.checker in
    let front : take (length old.trace.entries) new.trace.entries ≡ take (length old.trace.entries) old.trace.entries =
    ap (take (length old.trace.entries)) s.grows.joined ∙ take_front old.trace.entries s.grows.more (length old.trace.entries) (omega arith) in
    let moved : AreLevels gs (known old.checker ++ []) new.trace.entries 0 old.levels.items =
    levels_moved gs (known old.checker) [] old.trace.entries new.trace.entries 0 (length old.trace.entries) old.levels.items front (grows_long old.trace.entries new.trace.entries s.grows)
    (within_trail gs (known old.checker) old.trace.entries 0 old.levels.items w.levels) w.levels in
    let P : List (List Lit) → Type 0 = λ z. AreLevels gs z new.trace.entries 0 old.levels.items in
    let Q : List Level → Type 0 = λ z. AreLevels gs (known new.checker) new.trace.entries 0 z in
    record {
      levels = subst Q (sym s.levels) (subst P (ends (known old.checker) ∙ sym cs) moved);
      ranked = subst (AreRanked gs 0) (sym s.levels) w.ranked;
      spotted = omega (arith, ap length lines, ap (spot gs) s.levels, w.spotted);
    }

pub ahead_grown : (gs : List (List Lit)) (old new : Walk) → Settles old new → ahead gs new ≤ ahead gs old
ahead_grown gs old new s =
    let same : (choices gs - spot gs new.levels.items) * (new.trace.size + 1) ≡ (choices gs - spot gs old.levels.items) * (old.trace.size + 1) =
    λ i. (choices gs - spot gs (s.levels i)) * (s.size i + 1) in
    omega (arith, same, s.size, grows_long old.trace.entries new.trace.entries s.grows)
