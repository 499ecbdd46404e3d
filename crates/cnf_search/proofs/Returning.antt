-- The walk after a learned line, back at the decision that it refutes.
use Rattle.std.proofs.Common.{◌≡◌, ℕ, ◌+◌, ◌*◌, ◌-◌, ◌<◌, ◌≤◌, List, [], ◌∷◌, ◌++◌, length, take, drop, slice_get, get_or, arith, sym, ◌∙◌, subst, Some, None, Bool, true, false, cond, refl, ap}
use Rattle.std.specs.List.{list_all}
use Rattle.cnf_base.specs.declared.lit.Lit.{Lit}
use Rattle.cnf_base.specs.declared.line.Line.{Line}
use Rattle.cnf_base.specs.Clauses.{negate, has, variables}
use Rattle.cnf_base.specs.Known.{Partial, is_false}
use Rattle.cnf_base.specs.Derivation.{is_all_false}
use Rattle.cnf_base.proofs.VariableBounds.{variables-append}
use Rattle.cnf_check.specs.Checked.{Checked, AreDistinct}
use Rattle.cnf_gate.specs.Built.{is_filled, is_decided, is_quiet}
use Rattle.cnf_gate.proofs.Rungs.{all_join}
use Rattle.cnf_search.specs.Trails.{Entry, IsReason, HasReason, Told, Explained, values, nothing}
use Rattle.cnf_search.specs.Lines.{known, choices}
use Rattle.cnf_search.specs.Levels.{digit, spot, AreRanked, AreLevels, AreStarted, starts_at, IsLevel, refuted}
use Rattle.cnf_search.specs.Passes.{IsLearned}
use Rattle.cnf_search.specs.Queue.{AreSettled, IsIndex}
use Rattle.cnf_search.specs.Unforced.{Unforced}
use Rattle.cnf_search.specs.Walks.{IsSound, IsPlaced, IsPending, IsWalking, Keeps, Learns, ahead}
use Rattle.cnf_search.specs.declared.level.Level.{Level}
use Rattle.cnf_search.specs.declared.walk.Walk.{Walk}
use Rattle.cnf_search.proofs.Extends.{Extends, extends_grows, explained_split, explained_more, clauses_after-append, keeps_false, keeps_decided}
use Rattle.cnf_search.proofs.Fresh.{unforced_split, unforced_push, unforced_line, learned_differs, distinct_learned}
use Rattle.cnf_search.proofs.Leveled.{levels_moved, levels_push, levels_front, levels_at, started_return, entry_true}
use Rattle.cnf_search.proofs.Lists.{get_end, get_drop, get_here, length_end, take_step}
use Rattle.cnf_search.proofs.Spots.{spot_rises, spot_least, ranked_return}
use Rattle.cnf_search.proofs.Traces.{explained_push, take_front, take_all}
use Rattle.cnf_search.proofs.Visits.{settled_grown, quiet_late}

-- the entry of a decision, and that of its negation by a line
abbrev pub decided_entry : Lit → Entry
decided_entry l = record { lit = l; reason = None }

abbrev pub refuted_entry : Lit → ℕ → Entry
refuted_entry l n = record { lit = negate l; reason = Some n }

explained_return : (cs : List (List Lit)) (es front more : List Entry) (c : List Lit) (l : Lit) → Explained cs nothing es → es ≡ front ++ decided_entry l ∷ more
    → IsReason (values front) c (negate l) → Explained (cs ++ c ∷ []) nothing (front ++ refuted_entry l (length cs) ∷ [])
explained_return cs es front more c l x s r =
    let P : List Entry → Type 0 = λ z. Explained cs nothing z in
    let one : Explained cs nothing front = (explained_split cs nothing front (decided_entry l ∷ more) (subst P s x)).0 in
    let two : Explained (cs ++ c ∷ []) nothing front = explained_more cs (c ∷ []) nothing front one in
    let why : HasReason (cs ++ c ∷ []) (values front) (length cs) (negate l) = record { clause = c; named = get_end cs c (length cs) refl; reason = r } in
    explained_push (cs ++ c ∷ []) nothing front (refuted_entry l (length cs)) two why

unforced_return : (cs : List (List Lit)) (lines : List Line) (es front more : List Entry) (x : Line) (l : Lit) (n : ℕ) → Explained cs nothing es → Unforced lines nothing es
    → es ≡ front ++ decided_entry l ∷ more → IsReason (values front) x.clause (negate l) → Unforced (lines ++ x ∷ []) nothing (front ++ refuted_entry l n ∷ [])
unforced_return cs lines es front more x l n e u s r =
    let P : List Entry → Type 0 = λ z. Explained cs nothing z in
    let Q : List Entry → Type 0 = λ z. Unforced lines nothing z in
    let one : Explained cs nothing front = (explained_split cs nothing front (decided_entry l ∷ more) (subst P s e)).0 in
    let two : Unforced lines nothing front = (unforced_split lines nothing front (decided_entry l ∷ more) (subst Q s u)).0 in
    let three : Unforced (lines ++ x ∷ []) nothing front = unforced_line cs lines nothing front x (negate l) one two r.there r.open_yet in
    unforced_push (lines ++ x ∷ []) nothing front (refuted_entry l n) three tt

distinct_return : (lines : List Line) (es front more : List Entry) (x : Line) (l : Lit) → Unforced lines nothing es → AreDistinct lines
    → es ≡ front ++ decided_entry l ∷ more → IsReason (values front) x.clause (negate l) → AreDistinct (lines ++ x ∷ [])
distinct_return lines es front more x l u d s r =
    let Q : List Entry → Type 0 = λ z. Unforced lines nothing z in
    distinct_learned lines x d (learned_differs lines nothing front more l x.clause (subst Q s u) r)

has_filled : (c : List Lit) (l : Lit) → has c l ≡ true → is_filled c ≡ true
has_filled [] l h = cc
has_filled (m ∷ c) l h = refl

pub take_whole : {X : Type 0} (xs ys : List X) (n : ℕ) → n ≡ length xs → take n (xs ++ ys) ≡ xs
take_whole xs ys n h = take_front xs ys n (omega (arith, h)) ∙ take_all xs n (omega (arith, h))

-- what a return knows of the trail
pub record Back (old new : Walk) (d : Learns old new) : Type 0 where
  pub front : List Entry
  pub more : List Entry
  pub lit : Lit
  pub split : old.trace.entries ≡ front ++ decided_entry lit ∷ more
  pub at : length front ≡ d.start
  pub reason : IsReason (values front) d.line.clause (negate lit)
  pub entries : new.trace.entries ≡ front ++ refuted_entry lit (length (known old.checker)) ∷ []

back_of : (old new : Walk) (d : Learns old new) → Back old new d
back_of old new d =
    let r = d.learned in
    let mid_es : d.mid.trace.entries ≡ old.trace.entries = λ i. (d.keeps.trace i).entries in
    let split : old.trace.entries ≡ r.front ++ decided_entry r.decision ∷ r.more = r.split in
    let at : length r.front ≡ d.start = omega (arith, r.at) in
    let got : slice_get d.mid.trace.entries d.start ≡ Some (decided_entry r.decision) =
    ap (λ (z : List Entry). slice_get z d.start) (mid_es ∙ split) ∙ get_here r.front (decided_entry r.decision) r.more d.start (sym at) in
    let entry : d.returns.entry.entry ≡ decided_entry r.decision =
    some_entry d.returns.entry.entry (decided_entry r.decision) (sym (get_drop d.mid.trace.entries d.start d.returns.entry.entry d.returns.entry.split) ∙ got) in
    let lit : d.returns.lit ≡ r.decision = d.returns.entry.lit ∙ ap (λ (e : Entry). e.lit) entry in
    let before : take d.start d.mid.trace.entries ≡ r.front = ap (take d.start) (mid_es ∙ split) ∙ take_whole r.front (decided_entry r.decision ∷ r.more) d.start (sym at) in
    record {
      front = r.front;
      more = r.more;
      lit = r.decision;
      split = split;
      at = at;
      reason = r.reason;
      entries = d.returns.entries ∙ (λ i. before i ++ refuted_entry (lit i) (length (known old.checker)) ∷ []);
    }
  where
    some_entry : (x y : Entry) → Some x ≡ Some y → x ≡ y
    some_entry x y h = cc

known_after : (old new : Walk) (d : Learns old new) → known new.checker ≡ known old.checker ++ d.line.clause ∷ []
known_after old new d =
    let f : new.checker.formula ≡ old.checker.formula = ap (λ (c : Checked). c.formula) d.returns.checker ∙ d.keeps.formula in
    let l : new.checker.lines ≡ old.checker.lines ++ d.line ∷ [] = ap (λ (c : Checked). c.lines) d.returns.checker ∙ d.keeps.lines in
    (λ i. known (record { formula = f i; lines = l i })) ∙ clauses_after-append old.checker.formula old.checker.lines (d.line ∷ [])

pub sound_back : (gs : List (List Lit)) (old new : Walk) → IsSound old → IsPlaced gs old → Learns old new → IsSound new
sound_back gs old new w p d =
    let b = back_of old new d in
    let lines : new.checker.lines ≡ old.checker.lines ++ d.line ∷ [] = ap (λ (c : Checked). c.lines) d.returns.checker ∙ d.keeps.lines in
    let cs : known new.checker ≡ known old.checker ++ d.line.clause ∷ [] = known_after old new d in
    let size : new.trace.size ≡ old.trace.size = d.returns.size ∙ (λ i. (d.keeps.trace i).size) in
    let E : List Entry → Type 0 = λ z. Explained (known new.checker) nothing z in
    let F : List (List Lit) → Type 0 = λ z. Explained z nothing (b.front ++ refuted_entry b.lit (length (known old.checker)) ∷ []) in
    let U : List Entry → Type 0 = λ z. Unforced new.checker.lines nothing z in
    let V : List Line → Type 0 = λ z. Unforced z nothing (b.front ++ refuted_entry b.lit (length (known old.checker)) ∷ []) in
    let X : List (List Lit) → Type 0 = λ z. IsIndex z new.lists.items in
    let Y : List (List ℕ) → Type 0 = λ z. IsIndex (known d.mid.checker) z in
    let S : List Level → Type 0 = λ z. AreStarted new.trace.entries z in
    let O : List Level → Type 0 = λ z. AreStarted old.trace.entries z in
    let A : List Level → Type 0 = λ z. AreLevels gs (known old.checker) old.trace.entries 0 z in
    let levels : old.levels.items ≡ d.returns.off.0 ++ d.returns.level ∷ d.returns.off.1.0 = sym d.keeps.levels ∙ d.returns.off.1.1 in
    let entries : new.trace.entries ≡ take d.returns.level.start old.trace.entries ++ refuted_entry b.lit (length (known old.checker)) ∷ [] =
    b.entries ∙ ap (λ (z : List Entry). z ++ refuted_entry b.lit (length (known old.checker)) ∷ [])
    (sym (ap (take d.returns.level.start) b.split ∙ take_whole b.front (decided_entry b.lit ∷ b.more) d.returns.level.start (d.returns.at ∙ sym b.at))) in
    record {
      explained = subst E (sym b.entries) (subst F (sym cs) (explained_return (known old.checker) old.trace.entries b.front b.more d.line.clause b.lit w.explained b.split b.reason));
      unforced = subst U (sym b.entries)
          (subst V (sym lines) (unforced_return (known old.checker) old.checker.lines old.trace.entries b.front b.more d.line b.lit (length (known old.checker)) w.explained w.unforced b.split b.reason));
      distinct = subst AreDistinct (sym lines) (distinct_return old.checker.lines old.trace.entries b.front b.more d.line b.lit w.unforced w.distinct b.split b.reason);
      filled = ap (list_all (λ (x : Line). is_filled x.clause)) lines
          ∙ all_join (λ (x : Line). is_filled x.clause) old.checker.lines (d.line ∷ []) w.filled (rw (has_filled d.line.clause (negate b.lit) b.reason.there) refl);
      room = omega (arith, ap variables cs, variables-append (known old.checker) (d.line.clause ∷ []), size, w.room, d.within);
      indexed = subst X (sym (ap known d.returns.checker)) (subst Y (sym d.returns.lists) d.keeps.indexed);
      long = omega (arith, ap length d.returns.lists, d.keeps.long, size, w.long);
      started = subst S (sym d.returns.off.2)
          (started_return gs (known old.checker) old.trace.entries new.trace.entries 0 (length (known old.checker)) (negate b.lit) d.returns.off.0 d.returns.off.1.0 d.returns.level
          (refuted d.returns.level (d.start + 1)) (subst A levels p.levels) d.returns.decided (subst O levels w.started) entries);
      within = omega (arith, ap length lines, length_end old.checker.lines d.line, d.below, d.returns.budget, d.keeps.budget);
    }

-- the level whose value was refuted
level_back : (gs cs ds : List (List Lit)) (es front more new : List Entry) (v : Level) (l : Lit) (h : ℕ) → Explained (cs ++ ds) nothing new → es ≡ front ++ decided_entry l ∷ more
    → new ≡ front ++ refuted_entry l h ∷ [] → v.start ≡ length front → v.decided ≡ true → IsLevel gs cs es v → IsLevel gs (cs ++ ds) new (refuted v (v.start + 1))
level_back gs cs ds es front more new v l h x split e at d one =
    let t = one.taken d in
    let before : take v.start es ≡ front = ap (take v.start) split ∙ take_whole front (decided_entry l ∷ more) v.start at in
    let long : length new ≡ v.start + 1 = omega (arith, ap length e, length_end front (refuted_entry l h), at) in
    let whole : take (v.start + 1) new ≡ new = take_all new (v.start + 1) (omega (arith, long)) in
    let ext : Extends (values front) (values new) = extends_grows (cs ++ ds) front new (refuted_entry l h ∷ []) e x in
    let lit : t.lit ≡ l =
    ap (λ (y : Entry). y.lit)
    (some_entry (decided_entry t.lit) (decided_entry l) (sym t.entry ∙ (ap (λ (z : List Entry). slice_get z v.start) split ∙ get_here front (decided_entry l) more v.start at))) in
    let false_now : is_false (values new) t.lit ≡ true =
    ap (is_false (values new)) lit
    ∙ entry_true (cs ++ ds) nothing new v.start (refuted_entry l h) x (ap (λ (z : List Entry). slice_get z v.start) e ∙ get_here front (refuted_entry l h) [] v.start at) in
    let group : List Lit = get_or gs v.depth [] in
    let values_before : values (take v.start es) ≡ values front = ap values before in
    let earlier_false : is_all_false (values front) (take v.value group) ≡ true =
    (λ i. is_all_false (sym values_before i) (take (cond (sym d i) v.value (v.value + 1)) group)) ∙ one.behind in
    record {
      start = omega (arith, long);
      earlier = ap (λ (z : List Entry). is_decided (values z) (take v.depth gs)) whole
          ∙ keeps_decided (values front) (values new) (take v.depth gs) ext (ap (λ (p : Partial). is_decided p (take v.depth gs)) (sym values_before) ∙ one.earlier);
      behind = (λ i. is_all_false (values (whole i)) (take_step group v.value t.lit t.value i))
          ∙ all_join (is_false (values new)) (take v.value group) (t.lit ∷ []) (keeps_false (values front) (values new) (take v.value group) ext earlier_false) (rw false_now refl);
      taken = λ b. absurd (differ b);
    }
  where
    differ : false ≡ true → ⊥
    differ h = cc

    some_entry : (x y : Entry) → Some x ≡ Some y → x ≡ y
    some_entry x y h = cc

digit_taken : (v : Level) → v.decided ≡ true → digit v ≡ v.value
digit_taken v d = ap (λ (b : Bool). cond b v.value (v.value + 1)) d

pub placed_back : (gs : List (List Lit)) (old new : Walk) → list_all is_filled gs ≡ true → IsSound old → IsPlaced gs old → Learns old new
    → IsPlaced gs new × (spot gs old.levels.items < spot gs new.levels.items)
placed_back gs old new filled w p d =
    let b = back_of old new d in
    let v : Level = d.returns.level in
    let before : List Level = d.returns.off.0 in
    let later : List Level = d.returns.off.1.0 in
    let n : Level = refuted v (d.start + 1) in
    let c : List Lit = d.line.clause in
    let cs : known new.checker ≡ known old.checker ++ c ∷ [] = known_after old new d in
    let lines : new.checker.lines ≡ old.checker.lines ++ d.line ∷ [] = ap (λ (c : Checked). c.lines) d.returns.checker ∙ d.keeps.lines in
    let levels : old.levels.items ≡ before ++ v ∷ later = sym d.keeps.levels ∙ d.returns.off.1.1 in
    let A : List Level → Type 0 = λ z. AreLevels gs (known old.checker) old.trace.entries 0 z in
    let was : AreLevels gs (known old.checker) old.trace.entries 0 (before ++ v ∷ later) = subst A levels p.levels in
    let R : List Level → Type 0 = λ z. AreRanked gs 0 z in
    let rank : AreRanked gs 0 (before ++ v ∷ later) = subst R levels p.ranked in
    let fronts = levels_front gs (known old.checker) old.trace.entries 0 before later v was in
    let one : IsLevel gs (known old.checker) old.trace.entries v = (levels_at gs (known old.checker) old.trace.entries 0 before later v was).0 in
    let t = one.taken d.returns.decided in
    let at : v.start ≡ length b.front = d.returns.at ∙ sym b.at in
    let agree : take v.start new.trace.entries ≡ take v.start old.trace.entries =
    ap (take v.start) b.entries
    ∙ (take_whole b.front (refuted_entry b.lit (length (known old.checker)) ∷ []) v.start at
    ∙ sym (ap (take v.start) b.split ∙ take_whole b.front (decided_entry b.lit ∷ b.more) v.start at)) in
    let long : length new.trace.entries ≡ v.start + 1 = omega (arith, ap length b.entries, length_end b.front (refuted_entry b.lit (length (known old.checker))), at) in
    let E : List (List Lit) → Type 0 = λ z. Explained z nothing new.trace.entries in
    let x : Explained (known old.checker ++ c ∷ []) nothing new.trace.entries = subst E cs (sound_back gs old new w p d).explained in
    let N : Level → Type 0 = λ z. IsLevel gs (known old.checker ++ c ∷ []) new.trace.entries z in
    let same : v.start + 1 ≡ d.start + 1 = omega (arith, d.returns.at) in
    let mine : IsLevel gs (known old.checker ++ c ∷ []) new.trace.entries n =
    subst N (ap (refuted v) same)
    (level_back gs (known old.checker) (c ∷ []) old.trace.entries b.front b.more new.trace.entries v b.lit (length (known old.checker)) x b.split b.entries at d.returns.decided one) in
    let moved : AreLevels gs (known old.checker ++ c ∷ []) new.trace.entries 0 before =
    levels_moved gs (known old.checker) (c ∷ []) old.trace.entries new.trace.entries 0 v.start before agree (omega (arith, long)) fronts.1 fronts.0 in
    let all : AreLevels gs (known old.checker ++ c ∷ []) new.trace.entries 0 (before ++ n ∷ []) =
    levels_push gs (known old.checker ++ c ∷ []) new.trace.entries 0 v.start before n moved fronts.1 (omega arith) (omega (arith, d.returns.at)) mine in
    let P : List (List Lit) → Type 0 = λ z. AreLevels gs z new.trace.entries 0 (before ++ n ∷ []) in
    let Q : List Level → Type 0 = λ z. AreLevels gs (known new.checker) new.trace.entries 0 z in
    let low : digit v < digit n = omega (arith, digit_taken v d.returns.decided) in
    let rises : spot gs (before ++ v ∷ later) < spot gs (before ++ n ∷ []) = spot_rises gs 0 before later v n filled rank refl low in
    let higher : spot gs old.levels.items < spot gs new.levels.items = omega (arith, rises, ap (spot gs) levels, ap (spot gs) d.returns.off.2) in (
      record {
        levels = subst Q (sym d.returns.off.2) (subst P (sym cs) all);
        ranked = subst R (sym d.returns.off.2) (ranked_return gs 0 before later v n rank refl t.more);
        spotted = omega (arith, ap length lines, length_end old.checker.lines d.line, p.spotted, higher);
      },
      higher,
    )

pub pending_back : (gs : List (List Lit)) (old new : Walk) → IsSound old → IsPlaced gs old → Learns old new → IsPending new
pending_back gs old new w p d =
    let b = back_of old new d in
    let v : Level = d.returns.level in
    let c : List Lit = d.line.clause in
    let cs : known new.checker ≡ known old.checker ++ c ∷ [] = known_after old new d in
    let levels : old.levels.items ≡ d.returns.off.0 ++ v ∷ d.returns.off.1.0 = sym d.keeps.levels ∙ d.returns.off.1.1 in
    let A : List Level → Type 0 = λ z. AreLevels gs (known old.checker) old.trace.entries 0 z in
    let one : IsLevel gs (known old.checker) old.trace.entries v =
    (levels_at gs (known old.checker) old.trace.entries 0 d.returns.off.0 d.returns.off.1.0 v (subst A levels p.levels)).0 in
    let t = one.taken d.returns.decided in
    let at : v.start ≡ length b.front = d.returns.at ∙ sym b.at in
    let before : take v.start old.trace.entries ≡ b.front = ap (take v.start) b.split ∙ take_whole b.front (decided_entry b.lit ∷ b.more) v.start at in
    let f : List (List Lit) = take v.known (known old.checker) in
    let quiet : is_quiet (values b.front) f ≡ true =
    ap (λ (z : List Entry). is_quiet (values z) f) (sym before) ∙ t.quiet in
    let settled : AreSettled f (values new.trace.entries) (drop (length b.front) new.trace.entries) [] =
    settled_grown f f b.front new.trace.entries (refuted_entry b.lit (length (known old.checker))) (length b.front) refl
    (quiet_late f b.front (length b.front) (omega arith) quiet) b.reason.open_yet b.entries (omega arith) in
    let left : take new.left (known new.checker) ≡ f =
    (λ i. take (d.returns.left i) (cs i)) ∙ take_front (known old.checker) (c ∷ []) v.known t.known in
    let head : length b.front ≡ new.head = b.at ∙ sym d.returns.head in
    let P : List (List Lit) → Type 0 = λ z. AreSettled z (values new.trace.entries) (drop (length b.front) new.trace.entries) [] in
    let Q : ℕ → Type 0 = λ k. AreSettled (take new.left (known new.checker)) (values new.trace.entries) (drop k new.trace.entries) [] in
    record {
      head = omega (arith, sym head, ap length b.entries, length_end b.front (refuted_entry b.lit (length (known old.checker))));
      settled = subst Q head (subst P (sym left) settled);
    }

below_next : (s d m r : ℕ) → d < s → r < m → d * m + r < s * m
below_next s d m r h k = grind (arith, bigger)
  where
    bigger : (d + 1) * m ≤ s * m
    bigger = grind arith

-- a return leaves fewer choices ahead
pub ahead_back : (gs : List (List Lit)) (old new : Walk) → list_all is_filled gs ≡ true → IsSound old → IsPlaced gs old → Learns old new → ahead gs new < ahead gs old
ahead_back gs old new filled w p d =
    let r = placed_back gs old new filled w p d in
    let most : spot gs new.levels.items < choices gs = spot_least gs new.levels.items filled r.0.ranked in
    let size : new.trace.size ≡ old.trace.size = d.returns.size ∙ (λ i. (d.keeps.trace i).size) in
    let same : (choices gs - spot gs old.levels.items) * (new.trace.size + 1) ≡ (choices gs - spot gs old.levels.items) * (old.trace.size + 1) =
    λ i. (choices gs - spot gs old.levels.items) * (size i + 1) in
    omega (
      arith,
      same,
      below_next (choices gs - spot gs old.levels.items) (choices gs - spot gs new.levels.items) (new.trace.size + 1) (new.trace.size - length new.trace.entries)
          (omega (arith, most, r.1)) (omega arith),
    )

pub walking_back : (gs : List (List Lit)) (old new : Walk) → list_all is_filled gs ≡ true → IsSound old → IsPlaced gs old → Learns old new → IsWalking gs new
walking_back gs old new filled w p d = record {
  sound = sound_back gs old new w p d;
  placed = (placed_back gs old new filled w p d).0;
  pending = pending_back gs old new w p d;
}

-- ---- between the line and the return

pub explained_kept : (old mid : Walk) (line : Line) → IsSound old → Keeps old mid line → Explained (known mid.checker) nothing mid.trace.entries
explained_kept old mid line w k =
    let cs : known mid.checker ≡ known old.checker ++ line.clause ∷ [] =
    (λ i. known (record { formula = k.formula i; lines = k.lines i })) ∙ clauses_after-append old.checker.formula old.checker.lines (line ∷ []) in
    let P : List (List Lit) → Type 0 = λ z. Explained z nothing mid.trace.entries in
    let Q : Told → Type 0 = λ z. Explained (known old.checker ++ line.clause ∷ []) nothing z.entries in
    subst P (sym cs) (subst Q (sym k.trace) (explained_more (known old.checker) (line.clause ∷ []) nothing old.trace.entries w.explained))

pub started_kept : (old mid : Walk) (line : Line) (k : ℕ) → IsSound old → Keeps old mid line → IsLearned nothing 0 old.trace.entries line.clause k → starts_at mid.levels.items k ≡ true
started_kept old mid line k w s l =
    ap (λ (z : List Level). starts_at z k) s.levels
    ∙ w.started k l.decision (ap (λ (z : List Entry). slice_get z k) l.split ∙ get_here l.front (decided_entry l.decision) l.more k (omega (arith, l.at)))
