-- The levels of a trail, where the trail grows, or ends sooner.
use Rattle.std.proofs.Common.{◌≡◌, ℕ, ◌+◌, ◌<◌, ◌≤◌, suc, zero, List, [], ◌∷◌, ◌++◌, length, take, slice_get, get_or, arith, sym, ◌∙◌, subst, Option, Some, None, Bool, true, false, cond, eqb, ◌&&◌, ◌||◌, refl, ap, inl, inr}
use Rattle.std.specs.Prelude.{is_some}
use Rattle.std.specs.List.{list_any}
use Rattle.cnf_base.specs.declared.lit.Lit.{Lit}
use Rattle.cnf_base.specs.Known.{Partial, is_true, is_value, made_true}
use Rattle.cnf_base.specs.Derivation.{is_all_false}
use Rattle.cnf_base.proofs.Sound.{eqb_same, beq_refl}
use Rattle.cnf_gate.specs.Built.{is_quiet, is_decided}
use Rattle.cnf_search.specs.Trails.{Entry, Explained, Grows, after, values, nothing}
use Rattle.cnf_search.specs.Levels.{digit, next_start, IsTaken, IsLevel, AreLevels, starts_at, AreStarted}
use Rattle.cnf_search.specs.Queue.{IsLitAt}
use Rattle.cnf_search.specs.declared.level.Level.{Level}
use Rattle.cnf_search.proofs.Extends.{extends_after}
use Rattle.cnf_search.proofs.Learned.{eqb_refl, why_open}
use Rattle.cnf_search.proofs.Lists.{get_drop, get_take, get_short, get_joined, any_joined, any_get, all_get}
use Rattle.cnf_search.proofs.Traces.{take_take, take_front}
use Rattle.cnf_search.proofs.Visits.{length_more}

differ : true ≡ false → ⊥
differ h = cc

start_low : (v : Level) → v.start ≤ next_start v
start_low v = elim v.decided as (λ b. v.start ≤ cond b (v.start + 1) v.start) [ true ↦ omega arith | false ↦ omega arith ]

start_taken : (v : Level) → v.decided ≡ true → next_start v ≡ v.start + 1
start_taken v d = ap (λ (b : Bool). cond b (v.start + 1) v.start) d

-- the next level may start at this place
abbrev pub AreWithin : ℕ → List Level → Type 0
AreWithin k [] = Unit {0}
AreWithin k (v ∷ vs) = (next_start v ≤ k) × AreWithin k vs

level_moved : (gs cs ds : List (List Lit)) (es new : List Entry) (v : Level) (k : ℕ) → take k new ≡ take k es → k ≤ length new → next_start v ≤ k
    → IsLevel gs cs es v → IsLevel gs (cs ++ ds) new v
level_moved gs cs ds es new v k e long low h =
    let front : take v.start new ≡ take v.start es =
    sym (take_take new v.start k (omega (arith, start_low v, low))) ∙ (ap (take v.start) e ∙ take_take es v.start k (omega (arith, start_low v, low))) in
    let same : values (take v.start new) ≡ values (take v.start es) = ap values front in record {
      start = omega (arith, start_low v, low);
      earlier = ap (λ (p : Partial). is_decided p (take v.depth gs)) same ∙ h.earlier;
      behind = ap (λ (p : Partial). is_all_false p (take (digit v) (get_or gs v.depth []))) same ∙ h.behind;
      taken = λ d.
          let t = h.taken d in record {
            lit = t.lit;
            value = t.value;
            more = t.more;
            entry = sym (get_take new k v.start (omega (arith, start_taken v d, low)))
                ∙ (ap (λ (z : List Entry). slice_get z v.start) e ∙ (get_take es k v.start (omega (arith, start_taken v d, low)) ∙ t.entry));
            known = omega (arith, t.known, length_more cs ds);
            quiet = (λ i. is_quiet (same i) (take_front cs ds v.known t.known i)) ∙ t.quiet;
          };
    }

pub levels_moved : (gs cs ds : List (List Lit)) (es new : List Entry) (low k : ℕ) (vs : List Level) → take k new ≡ take k es → k ≤ length new → AreWithin k vs
    → AreLevels gs cs es low vs → AreLevels gs (cs ++ ds) new low vs
levels_moved gs cs ds es new low k [] e long w h = tt
levels_moved gs cs ds es new low k (v ∷ vs) e long w h =
    (h.0, level_moved gs cs ds es new v k e long w.0 h.1, levels_moved gs cs ds es new (next_start v) k vs e long w.1 h.2)

level_within : (gs cs : List (List Lit)) (es : List Entry) (v : Level) → IsLevel gs cs es v → next_start v ≤ length es
level_within gs cs es v h =
    elim v.decided as (λ b. v.decided ≡ b → cond b (v.start + 1) v.start ≤ length es) [
      | true ↦ λ d. omega (arith, get_short es v.start (record { lit = (h.taken d).lit; reason = None }) (h.taken d).entry)
      | false ↦ λ _. h.start
    ] refl

pub within_trail : (gs cs : List (List Lit)) (es : List Entry) (low : ℕ) (vs : List Level) → AreLevels gs cs es low vs → AreWithin (length es) vs
within_trail gs cs es low [] h = tt
within_trail gs cs es low (v ∷ vs) h = (level_within gs cs es v h.1, within_trail gs cs es (next_start v) vs h.2)

-- one more level
pub levels_push : (gs cs : List (List Lit)) (es : List Entry) (low k : ℕ) (vs : List Level) (n : Level) → AreLevels gs cs es low vs → AreWithin k vs → low ≤ k → k ≤ n.start
    → IsLevel gs cs es n → AreLevels gs cs es low (vs ++ n ∷ [])
levels_push gs cs es low k [] n h w l s one = (omega (arith, l, s), one, tt)
levels_push gs cs es low k (v ∷ vs) n h w l s one = (h.0, h.1, levels_push gs cs es (next_start v) k vs n h.2 w.1 w.0 s one)

-- the levels before one of them
pub levels_low : (gs cs : List (List Lit)) (es : List Entry) (low : ℕ) (before later : List Level) (v : Level) → AreLevels gs cs es low (before ++ v ∷ later) → low ≤ v.start
levels_low gs cs es low [] later v h = h.0
levels_low gs cs es low (u ∷ before) later v h = omega (arith, h.0, start_low u, levels_low gs cs es (next_start u) before later v h.2)

pub levels_front : (gs cs : List (List Lit)) (es : List Entry) (low : ℕ) (before later : List Level) (v : Level) → AreLevels gs cs es low (before ++ v ∷ later)
    → AreLevels gs cs es low before × AreWithin v.start before
levels_front gs cs es low [] later v h = (tt, tt)
levels_front gs cs es low (u ∷ before) later v h =
    let r = levels_front gs cs es (next_start u) before later v h.2 in
    ((h.0, h.1, r.0), (levels_low gs cs es (next_start u) before later v h.2, r.1))

pub levels_at : (gs cs : List (List Lit)) (es : List Entry) (low : ℕ) (before later : List Level) (v : Level) → AreLevels gs cs es low (before ++ v ∷ later)
    → IsLevel gs cs es v × AreLevels gs cs es (next_start v) later
levels_at gs cs es low [] later v h = (h.1, h.2)
levels_at gs cs es low (u ∷ before) later v h = levels_at gs cs es (next_start u) before later v h.2

-- no level starts before its first place
not_started : (gs cs : List (List Lit)) (es : List Entry) (low i : ℕ) (vs : List Level) → AreLevels gs cs es low vs → i < low → starts_at vs i ≡ false
not_started gs cs es low i [] h l = refl
not_started gs cs es low i (v ∷ vs) h l =
    let far : eqb v.start i ≡ false = apart v.start i (omega (arith, h.0, l)) in
    (λ j. (v.decided && far j) || (not_started gs cs es (next_start v) i vs h.2 (omega (arith, h.0, l, start_low v))) j) ∙ none v.decided
  where
    apart : (m n : ℕ) → n < m → eqb m n ≡ false
    apart m n h = elim (eqb m n) as (λ b. eqb m n ≡ b → b ≡ false) [
      | true ↦ λ e. let same : m ≡ n = eqb_same m n e in absurd (omega arith)
      | false ↦ λ _. refl
    ] refl

    none : (b : Bool) → (b && false) || false ≡ false
    none true = refl
    none false = refl

or_left : (a b : Bool) → a ≡ true → a || b ≡ true
or_left true b h = refl
or_left false b h = cc

or_none : (a b : Bool) → b ≡ false → a || b ≡ true → a ≡ true
or_none true b h k = refl
or_none false b h k = absurd (differ (sym k ∙ h))

-- the trail before a decision, with its negation
pub started_return : (gs cs : List (List Lit)) (es new : List Entry) (low h : ℕ) (m : Lit) (before later : List Level) (v n : Level) → AreLevels gs cs es low (before ++ v ∷ later)
    → v.decided ≡ true → AreStarted es (before ++ v ∷ later) → new ≡ take v.start es ++ (record { lit = m; reason = Some h }) ∷ [] → AreStarted new (before ++ n ∷ [])
started_return gs cs es new low h m before later v n a d s e i l g =
    elim (get_joined (take v.start es) ((record { lit = m; reason = Some h }) ∷ []) i (record { lit = l; reason = None }) (ap (λ (z : List Entry). slice_get z i) (sym e) ∙ g)) [
      | inl w ↦
          let short : i < v.start = take_short es v.start i (record { lit = l; reason = None }) w in
          let was : starts_at (before ++ v ∷ later) i ≡ true = s i l (sym (get_take es v.start i short) ∙ w) in
          let parts : starts_at before i || ((v.decided && eqb v.start i) || starts_at later i) ≡ true = sym (any_joined (λ (u : Level). u.decided && eqb u.start i) before (v ∷ later)) ∙ was in
          let here : (v.decided && eqb v.start i) || starts_at later i ≡ false = not_started gs cs es v.start i (v ∷ later) (tail_of before low a) short in
          any_joined (λ (u : Level). u.decided && eqb u.start i) before (n ∷ []) ∙ or_left (starts_at before i) (starts_at (n ∷ []) i) (or_none (starts_at before i) ((v.decided && eqb v.start i) || starts_at later i) here parts)
      | inr w ↦ absurd (other w.0 w.2)
    ]
  where
    take_short : (xs : List Entry) (k i : ℕ) (x : Entry) → slice_get (take k xs) i ≡ Some x → i < k
    take_short [] zero i x h = cc
    take_short [] (suc k) i x h = cc
    take_short (y ∷ xs) zero i x h = cc
    take_short (y ∷ xs) (suc k) zero x h = omega arith
    take_short (y ∷ xs) (suc k) (suc i) x h = omega (arith, take_short xs k i x h)

    other : (j : ℕ) → slice_get {X = Entry} ((record { lit = m; reason = Some h }) ∷ []) j ≡ Some (record { lit = l; reason = None }) → ⊥
    other zero k =
        let same : ◌≡◌ {A = Entry} (record { lit = m; reason = Some h }) (record { lit = l; reason = None }) = cc in
        differ (ap (λ (z : Entry). is_some z.reason) same)
    other (suc j) k = let bad : true ≡ false = cc in differ bad

    tail_of : (before : List Level) (low : ℕ) → AreLevels gs cs es low (before ++ v ∷ later) → AreLevels gs cs es v.start (v ∷ later)
    tail_of [] low a = (omega arith, a.1, a.2)
    tail_of (u ∷ before) low a = tail_of before (next_start u) a.2

-- entries with reasons
pub started_grown : (es new : List Entry) (vs : List Level) → AreStarted es vs → Grows es new → AreStarted new vs
started_grown es new vs s g i l k =
    elim (get_joined es g.more i (record { lit = l; reason = None }) (ap (λ (z : List Entry). slice_get z i) (sym g.joined) ∙ k)) [
      | inl w ↦ s i l w
      | inr w ↦
          let reasoned : is_some {T = ℕ} None ≡ true = all_get (λ (e : Entry). is_some e.reason) g.more w.0 (record { lit = l; reason = None }) w.2 g.implied in
          absurd (differ (sym reasoned))
    ]

-- a decision, where levels without one may have gone
pub started_decided : (es new : List Entry) (vs mid : List Level) (n : Level) (l : Lit) → AreStarted es vs → new ≡ es ++ (record { lit = l; reason = None }) ∷ []
    → n.decided ≡ true → n.start ≡ length es → ((i : ℕ) → starts_at vs i ≡ true → starts_at mid i ≡ true) → AreStarted new (mid ++ n ∷ [])
started_decided es new vs mid n l s e d at keeps i m k =
    elim (get_joined es ((record { lit = l; reason = None }) ∷ []) i (record { lit = m; reason = None }) (ap (λ (z : List Entry). slice_get z i) (sym e) ∙ k)) [
      | inl w ↦ any_joined (λ (u : Level). u.decided && eqb u.start i) mid (n ∷ []) ∙ or_left (starts_at mid i) (starts_at (n ∷ []) i) (keeps i (s i m w))
      | inr w ↦
          let last : w.0 ≡ 0 = only w.0 w.2 in
          let here : n.start ≡ i = omega (arith, at, w.1, last) in
          let t : starts_at (n ∷ []) i ≡ true = (λ j. (d j && eqb n.start (sym here j)) || false) ∙ (rw (eqb_refl n.start) refl) in
          any_joined (λ (u : Level). u.decided && eqb u.start i) mid (n ∷ []) ∙ or_right (starts_at mid i) (starts_at (n ∷ []) i) t
    ]
  where
    only : (j : ℕ) → slice_get {X = Entry} ((record { lit = l; reason = None }) ∷ []) j ≡ Some (record { lit = m; reason = None }) → j ≡ 0
    only zero h = refl
    only (suc j) h = cc

    or_right : (a b : Bool) → b ≡ true → a || b ≡ true
    or_right true b h = refl
    or_right false b h = h

-- an entry's literal is true
pub entry_true : (cs : List (List Lit)) (p : Partial) (es : List Entry) (i : ℕ) (e : Entry) → Explained cs p es → slice_get es i ≡ Some e → is_true (after p es) e.lit ≡ true
entry_true cs p [] i e x h = cc
entry_true cs p (y ∷ es) zero e x h =
    let same : y ≡ e = cc in
    let P : Entry → Type 0 = λ z. is_true (after (made_true p y.lit) es) z.lit ≡ true in
    let value : after (made_true p y.lit) es y.lit.var ≡ Some y.lit.positive =
    (extends_after cs (made_true p y.lit) es x.1).keeps y.lit.var y.lit.positive (rw (eqb_refl y.lit.var) refl) in
    subst P same (ap (λ (o : Option Bool). is_value o y.lit.positive) value ∙ beq_refl y.lit.positive)
entry_true cs p (y ∷ es) (suc i) e x h = entry_true cs (made_true p y.lit) es i e x.1 h

-- a level with a decision has a true literal in its group
pub taken_true : (gs cs : List (List Lit)) (es : List Entry) (v : Level) → Explained cs nothing es → IsTaken gs cs es v → list_any (is_true (values es)) (get_or gs v.depth []) ≡ true
taken_true gs cs es v x t =
    any_get (is_true (values es)) (get_or gs v.depth []) v.value t.lit t.value (entry_true cs nothing es v.start (record { lit = t.lit; reason = None }) x t.entry)

-- an entry's literal has no value before it
pub entry_open : (cs : List (List Lit)) (p : Partial) (es : List Entry) (i : ℕ) (e : Entry) → Explained cs p es → slice_get es i ≡ Some e → after p (take i es) e.lit.var ≡ None
entry_open cs p [] i e x h = cc
entry_open cs p (y ∷ es) zero e x h = let same : y ≡ e = cc in ap (λ (z : Entry). p z.lit.var) (sym same) ∙ why_open cs p y.reason y.lit x.0
entry_open cs p (y ∷ es) (suc i) e x h = entry_open cs (made_true p y.lit) es i e x.1 h

pub lit_open : (cs : List (List Lit)) (es : List Entry) (n : ℕ) (l : Lit) → Explained cs nothing es → IsLitAt es n l → values (take n es) l.var ≡ None
lit_open cs es n l x a =
    ap (λ (z : Lit). values (take n es) z.var) a.lit ∙ entry_open cs nothing es n a.entry x (get_drop es n a.entry a.split)
