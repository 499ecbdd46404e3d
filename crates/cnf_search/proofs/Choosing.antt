-- The walk after a decision.
use Rattle.std.proofs.Common.{◌≡◌, ℕ, ◌+◌, ◌*◌, ◌-◌, ◌<◌, ◌≤◌, suc, zero, List, [], ◌∷◌, ◌++◌, length, take, drop, slice_get, get_or, arith, sym, ◌∙◌, subst, Option, Some, None, Bool, true, false, eqb, not, ◌&&◌, ◌||◌, refl, ap, inl, inr}
use Rattle.std.specs.Prelude.{is_some, is_none}
use Rattle.std.specs.List.{list_any, list_all}
use Rattle.std.proofs.lemmas.Bool.Decides.{nat_tests}
use Rattle.cnf_base.specs.declared.lit.Lit.{Lit}
use Rattle.cnf_base.specs.declared.line.Line.{Line}
use Rattle.cnf_base.specs.Clauses.{negate, variables}
use Rattle.cnf_base.specs.Known.{Partial, is_true, is_false, is_value}
use Rattle.cnf_base.specs.Derivation.{lone, only, rest, is_all_false, clauses_of}
use Rattle.cnf_base.proofs.Sound.{and_true, eqb_same}
use Rattle.cnf_base.proofs.VariableBounds.{variables-append}
use Rattle.cnf_check.specs.Checked.{Checked, AreDistinct}
use Rattle.cnf_gate.specs.Built.{is_quiet, is_decided, is_filled}
use Rattle.cnf_gate.proofs.Step.{all_split}
use Rattle.cnf_search.specs.Trails.{Entry, Explained, values, nothing}
use Rattle.cnf_search.specs.Lines.{known, choices}
use Rattle.cnf_search.specs.Levels.{digit, spot, AreRanked, AreLevels, AreStarted, starts_at, IsLevel, last_depth}
use Rattle.cnf_search.specs.Moves.{ends_refuted, Drops}
use Rattle.cnf_search.specs.Queue.{is_calm, AreSettled, IsIndex}
use Rattle.cnf_search.specs.Unforced.{UnforcedAt, Unforced}
use Rattle.cnf_search.specs.Guides.{Guides}
use Rattle.cnf_search.specs.Walks.{IsSound, IsPlaced, IsPending, IsWalking, Chosen, ahead}
use Rattle.cnf_search.specs.declared.level.Level.{Level}
use Rattle.cnf_search.specs.declared.walk.Walk.{Walk}
use Rattle.cnf_search.proofs.Extends.{Extends, extends_grows, keeps_false, keeps_decided}
use Rattle.cnf_search.proofs.Fresh.{unforced_push, calm_unforced}
use Rattle.cnf_search.proofs.Grown.{ends}
use Rattle.cnf_search.proofs.Leveled.{levels_moved, levels_push, levels_front, levels_at, within_trail, started_decided, taken_true}
use Rattle.cnf_search.proofs.Lists.{get_end, length_end, last_view}
use Rattle.cnf_search.proofs.Lasts.{ends_at, started_front}
use Rattle.cnf_search.proofs.Returning.{decided_entry, take_whole}
use Rattle.cnf_search.proofs.Spots.{spot_more, spot_later, next_free, next_free-end, last_depth-end, ranked_push, ranked_front}
use Rattle.cnf_search.proofs.Traces.{explained_push, take_all}
use Rattle.cnf_search.proofs.Visits.{settled_grown, quiet_late}

differ : true ≡ false → ⊥
differ h = cc

-- ---- a quiet group without a true literal

-- a literal that has a value and isn't true is false
valued_false : (x : Option Bool) (b : Bool) → is_some x ≡ true → is_value x b ≡ false → is_value x (not b) ≡ true
valued_false None b h k = cc
valued_false (Some true) true h k = cc
valued_false (Some true) false h k = refl
valued_false (Some false) true h k = refl
valued_false (Some false) false h k = cc

or_parts : (a b : Bool) → a || b ≡ false → (a ≡ false) × (b ≡ false)
or_parts true b h = cc
or_parts false b h = (refl, h)

front_false : (p : Partial) (g : List Lit) (k : ℕ) → list_any (is_true p) g ≡ false → list_all (λ l. is_some (p l.var)) (take k g) ≡ true → is_all_false p (take k g) ≡ true
front_false p [] zero h v = refl
front_false p [] (suc k) h v = refl
front_false p (l ∷ g) zero h v = refl
front_false p (l ∷ g) (suc k) h v =
    let s = or_parts (is_true p l) (list_any (is_true p) g) h in
    let t = and_true (is_some (p l.var)) (list_all (λ (m : Lit). is_some (p m.var)) (take k g)) v in
    rw (valued_false (p l.var) l.positive t.0 s.0) (front_false p g k s.1 t.1)

-- a second literal is left where the clause is calm
pub two_open : (p : Partial) (g : List Lit) (k : ℕ) → is_calm p g ≡ true → list_any (is_true p) g ≡ false → list_all (λ l. is_some (p l.var)) (take k g) ≡ true → k ≤ length g
    → k + 1 < length g
two_open p g k c u v h =
    elim (drop k g) as (λ z. drop k g ≡ z → k + 1 < length g) [
      | [] ↦ λ e.
          let none : take k g ≡ g = take_all g k (short g k e) in
          let all : is_all_false p g ≡ true = ap (is_all_false p) (sym none) ∙ front_false p g k u v in
          let bad : false ≡ true = ap not (sym all) ∙ (and_true (is_none (lone p g)) (not (is_all_false p g)) c).1 in
          cc
      | l ∷ more ↦ λ e. elim more as (λ z. drop k g ≡ l ∷ z → k + 1 < length g) [
        | [] ↦ λ f. absurd (lone_left g k l c u v f)
        | m ∷ rest ↦ λ f. long g k l m rest f
      ] e
    ] refl
  where
    short : (g : List Lit) (k : ℕ) → drop k g ≡ [] → length g ≤ k
    short [] k e = omega arith
    short (l ∷ g) zero e = cc
    short (l ∷ g) (suc k) e = omega (arith, short g k e)

    long : (g : List Lit) (k : ℕ) (l m : Lit) (rest : List Lit) → drop k g ≡ l ∷ m ∷ rest → k + 1 < length g
    long [] zero l m rest e = cc
    long [] (suc k) l m rest e = cc
    long (x ∷ []) zero l m rest e = cc
    long (x ∷ y ∷ g) zero l m rest e = omega arith
    long (x ∷ g) (suc k) l m rest e = omega (arith, long g k l m rest e)

    split : (g : List Lit) (k : ℕ) → g ≡ take k g ++ drop k g
    split [] zero = refl
    split [] (suc k) = refl
    split (x ∷ g) zero = refl
    split (x ∷ g) (suc k) = ap (λ (z : List Lit). x ∷ z) (split g k)

    rest_joined : (xs ys : List Lit) → is_all_false p xs ≡ true → rest p (xs ++ ys) ≡ rest p ys
    rest_joined [] ys h = refl
    rest_joined (x ∷ xs) ys h = let s = and_true (is_false p x) (is_all_false p xs) h in rw s.0 (rest_joined xs ys s.1)

    all_joined : (xs ys : List Lit) → is_all_false p xs ≡ true → is_all_false p ys ≡ true → is_all_false p (xs ++ ys) ≡ true
    all_joined [] ys h k = k
    all_joined (x ∷ xs) ys h k = let s = and_true (is_false p x) (is_all_false p xs) h in rw s.0 (all_joined xs ys s.1 k)

    any_end : (xs ys : List Lit) → list_any (is_true p) (xs ++ ys) ≡ false → list_any (is_true p) ys ≡ false
    any_end [] ys h = h
    any_end (x ∷ xs) ys h = any_end xs ys (or_parts (is_true p x) (list_any (is_true p) (xs ++ ys)) h).1

    lone_left : (g : List Lit) (k : ℕ) (l : Lit) → is_calm p g ≡ true → list_any (is_true p) g ≡ false → list_all (λ (m : Lit). is_some (p m.var)) (take k g) ≡ true → drop k g ≡ l ∷ [] → ⊥
    lone_left g k l c u v e =
        let whole : g ≡ take k g ++ l ∷ [] = split g k ∙ ap (λ (z : List Lit). take k g ++ z) e in
        let front : is_all_false p (take k g) ≡ true = front_false p g k u v in
        let untrue : is_true p l ≡ false = (or_parts (is_true p l) false (any_end (take k g) (l ∷ []) (ap (list_any (is_true p)) (sym whole) ∙ u))).0 in
        let s = and_true (is_none (lone p g)) (not (is_all_false p g)) c in
        elim (is_false p l) as (λ b. is_false p l ≡ b → ⊥) [
          | true ↦ λ f.
              let all : is_all_false p g ≡ true = ap (is_all_false p) whole ∙ all_joined (take k g) (l ∷ []) front (rw f refl) in
              let bad : false ≡ true = ap not (sym all) ∙ s.1 in
              cc
          | false ↦ λ f.
              let single : rest p g ≡ l ∷ [] = ap (rest p) whole ∙ (rest_joined (take k g) (l ∷ []) front ∙ (rw f refl)) in
              let is : lone p g ≡ Some l = ap (only p) single ∙ (rw untrue refl) in
              let bad : false ≡ true = ap is_none (sym is) ∙ s.0 in
              cc
        ] refl

-- the values behind don't reach a literal without a value
behind_value : (p : Partial) (g : List Lit) (k n : ℕ) (l : Lit) → is_all_false p (take k g) ≡ true → slice_get g n ≡ Some l → p l.var ≡ None → k ≤ n
behind_value p g zero n l h e o = omega arith
behind_value p [] (suc k) n l h e o = cc
behind_value p (m ∷ g) (suc k) zero l h e o =
    let same : m ≡ l = cc in
    let f : is_false p m ≡ true = (and_true (is_false p m) (is_all_false p (take k g)) h).0 in
    let none : p m.var ≡ None = ap (λ (z : Lit). p z.var) same ∙ o in
    let bad : false ≡ true = ap (λ (x : Option Bool). is_value x (not m.positive)) (sym none) ∙ f in
    cc
behind_value p (m ∷ g) (suc k) (suc n) l h e o =
    omega (arith, behind_value p g k n l (and_true (is_false p m) (is_all_false p (take k g)) h).1 e o)

-- the calm clause of a quiet formula
pub calm_at : (p : Partial) (f : List (List Lit)) (i : ℕ) → i < length f → is_quiet p f ≡ true → is_calm p (get_or f i []) ≡ true
calm_at p [] i h q = absurd (omega (arith, h))
calm_at p (c ∷ f) zero h q = (and_true (is_calm p c) (is_quiet p f) q).0
calm_at p (c ∷ f) (suc i) h q = calm_at p f i (omega (arith, h)) (and_true (is_calm p c) (is_quiet p f) q).1

line_calm : (p : Partial) (lines : List Line) (i : ℕ) (d : Line) → i < length lines → is_quiet p (clauses_of lines) ≡ true → is_none (lone p (get_or lines i d).clause) ≡ true
line_calm p [] i d h q = absurd (omega (arith, h))
line_calm p (x ∷ lines) zero d h q =
    (and_true (is_none (lone p x.clause)) (not (is_all_false p x.clause)) (and_true (is_calm p x.clause) (is_quiet p (clauses_of lines)) q).0).0
line_calm p (x ∷ lines) (suc i) d h q = line_calm p lines i d (omega (arith, h)) (and_true (is_calm p x.clause) (is_quiet p (clauses_of lines)) q).1

pub quiet_parts : (p : Partial) (c : Checked) → is_quiet p (known c) ≡ true → is_quiet p c.formula ≡ true × (is_quiet p (clauses_of c.lines) ≡ true)
quiet_parts p c q = all_split (λ x. is_none (lone p x) && not (is_all_false p x)) c.formula (clauses_of c.lines) q

-- ---- the levels

entries_split : (es : List Entry) (k : ℕ) → es ≡ take k es ++ drop k es
entries_split [] zero = refl
entries_split [] (suc k) = refl
entries_split (e ∷ es) zero = refl
entries_split (e ∷ es) (suc k) = ap (λ (z : List Entry). e ∷ z) (entries_split es k)

front_extends : (cs : List (List Lit)) (es : List Entry) (k : ℕ) → Explained cs nothing es → Extends (values (take k es)) (values es)
front_extends cs es k x = extends_grows cs (take k es) es (drop k es) (entries_split es k) x

-- the groups before the last level's have a true literal
pub last_decided : (gs cs : List (List Lit)) (es : List Entry) (vs : List Level) → Explained cs nothing es → AreLevels gs cs es 0 vs → is_decided (values es) (take (last_depth 0 vs) gs) ≡ true
last_decided gs cs es vs x a =
    elim (last_view vs) [
      | inl w ↦ ap (λ (z : List Level). is_decided (values es) (take (last_depth 0 z) gs)) w ∙ none gs
      | inr w ↦
          let A : List Level → Type 0 = λ z. AreLevels gs cs es 0 z in
          let one : IsLevel gs cs es w.1 = (levels_at gs cs es 0 w.0 [] w.1 (subst A w.2 a)).0 in
          let deep : last_depth 0 vs ≡ w.1.depth = ap (last_depth 0) w.2 ∙ last_depth-end 0 w.0 w.1 in
          ap (λ (k : ℕ). is_decided (values es) (take k gs)) deep
          ∙ keeps_decided (values (take w.1.start es)) (values es) (take w.1.depth gs) (front_extends cs es w.1.start x) one.earlier
    ]
  where
    none : (gs : List (List Lit)) → is_decided (values es) (take 0 gs) ≡ true
    none [] = refl
    none (g ∷ gs) = refl

pub last_within : (gs : List (List Lit)) (n : ℕ) (from : ℕ) (vs : List Level) → n ≤ length gs → AreRanked gs from vs → last_depth n vs ≤ length gs
last_within gs n from [] h r = h
last_within gs n from (v ∷ vs) h r = last_within gs v.depth (v.depth + 1) vs (omega (arith, r.1)) r.3

pub groups_room : (gs : List (List Lit)) (w : Walk) → Guides w.checker.formula gs → IsSound w → variables gs ≤ w.trace.size
groups_room gs w g s = omega (arith, g.within, s.room, variables-append w.checker.formula (clauses_of w.checker.lines))

pub index_at : (gs : List (List Lit)) (d : ℕ) (g : List Lit) → d < length gs → g ≡ get_or gs d g → g ≡ get_or gs d []
index_at gs d g h e = e ∙ again gs d h
  where
    again : (gs : List (List Lit)) (d : ℕ) → d < length gs → get_or gs d g ≡ get_or gs d []
    again [] d h = absurd (omega (arith, h))
    again (x ∷ gs) zero h = refl
    again (x ∷ gs) (suc d) h = again gs d (omega (arith, h))

-- the first literal without a value isn't the last of its group
pub value_short : (gs : List (List Lit)) (w : Walk) (d k : ℕ) (g : List Lit) → Guides w.checker.formula gs → is_quiet (values w.trace.entries) (known w.checker) ≡ true → d < length gs
    → g ≡ get_or gs d [] → list_any (is_true (values w.trace.entries)) (get_or gs d []) ≡ false → list_all (λ l. is_some (values w.trace.entries l.var)) (take k g) ≡ true → k ≤ length g
    → k + 1 < length g
value_short gs w d k g guides q h e u v s =
    let p : Partial = values w.trace.entries in
    let calm : is_calm p g ≡ true = ap (is_calm p) e ∙ calm_at p gs d h (guides.stated p (quiet_parts p w.checker q).0) in
    two_open p g k calm (ap (list_any (is_true p)) e ∙ u) v s

-- the new level comes after those that stay
after_last : (gs cs : List (List Lit)) (es : List Entry) (vs : List Level) (n : ℕ) → Explained cs nothing es → AreLevels gs cs es 0 vs → last_depth 0 vs ≤ n → ends_refuted false vs n ≡ false
    → list_any (is_true (values es)) (get_or gs n []) ≡ false → next_free 0 vs ≤ n
after_last gs cs es vs n x a l e u =
    elim (last_view vs) [
      | inl w ↦ omega (arith, ap (next_free 0) w)
      | inr w ↦
          let A : List Level → Type 0 = λ z. AreLevels gs cs es 0 z in
          let one : IsLevel gs cs es w.1 = (levels_at gs cs es 0 w.0 [] w.1 (subst A w.2 a)).0 in
          let deep : w.1.depth ≤ n = omega (arith, l, ap (last_depth 0) w.2, last_depth-end 0 w.0 w.1) in
          let free : next_free 0 vs ≡ w.1.depth + 1 = ap (next_free 0) w.2 ∙ next_free-end 0 w.0 w.1 in
          let test : not w.1.decided && eqb w.1.depth n ≡ false = sym (ends_at false w.0 w.1 n) ∙ (ap (λ (z : List Level). ends_refuted false z n) (sym w.2) ∙ e) in
          elim (eqb w.1.depth n) as (λ b. eqb w.1.depth n ≡ b → not w.1.decided && b ≡ false → next_free 0 vs ≤ n) [
            | true ↦ λ s t.
                let same : w.1.depth ≡ n = eqb_same w.1.depth n s in
                let taken : w.1.decided ≡ true = undone w.1.decided t in
                let there : list_any (is_true (values es)) (get_or gs w.1.depth []) ≡ true = taken_true gs cs es w.1 x (one.taken taken) in
                absurd (differ (sym there ∙ (ap (λ (k : ℕ). list_any (is_true (values es)) (get_or gs k [])) same ∙ u)))
            | false ↦ λ s _. omega (arith, free, less w.1.depth n deep s)
          ] refl test
    ]
  where
    undone : (b : Bool) → not b && true ≡ false → b ≡ true
    undone true h = refl
    undone false h = cc

    less : (m n : ℕ) → m ≤ n → eqb m n ≡ false → m < n
    less m n h k = grind (arith, nat_tests)

-- what is left of the levels where one without a decision goes
pub record IsLeft (gs cs : List (List Lit)) (es : List Entry) (vs mid : List Level) (n : Level) : Type 0 where
  pub levels : AreLevels gs cs es 0 mid
  pub ranked : AreRanked gs 0 mid
  pub free : next_free 0 mid ≤ n.depth
  pub started : (i : ℕ) → starts_at vs i ≡ true → starts_at mid i ≡ true
  pub spots : spot gs vs ≤ spot gs (mid ++ n ∷ [])

left_of : (gs cs : List (List Lit)) (es : List Entry) (vs mid : List Level) (n : Level) (lit : Lit) → Explained cs nothing es → AreLevels gs cs es 0 vs → AreRanked gs 0 vs
    → last_depth 0 vs ≤ n.depth → list_any (is_true (values es)) (get_or gs n.depth []) ≡ false → slice_get (get_or gs n.depth []) (digit n) ≡ Some lit → values es lit.var ≡ None
    → Drops vs mid n.depth → IsLeft gs cs es vs mid n
left_of gs cs es vs mid n lit x a r l u v o d =
    elim d [
      | inl w ↦
          let A : List Level → Type 0 = λ z. AreLevels gs cs es 0 z in
          let R : List Level → Type 0 = λ z. AreRanked gs 0 z in
          let all : AreLevels gs cs es 0 (mid ++ w.0 ∷ []) = subst A w.1 a in
          let rank = ranked_front gs 0 mid w.0 (subst R w.1 r) in
          let one : IsLevel gs cs es w.0 = (levels_at gs cs es 0 mid [] w.0 all).0 in
          let ext : Extends (values (take w.0.start es)) (values es) = front_extends cs es w.0.start x in
          let group : get_or gs w.0.depth [] ≡ get_or gs n.depth [] = ap (λ (k : ℕ). get_or gs k []) w.3 in
          let false_now : is_all_false (values es) (take (digit w.0) (get_or gs n.depth [])) ≡ true =
          ap (λ (g : List Lit). is_all_false (values es) (take (digit w.0) g)) (sym group)
          ∙ keeps_false (values (take w.0.start es)) (values es) (take (digit w.0) (get_or gs w.0.depth [])) ext one.behind in
          record {
            levels = (levels_front gs cs es 0 mid [] w.0 all).0;
            ranked = rank.0;
            free = omega (arith, rank.1, w.3);
            started = λ i s.
                started_front mid w.0 i (ap (λ (z : List Level). starts_at z i) (sym w.1) ∙ s) (ap (λ (b : Bool). b && eqb w.0.start i) w.2);
            spots = omega (
              arith,
              ap (spot gs) w.1,
              spot_later gs mid w.0 n (sym w.3) (behind_value (values es) (get_or gs n.depth []) (digit w.0) (digit n) lit false_now v o),
            );
          }
      | inr w ↦
          let A : List Level → Type 0 = λ z. AreLevels gs cs es 0 z in
          let R : List Level → Type 0 = λ z. AreRanked gs 0 z in
          record {
            levels = subst A (sym w.0) a;
            ranked = subst R (sym w.0) r;
            free = omega (arith, ap (next_free 0) w.0, after_last gs cs es vs n.depth x a l w.1 u);
            started = λ i s. ap (λ (z : List Level). starts_at z i) w.0 ∙ s;
            spots = omega (arith, ap (spot gs) w.0, spot_more gs mid n);
          }
    ]

-- ---- the walk

pub record On (gs : List (List Lit)) (old new : Walk) : Type 0 where
  pub sound : IsSound new
  pub placed : IsPlaced gs new
  pub rises : spot gs old.levels.items ≤ spot gs new.levels.items

on_of : (gs : List (List Lit)) (old new : Walk) → Guides old.checker.formula gs → IsSound old → IsPlaced gs old → is_quiet (values old.trace.entries) (known old.checker) ≡ true
    → Chosen gs old new → On gs old new
on_of gs old new guides w p q c =
    let d = c.decides in
    let es : List Entry = old.trace.entries in
    let cs : List (List Lit) = known old.checker in
    let g : List Lit = get_or gs c.depth [] in
    let mid : List Level = d.levels.0 in
    let n : Level = record { depth = c.depth; value = c.value; start = length es; known = length cs; decided = true } in
    let quiet = quiet_parts (values es) old.checker q in
    let lines : new.checker.lines ≡ old.checker.lines = ap (λ (z : Checked). z.lines) d.checker in
    let same : known new.checker ≡ cs = ap known d.checker in
    let left : IsLeft gs cs es old.levels.items mid n =
    left_of gs cs es old.levels.items mid n c.lit w.explained p.levels p.ranked c.is.later c.is.untrue c.is.at c.is.open_yet d.levels.1 in
    let calm : is_calm (values es) g ≡ true = calm_at (values es) gs c.depth c.is.within (guides.stated (values es) quiet.0) in
    let two : c.value + 1 < length g = two_open (values es) g c.value calm c.is.untrue c.is.valued (reaches g c.value c.lit c.is.at) in
    let pushed : Explained cs nothing (es ++ decided_entry c.lit ∷ []) = explained_push cs nothing es (decided_entry c.lit) w.explained c.is.open_yet in
    let asks : UnforcedAt old.checker.lines (values es) None c.lit =
    λ i x h r. calm_unforced (values es) (get_or old.checker.lines i x).clause (negate c.lit) (line_calm (values es) old.checker.lines i x h quiet.1) r in
    let unforced : Unforced old.checker.lines nothing (es ++ decided_entry c.lit ∷ []) = unforced_push old.checker.lines nothing es (decided_entry c.lit) w.unforced asks in
    let E : List Entry → Type 0 = λ z. Explained cs nothing z in
    let F : List (List Lit) → Type 0 = λ z. Explained z nothing new.trace.entries in
    let U : List Entry → Type 0 = λ z. Unforced old.checker.lines nothing z in
    let V : List Line → Type 0 = λ z. Unforced z nothing new.trace.entries in
    let X : List (List Lit) → Type 0 = λ z. IsIndex z new.lists.items in
    let Y : List (List ℕ) → Type 0 = λ z. IsIndex cs z in
    let S : List Level → Type 0 = λ z. AreStarted new.trace.entries z in
    let agree : take (length es) new.trace.entries ≡ es = ap (take (length es)) d.entries ∙ take_whole es (decided_entry c.lit ∷ []) (length es) refl in
    let long : length new.trace.entries ≡ length es + 1 = omega (arith, ap length d.entries, length_end es (decided_entry c.lit)) in
    let front : values (take (length es) new.trace.entries) ≡ values es = ap values agree in
    let mine : IsLevel gs cs new.trace.entries n = record {
      start = omega (arith, long);
      earlier = ap (λ (z : Partial). is_decided z (take c.depth gs)) front ∙ c.is.earlier;
      behind = ap (λ (z : Partial). is_all_false z (take c.value g)) front ∙ front_false (values es) g c.value c.is.untrue c.is.valued;
      taken = λ _. record {
        lit = c.lit;
        value = c.is.at;
        more = two;
        entry = ap (λ (z : List Entry). slice_get z (length es)) d.entries ∙ get_end es (decided_entry c.lit) (length es) refl;
        known = omega arith;
        quiet = (λ i. is_quiet (front i) (take_all cs (length cs) (omega arith) i)) ∙ q;
      };
    } in
    let N : List (List Lit) → Type 0 = λ z. AreLevels gs z new.trace.entries 0 mid in
    let moved : AreLevels gs cs new.trace.entries 0 mid =
    subst N (ends cs)
    (levels_moved gs cs [] es new.trace.entries 0 (length es) mid (agree ∙ sym (take_all es (length es) (omega arith))) (omega (arith, long)) (within_trail gs cs es 0 mid left.levels) left.levels) in
    let all : AreLevels gs cs new.trace.entries 0 (mid ++ n ∷ []) =
    levels_push gs cs new.trace.entries 0 (length es) mid n moved (within_trail gs cs es 0 mid left.levels) (omega arith) (omega arith) mine in
    let P : List (List Lit) → Type 0 = λ z. AreLevels gs z new.trace.entries 0 (mid ++ n ∷ []) in
    let Q : List Level → Type 0 = λ z. AreLevels gs (known new.checker) new.trace.entries 0 z in
    let R : List Level → Type 0 = λ z. AreRanked gs 0 z in
    let rises : spot gs old.levels.items ≤ spot gs new.levels.items = omega (arith, left.spots, ap (spot gs) d.levels.2) in
    record {
      sound = record {
        explained = subst F (sym same) (subst E (sym d.entries) pushed);
        unforced = subst V (sym lines) (subst U (sym d.entries) unforced);
        distinct = subst AreDistinct (sym lines) w.distinct;
        filled = ap (list_all (λ (x : Line). is_filled x.clause)) lines ∙ w.filled;
        room = omega (arith, ap variables same, d.size, w.room);
        indexed = subst X (sym same) (subst Y (sym d.lists) w.indexed);
        long = omega (arith, ap length d.lists, d.size, w.long);
        started = subst S (sym d.levels.2) (started_decided es new.trace.entries old.levels.items mid n c.lit w.started d.entries refl refl left.started);
        within = omega (arith, ap length lines, d.budget, w.within);
      };
      placed = record {
        levels = subst Q (sym d.levels.2) (subst P (sym same) all);
        ranked = subst R (sym d.levels.2) (ranked_push gs 0 mid n left.ranked left.free c.is.within (omega (arith, two)));
        spotted = omega (arith, ap length lines, p.spotted, rises);
      };
      rises = rises;
    }
  where
    reaches : (g : List Lit) (k : ℕ) (l : Lit) → slice_get g k ≡ Some l → k ≤ length g
    reaches [] k l h = cc
    reaches (m ∷ g) zero l h = omega arith
    reaches (m ∷ g) (suc k) l h = omega (arith, reaches g k l h)

pending_on : (gs : List (List Lit)) (old new : Walk) → is_quiet (values old.trace.entries) (known old.checker) ≡ true → Chosen gs old new → IsPending new
pending_on gs old new q c =
    let d = c.decides in
    let es : List Entry = old.trace.entries in
    let cs : List (List Lit) = known old.checker in
    let settled : AreSettled cs (values new.trace.entries) (drop (length es) new.trace.entries) [] =
    settled_grown cs cs es new.trace.entries (decided_entry c.lit) (length es) refl (quiet_late cs es (length es) (omega arith) q) c.is.open_yet d.entries (omega arith) in
    let left : take new.left (known new.checker) ≡ cs = (λ i. take (d.left i) (known (d.checker i))) ∙ take_all cs (length cs) (omega arith) in
    let P : List (List Lit) → Type 0 = λ z. AreSettled z (values new.trace.entries) (drop (length es) new.trace.entries) [] in
    let Q : ℕ → Type 0 = λ k. AreSettled (take new.left (known new.checker)) (values new.trace.entries) (drop k new.trace.entries) [] in
    record {
      head = omega (arith, d.head, ap length d.entries, length_end es (decided_entry c.lit));
      settled = subst Q (sym d.head) (subst P (sym left) settled);
    }

pub walking_on : (gs : List (List Lit)) (old new : Walk) → Guides old.checker.formula gs → IsSound old → IsPlaced gs old → is_quiet (values old.trace.entries) (known old.checker) ≡ true
    → Chosen gs old new → IsWalking gs new
walking_on gs old new guides w p q c =
    let r = on_of gs old new guides w p q c in
    record { sound = r.sound; placed = r.placed; pending = pending_on gs old new q c }

-- a decision leaves fewer entries ahead
pub ahead_on : (gs : List (List Lit)) (old new : Walk) → Guides old.checker.formula gs → IsSound old → IsPlaced gs old → is_quiet (values old.trace.entries) (known old.checker) ≡ true
    → Chosen gs old new → ahead gs new < ahead gs old
ahead_on gs old new guides w p q c =
    let d = c.decides in
    let r = on_of gs old new guides w p q c in
    let same : (choices gs - spot gs old.levels.items) * (new.trace.size + 1) ≡ (choices gs - spot gs old.levels.items) * (old.trace.size + 1) =
    λ i. (choices gs - spot gs old.levels.items) * (d.size i + 1) in
    omega (
      arith,
      same,
      scaled (choices gs - spot gs new.levels.items) (choices gs - spot gs old.levels.items) (new.trace.size + 1) (omega (arith, r.rises)),
      d.size,
      d.short,
      ap length d.entries,
      length_end old.trace.entries (decided_entry c.lit),
    )
  where
    scaled : (a b m : ℕ) → a ≤ b → a * m ≤ b * m
    scaled a b m h = grind arith
