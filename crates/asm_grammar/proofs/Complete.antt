-- What is spelled is read.
use Rattle.std.proofs.Common.{◌≡◌, ℕ, ◌+◌, ◌≤◌, zero, suc, Bool, true, false, not, ◌||◌, List, [], ◌∷◌, ◌++◌, length, refl, arith, inl, inr, subst, append_assoc, Ok}
use Rattle.asm_grammar.specs.Grammar.{Language, has, word, nothing, both, either, many, shown, opening, Bodies, Grammar, Inner, Lang, Low, Outcome, Placed, Readers, ahead, firsts, inside, is_empty, kind, many_at, nested, next_of, read, reader, spelled, spelled_list, spells, tokens}
use Rattle.asm_grammar.proofs.Sets.{and_left, and_right, not_true, none_left, none_right, disjoint, subset, apart, not_held}
use Rattle.asm_grammar.proofs.Theory.{Begins, Shrinks, ahead-append, barred, bars, begins, begins_list, chosen, ends, if_false, if_true, is_good, is_nil, low_left, low_right, many_stays, many_step, not_chosen, senses, sequel, starts, tokens-append}
use Rattle.asm_grammar.proofs.Judged.{judged, shrinks}
use Rattle.asm_grammar.proofs.Levels.{Checked, inside_judged, inside_lives, inside_settles}

module _ (l : Language) where
  abbrev pub InnerComplete : ℕ → ℕ → (l.Inside → List ℕ) → Inner l → Readers l → Type 0
  InnerComplete d limit table inner readers = (x : l.Inside) (t : l.Token) (v : List (Placed l)) (y : l.Value x) (r : List l.Token) → inner x (suc d) v y (ahead l r 0) → suc d ≤ limit → Low l limit v
      → has (ahead l r 0) (table x) ≡ false → readers x (t ∷ (tokens l v ++ r)) ≡ Ok (y, r)

  -- a part that takes tokens takes some
  abbrev pub Takes : (l.Inside → List ℕ) → (l.Inside → List ℕ) → Readers l → Type 1
  Takes table late readers = (A : Type 0) (g : Grammar l A) → is_good l table late g ≡ true → is_empty l g ≡ false → subset (barred l g) [] ≡ true → Shrinks l (read l readers g) (firsts l g)

  pub loop_sequel : (b : Bool) (cs fs : List ℕ) (w : List (Placed l)) (next : ℕ) → Begins l true fs w → disjoint fs cs ≡ true → has next cs ≡ false → has (next_of l w next) cs ≡ false
  loop_sequel b cs fs [] next p e o = o
  loop_sequel b cs fs (t ∷ w) next p e o = apart (kind l t.token) fs cs e p

  pub begins_loop : {A : Type 0} (b : Bool) (fs : List ℕ) (item : Lang l A) → ((v : List (Placed l)) (y : A) (next : ℕ) → item v y next → Begins l b fs v) → (u : List (Placed l)) (ys : List A) (next : ℕ) → spelled_list l item u ys next → Begins l true fs u
  begins_loop b fs item f u ys next s = begins_list l b fs item f u ys next s

  pub complete_list : {A : Type 0} (p : List l.Token → Outcome l A) (fs cs : List ℕ) (b : Bool) (item : Lang l A) (limit : ℕ) → has 0 fs ≡ false → b ≡ false → disjoint fs cs ≡ true → Shrinks l p fs
      → ((v : List (Placed l)) (y : A) (next : ℕ) → item v y next → Begins l b fs v)
      → ((v : List (Placed l)) (x : A) (r : List l.Token) → item v x (ahead l r 0) → Low l limit v → has (ahead l r 0) cs ≡ false → p (tokens l v ++ r) ≡ Ok (x, r))
      → (u : List (Placed l)) (ys : List A) (r : List l.Token) → spelled_list l item u ys (ahead l r 0) → Low l limit u → has (ahead l r 0) cs ≡ false → has (ahead l r 0) fs ≡ false
      → many_at l p fs (length (tokens l u ++ r)) (tokens l u ++ r) ≡ Ok (ys, r)
  complete_list p fs cs b item limit fz ne dis sh begin one u [] r s low o1 o2 = rw s (many_stays l p fs (length r) r o2)
  complete_list p fs cs b item limit fz ne dis sh begin one u (y ∷ ys) r s low o1 o2 =
      let v = s.0 in
      let w = s.1 in
      let lows : Low l limit (v ++ w) = subst (λ (z : List (Placed l)). Low l limit z) s.2 low in
      let s1 : item v y (ahead l (tokens l w ++ r) 0) = rw (ahead-append l w r 0) s.3 in
      let c1 : has (ahead l (tokens l w ++ r) 0) cs ≡ false = rw (ahead-append l w r 0) (loop_sequel b cs fs w (ahead l r 0) (begins_loop b fs item begin w ys (ahead l r 0) s.4) dis o1) in
      let e1 = one v y (tokens l w ++ r) s1 (low_left l limit v w lows) c1 in
      let e2 = complete_list p fs cs b item limit fz ne dis sh begin one w ys r s.4 (low_right l limit v w lows) o1 o2 in
      rw (s.2, tokens-append l v w, append_assoc)
      (many_step l p fs fz sh (tokens l v ++ (tokens l w ++ r)) y (tokens l w ++ r) (Ok (ys, r)) (chosen l fs v (tokens l w ++ r) b ne (begin v y _ s.3)) e1 e2)

  pub complete : (inner : Inner l) (readers : Readers l) (table late : l.Inside → List ℕ) (d limit : ℕ) → InnerComplete d limit table inner readers → Takes table late readers
      → {A : Type 0} → (g : Grammar l A) (u : List (Placed l)) (y : A) (r : List l.Token) → is_good l table late g ≡ true → spelled l inner g d u y (ahead l r 0) → Low l limit u
      → has (ahead l r 0) (ends l table g) ≡ false → read l readers g (tokens l u ++ r) ≡ Ok (y, r)
  complete inner readers table late d limit ic sh (word k) u y r good s low o =
      rw s.0 (if_true (has (kind l y) k) _ _ s.1)
  complete inner readers table late d limit ic sh (nothing ks a) u y r good s low o = rw (s.0, s.1) refl
  complete inner readers table late d limit ic sh (both g h) u y r good s low o =
      let v = s.0 in
      let w = s.1 in
      let lows : Low l limit (v ++ w) = subst (λ (z : List (Placed l)). Low l limit z) s.2 low in
      let rest = and_right (is_good l table late g) _ good in
      let apart_ok = and_left (disjoint (firsts l h) (ends l table g)) _ (and_right (is_good l table late h) _ rest) in
      let o1 : has (ahead l (tokens l w ++ r) 0) (ends l table g) ≡ false = rw (ahead-append l w r 0) (sequel l (is_empty l h) (ends l table g) (ends l table h) (firsts l h) w (ahead l r 0) (begins l inner h d w y.1 _ s.4) apart_ok o) in
      let s1 : spelled l inner g d v y.0 (ahead l (tokens l w ++ r) 0) = rw (ahead-append l w r 0) s.3 in
      let e1 = complete inner readers table late d limit ic sh g v y.0 (tokens l w ++ r) (and_left (is_good l table late g) _ good) s1 (low_left l limit v w lows) o1 in
      let e2 = complete inner readers table late d limit ic sh h w y.1 r (and_left (is_good l table late h) _ rest) s.4 (low_right l limit v w lows) (none_left (ahead l r 0) (ends l table h) _ o) in
      rw (s.2, tokens-append l v w, append_assoc, e1, e2) refl
  complete inner readers table late d limit ic sh (either g h) u y r good s low o =
      let hg = and_left (is_good l table late g) _ good in
      let rest = and_right (is_good l table late g) _ good in
      let hh = and_left (is_good l table late h) _ rest in
      let rest2 = and_right (is_good l table late h) _ rest in
      let ne = not_true (is_empty l g) (and_left (not (is_empty l g)) _ rest2) in
      let dis = and_left (disjoint (firsts l h) (firsts l g)) _ (and_right (not (is_empty l g)) _ rest2) in
      let o2 = none_right (ahead l r 0) (ends l table g) _ o in
      elim s [
        | inl p ↦ rw (if_true (has (ahead l (tokens l u ++ r) 0) (firsts l g)) (read l readers g (tokens l u ++ r)) (read l readers h (tokens l u ++ r)) (chosen l (firsts l g) u r (is_empty l g) ne (begins l inner g d u y _ p)))
            (complete inner readers table late d limit ic sh g u y r hg p low (none_left (ahead l r 0) (ends l table g) _ o))
        | inr p ↦ rw (if_false (has (ahead l (tokens l u ++ r) 0) (firsts l g)) (read l readers g (tokens l u ++ r)) (read l readers h (tokens l u ++ r))
            (not_chosen l (is_empty l h) (firsts l g) (firsts l h) (barred l h) u r (begins l inner h d u y _ p) dis (λ (e : u ≡ []). bars l inner h d y (ahead l r 0) (subst (λ (z : List (Placed l)). spelled l inner h d z y (ahead l r 0)) e p)) (none_right (ahead l r 0) (ends l table h) _ o2)))
            (complete inner readers table late d limit ic sh h u y r hh p low (none_left (ahead l r 0) (ends l table h) _ o2))
      ]
  complete inner readers table late d limit ic sh (many g) u y r good s low o =
      let gg = and_left (is_good l table late g) _ good in
      let rest = and_right (is_good l table late g) _ good in
      let ne = not_true (is_empty l g) (and_left (not (is_empty l g)) _ rest) in
      let rest1 = and_right (not (is_empty l g)) _ rest in
      let rest2 = and_right (disjoint (firsts l g) (ends l table g)) _ rest1 in
      let rest3 = and_right (subset (barred l g) []) _ rest2 in
      let fz = not_true (has 0 (firsts l g)) (and_right (is_nil (senses l late g) || starts l g) _ rest3) in
      complete_list (read l readers g) (firsts l g) (ends l table g) (is_empty l g) (spelled l inner g d) limit fz ne (and_left (disjoint (firsts l g) (ends l table g)) _ rest1) (sh _ g gg ne (and_left (subset (barred l g) []) _ rest2))
      (λ v x next p. begins l inner g d v x next p) (λ v x r p l e. complete inner readers table late d limit ic sh g v x r gg p l e) u y r s low (none_left (ahead l r 0) (ends l table g) _ o) (none_right (ahead l r 0) (ends l table g) _ o)
  complete inner readers table late d limit ic sh (shown f g) u y r good s low o =
      rw (complete inner readers table late d limit ic sh g u s.0 r good s.2 low o, s.1) refl
  complete inner readers table late d limit ic sh (opening k x) u y r good s low o =
      let lows = subst (λ (z : List (Placed l)). Low l limit z) s.1 low in
      rw (s.1, if_true (has (kind l y.0) k) _ _ s.2, ic x y.0 s.0 y.1 r s.3 lows.0 lows.1 o) refl

  pub takes : (body : Bodies l) (table late : l.Inside → List ℕ) → Checked l body table late → (n d limit : ℕ) → d + n ≡ limit → Takes table late (reader l body n)
  takes body table late c n d limit e A g good ne bar =
      shrinks l (inside l body) (reader l body n) g d limit ne (λ r. judged l table late (inside l body) (reader l body n) (inside_lives l body table late c) (inside_settles l body table late c) d limit (omega arith)
      (inside_judged l body table late c n d limit e) g good r (not_held (ahead l r 0) (barred l g) [] bar refl))

  pub complete_inside : (body : Bodies l) (table late : l.Inside → List ℕ) → Checked l body table late
      → (n m d limit : ℕ) → d + n ≡ limit → InnerComplete d limit table (nested l body m) (reader l body n)
  unfolding nested reader
  complete_inside body table late c zero m d limit e x t v y r s lt low o = absurd (omega arith)
  complete_inside body table late c (suc n) zero d limit e x t v y r s lt low o = absurd s
  complete_inside body table late c (suc n) (suc m) d limit e x t v y r s lt low o =
      complete (nested l body m) (reader l body n) table late (suc d) limit (complete_inside body table late c n m (suc d) limit (omega arith)) (takes body table late c n (suc d) limit (omega arith)) (body x) v y r (c.good x) s low (not_held (ahead l r 0) (ends l table (body x)) (table x) (c.ends_in x) o)

  pub inside_complete : (body : Bodies l) (table late : l.Inside → List ℕ) → Checked l body table late → (n d limit : ℕ) → d + n ≡ limit → InnerComplete d limit table (inside l body) (reader l body n)
  inside_complete body table late c n d limit e x t v y r s lt low o = complete_inside body table late c n s.0 d limit e x t v y r s.1 lt low o

  -- all that the grammar spells within the limit is read
  pub complete_all : (body : Bodies l) (table late : l.Inside → List ℕ) → Checked l body table late → (limit : ℕ) {A : Type 0} → (g : Grammar l A) → is_good l table late g ≡ true
      → (u : List (Placed l)) (y : A) (r : List l.Token) → spells l body g 0 u y (ahead l r 0) → Low l limit u → has (ahead l r 0) (ends l table g) ≡ false → read l (reader l body limit) g (tokens l u ++ r) ≡ Ok (y, r)
  complete_all body table late c limit g good u y r s low o =
      complete (inside l body) (reader l body limit) table late 0 limit (inside_complete body table late c limit 0 limit (omega arith)) (takes body table late c limit 0 limit (omega arith)) g u y r good s low o
