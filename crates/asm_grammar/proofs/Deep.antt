-- Where a text first nests too deep, reading says so.
use Rattle.std.proofs.Common.{◌≡◌, ℕ, ◌+◌, ◌<◌, ◌≤◌, zero, suc, Bool, true, false, not, ◌||◌, List, [], ◌∷◌, ◌++◌, length, refl, ap, arith, ◌∙◌, ◌⊎◌, inl, inr, subst, append_assoc, append-nil, length-append, Ok, Err}
use Rattle.asm_grammar.specs.declared.Stop.TheVariants.{TooDeep}
use Rattle.asm_grammar.specs.Grammar.{Language, has, word, nothing, both, either, many, shown, opening, Bodies, Grammar, Inner, Lang, Low, Outcome, Placed, Readers, ahead, firsts, inside, is_empty, many_at, nested, read, reader, kind, spelled, spelled_list, spells, tokens}
use Rattle.asm_grammar.proofs.Sets.{and_left, and_right, not_true, none_left, none_right, disjoint, subset, not_held}
use Rattle.asm_grammar.proofs.Theory.{Begins, Shrinks, ahead-append, barred, bars, begins, chosen, ends, if_false, if_true, is_good, is_nil, many_err, many_step, not_chosen, senses, sequel, starts, tokens-append}
use Rattle.asm_grammar.proofs.Levels.{Checked}
use Rattle.asm_grammar.proofs.Complete.{InnerComplete, Takes, begins_loop, complete, complete_inside, inside_complete, loop_sequel, takes}

module _ (l : Language) where
  -- the first token that nests deeper than the limit has so many tokens from it on
  abbrev pub IsDeepIn : ℕ → List (Placed l) → ℕ → Type 0
  IsDeepIn limit [] k = ⊥
  IsDeepIn limit (p ∷ u) k = ((limit < p.depth) × (k ≡ suc (length u))) ⊎ ((p.depth ≤ limit) × IsDeepIn limit u k)

  length-tokens : (u : List (Placed l)) → length (tokens l u) ≡ length u
  length-tokens [] = refl
  length-tokens (p ∷ u) = ap suc (length-tokens u)

  pub deep_split : (limit : ℕ) (v w : List (Placed l)) (k : ℕ) → IsDeepIn limit (v ++ w) k → ((j : ℕ) × (k ≡ j + length w) × IsDeepIn limit v j) ⊎ (Low l limit v × IsDeepIn limit w k)
  deep_split limit [] w k h = inr (tt, h)
  deep_split limit (p ∷ v) w k h = elim h [
    | inl q ↦ inl (suc (length v), omega (arith, q.1, length-append v w), inl (q.0, refl))
    | inr q ↦ elim (deep_split limit v w k q.1) [ inl r ↦ inl (r.0, r.1, inr (q.0, r.2)) | inr r ↦ inr ((q.0, r.0), r.1) ]
  ]

  further : (j k : ℕ) (w : List (Placed l)) (r : List l.Token) → k ≡ j + length w → j + length (tokens l w ++ r) ≡ k + length r
  further j k w r e = omega (arith, e, length-append (tokens l w) r, length-tokens w)

  -- what the readers answer behind an opening token, where it or what stands behind it is too deep
  pub record InnerDeep (d limit : ℕ) (table : l.Inside → List ℕ) (inner : Inner l) (readers : Readers l) : Type 0 where
    pub full : (x : l.Inside) (w : List l.Token) → limit < suc d → readers x w ≡ Err (TooDeep (length w))
    pub within : (x : l.Inside) (t : l.Token) (v : List (Placed l)) (y : l.Value x) (r : List l.Token) (k : ℕ) → inner x (suc d) v y (ahead l r 0) → suc d ≤ limit → IsDeepIn limit v k
        → has (ahead l r 0) (table x) ≡ false → readers x (t ∷ (tokens l v ++ r)) ≡ Err (TooDeep (k + length r))

  deep_list : {A : Type 0} (p : List l.Token → Outcome l A) (fs cs : List ℕ) (b : Bool) (item : Lang l A) (limit : ℕ) → has 0 fs ≡ false → b ≡ false → disjoint fs cs ≡ true → Shrinks l p fs
      → ((v : List (Placed l)) (y : A) (next : ℕ) → item v y next → Begins l b fs v)
      → ((v : List (Placed l)) (x : A) (r : List l.Token) → item v x (ahead l r 0) → Low l limit v → has (ahead l r 0) cs ≡ false → p (tokens l v ++ r) ≡ Ok (x, r))
      → ((v : List (Placed l)) (x : A) (r : List l.Token) (k : ℕ) → item v x (ahead l r 0) → IsDeepIn limit v k → has (ahead l r 0) cs ≡ false → p (tokens l v ++ r) ≡ Err (TooDeep (k + length r)))
      → (u : List (Placed l)) (ys : List A) (r : List l.Token) (k : ℕ) → spelled_list l item u ys (ahead l r 0) → IsDeepIn limit u k → has (ahead l r 0) cs ≡ false
      → many_at l p fs (length (tokens l u ++ r)) (tokens l u ++ r) ≡ Err (TooDeep (k + length r))
  deep_list p fs cs b item limit fz ne dis sh begin one deep u [] r k s h o1 = absurd (subst (λ (z : List (Placed l)). IsDeepIn limit z k) s h)
  deep_list p fs cs b item limit fz ne dis sh begin one deep u (y ∷ ys) r k s h o1 =
      let v = s.0 in
      let w = s.1 in
      let s1 : item v y (ahead l (tokens l w ++ r) 0) = rw (ahead-append l w r 0) s.3 in
      let c1 : has (ahead l (tokens l w ++ r) 0) cs ≡ false = rw (ahead-append l w r 0) (loop_sequel l b cs fs w (ahead l r 0) (begins_loop l b fs item begin w ys (ahead l r 0) s.4) dis o1) in
      let c2 = chosen l fs v (tokens l w ++ r) b ne (begin v y _ s.3) in
      elim (deep_split limit v w k (subst (λ (z : List (Placed l)). IsDeepIn limit z k) s.2 h)) [
        | inl q ↦ rw (s.2, tokens-append l v w, append_assoc)
            (many_err l p fs fz (tokens l v ++ (tokens l w ++ r)) (TooDeep (q.0 + length (tokens l w ++ r))) c2 (deep v y (tokens l w ++ r) q.0 s1 q.2 c1) ∙ ap (λ n. Err (TooDeep n)) (further q.0 k w r q.1))
        | inr q ↦ rw (s.2, tokens-append l v w, append_assoc)
            (many_step l p fs fz sh (tokens l v ++ (tokens l w ++ r)) y (tokens l w ++ r) (Err (TooDeep (k + length r))) c2 (one v y (tokens l w ++ r) s1 q.0 c1)
            (deep_list p fs cs b item limit fz ne dis sh begin one deep w ys r k s.4 q.1 o1))
      ]

  pub deep_read : (inner : Inner l) (readers : Readers l) (table late : l.Inside → List ℕ) (d limit : ℕ) → d ≤ limit → InnerComplete l d limit table inner readers → InnerDeep d limit table inner readers → Takes l table late readers
      → {A : Type 0} → (g : Grammar l A) (u : List (Placed l)) (y : A) (r : List l.Token) (k : ℕ) → is_good l table late g ≡ true → spelled l inner g d u y (ahead l r 0) → IsDeepIn limit u k
      → has (ahead l r 0) (ends l table g) ≡ false → read l readers g (tokens l u ++ r) ≡ Err (TooDeep (k + length r))
  deep_read inner readers table late d limit dl ic id sh (word ks) u y r k good s h o =
      elim (subst (λ (z : List (Placed l)). IsDeepIn limit z k) s.0 h) [ inl q ↦ absurd (omega (arith, q.0)) | inr q ↦ absurd q.1 ]
  deep_read inner readers table late d limit dl ic id sh (nothing ks a) u y r k good s h o = absurd (subst (λ (z : List (Placed l)). IsDeepIn limit z k) s.0 h)
  deep_read inner readers table late d limit dl ic id sh (both g h') u y r k good s h o =
      let v = s.0 in
      let w = s.1 in
      let rest = and_right (is_good l table late g) _ good in
      let gg = and_left (is_good l table late g) _ good in
      let apart_ok = and_left (disjoint (firsts l h') (ends l table g)) _ (and_right (is_good l table late h') _ rest) in
      let o1 : has (ahead l (tokens l w ++ r) 0) (ends l table g) ≡ false = rw (ahead-append l w r 0) (sequel l (is_empty l h') (ends l table g) (ends l table h') (firsts l h') w (ahead l r 0) (begins l inner h' d w y.1 _ s.4) apart_ok o) in
      let s1 : spelled l inner g d v y.0 (ahead l (tokens l w ++ r) 0) = rw (ahead-append l w r 0) s.3 in
      elim (deep_split limit v w k (subst (λ (z : List (Placed l)). IsDeepIn limit z k) s.2 h)) [
        | inl q ↦ (let e1 = deep_read inner readers table late d limit dl ic id sh g v y.0 (tokens l w ++ r) q.0 gg s1 q.2 o1 in rw (s.2, tokens-append l v w, append_assoc, e1) (ap (λ n. Err (TooDeep n)) (further q.0 k w r q.1)))
        | inr q ↦ (
            let e1 = complete l inner readers table late d limit ic sh g v y.0 (tokens l w ++ r) gg s1 q.0 o1 in
            let e2 = deep_read inner readers table late d limit dl ic id sh h' w y.1 r k (and_left (is_good l table late h') _ rest) s.4 q.1 (none_left (ahead l r 0) (ends l table h') _ o) in
            rw (s.2, tokens-append l v w, append_assoc, e1, e2) refl)
      ]
  deep_read inner readers table late d limit dl ic id sh (either g h') u y r k good s h o =
      let hg = and_left (is_good l table late g) _ good in
      let rest = and_right (is_good l table late g) _ good in
      let hh = and_left (is_good l table late h') _ rest in
      let rest2 = and_right (is_good l table late h') _ rest in
      let ne = not_true (is_empty l g) (and_left (not (is_empty l g)) _ rest2) in
      let dis = and_left (disjoint (firsts l h') (firsts l g)) _ (and_right (not (is_empty l g)) _ rest2) in
      let o2 = none_right (ahead l r 0) (ends l table g) _ o in
      elim s [
        | inl p ↦ rw (if_true (has (ahead l (tokens l u ++ r) 0) (firsts l g)) (read l readers g (tokens l u ++ r)) (read l readers h' (tokens l u ++ r)) (chosen l (firsts l g) u r (is_empty l g) ne (begins l inner g d u y _ p)))
            (deep_read inner readers table late d limit dl ic id sh g u y r k hg p h (none_left (ahead l r 0) (ends l table g) _ o))
        | inr p ↦ rw (if_false (has (ahead l (tokens l u ++ r) 0) (firsts l g)) (read l readers g (tokens l u ++ r)) (read l readers h' (tokens l u ++ r))
            (not_chosen l (is_empty l h') (firsts l g) (firsts l h') (barred l h') u r (begins l inner h' d u y _ p) dis (λ (e : u ≡ []). bars l inner h' d y (ahead l r 0) (subst (λ (z : List (Placed l)). spelled l inner h' d z y (ahead l r 0)) e p)) (none_right (ahead l r 0) (ends l table h') _ o2)))
            (deep_read inner readers table late d limit dl ic id sh h' u y r k hh p h (none_left (ahead l r 0) (ends l table h') _ o2))
      ]
  deep_read inner readers table late d limit dl ic id sh (many g) u y r k good s h o =
      let gg = and_left (is_good l table late g) _ good in
      let rest = and_right (is_good l table late g) _ good in
      let ne = not_true (is_empty l g) (and_left (not (is_empty l g)) _ rest) in
      let rest1 = and_right (not (is_empty l g)) _ rest in
      let rest2 = and_right (disjoint (firsts l g) (ends l table g)) _ rest1 in
      let rest3 = and_right (subset (barred l g) []) _ rest2 in
      let fz = not_true (has 0 (firsts l g)) (and_right (is_nil (senses l late g) || starts l g) _ rest3) in
      deep_list (read l readers g) (firsts l g) (ends l table g) (is_empty l g) (spelled l inner g d) limit fz ne (and_left (disjoint (firsts l g) (ends l table g)) _ rest1) (sh _ g gg ne (and_left (subset (barred l g) []) _ rest2))
      (λ v x next p. begins l inner g d v x next p) (λ v x r p low e. complete l inner readers table late d limit ic sh g v x r gg p low e) (λ v x r k p q e. deep_read inner readers table late d limit dl ic id sh g v x r k gg p q e)
      u y r k s h (none_left (ahead l r 0) (ends l table g) _ o)
  deep_read inner readers table late d limit dl ic id sh (shown f g) u y r k good s h o =
      rw (deep_read inner readers table late d limit dl ic id sh g u s.0 r k good s.2 h o) refl
  deep_read inner readers table late d limit dl ic id sh (opening ks x) u y r k good s h o =
      elim (subst (λ (z : List (Placed l)). IsDeepIn limit z k) s.1 h) [
        | inl q ↦ rw (s.1, if_true (has (kind l y.0) ks) _ _ s.2, id.full x (y.0 ∷ (tokens l s.0 ++ r)) q.0) (ap (λ n. Err (TooDeep n)) (length_first y.0 s.0 q.1))
        | inr q ↦ rw (s.1, if_true (has (kind l y.0) ks) _ _ s.2, id.within x y.0 s.0 y.1 r k s.3 q.0 q.1 o) refl
      ]
    where
      length_first : (t : l.Token) (v : List (Placed l)) → k ≡ suc (length v) → length (t ∷ (tokens l v ++ r)) ≡ k + length r
      length_first t v e = omega (arith, e, length-append (tokens l v) r, length-tokens v)

  pub deep_inside : (body : Bodies l) (table late : l.Inside → List ℕ) → Checked l body table late → (n m d limit : ℕ) → d + n ≡ limit → InnerDeep d limit table (nested l body m) (reader l body n)
  unfolding nested reader
  deep_inside body table late c zero m d limit e = record { full = λ x w lt. refl; within = λ x t v y r k s le h o. absurd (omega arith) }
  deep_inside body table late c (suc n) zero d limit e = record { full = λ x w lt. absurd (omega arith); within = λ x t v y r k s le h o. absurd s }
  deep_inside body table late c (suc n) (suc m) d limit e = record {
    full = λ x w lt. absurd (omega arith);
    within = λ x t v y r k s le h o.
        deep_read (nested l body m) (reader l body n) table late (suc d) limit le (complete_inside l body table late c n m (suc d) limit (omega arith)) (deep_inside body table late c n m (suc d) limit (omega arith))
        (takes l body table late c n (suc d) limit (omega arith)) (body x) v y r k (c.good x) s h (not_held (ahead l r 0) (ends l table (body x)) (table x) (c.ends_in x) o);
  }

  pub inside_deep : (body : Bodies l) (table late : l.Inside → List ℕ) → Checked l body table late → (n d limit : ℕ) → d + n ≡ limit → InnerDeep d limit table (inside l body) (reader l body n)
  inside_deep body table late c n d limit e = record {
    full = (deep_inside body table late c n 0 d limit e).full;
    within = λ x t v y r k s le h o. (deep_inside body table late c n s.0 d limit e).within x t v y r k s.1 le h o;
  }

  -- where a text of the whole first nests too deep
  pub whole_deep : (body : Bodies l) (table late : l.Inside → List ℕ) → Checked l body table late → {A : Type 0} (g : Grammar l A) → is_good l table late g ≡ true → has 0 (ends l table g) ≡ false
      → (limit : ℕ) (u : List (Placed l)) (y : A) (k : ℕ) → spells l body g 0 u y 0 → IsDeepIn limit u k → read l (reader l body limit) g (tokens l u) ≡ Err (TooDeep k)
  whole_deep body table late c g good closed limit u y k s h =
      let e = deep_read (inside l body) (reader l body limit) table late 0 limit (omega arith) (inside_complete l body table late c limit 0 limit (omega arith)) (inside_deep body table late c limit 0 limit (omega arith))
      (takes l body table late c limit 0 limit (omega arith)) g u y [] k good s h closed in
      subst (λ (w : List l.Token). read l (reader l body limit) g w ≡ Err (TooDeep k)) (append-nil (tokens l u)) (e ∙ ap (λ n. Err (TooDeep n)) (let i : k + 0 ≡ k = omega arith in i))
