-- The tokens of a text determine how deep each nests.
use Rattle.std.proofs.Common.{◌≡◌, ℕ, ◌+◌, ◌≤◌, zero, suc, Bool, true, false, not, List, [], ◌∷◌, ◌++◌, ap, arith, sym, ◌∙◌, inl, inr, subst, append_assoc, Ok}
use Rattle.std.proofs.lemmas.List.{append_cancel_right}
use Rattle.asm_grammar.specs.Grammar.{Language, has, word, nothing, both, either, many, shown, opening, Bodies, Grammar, Inner, Low, Placed, Readers, ahead, firsts, inside, is_empty, kind, nested, next_of, read, reader, spelled, spelled_list, spells, tokens}
use Rattle.asm_grammar.proofs.Sets.{and_left, and_right, not_true, none_left, none_right, disjoint, apart, not_held}
use Rattle.asm_grammar.proofs.Theory.{Begins, ahead-append, begins, ends, is_good, low_left, low_right, sequel, tokens-append}
use Rattle.asm_grammar.proofs.Levels.{Checked, grow}
use Rattle.asm_grammar.proofs.Complete.{InnerComplete, Takes, begins_loop, complete, complete_inside, inside_complete, loop_sequel, takes}
use Rattle.asm_grammar.proofs.Public.{height, low_more, one_rest}

module _ (l : Language) where
  pub same_front : (a b r : List l.Token) → a ++ r ≡ b ++ r → a ≡ b
  same_front a b r e = append_cancel_right a b r e

  pub same_back : (a b c d : List l.Token) → a ++ b ≡ c ++ d → b ≡ d → a ≡ c
  same_back a b c d e f = same_front a c b (subst (λ (z : List l.Token). a ++ b ≡ c ++ z) (sym f) e)

  abbrev pub InnerUnique : ℕ → ℕ → (l.Inside → List ℕ) → Inner l → Type 0
  InnerUnique d limit table inner = (x : l.Inside) (u v : List (Placed l)) (y z : l.Value x) (r : List l.Token) → inner x (suc d) u y (ahead l r 0) → inner x (suc d) v z (ahead l r 0) → suc d ≤ limit → Low l limit u → Low l limit v
      → has (ahead l r 0) (table x) ≡ false → tokens l u ≡ tokens l v → u ≡ v

  pub crossed : (fg fh : List ℕ) (b c : Bool) (u v : List (Placed l)) → b ≡ false → disjoint fh fg ≡ true → Begins l b fg u → Begins l c fh v → tokens l u ≡ tokens l v → ⊥
  crossed fg fh b c [] v e dis p q t = absurd (cc)
  crossed fg fh b c (s ∷ u) [] e dis p q t = absurd (cc)
  crossed fg fh b c (s ∷ u) (w ∷ v) e dis p q t =
      let same : s.token ≡ w.token = cc in
      let f = apart (kind l w.token) fh fg dis q in
      let g : has (kind l w.token) fg ≡ true = rw (← same) p in
      absurd (cc)

  pub not_nil : (c : Bool) (fs : List ℕ) (a b : List (Placed l)) → c ≡ false → Begins l c fs a → tokens l (a ++ b) ≡ [] → ⊥
  not_nil c fs [] b e p t = absurd (cc)
  not_nil c fs (w ∷ a) b e p t = absurd (cc)

  module _ (inner : Inner l) (readers : Readers l) (table late : l.Inside → List ℕ) (d limit : ℕ) (ic : InnerComplete l d limit table inner readers) (sh : Takes l table late readers) (iu : InnerUnique d limit table inner) where
    pub none : {A : Type 0} (g : Grammar l A) → is_empty l g ≡ false → (a b : List (Placed l)) (y : A) (next : ℕ) → spelled l inner g d a y next → tokens l (a ++ b) ≡ [] → ⊥
    none g ne a b y next s t = not_nil (is_empty l g) (firsts l g) a b ne (begins l inner g d a y next s) t

    -- both parts of a text that is cut in two
    pub cut : {A : Type 0} (g : Grammar l A) (a b c e : List (Placed l)) (x y : A) (r : List l.Token) → is_good l table late g ≡ true
        → spelled l inner g d a x (next_of l b (ahead l r 0)) → spelled l inner g d c y (next_of l e (ahead l r 0)) → Low l limit a → Low l limit c
        → has (next_of l b (ahead l r 0)) (ends l table g) ≡ false → has (next_of l e (ahead l r 0)) (ends l table g) ≡ false → tokens l (a ++ b) ≡ tokens l (c ++ e) → (tokens l a ≡ tokens l c) × (tokens l b ≡ tokens l e)
    cut g a b c e x y r good p q la lc oa oc t =
        let e1 = complete l inner readers table late d limit ic sh g a x (tokens l b ++ r) good (rw (ahead-append l b r 0) p) la (rw (ahead-append l b r 0) oa) in
        let e2 = complete l inner readers table late d limit ic sh g c y (tokens l e ++ r) good (rw (ahead-append l e r 0) q) lc (rw (ahead-append l e r 0) oc) in
        let t2 : tokens l a ++ tokens l b ≡ tokens l c ++ tokens l e = sym (tokens-append l a b) ∙ t ∙ tokens-append l c e in
        let t3 : tokens l a ++ (tokens l b ++ r) ≡ tokens l c ++ (tokens l e ++ r) = sym (append_assoc (tokens l a) (tokens l b) r) ∙ ap (λ z. z ++ r) t2 ∙ append_assoc (tokens l c) (tokens l e) r in
        let e3 : read l readers g (tokens l a ++ (tokens l b ++ r)) ≡ Ok (y, tokens l e ++ r) = rw t3 e2 in
        let f = same_front (tokens l b) (tokens l e) r (one_rest l (read l readers g (tokens l a ++ (tokens l b ++ r))) x y (tokens l b ++ r) (tokens l e ++ r) e1 e3) in
        (same_back (tokens l a) (tokens l b) (tokens l c) (tokens l e) t2 f, f)

    pub unique_list : {A : Type 0} (g : Grammar l A) → is_good l table late g ≡ true → is_empty l g ≡ false → disjoint (firsts l g) (ends l table g) ≡ true
        → ((u v : List (Placed l)) (y z : A) (r : List l.Token) → spelled l inner g d u y (ahead l r 0) → spelled l inner g d v z (ahead l r 0) → Low l limit u → Low l limit v → has (ahead l r 0) (ends l table g) ≡ false → tokens l u ≡ tokens l v → u ≡ v)
        → (u v : List (Placed l)) (ys zs : List A) (r : List l.Token) → spelled_list l (spelled l inner g d) u ys (ahead l r 0) → spelled_list l (spelled l inner g d) v zs (ahead l r 0) → Low l limit u → Low l limit v
        → has (ahead l r 0) (ends l table g) ≡ false → tokens l u ≡ tokens l v → u ≡ v
    unique_list g good ne dis one u v [] [] r p q lu lv o t = p ∙ sym q
    unique_list g good ne dis one u v [] (z ∷ zs) r p q lu lv o t = absurd (none g ne q.0 q.1 z (next_of l q.1 (ahead l r 0)) q.3 (subst (λ (k : List (Placed l)). tokens l k ≡ []) q.2 (sym t ∙ ap (tokens l) p)))
    unique_list g good ne dis one u v (y ∷ ys) [] r p q lu lv o t = absurd (none g ne p.0 p.1 y (next_of l p.1 (ahead l r 0)) p.3 (subst (λ (k : List (Placed l)). tokens l k ≡ []) p.2 (t ∙ ap (tokens l) q)))
    unique_list g good ne dis one u v (y ∷ ys) (z ∷ zs) r p q lu lv o t =
        let lu2 : Low l limit (p.0 ++ p.1) = subst (λ (k : List (Placed l)). Low l limit k) p.2 lu in
        let lv2 : Low l limit (q.0 ++ q.1) = subst (λ (k : List (Placed l)). Low l limit k) q.2 lv in
        let t2 : tokens l (p.0 ++ p.1) ≡ tokens l (q.0 ++ q.1) = sym (ap (tokens l) p.2) ∙ t ∙ ap (tokens l) q.2 in
        let op = loop_sequel l (is_empty l g) (ends l table g) (firsts l g) p.1 (ahead l r 0) (begins_loop l (is_empty l g) (firsts l g) (spelled l inner g d) (λ k x n s. begins l inner g d k x n s) p.1 ys (ahead l r 0) p.4) dis o in
        let oq = loop_sequel l (is_empty l g) (ends l table g) (firsts l g) q.1 (ahead l r 0) (begins_loop l (is_empty l g) (firsts l g) (spelled l inner g d) (λ k x n s. begins l inner g d k x n s) q.1 zs (ahead l r 0) q.4) dis o in
        let c = cut g p.0 p.1 q.0 q.1 y z r good p.3 q.3 (low_left l limit p.0 p.1 lu2) (low_left l limit q.0 q.1 lv2) op oq t2 in
        let b = unique_list g good ne dis one p.1 q.1 ys zs r p.4 q.4 (low_right l limit p.0 p.1 lu2) (low_right l limit q.0 q.1 lv2) o c.1 in
        let s1 : spelled l inner g d p.0 y (ahead l (tokens l p.1 ++ r) 0) = rw (ahead-append l p.1 r 0) p.3 in
        let s2 : spelled l inner g d q.0 z (ahead l (tokens l p.1 ++ r) 0) = rw (ahead-append l p.1 r 0) (subst (λ (k : List (Placed l)). spelled l inner g d q.0 z (next_of l k (ahead l r 0))) (sym b) q.3) in
        let a = one p.0 q.0 y z (tokens l p.1 ++ r) s1 s2 (low_left l limit p.0 p.1 lu2) (low_left l limit q.0 q.1 lv2) (rw (ahead-append l p.1 r 0) op) c.0 in
        p.2 ∙ ap (λ k. k ++ p.1) a ∙ ap (λ k. q.0 ++ k) b ∙ sym q.2

    pub unique : {A : Type 0} (g : Grammar l A) → is_good l table late g ≡ true → (u v : List (Placed l)) (y z : A) (r : List l.Token) → spelled l inner g d u y (ahead l r 0) → spelled l inner g d v z (ahead l r 0) → Low l limit u → Low l limit v
        → has (ahead l r 0) (ends l table g) ≡ false → tokens l u ≡ tokens l v → u ≡ v
    unique (word k) good u v y z r p q lu lv o t =
        let e : y ∷ [] ≡ z ∷ [] = sym (ap (tokens l) p.0) ∙ t ∙ ap (tokens l) q.0 in
        let f : y ≡ z = cc in
        p.0 ∙ ap (λ (k : l.Token). record { token = k; depth = d } ∷ []) f ∙ sym q.0
    unique (nothing ks a) good u v y z r p q lu lv o t = p.0 ∙ sym q.0
    unique (both g h) good u v y z r p q lu lv o t =
        let lu2 : Low l limit (p.0 ++ p.1) = subst (λ (k : List (Placed l)). Low l limit k) p.2 lu in
        let lv2 : Low l limit (q.0 ++ q.1) = subst (λ (k : List (Placed l)). Low l limit k) q.2 lv in
        let t2 : tokens l (p.0 ++ p.1) ≡ tokens l (q.0 ++ q.1) = sym (ap (tokens l) p.2) ∙ t ∙ ap (tokens l) q.2 in
        let rest = and_right (is_good l table late g) _ good in
        let gg = and_left (is_good l table late g) _ good in
        let gh = and_left (is_good l table late h) _ rest in
        let dis = and_left (disjoint (firsts l h) (ends l table g)) _ (and_right (is_good l table late h) _ rest) in
        let op = sequel l (is_empty l h) (ends l table g) (ends l table h) (firsts l h) p.1 (ahead l r 0) (begins l inner h d p.1 y.1 _ p.4) dis o in
        let oq = sequel l (is_empty l h) (ends l table g) (ends l table h) (firsts l h) q.1 (ahead l r 0) (begins l inner h d q.1 z.1 _ q.4) dis o in
        let c = cut g p.0 p.1 q.0 q.1 y.0 z.0 r gg p.3 q.3 (low_left l limit p.0 p.1 lu2) (low_left l limit q.0 q.1 lv2) op oq t2 in
        let b = unique h gh p.1 q.1 y.1 z.1 r p.4 q.4 (low_right l limit p.0 p.1 lu2) (low_right l limit q.0 q.1 lv2) (none_left (ahead l r 0) (ends l table h) _ o) c.1 in
        let s1 : spelled l inner g d p.0 y.0 (ahead l (tokens l p.1 ++ r) 0) = rw (ahead-append l p.1 r 0) p.3 in
        let s2 : spelled l inner g d q.0 z.0 (ahead l (tokens l p.1 ++ r) 0) = rw (ahead-append l p.1 r 0) (subst (λ (k : List (Placed l)). spelled l inner g d q.0 z.0 (next_of l k (ahead l r 0))) (sym b) q.3) in
        let a = unique g gg p.0 q.0 y.0 z.0 (tokens l p.1 ++ r) s1 s2 (low_left l limit p.0 p.1 lu2) (low_left l limit q.0 q.1 lv2) (rw (ahead-append l p.1 r 0) op) c.0 in
        p.2 ∙ ap (λ k. k ++ p.1) a ∙ ap (λ k. q.0 ++ k) b ∙ sym q.2
    unique (either g h) good u v y z r p q lu lv o t =
        let gg = and_left (is_good l table late g) _ good in
        let rest = and_right (is_good l table late g) _ good in
        let gh = and_left (is_good l table late h) _ rest in
        let rest2 = and_right (is_good l table late h) _ rest in
        let ne = not_true (is_empty l g) (and_left (not (is_empty l g)) _ rest2) in
        let dis = and_left (disjoint (firsts l h) (firsts l g)) _ (and_right (not (is_empty l g)) _ rest2) in
        let o1 = none_left (ahead l r 0) (ends l table g) _ o in
        let o2 = none_left (ahead l r 0) (ends l table h) _ (none_right (ahead l r 0) (ends l table g) _ o) in
        elim p [
          | inl a ↦ elim q [
            | inl b ↦ unique g gg u v y z r a b lu lv o1 t
            | inr b ↦ absurd (crossed (firsts l g) (firsts l h) (is_empty l g) (is_empty l h) u v ne dis (begins l inner g d u y _ a) (begins l inner h d v z _ b) t)
          ]
          | inr a ↦ elim q [
            | inl b ↦ absurd (crossed (firsts l g) (firsts l h) (is_empty l g) (is_empty l h) v u ne dis (begins l inner g d v z _ b) (begins l inner h d u y _ a) (sym t))
            | inr b ↦ unique h gh u v y z r a b lu lv o2 t
          ]
        ]
    unique (many g) good u v y z r p q lu lv o t =
        let gg = and_left (is_good l table late g) _ good in
        let rest = and_right (is_good l table late g) _ good in
        let ne = not_true (is_empty l g) (and_left (not (is_empty l g)) _ rest) in
        let dis = and_left (disjoint (firsts l g) (ends l table g)) _ (and_right (not (is_empty l g)) _ rest) in
        unique_list g gg ne dis (λ a b x w s i j la lb k e. unique g gg a b x w s i j la lb k e) u v y z r p q lu lv (none_left (ahead l r 0) (ends l table g) _ o) t
    unique (shown f g) good u v y z r p q lu lv o t = unique g good u v p.0 q.0 r p.2 q.2 lu lv o t
    unique (opening k x) good u v y z r p q lu lv o t =
        let lu2 = subst (λ (w : List (Placed l)). Low l limit w) p.1 lu in
        let lv2 = subst (λ (w : List (Placed l)). Low l limit w) q.1 lv in
        let e : y.0 ∷ tokens l p.0 ≡ z.0 ∷ tokens l q.0 = sym (ap (tokens l) p.1) ∙ t ∙ ap (tokens l) q.1 in
        let f : y.0 ≡ z.0 = cc in
        let g : tokens l p.0 ≡ tokens l q.0 = cc in
        let b = iu x p.0 q.0 y.1 z.1 r p.3 q.3 lu2.0 lu2.1 lv2.1 o g in
        p.1 ∙ ap (λ (w : l.Token). record { token = w; depth = suc d } ∷ p.0) f ∙ ap (λ (w : List (Placed l)). record { token = z.0; depth = suc d } ∷ w) b ∙ sym q.1

  pub nested_unique : (body : Bodies l) (table late : l.Inside → List ℕ) → Checked l body table late → (m n d limit : ℕ) → d + n ≡ limit → InnerUnique d limit table (nested l body m)
  unfolding nested
  nested_unique body table late c zero n d limit e x u v y z r p q lt lu lv o t = absurd p
  nested_unique body table late c (suc m) zero d limit e x u v y z r p q lt lu lv o t = absurd (omega arith)
  nested_unique body table late c (suc m) (suc n) d limit e x u v y z r p q lt lu lv o t =
      unique (nested l body m) (reader l body n) table late (suc d) limit (complete_inside l body table late c n m (suc d) limit (omega arith)) (takes l body table late c n (suc d) limit (omega arith))
      (nested_unique body table late c m n (suc d) limit (omega arith)) (body x) (c.good x) u v y z r p q lu lv (not_held (ahead l r 0) (ends l table (body x)) (table x) (c.ends_in x) o) t

  pub inside_unique : (body : Bodies l) (table late : l.Inside → List ℕ) → Checked l body table late → (n d limit : ℕ) → d + n ≡ limit → InnerUnique d limit table (inside l body)
  inside_unique body table late c n d limit e x u v y z r p q lt lu lv o t =
      nested_unique body table late c (p.0 + q.0) n d limit e x u v y z r (grow l body p.0 (p.0 + q.0) (omega arith) x (suc d) u y (ahead l r 0) p.1) (grow l body q.0 (p.0 + q.0) (omega arith) x (suc d) v z (ahead l r 0) q.1) lt lu lv o t

  -- the tokens of a text determine how deep each nests
  pub one_depth : (body : Bodies l) (table late : l.Inside → List ℕ) → Checked l body table late → {A : Type 0} → (g : Grammar l A) → is_good l table late g ≡ true → has 0 (ends l table g) ≡ false
      → (u v : List (Placed l)) (y z : A) → spells l body g 0 u y 0 → spells l body g 0 v z 0 → tokens l u ≡ tokens l v → u ≡ v
  one_depth body table late c g good closed u v y z p q t =
      let h = height l u in
      let k = height l v in
      unique (inside l body) (reader l body (h.0 + k.0)) table late 0 (h.0 + k.0) (inside_complete l body table late c (h.0 + k.0) 0 (h.0 + k.0) (omega arith)) (takes l body table late c (h.0 + k.0) 0 (h.0 + k.0) (omega arith))
      (inside_unique body table late c (h.0 + k.0) 0 (h.0 + k.0) (omega arith)) g good u v y z [] p q (low_more l h.0 (h.0 + k.0) u (omega arith) h.1) (low_more l k.0 (h.0 + k.0) v (omega arith) k.1) closed t
