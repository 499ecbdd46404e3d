-- The same through all levels.
use Rattle.std.proofs.Common.{◌≡◌, ℕ, ◌+◌, ◌<◌, ◌≤◌, zero, suc, Bool, true, false, List, [], ◌∷◌, ◌++◌, length, refl, ap, arith, inl, inr, Ok, Err}
use Rattle.asm_grammar.specs.declared.Stop.TheVariants.{Memory, Syntax, TooDeep}
use Rattle.asm_grammar.specs.Grammar.{Language, has, word, nothing, both, either, many, shown, opening, Bodies, Grammar, Inner, Lang, Outcome, Placed, ahead, and_then, inside, kind, nested, next_of, read, reader, spelled, spelled_list, spells}
use Rattle.asm_grammar.proofs.Sets.{subset, not_held}
use Rattle.asm_grammar.proofs.Theory.{barred, ends, if_true, is_good, is_live, senses}
use Rattle.asm_grammar.proofs.Judged.{InnerJudge, Judge, Lives, LivesWhere, Settles, Stops, are_kinds, judged, lives, same_token, settle}

module _ (l : Language) where
  -- ---- a bound on the nesting, and none

  pub widen_list : {A : Type 0} (p q : Lang l A) → ((v : List (Placed l)) (x : A) (next : ℕ) → p v x next → q v x next) → (u : List (Placed l)) (ys : List A) (next : ℕ) → spelled_list l p u ys next → spelled_list l q u ys next
  widen_list p q f u [] next s = s
  widen_list p q f u (y ∷ ys) next s = (s.0, s.1, s.2, f s.0 y _ s.3, widen_list p q f s.1 ys next s.4)

  pub widen : (i j : Inner l) → ((x : l.Inside) (d : ℕ) (v : List (Placed l)) (y : l.Value x) (next : ℕ) → i x d v y next → j x d v y next)
      → {A : Type 0} → (g : Grammar l A) (d : ℕ) (u : List (Placed l)) (y : A) (next : ℕ) → spelled l i g d u y next → spelled l j g d u y next
  widen i j f (word k) d u y next s = s
  widen i j f (nothing ks a) d u y next s = s
  widen i j f (both g h) d u y next s = (s.0, s.1, s.2, widen i j f g d s.0 y.0 _ s.3, widen i j f h d s.1 y.1 next s.4)
  widen i j f (either g h) d u y next s = elim s [ inl p ↦ inl (widen i j f g d u y next p) | inr p ↦ inr (widen i j f h d u y next p) ]
  widen i j f (many g) d u y next s = widen_list (spelled l i g d) (spelled l j g d) (λ v x n p. widen i j f g d v x n p) u y next s
  widen i j f (shown f' g) d u y next s = (s.0, s.1, widen i j f g d u s.0 next s.2)
  widen i j f (opening k x) d u y next s = (s.0, s.1, s.2, f x (suc d) s.0 y.1 next s.3)

  pub grow : (body : Bodies l) (m n : ℕ) → m ≤ n → (x : l.Inside) (d : ℕ) (v : List (Placed l)) (y : l.Value x) (next : ℕ) → nested l body m x d v y next → nested l body n x d v y next
  unfolding nested
  grow body zero n le x d v y next s = absurd s
  grow body (suc m) zero le x d v y next s = absurd (omega arith)
  grow body (suc m) (suc n) le x d v y next s = widen (nested l body m) (nested l body n) (grow body m n (omega arith)) (body x) d v y next s

  pub bounded_list : {A : Type 0} (p : ℕ → Lang l A) → ((m n : ℕ) → m ≤ n → (v : List (Placed l)) (x : A) (next : ℕ) → p m v x next → p n v x next) → (q : Lang l A) → ((v : List (Placed l)) (x : A) (next : ℕ) → q v x next → (m : ℕ) × p m v x next)
      → (u : List (Placed l)) (ys : List A) (next : ℕ) → spelled_list l q u ys next → (m : ℕ) × spelled_list l (p m) u ys next
  bounded_list p up q f u [] next s = (0, s)
  bounded_list p up q f u (y ∷ ys) next s =
      let a = f s.0 y (next_of l s.1 next) s.3 in
      let b = bounded_list p up q f s.1 ys next s.4 in
      (a.0 + b.0, (s.0, s.1, s.2, up a.0 (a.0 + b.0) (omega arith) s.0 y _ a.1, widen_list (p b.0) (p (a.0 + b.0)) (up b.0 (a.0 + b.0) (omega arith)) s.1 ys next b.1))

  pub bounded : (body : Bodies l) {A : Type 0} → (g : Grammar l A) (d : ℕ) (u : List (Placed l)) (y : A) (next : ℕ) → spelled l (inside l body) g d u y next → (m : ℕ) × spelled l (nested l body m) g d u y next
  bounded body (word k) d u y next s = (0, s)
  bounded body (nothing ks a) d u y next s = (0, s)
  bounded body (both g h) d u y next s =
      let p = bounded body g d s.0 y.0 _ s.3 in
      let q = bounded body h d s.1 y.1 next s.4 in (
        p.0 + q.0,
        (
          s.0,
          s.1,
          s.2,
          widen (nested l body p.0) (nested l body (p.0 + q.0)) (grow body p.0 (p.0 + q.0) (omega arith)) g d s.0 y.0 _ p.1,
          widen (nested l body q.0) (nested l body (p.0 + q.0)) (grow body q.0 (p.0 + q.0) (omega arith)) h d s.1 y.1 next q.1,
        ),
      )
  bounded body (either g h) d u y next s = elim s [
    | inl p ↦ (let q = bounded body g d u y next p in (q.0, inl q.1))
    | inr p ↦ (let q = bounded body h d u y next p in (q.0, inr q.1))
  ]
  bounded body (many g) d u y next s = bounded_list (λ m. spelled l (nested l body m) g d) (λ m n le v x next p. widen (nested l body m) (nested l body n) (grow body m n le) g d v x next p) (spelled l (inside l body) g d) (λ v x next p. bounded body g d v x next p) u y next s
  bounded body (shown f g) d u y next s = let q = bounded body g d u s.0 next s.2 in (q.0, (s.0, s.1, q.1))
  bounded body (opening k x) d u y next s = (s.3.0, (s.0, s.1, s.2, s.3.1))

  -- a text of a body is a text behind its opening token
  pub close : (body : Bodies l) (x : l.Inside) (d : ℕ) (u : List (Placed l)) (y : l.Value x) (next : ℕ) → spells l body (body x) d u y next → inside l body x d u y next
  unfolding nested
  close body x d u y next s = let p = bounded body (body x) d u y next s in (suc p.0, p.1)

  -- ---- what a checked table of bodies has

  pub record Checked (body : Bodies l) (table late : l.Inside → List ℕ) : Type 0 where
    pub good : (x : l.Inside) → is_good l table late (body x) ≡ true
    pub ends_in : (x : l.Inside) → subset (ends l table (body x)) (table x) ≡ true
    pub senses_in : (x : l.Inside) → subset (senses l late (body x)) (late x) ≡ true
    -- bodies with a text that opens no level; each other body has a text that opens such bodies alone
    pub plain : l.Inside → Bool
    pub plain_live : (x : l.Inside) → plain x ≡ true → is_live l (λ y. false) (body x) ≡ true
    pub live : (x : l.Inside) → is_live l plain (body x) ≡ true
    pub unbarred : (x : l.Inside) → subset (barred l (body x)) [] ≡ true

  pub plain_lives : (body : Bodies l) (table late : l.Inside → List ℕ) → (c : Checked body table late) → LivesWhere l c.plain (nested l body 1)
  unfolding nested
  plain_lives body table late c x e d next =
      lives l (nested l body 0) (λ y. false) (λ y f. absurd (cc)) (body x) (are_kinds l table late (body x) (c.good x)) (c.plain_live x e) d next

  pub inside_lives : (body : Bodies l) (table late : l.Inside → List ℕ) → Checked body table late → Lives l (inside l body)
  unfolding nested
  inside_lives body table late c x d next =
      let p = lives l (nested l body 1) c.plain (plain_lives body table late c) (body x) (are_kinds l table late (body x) (c.good x)) (c.live x) d next in
      (p.0, p.1, (2, p.2))

  pub nested_settles : (body : Bodies l) (table late : l.Inside → List ℕ) → Checked body table late → (m : ℕ) → Settles l late (nested l body m)
  unfolding nested
  nested_settles body table late c zero x d v y a b s o = absurd s
  nested_settles body table late c (suc m) x d v y a b s o = settle l late (nested l body m) (nested_settles body table late c m) (body x) d v y a b s (not_held b (senses l late (body x)) (late x) (c.senses_in x) o)

  pub inside_settles : (body : Bodies l) (table late : l.Inside → List ℕ) → Checked body table late → Settles l late (inside l body)
  inside_settles body table late c x d v y a b s o = (s.0, nested_settles body table late c s.0 x d v y a b s.1 o)

  pub stops_behind : (body : Bodies l) (n : ℕ) (k : List ℕ) (x : l.Inside) (d limit : ℕ) (t : l.Token) (r : List l.Token) → has (kind l t) k ≡ true → suc d ≤ limit → (deep : Bool) (i : ℕ)
      → Stops l (inside l body) (reader l body n) (body x) (suc d) limit r deep i → Stops l (inside l body) (reader l body (suc n)) (opening k x) d limit (t ∷ r) deep i
  unfolding reader
  stops_behind body n k x d limit t r kt le deep i j = record {
    text = record { token = t; depth = suc d } ∷ j.text;
    rest = j.rest;
    whole = ap (λ z. t ∷ z) j.whole;
    count = j.count;
    low = (le, j.low);
    goes_on = λ next. (let q = j.goes_on next in (q.0, (t, q.1), (j.text ++ q.0, refl, kt, close body x (suc d) (j.text ++ q.0) q.1 next q.2), q.3));
    again = λ s e. rw (if_true (has (kind l t) k) _ _ kt, j.again s e) refl;
    started = λ z p h m. absurd (cc);
    calm = λ z p m. absurd (cc);
  }

  pub judge_behind : (body : Bodies l) (n : ℕ) (k : List ℕ) (x : l.Inside) (d limit : ℕ) (t : l.Token) (r : List l.Token) → has (kind l t) k ≡ true → suc d ≤ limit
      → (o : Outcome l (l.Value x)) → Judge l (inside l body) (reader l body n) (body x) (suc d) limit r o → Judge l (inside l body) (reader l body (suc n)) (opening k x) d limit (t ∷ r) (and_then l o (λ y s. Ok ((t, y), s)))
  unfolding reader
  judge_behind body n k x d limit t r kt le (Ok p) j = record {
    text = record { token = t; depth = suc d } ∷ j.text;
    whole = ap (λ z. t ∷ z) j.whole;
    low = (le, j.low);
    found = (j.text, refl, kt, close body x (suc d) j.text p.0 (ahead l p.1 0) j.found);
    again = λ s e. rw (if_true (has (kind l t) k) _ _ kt, j.again s e) refl;
  }
  judge_behind body n k x d limit t r kt le (Err Memory) j = j
  judge_behind body n k x d limit t r kt le (Err (Syntax i)) j = stops_behind body n k x d limit t r kt le false i j
  judge_behind body n k x d limit t r kt le (Err (TooDeep i)) j = stops_behind body n k x d limit t r kt le true i j

  pub too_deep : (body : Bodies l) → Lives l (inside l body) → (k : List ℕ) (x : l.Inside) (d limit : ℕ) (t : l.Token) (r : List l.Token) → has (kind l t) k ≡ true → limit < suc d
      → Stops l (inside l body) (reader l body zero) (opening k x) d limit (t ∷ r) true (length (t ∷ r))
  unfolding reader
  too_deep body li k x d limit t r kt lt = record {
    text = [];
    rest = t ∷ r;
    whole = refl;
    count = refl;
    low = tt;
    goes_on = λ next. (let p = li x (suc d) next in (record { token = t; depth = suc d } ∷ p.0, (t, p.1), (p.0, refl, kt, p.2), (lt, refl)));
    again = λ s e. (let q = same_token l t s e in let f : has (kind l q.0) k ≡ true = rw q.3 kt in rw (q.2, if_true (has (kind l q.0) k) _ _ f) refl);
    started = λ z p h m. absurd (cc);
    calm = λ z p m. absurd (cc);
  }

  pub inside_judged : (body : Bodies l) (table late : l.Inside → List ℕ) → Checked body table late → (n d limit : ℕ) → d + n ≡ limit → InnerJudge l d limit (inside l body) (reader l body n)
  unfolding reader
  inside_judged body table late c zero d limit e x k t r kt = too_deep body (inside_lives body table late c) k x d limit t r kt (omega arith)
  inside_judged body table late c (suc n) d limit e x k t r kt =
      judge_behind body n k x d limit t r kt (omega arith) (read l (reader l body n) (body x) r)
      (judged l table late (inside l body) (reader l body n) (inside_lives body table late c) (inside_settles body table late c) (suc d) limit (omega arith)
      (inside_judged body table late c n (suc d) limit (omega arith)) (body x) (c.good x) r (not_held (ahead l r 0) (barred l (body x)) [] (c.unbarred x) refl))
