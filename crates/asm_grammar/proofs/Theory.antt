-- What a checked grammar spells is read, and nothing else.
use Rattle.std.proofs.Common.{◌≡◌, ℕ, ◌<◌, ◌≤◌, zero, suc, ◌==◌, Bool, true, false, not, ◌&&◌, ◌||◌, if◌then◌else◌, List, [], ◌∷◌, ◌++◌, length, refl, ap, arith, sym, inl, inr, subst, Ok, Err}
use Rattle.std.proofs.lemmas.Bool.{eqb-true}
use Rattle.asm_grammar.specs.declared.Stop.{Stop}
use Rattle.asm_grammar.specs.Grammar.{Language, has, word, nothing, both, either, many, shown, opening, Grammar, Inner, Lang, Low, Outcome, Placed, ahead, and_then, firsts, is_empty, kind, many_at, next_of, some_of, spelled, spelled_list, tokens}
use Rattle.asm_grammar.proofs.Sets.{or_true, or_made_left, or_made_right, has-append_left, has-append_right, none_right, disjoint, subset, apart, true_or_false}

abbrev pub minus : List ℕ → List ℕ → List ℕ
minus [] ys = []
minus (x ∷ xs) ys = if has x ys then minus xs ys else x ∷ minus xs ys

abbrev pub is_nil : List ℕ → Bool
is_nil [] = true
is_nil (k ∷ ks) = false

abbrev pub is_safe : List ℕ → Bool → List ℕ → Bool → Bool
is_safe sens empty fs calm = is_nil sens || ((not empty && disjoint fs sens) || calm)

pub minus_in : (k : ℕ) (xs ys : List ℕ) → has k xs ≡ true → has k ys ≡ false → has k (minus xs ys) ≡ true
minus_in k [] ys p q = p
minus_in k (x ∷ xs) ys p q = elim (true_or_false (has x ys)) [
  | inl e ↦ rw e (elim (or_true (k == x) (has k xs) p) [ inl f ↦ (let c : has k ys ≡ true = rw (eqb-true k x f) e in absurd (cc)) | inr f ↦ minus_in k xs ys f q ])
  | inr e ↦ rw e (elim (or_true (k == x) (has k xs) p) [ inl f ↦ or_made_left (k == x) _ f | inr f ↦ or_made_right (k == x) _ (minus_in k xs ys f q) ])
]

pub if_true : {A : Type 0} (b : Bool) (x y : A) → b ≡ true → (if b then x else y) ≡ x
if_true b x y e = rw e refl

pub if_false : {A : Type 0} (b : Bool) (x y : A) → b ≡ false → (if b then x else y) ≡ y
if_false b x y e = rw e refl

module _ (l : Language) where
  -- ---- the conditions, which compute

  -- no follower of these kinds is allowed where the text is empty
  abbrev pub barred : {A : Type 0} → Grammar l A → List ℕ
  barred (word k) = []
  barred (nothing ks a) = ks
  barred (both g h) = barred g
  barred (either g h) = []
  barred (many g) = []
  barred (shown f g) = barred g
  barred (opening k x) = []

  -- the kinds with which a text can go on where it could also end
  abbrev pub ends : (l.Inside → List ℕ) → {A : Type 0} → Grammar l A → List ℕ
  ends table (word k) = []
  ends table (nothing ks a) = []
  ends table (both g h) = ends table h ++ (if is_empty l h then ends table g else [])
  ends table (either g h) = ends table g ++ (ends table h ++ (if is_empty l h then minus (firsts l g) (barred h) else []))
  ends table (many g) = ends table g ++ firsts l g
  ends table (shown f g) = ends table g
  ends table (opening k x) = table x

  -- with some text, whatever follows; an opening counts where the first argument says so of what stands behind it
  abbrev pub is_live : (l.Inside → Bool) → {A : Type 0} → Grammar l A → Bool
  is_live o (word k) = true
  is_live o (nothing [] a) = true
  is_live o (nothing (k ∷ ks) a) = false
  is_live o (both g h) = is_live o g && is_live o h
  is_live o (either g h) = is_live o g || is_live o h
  is_live o (many g) = true
  is_live o (shown f g) = is_live o g
  is_live o (opening k x) = o x

  -- the followers on which it can depend whether a text is one of the grammar's
  abbrev pub senses : (l.Inside → List ℕ) → {A : Type 0} → Grammar l A → List ℕ
  senses table (word k) = []
  senses table (nothing ks a) = ks
  senses table (both g h) = senses table h ++ (if is_empty l h then senses table g else [])
  senses table (either g h) = senses table g ++ senses table h
  senses table (many g) = senses table g
  senses table (shown f g) = senses table g
  senses table (opening k x) = table x

  -- where its first token fits, that one is taken
  abbrev pub starts : {A : Type 0} → Grammar l A → Bool
  starts (word k) = not (has 0 k)
  starts (nothing ks a) = false
  starts (both g h) = starts g && not (is_empty l g)
  starts (either g h) = starts g && starts h
  starts (many g) = false
  starts (shown f g) = starts g
  starts (opening k x) = not (has 0 k)

  -- it refuses no first token
  abbrev pub is_calm : {A : Type 0} → Grammar l A → Bool
  is_calm (word k) = false
  is_calm (nothing ks a) = true
  is_calm (both g h) = false
  is_calm (either g h) = starts g && is_calm h
  is_calm (many g) = starts g
  is_calm (shown f g) = is_calm g
  is_calm (opening k x) = false

  abbrev pub is_good : (l.Inside → List ℕ) → (l.Inside → List ℕ) → {A : Type 0} → Grammar l A → Bool
  is_good table late (word k) = has (kind l (some_of l k)) k
  is_good table late (nothing ks a) = true
  is_good table late (both g h) = is_good table late g && (is_good table late h && (disjoint (firsts l h) (ends table g) && (is_live (λ x. true) h && (subset (barred h) [] && is_safe (senses late g) (is_empty l h) (firsts l h) (is_calm h)))))
  is_good table late (either g h) = is_good table late g && (is_good table late h && (not (is_empty l g) && (disjoint (firsts l h) (firsts l g) && (subset (barred h) (firsts l g) && subset (barred g) []))))
  is_good table late (many g) = is_good table late g && (not (is_empty l g) && (disjoint (firsts l g) (ends table g) && (subset (barred g) [] && ((is_nil (senses late g) || starts g) && not (has 0 (firsts l g))))))
  is_good table late (shown f g) = is_good table late g
  is_good table late (opening k x) = has (kind l (some_of l k)) k

  -- ---- lists of tokens

  pub ahead-append : (u : List (Placed l)) (w : List l.Token) (next : ℕ) → ahead l (tokens l u ++ w) next ≡ next_of l u (ahead l w next)
  ahead-append [] w next = refl
  ahead-append (t ∷ u) w next = refl

  pub next_of-append : (u w : List (Placed l)) (next : ℕ) → next_of l (u ++ w) next ≡ next_of l u (next_of l w next)
  next_of-append [] w next = refl
  next_of-append (t ∷ u) w next = refl

  pub tokens-append : (u w : List (Placed l)) → tokens l (u ++ w) ≡ tokens l u ++ tokens l w
  tokens-append [] w = refl
  tokens-append (p ∷ u) w = ap (λ z. p.token ∷ z) (tokens-append u w)

  pub low_both : (limit : ℕ) (u w : List (Placed l)) → Low l limit u → Low l limit w → Low l limit (u ++ w)
  low_both limit [] w p q = q
  low_both limit (t ∷ u) w p q = (p.0, low_both limit u w p.1 q)

  pub low_left : (limit : ℕ) (u w : List (Placed l)) → Low l limit (u ++ w) → Low l limit u
  low_left limit [] w p = tt
  low_left limit (t ∷ u) w p = (p.0, low_left limit u w p.1)

  pub low_right : (limit : ℕ) (u w : List (Placed l)) → Low l limit (u ++ w) → Low l limit w
  low_right limit [] w p = p
  low_right limit (t ∷ u) w p = low_right limit u w p.1

  -- ---- how a text begins

  abbrev pub Begins : Bool → List ℕ → List (Placed l) → Type 0
  Begins empty ks [] = empty ≡ true
  Begins empty ks (t ∷ u) = has (kind l t.token) ks ≡ true

  pub begins_both : (a b : Bool) (ks ls : List ℕ) (v w : List (Placed l)) → Begins a ks v → Begins b ls w → Begins (a && b) (ks ++ (if a then ls else [])) (v ++ w)
  begins_both a b ks ls [] [] p q = rw (p, q) refl
  begins_both a b ks ls [] (t ∷ w) p q = rw p (has-append_right (kind l t.token) ks ls q)
  begins_both a b ks ls (t ∷ v) w p q = has-append_left (kind l t.token) ks _ p

  pub begins_left : (a b : Bool) (ks ls : List ℕ) (u : List (Placed l)) → Begins a ks u → Begins (a || b) (ks ++ ls) u
  begins_left a b ks ls [] p = or_made_left a b p
  begins_left a b ks ls (t ∷ u) p = has-append_left (kind l t.token) ks ls p

  pub begins_right : (a b : Bool) (ks ls : List ℕ) (u : List (Placed l)) → Begins b ls u → Begins (a || b) (ks ++ ls) u
  begins_right a b ks ls [] p = or_made_right a b p
  begins_right a b ks ls (t ∷ u) p = has-append_right (kind l t.token) ks ls p

  pub begins_more : (b : Bool) (ks : List ℕ) (v w : List (Placed l)) → Begins b ks v → Begins true ks w → Begins true ks (v ++ w)
  begins_more b ks [] w p q = q
  begins_more b ks (t ∷ v) w p q = p

  pub begins_list : {A : Type 0} → (b : Bool) (ks : List ℕ) (item : Lang l A) → ((v : List (Placed l)) (y : A) (next : ℕ) → item v y next → Begins b ks v)
      → (u : List (Placed l)) (ys : List A) (next : ℕ) → spelled_list l item u ys next → Begins true ks u
  begins_list b ks item f u [] next s = rw s refl
  begins_list b ks item f u (y ∷ ys) next s = rw s.2 (begins_more b ks s.0 s.1 (f s.0 y _ s.3) (begins_list b ks item f s.1 ys next s.4))

  pub begins : (inner : Inner l) → {A : Type 0} → (g : Grammar l A) (d : ℕ) (u : List (Placed l)) (y : A) (next : ℕ) → spelled l inner g d u y next → Begins (is_empty l g) (firsts l g) u
  begins inner (word k) d u y next s = rw s.0 s.1
  begins inner (nothing ks a) d u y next s = rw s.0 refl
  begins inner (both g h) d u y next s = rw s.2 (begins_both _ _ _ _ s.0 s.1 (begins inner g d s.0 y.0 _ s.3) (begins inner h d s.1 y.1 next s.4))
  begins inner (either g h) d u y next s = elim s [ inl p ↦ begins_left _ _ _ _ u (begins inner g d u y next p) | inr p ↦ begins_right _ _ _ _ u (begins inner h d u y next p) ]
  begins inner (many g) d u y next s = begins_list (is_empty l g) (firsts l g) (spelled l inner g d) (λ v y next s. begins inner g d v y next s) u y next s
  begins inner (shown f g) d u y next s = begins inner g d u s.0 next s.2
  begins inner (opening k x) d u y next s = rw s.1 s.2

  -- where the text is empty, what is barred doesn't follow
  pub nil_left : (v w : List (Placed l)) → [] ≡ v ++ w → v ≡ []
  nil_left [] w e = refl
  nil_left (t ∷ v) w e = absurd (cc)

  pub nil_right : (v w : List (Placed l)) → [] ≡ v ++ w → w ≡ []
  nil_right [] w e = sym e
  nil_right (t ∷ v) w e = absurd (cc)

  pub bars : (inner : Inner l) → {A : Type 0} → (g : Grammar l A) (d : ℕ) (y : A) (next : ℕ) → spelled l inner g d [] y next → has next (barred g) ≡ false
  bars inner (word k) d y next s = refl
  bars inner (nothing ks a) d y next s = s.2
  bars inner (both g h) d y next s =
      let e : s.0 ≡ [] = nil_left s.0 s.1 s.2 in
      let f : s.1 ≡ [] = nil_right s.0 s.1 s.2 in
      bars inner g d y.0 next (subst (λ (v : List (Placed l)). spelled l inner g d v y.0 next) e (subst (λ (w : List (Placed l)). spelled l inner g d s.0 y.0 (next_of l w next)) f s.3))
  bars inner (either g h) d y next s = refl
  bars inner (many g) d y next s = refl
  bars inner (shown f g) d y next s = bars inner g d s.0 next s.2
  bars inner (opening k x) d y next s = refl

  -- ---- what is spelled is read

  -- the follower of the first part of a sequence doesn't go on with it
  pub sequel : (b : Bool) (cg ch fh : List ℕ) (w : List (Placed l)) (next : ℕ) → Begins b fh w → disjoint fh cg ≡ true → has next (ch ++ (if b then cg else [])) ≡ false → has (next_of l w next) cg ≡ false
  sequel b cg ch fh [] next p e o = none_right next ch cg (subst (λ (z : Bool). has next (ch ++ (if z then cg else [])) ≡ false) p o)
  sequel b cg ch fh (t ∷ w) next p e o = apart (kind l t.token) fh cg e p

  pub chosen : (ks : List ℕ) (u : List (Placed l)) (r : List l.Token) (b : Bool) → b ≡ false → Begins b ks u → has (ahead l (tokens l u ++ r) 0) ks ≡ true
  chosen ks [] r b e p = absurd (cc)
  chosen ks (t ∷ u) r b e p = p

  pub not_chosen : (b : Bool) (fg fh bh : List ℕ) (u : List (Placed l)) (r : List l.Token) → Begins b fh u → disjoint fh fg ≡ true → (u ≡ [] → has (ahead l r 0) bh ≡ false)
      → has (ahead l r 0) (if b then minus fg bh else []) ≡ false → has (ahead l (tokens l u ++ r) 0) fg ≡ false
  not_chosen b fg fh bh [] r p e bar o =
      let o' : has (ahead l r 0) (minus fg bh) ≡ false = subst (λ (z : Bool). has (ahead l r 0) (if z then minus fg bh else []) ≡ false) p o in
      elim (true_or_false (has (ahead l r 0) fg)) [ inl f ↦ (let c = minus_in (ahead l r 0) fg bh f (bar refl) in absurd (cc)) | inr f ↦ f ]
  not_chosen b fg fh bh (t ∷ u) r p e bar o = apart (kind l t.token) fh fg e p

  -- ---- repeated parts

  pub longer : (a b : List l.Token) → length b < suc (length (a ++ b))
  longer [] b = omega arith
  longer (t ∷ a) b = omega (arith, longer a b)

  pub steady_turn : {A : Type 0} (p : List l.Token → Outcome l A) (fs : List ℕ) (f g : List l.Token → Outcome l (List A)) (o : Outcome l A) → ((x : A) (r : List l.Token) → o ≡ Ok (x, r) → f r ≡ g r)
      → and_then l o (λ x r. and_then l (f r) (λ xs s. Ok (x ∷ xs, s))) ≡ and_then l o (λ x r. and_then l (g r) (λ xs s. Ok (x ∷ xs, s)))
  steady_turn p fs f g (Ok q) e = rw (e q.0 q.1 refl) refl
  steady_turn p fs f g (Err q) e = refl

  pub nonempty : (b : Bool) (ks : List ℕ) (u : List (Placed l)) (r : List l.Token) → b ≡ false → Begins b ks u → length r < length (tokens l u ++ r)
  nonempty b ks [] r e p = absurd (cc)
  nonempty b ks (t ∷ u) r e p = longer (tokens l u) r

  pub many_stays : {A : Type 0} (p : List l.Token → Outcome l A) (fs : List ℕ) (n : ℕ) (w : List l.Token) → has (ahead l w 0) fs ≡ false → many_at l p fs n w ≡ Ok ([], w)
  many_stays p fs zero w o = refl
  many_stays p fs (suc n) w o = rw o refl

  -- a turn takes a token
  abbrev pub Shrinks : {A : Type 0} → (List l.Token → Outcome l A) → List ℕ → Type 0
  Shrinks {A} p fs = (w : List l.Token) (x : A) (r : List l.Token) → has (ahead l w 0) fs ≡ true → p w ≡ Ok (x, r) → length r < length w

  pub no_first : (w : List l.Token) (fs : List ℕ) → length w ≤ 0 → has 0 fs ≡ false → has (ahead l w 0) fs ≡ false
  no_first [] fs le z = z
  no_first (t ∷ w) fs le z = absurd (omega arith)

  pub steady : {A : Type 0} (p : List l.Token → Outcome l A) (fs : List ℕ) → has 0 fs ≡ false → Shrinks p fs → (m n : ℕ) (w : List l.Token) → length w ≤ m → length w ≤ n → many_at l p fs m w ≡ many_at l p fs n w
  steady p fs z sh zero n w a b = sym (many_stays p fs n w (no_first w fs a z))
  steady p fs z sh (suc m) zero w a b = many_stays p fs (suc m) w (no_first w fs b z)
  steady {A} p fs z sh (suc m) (suc n) w a b = elim (true_or_false (has (ahead l w 0) fs)) [
    | inl e ↦ rw e (steady_turn p fs (λ r. many_at l p fs m r) (λ r. many_at l p fs n r) (p w) (λ x r f. steady p fs z sh m n r (omega (arith, sh w x r e f)) (omega (arith, sh w x r e f))))
    | inr e ↦ rw e refl
  ]

  pub many_step : {A : Type 0} (p : List l.Token → Outcome l A) (fs : List ℕ) → has 0 fs ≡ false → Shrinks p fs → (w : List l.Token) (x : A) (r : List l.Token) (o : Outcome l (List A))
      → has (ahead l w 0) fs ≡ true → p w ≡ Ok (x, r) → many_at l p fs (length r) r ≡ o → many_at l p fs (length w) w ≡ and_then l o (λ xs s. Ok (x ∷ xs, s))
  many_step p fs z sh [] x r o e f q = absurd (cc)
  many_step p fs z sh (t ∷ w) x r o e f q =
      let small = sh (t ∷ w) x r e f in
      let same = steady p fs z sh (length w) (length r) r (omega (arith, small)) (omega arith) in
      rw (e, f, same, q) refl

  pub many_err : {A : Type 0} (p : List l.Token → Outcome l A) (fs : List ℕ) → has 0 fs ≡ false → (w : List l.Token) (i : Stop) → has (ahead l w 0) fs ≡ true → p w ≡ Err i → many_at l p fs (length w) w ≡ Err i
  many_err p fs z [] i e f = absurd (cc)
  many_err p fs z (t ∷ w) i e f = rw (e, f) refl
