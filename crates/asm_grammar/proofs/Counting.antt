-- How many tokens reading leaves, and that it goes no less far where more tokens follow.
use Rattle.std.proofs.Common.{◌≡◌, ℕ, ◌≤◌, zero, suc, Bool, true, false, not, ◌||◌, ◌&&◌, if◌then◌else◌, ◌==◌, List, [], ◌∷◌, ◌++◌, ◌⊎◌, inl, inr, length, refl, ap, arith, sym, ◌∙◌, subst, length-append, Ok, Err}
use Rattle.asm_grammar.specs.declared.Stop.TheVariants.{Memory, Syntax, TooDeep}
use Rattle.asm_grammar.specs.Grammar.{Language, has, word, nothing, both, either, many, shown, opening, Bodies, Grammar, Outcome, Readers, ahead, and_then, firsts, is_empty, kind, many_at, read, reader}
use Rattle.asm_grammar.proofs.Sets.{and_left, and_right, not_true, or_true, or_right, none_left, none_right}
use Rattle.asm_grammar.proofs.Theory.{is_good}

true_or_false : (a : Bool) → (a ≡ true) ⊎ (a ≡ false)
true_or_false true = inl refl
true_or_false false = inr refl

split_has : (k : ℕ) (xs ys : List ℕ) → has k (xs ++ ys) ≡ true → has k xs ≡ false → has k ys ≡ true
split_has k [] ys h f = h
split_has k (x ∷ xs) ys h f = go (λ a b. split_has k xs ys a b) (k == x) h f
  where
    go : (has k (xs ++ ys) ≡ true → has k xs ≡ false → has k ys ≡ true) → (b : Bool) → (b || has k (xs ++ ys)) ≡ true → (b || has k xs) ≡ false → has k ys ≡ true
    go rest true h f = absurd (cc (f))
    go rest false h f = rest h f

when_has : (k : ℕ) (b : Bool) (xs : List ℕ) → has k (if b then xs else []) ≡ true → (b ≡ true) × (has k xs ≡ true)
when_has k true xs h = (refl, h)
when_has k false xs h = absurd (cc (h))

if_no : {A : Type 0} (b : Bool) (x y : A) → b ≡ false → (if b then x else y) ≡ y
if_no true x y e = absurd (cc (e))
if_no false x y e = refl

if_yes : {A : Type 0} (b : Bool) (x y : A) → b ≡ true → (if b then x else y) ≡ x
if_yes true x y e = refl
if_yes false x y e = absurd (cc (e))

module _ (l : Language) where
  abbrev Tokens : Type 0
  Tokens = List l.Token

  -- no more than n tokens are left
  abbrev pub Within : {A : Type 0} → ℕ → Outcome l A → Type 0
  Within n (Ok p) = length p.1 ≤ n
  Within n (Err Memory) = Unit {0}
  Within n (Err (Syntax k)) = k ≤ n
  Within n (Err (TooDeep k)) = Unit {0}

  -- no more than n + 1 tokens are left, and not the first of them is refused
  abbrev pub GoesOn : {A : Type 0} → ℕ → Outcome l A → Type 0
  GoesOn n (Ok p) = length p.1 ≤ suc n
  GoesOn n (Err Memory) = Unit {0}
  GoesOn n (Err (Syntax k)) = k ≤ n
  GoesOn n (Err (TooDeep k)) = Unit {0}

  within_more : {A : Type 0} (m n : ℕ) → m ≤ n → (o : Outcome l A) → Within m o → Within n o
  within_more m n le (Ok p) h = omega (arith, le, h)
  within_more m n le (Err Memory) h = tt
  within_more m n le (Err (Syntax k)) h = omega (arith, le, h)
  within_more m n le (Err (TooDeep k)) h = tt

  within_goes : {A : Type 0} (m n : ℕ) → m ≤ n → (o : Outcome l A) → Within m o → GoesOn n o
  within_goes m n le (Ok p) h = omega (arith, le, h)
  within_goes m n le (Err Memory) h = tt
  within_goes m n le (Err (Syntax k)) h = omega (arith, le, h)
  within_goes m n le (Err (TooDeep k)) h = tt

  goes_more : {A : Type 0} (m n : ℕ) → m ≤ n → (o : Outcome l A) → GoesOn m o → GoesOn n o
  goes_more m n le (Ok p) h = omega (arith, le, h)
  goes_more m n le (Err Memory) h = tt
  goes_more m n le (Err (Syntax k)) h = omega (arith, le, h)
  goes_more m n le (Err (TooDeep k)) h = tt

  within_then : {A B : Type 0} (n : ℕ) (o : Outcome l A) (f : A → Tokens → Outcome l B) → Within n o → ((x : A) (r : Tokens) → length r ≤ n → Within n (f x r)) → Within n (and_then l o f)
  within_then n (Ok p) f h g = g p.0 p.1 h
  within_then n (Err Memory) f h g = tt
  within_then n (Err (Syntax k)) f h g = h
  within_then n (Err (TooDeep k)) f h g = tt

  goes_then : {A B : Type 0} (n : ℕ) (o : Outcome l A) (f : A → Tokens → Outcome l B) → GoesOn n o → ((x : A) (r : Tokens) → length r ≤ suc n → GoesOn n (f x r)) → GoesOn n (and_then l o f)
  goes_then n (Ok p) f h g = g p.0 p.1 h
  goes_then n (Err Memory) f h g = tt
  goes_then n (Err (Syntax k)) f h g = h
  goes_then n (Err (TooDeep k)) f h g = tt

  -- what an answer came from
  pub came_from : {A B : Type 0} (o : Outcome l A) (f : A → Tokens → Outcome l B) (z : B × Tokens) → and_then l o f ≡ Ok z → (x : A) × (r : Tokens) × (o ≡ Ok (x, r)) × (f x r ≡ Ok z)
  came_from (Ok p) f z e = (p.0, p.1, refl, e)
  came_from (Err i) f z e = absurd (cc (e))

  pub parts : {A : Type 0} (x y : A) (r s : Tokens) → ◌≡◌ {A = Outcome l A} (Ok (x, r)) (Ok (y, s)) → (x ≡ y) × (r ≡ s)
  parts {A} x y r s e = let p : A × Tokens = (x, r) in let q : A × Tokens = (y, s) in let g : p ≡ q = cc (e) in (ap (λ z. z.0) g, ap (λ z. z.1) g)

  within_ok : {A : Type 0} (n : ℕ) (o : Outcome l A) (y : A) (r : Tokens) → Within n o → o ≡ Ok (y, r) → length r ≤ n
  within_ok n o y r h e = subst (Within n) e h

  -- ---- bounds

  abbrev pub Bounded : Readers l → Type 0
  Bounded i = (x : l.Inside) (t : l.Token) (w : Tokens) → Within (length w) (i x (t ∷ w))

  many_bound : {A : Type 0} (p : Tokens → Outcome l A) (fs : List ℕ) → ((w : Tokens) → Within (length w) (p w)) → (n : ℕ) (w : Tokens) → Within (length w) (many_at l p fs n w)
  many_bound p fs b zero w = omega arith
  many_bound {A} p fs b (suc n) w = go (λ r. many_bound p fs b n r) (has (ahead l w 0) fs)
    where
      rest : (x : A) (r : Tokens) → length r ≤ length w → Within (length w) (many_at l p fs n r) → Within (length w) (and_then l {B = List A} (many_at l p fs n r) (λ xs s. Ok (x ∷ xs, s)))
      rest x r le h = within_then {B = List A} (length w) (many_at l p fs n r) (λ xs s. Ok (x ∷ xs, s)) h (λ xs s q. q)

      go : ((r : Tokens) → Within (length r) (many_at l p fs n r)) → (c : Bool) → Within (length w) (if c then and_then l (p w) (λ x r. and_then l {B = List A} (many_at l p fs n r) (λ xs s. Ok (x ∷ xs, s))) else Ok ([], w))
      go inner true = within_then {B = List A} (length w) (p w) (λ x r. and_then l {B = List A} (many_at l p fs n r) (λ xs s. Ok (x ∷ xs, s))) (b w) (λ x r le. rest x r le (within_more (length r) (length w) le (many_at l p fs n r) (inner r)))
      go inner false = omega arith

  -- a list whose first item is one takes the first token
  many_past : {A : Type 0} (p : Tokens → Outcome l A) (fs : List ℕ) → ((w : Tokens) → Within (length w) (p w)) → (n : ℕ) (b : l.Token) (w : Tokens) → has (kind l b) fs ≡ true → Within (length w) (p (b ∷ w)) → Within (length w) (many_at l p fs (suc n) (b ∷ w))
  many_past {A} p fs bd n b w h f = subst (λ (o : Outcome l (List A)). Within (length w) o)
      (sym (if_yes (has (kind l b) fs) (and_then l (p (b ∷ w)) (λ x r. and_then l {B = List A} (many_at l p fs n r) (λ xs s. Ok (x ∷ xs, s)))) (Ok ([], b ∷ w)) h))
      (within_then {B = List A} (length w) (p (b ∷ w)) (λ x r. and_then l {B = List A} (many_at l p fs n r) (λ xs s. Ok (x ∷ xs, s))) f
      (λ x r le. within_then {B = List A} (length w) (many_at l p fs n r) (λ xs s. Ok (x ∷ xs, s)) (within_more (length r) (length w) le (many_at l p fs n r) (many_bound p fs bd n r)) (λ xs s q. q)))

  none_left_over : (r : Tokens) → length r ≤ 0 → r ≡ []
  none_left_over [] le = refl
  none_left_over (t ∷ r) le = absurd (omega arith)

  module _ (i : Readers l) (bounded : Bounded i) where
    pub bound : {A : Type 0} (g : Grammar l A) (w : Tokens) → Within (length w) (read l i g w)
    bound (word ks) [] = omega arith
    bound (word ks) (t ∷ r) = go (has (kind l t) ks)
      where
        go : (c : Bool) → Within (suc (length r)) (if c then Ok (t, r) else Err (Syntax (suc (length r))))
        go true = omega arith
        go false = omega arith
    bound (nothing ks a) w = omega arith
    bound (both {A} {B} g h) w = within_then {B = A × B} (length w) (read l i g w) (λ x r. and_then l (read l i h r) (λ y s. Ok ((x, y), s))) (bound g w)
        (λ x r le. within_then {B = A × B} (length w) (read l i h r) (λ y s. Ok ((x, y), s)) (within_more (length r) (length w) le (read l i h r) (bound h r)) (λ y s q. q))
    bound (either g h) w = go (has (ahead l w 0) (firsts l g)) (bound g w) (bound h w)
      where
        go : (c : Bool) → Within (length w) (read l i g w) → Within (length w) (read l i h w) → Within (length w) (if c then read l i g w else read l i h w)
        go true a b = a
        go false a b = b
    bound (many g) w = many_bound (read l i g) (firsts l g) (λ v. bound g v) (length w) w
    bound (shown f g) w = within_then (length w) (read l i g w) (λ x r. Ok (f x, r)) (bound g w) (λ x r q. q)
    bound (opening ks x) [] = omega arith
    bound (opening ks x) (t ∷ r) = go (has (kind l t) ks)
      where
        go : (c : Bool) → Within (suc (length r)) (if c then and_then l {B = l.Token × l.Value x} (i x (t ∷ r)) (λ y s. Ok ((t, y), s)) else Err (Syntax (suc (length r))))
        go true = within_then {B = l.Token × l.Value x} (suc (length r)) (i x (t ∷ r)) (λ y s. Ok ((t, y), s)) (within_more (length r) (suc (length r)) (omega arith) (i x (t ∷ r)) (bounded x t r)) (λ y s q. q)
        go false = omega arith

    module _ (table late : l.Inside → List ℕ) where
      abbrev good : {A : Type 0} → Grammar l A → Type 0
      good g = is_good l table late g ≡ true

      good_left : {A B : Type 0} (g : Grammar l A) (h : Grammar l B) → good (both g h) → good g
      good_left g h e = and_left (is_good l table late g) _ e

      good_right : {A B : Type 0} (g : Grammar l A) (h : Grammar l B) → good (both g h) → good h
      good_right g h e = and_left (is_good l table late h) _ (and_right (is_good l table late g) _ e)

      one_good : {A : Type 0} (g h : Grammar l A) → good (either g h) → good g
      one_good g h e = and_left (is_good l table late g) _ e

      other_good : {A : Type 0} (g h : Grammar l A) → good (either g h) → good h
      other_good g h e = and_left (is_good l table late h) _ (and_right (is_good l table late g) _ e)

      no_empty : {A : Type 0} (g h : Grammar l A) → good (either g h) → is_empty l g ≡ false
      no_empty g h e = not_true (is_empty l g) (and_left (not (is_empty l g)) _ (and_right (is_good l table late h) _ (and_right (is_good l table late g) _ e)))

      item_good : {A : Type 0} (g : Grammar l A) → good (many g) → good g
      item_good g e = and_left (is_good l table late g) _ e

      no_item_empty : {A : Type 0} (g : Grammar l A) → good (many g) → is_empty l g ≡ false
      no_item_empty g e = not_true (is_empty l g) (and_left (not (is_empty l g)) _ (and_right (is_good l table late g) _ e))

      -- ---- what reads nothing, where the first token doesn't begin it

      skips_many : {A : Type 0} (p : Tokens → Outcome l A) (fs : List ℕ) (w : Tokens) → has (ahead l w 0) fs ≡ false → many_at l p fs (length w) w ≡ Ok ([], w)
      skips_many p fs [] f = refl
      skips_many p fs (t ∷ r) f = rw f refl

      skips : {A : Type 0} (g : Grammar l A) → good g → (w : Tokens) → is_empty l g ≡ true → has (ahead l w 0) (firsts l g) ≡ false → (y : A) × (read l i g w ≡ Ok (y, w))
      skips (word ks) gd w e f = absurd (cc (e))
      skips (nothing ks a) gd w e f = (a, refl)
      skips (both g h) gd w e f =
          let e1 = and_left (is_empty l g) (is_empty l h) e in
          let e2 = and_right (is_empty l g) (is_empty l h) e in
          let f1 = none_left (ahead l w 0) (firsts l g) (if is_empty l g then firsts l h else []) f in
          let f2 = none_right (ahead l w 0) (firsts l g) (if is_empty l g then firsts l h else []) f in
          let f3 : has (ahead l w 0) (firsts l h) ≡ false = subst (λ (b : Bool). has (ahead l w 0) (if b then firsts l h else []) ≡ false) e1 f2 in
          let a = skips g (good_left g h gd) w e1 f1 in
          let b = skips h (good_right g h gd) w e2 f3 in
          ((a.0, b.0), rw (a.1, b.1) refl)
      skips (either g h) gd w e f =
          let n = no_empty g h gd in
          let e2 : is_empty l h ≡ true = elim (or_true (is_empty l g) (is_empty l h) e) [ inl q ↦ absurd (cc (q, n)) | inr q ↦ q ] in
          let b = skips h (other_good g h gd) w e2 (none_right (ahead l w 0) (firsts l g) (firsts l h) f) in
          (b.0, if_no (has (ahead l w 0) (firsts l g)) (read l i g w) (read l i h w) (none_left (ahead l w 0) (firsts l g) (firsts l h) f) ∙ b.1)
      skips (many g) gd w e f = ([], skips_many (read l i g) (firsts l g) w f)
      skips (shown h g) gd w e f = let a = skips g gd w e f in (h a.0, rw a.1 refl)
      skips (opening ks x) gd w e f = absurd (cc (e))

      -- ---- what begins with one of its first tokens reads it

      past : {A : Type 0} (g : Grammar l A) → good g → (b : l.Token) (w : Tokens) → has (kind l b) (firsts l g) ≡ true → Within (length w) (read l i g (b ∷ w))
      past (word ks) gd b w h = subst (λ (o : Outcome l l.Token). Within (length w) o) (sym (if_yes (has (kind l b) ks) (Ok (b, w)) (Err (Syntax (suc (length w)))) h)) (omega arith)
      past (nothing ks a) gd b w h = absurd (cc (h))
      past (both {A} {B} g h) gd b w e = elim (true_or_false (has (kind l b) (firsts l g))) [
        | inl q ↦ within_then {B = A × B} (length w) (read l i g (b ∷ w)) (λ x r. and_then l (read l i h r) (λ y s. Ok ((x, y), s))) (past g (good_left g h gd) b w q)
            (λ x r le. within_then {B = A × B} (length w) (read l i h r) (λ y s. Ok ((x, y), s)) (within_more (length r) (length w) le (read l i h r) (bound h r)) (λ y s q. q))
        | inr q ↦ (
            let c = when_has (kind l b) (is_empty l g) (firsts l h) (split_has (kind l b) (firsts l g) (if is_empty l g then firsts l h else []) e q) in
            let a = skips g (good_left g h gd) (b ∷ w) c.0 q in
            subst (λ (o : Outcome l A). Within {A = A × B} (length w) (and_then l o (λ x r. and_then l (read l i h r) (λ y s. Ok ((x, y), s))))) (sym a.1)
            (within_then {B = A × B} (length w) (read l i h (b ∷ w)) (λ y s. Ok ((a.0, y), s)) (past h (good_right g h gd) b w c.1) (λ y s q. q)))
      ]
      past {A} (either g h) gd b w e = elim (true_or_false (has (kind l b) (firsts l g))) [
        | inl q ↦ subst (λ (o : Outcome l A). Within (length w) o) (sym (if_yes (has (kind l b) (firsts l g)) (read l i g (b ∷ w)) (read l i h (b ∷ w)) q)) (past g (one_good g h gd) b w q)
        | inr q ↦ subst (λ (o : Outcome l A). Within (length w) o) (sym (if_no (has (kind l b) (firsts l g)) (read l i g (b ∷ w)) (read l i h (b ∷ w)) q)) (past h (other_good g h gd) b w (split_has (kind l b) (firsts l g) (firsts l h) e q))
      ]
      past (many g) gd b w h = many_past (read l i g) (firsts l g) (λ v. bound g v) (length w) b w h (past g (item_good g gd) b w h)
      past (shown f g) gd b w h = within_then (length w) (read l i g (b ∷ w)) (λ x r. Ok (f x, r)) (past g gd b w h) (λ x r q. q)
      past (opening ks x) gd b w h = subst (λ (o : Outcome l (l.Token × l.Value x)). Within (length w) o) (sym (if_yes (has (kind l b) ks) (and_then l {B = l.Token × l.Value x} (i x (b ∷ w)) (λ y s. Ok ((b, y), s))) (Err (Syntax (suc (length w)))) h))
          (within_then {B = l.Token × l.Value x} (length w) (i x (b ∷ w)) (λ y s. Ok ((b, y), s)) (bounded x b w) (λ y s q. q))

      -- ---- what reads something reads nothing of no tokens

      nothing_read : {A : Type 0} (g : Grammar l A) → good g → is_empty l g ≡ false → (y : A) (r : Tokens) → read l i g [] ≡ Ok (y, r) → ⊥
      nothing_read (word ks) gd e y r q = cc (q)
      nothing_read (nothing ks a) gd e y r q = cc (e)
      nothing_read (both {A} {B} g h) gd e y r q =
          let c = came_from {B = A × B} (read l i g []) (λ x r. and_then l (read l i h r) (λ y s. Ok ((x, y), s))) (y, r) q in
          elim (true_or_false (is_empty l g)) [
            | inr f ↦ nothing_read g (good_left g h gd) f c.0 c.1 c.2
            | inl f ↦ (
                let k : is_empty l h ≡ false = subst (λ (b : Bool). (b && is_empty l h) ≡ false) f e in
                let n : c.1 ≡ [] = none_left_over c.1 (within_ok 0 (read l i g []) c.0 c.1 (bound g []) c.2) in
                let d = came_from {B = A × B} (read l i h c.1) (λ y s. Ok ((c.0, y), s)) (y, r) c.3 in
                nothing_read h (good_right g h gd) k d.0 d.1 (subst (λ (v : Tokens). read l i h v ≡ Ok (d.0, d.1)) n d.2))
          ]
      nothing_read (either g h) gd e y r q = go (λ c. nothing_read g (one_good g h gd) (no_empty g h gd) y r c) (λ c. nothing_read h (other_good g h gd) (or_right (is_empty l g) (is_empty l h) e) y r c) (has 0 (firsts l g)) q
        where
          go : (read l i g [] ≡ Ok (y, r) → ⊥) → (read l i h [] ≡ Ok (y, r) → ⊥) → (b : Bool) → (if b then read l i g [] else read l i h []) ≡ Ok (y, r) → ⊥
          go a b true q = a q
          go a b false q = b q
      nothing_read (many g) gd e y r q = cc (e)
      nothing_read (shown f g) gd e y r q = let c = came_from (read l i g []) (λ x r. Ok (f x, r)) (y, r) q in nothing_read g gd e c.0 c.1 c.2
      nothing_read (opening ks x) gd e y r q = cc (q)

      -- ---- where tokens are left, more tokens change nothing

      abbrev pub Replays : {A : Type 0} → (Tokens → Outcome l A) → Type 0
      Replays {A} p = (w : Tokens) (y : A) (c : l.Token) (r : Tokens) → p w ≡ Ok (y, c ∷ r) → (s : Tokens) → p (w ++ s) ≡ Ok (y, (c ∷ r) ++ s)

      -- where none is left, no refusal comes at the first of more tokens
      abbrev pub Extends : {A : Type 0} → (Tokens → Outcome l A) → Type 0
      Extends {A} p = (w : Tokens) (y : A) → p w ≡ Ok (y, []) → (b : l.Token) (s : Tokens) → GoesOn (length s) (p (w ++ b ∷ s))

      some_left : {A : Type 0} (o : Outcome l A) (w : Tokens) (y : A) (c : l.Token) (r : Tokens) → Within (length w) o → o ≡ Ok (y, c ∷ r) → w ≡ [] → ⊥
      some_left o w y c r h e n = let le = within_ok (length w) o y (c ∷ r) h e in let k : length w ≡ 0 = ap length n in omega (arith, le, k)

      module _ {A : Type 0} (p : Tokens → Outcome l A) (fs : List ℕ) (bd : (w : Tokens) → Within (length w) (p w)) (progress : (b : l.Token) (w : Tokens) → has (kind l b) fs ≡ true → Within (length w) (p (b ∷ w))) where
        abbrev turn : ℕ → A → Tokens → Outcome l (List A)
        turn n x r = and_then l (many_at l p fs n r) (λ xs s. Ok (x ∷ xs, s))

        replay_many : Replays p → (n : ℕ) (w : Tokens) → length w ≤ n → (xs : List A) (c : l.Token) (r : Tokens) → many_at l p fs n w ≡ Ok (xs, c ∷ r) → (s : Tokens) (m : ℕ) → length (w ++ s) ≤ m → many_at l p fs m (w ++ s) ≡ Ok (xs, (c ∷ r) ++ s)
        replay_many rp n [] le xs c r e s m k = absurd (some_left (many_at l p fs n []) [] xs c r (many_bound p fs bd n []) e refl)
        replay_many rp zero (t ∷ q) le xs c r e s m k = absurd (omega arith)
        replay_many rp (suc n) (t ∷ q) le xs c r e s zero k = absurd (omega arith)
        replay_many rp (suc n) (t ∷ q) le xs c r e s (suc m) k = elim (true_or_false (has (kind l t) fs)) [
          | inr f ↦ (
              let g = parts [] xs (t ∷ q) (c ∷ r) (sym (if_no (has (kind l t) fs) (and_then l (p (t ∷ q)) (turn n)) (Ok ([], t ∷ q)) f) ∙ e) in
              if_no (has (kind l t) fs) (and_then l (p ((t ∷ q) ++ s)) (turn m)) (Ok ([], (t ∷ q) ++ s)) f ∙ ap (λ (z : List A). Ok (z, (t ∷ q) ++ s)) g.0 ∙ ap (λ (z : Tokens). Ok (xs, z ++ s)) g.1)
          | inl f ↦ (
              let d = came_from (p (t ∷ q)) (turn n) (xs, c ∷ r) (sym (if_yes (has (kind l t) fs) (and_then l (p (t ∷ q)) (turn n)) (Ok ([], t ∷ q)) f) ∙ e) in
              let g = came_from (many_at l p fs n d.1) (λ ys z. Ok (d.0 ∷ ys, z)) (xs, c ∷ r) d.3 in
              let h = parts (d.0 ∷ g.0) xs g.1 (c ∷ r) g.3 in
              let short : length d.1 ≤ length q = within_ok (length q) (p (t ∷ q)) d.0 d.1 (progress t q f) d.2 in
              let inner : many_at l p fs n d.1 ≡ Ok (g.0, c ∷ r) = g.2 ∙ ap (λ (z : Tokens). Ok (g.0, z)) h.1 in
              if_yes (has (kind l t) fs) (and_then l (p ((t ∷ q) ++ s)) (turn m)) (Ok ([], (t ∷ q) ++ s)) f
              ∙ go d.0 d.1 d.2 g.0 short inner (λ u v. replay_many rp n d.1 u g.0 c r inner s m v) (ap (λ (z : List A). Ok (z, (c ∷ r) ++ s)) h.0))
        ]
          where
            go : (x : A) (r1 : Tokens) → p (t ∷ q) ≡ Ok (x, r1) → (ys : List A) → length r1 ≤ length q → many_at l p fs n r1 ≡ Ok (ys, c ∷ r) → (length r1 ≤ n → length (r1 ++ s) ≤ m → many_at l p fs m (r1 ++ s) ≡ Ok (ys, (c ∷ r) ++ s))
                → ◌≡◌ {A = Outcome l (List A)} (Ok (x ∷ ys, (c ∷ r) ++ s)) (Ok (xs, (c ∷ r) ++ s)) → and_then l (p ((t ∷ q) ++ s)) (turn m) ≡ Ok (xs, (c ∷ r) ++ s)
            go x [] a ys short inner rest last = absurd (some_left (many_at l p fs n []) [] ys c r (many_bound p fs bd n []) inner refl)
            go x (d ∷ r1) a ys short inner rest last =
                let b = rp (t ∷ q) x d r1 a s in
                let e2 = rest (omega arith) (omega (arith, length-append (d ∷ r1) s, length-append (t ∷ q) s)) in
                ap (λ (o : Outcome l A). and_then l o (turn m)) b ∙ ap (λ (o : Outcome l (List A)). and_then l o (λ zs z. Ok (x ∷ zs, z))) e2 ∙ last

        -- a list where no more than so many tokens follow
        goes_many : (n : ℕ) (r : Tokens) (m : ℕ) → length r ≤ suc m → GoesOn m (many_at l p fs n r)
        goes_many n [] m le = within_goes 0 m (omega arith) (many_at l p fs n []) (many_bound p fs bd n [])
        goes_many zero (d ∷ r) m le = le
        goes_many (suc n) (d ∷ r) m le = elim (true_or_false (has (kind l d) fs)) [
          | inl f ↦ within_goes (length r) m (omega arith) (many_at l p fs (suc n) (d ∷ r)) (many_past p fs bd n d r f (progress d r f))
          | inr f ↦ subst (λ (o : Outcome l (List A)). GoesOn m o) (sym (if_no (has (kind l d) fs) (and_then l (p (d ∷ r)) (turn n)) (Ok ([], d ∷ r)) f)) le
        ]

        turn_goes : (n m : ℕ) (x : A) (r : Tokens) → length r ≤ suc m → GoesOn m (turn n x r)
        turn_goes n m x r le = goes_then {B = List A} m (many_at l p fs n r) (λ xs s. Ok (x ∷ xs, s)) (goes_many n r m le) (λ xs s q. q)

        extend_many : Replays p → Extends p → (n : ℕ) (w : Tokens) → length w ≤ n → (xs : List A) → many_at l p fs n w ≡ Ok (xs, []) → (b : l.Token) (s : Tokens) (m : ℕ) → length (w ++ b ∷ s) ≤ m → GoesOn (length s) (many_at l p fs m (w ++ b ∷ s))
        extend_many rp ex n [] le xs e b s m k = goes_many m (b ∷ s) (length s) (omega arith)
        extend_many rp ex zero (t ∷ q) le xs e b s m k = absurd (omega arith)
        extend_many rp ex (suc n) (t ∷ q) le xs e b s zero k = absurd (omega arith)
        extend_many rp ex (suc n) (t ∷ q) le xs e b s (suc m) k = elim (true_or_false (has (kind l t) fs)) [
          | inr f ↦ (
              let g = parts [] xs (t ∷ q) [] (sym (if_no (has (kind l t) fs) (and_then l (p (t ∷ q)) (turn n)) (Ok ([], t ∷ q)) f) ∙ e) in
              absurd (cc (g.1)))
          | inl f ↦ (
              let d = came_from (p (t ∷ q)) (turn n) (xs, []) (sym (if_yes (has (kind l t) fs) (and_then l (p (t ∷ q)) (turn n)) (Ok ([], t ∷ q)) f) ∙ e) in
              let g = came_from (many_at l p fs n d.1) (λ ys z. Ok (d.0 ∷ ys, z)) (xs, []) d.3 in
              let h = parts (d.0 ∷ g.0) xs g.1 [] g.3 in
              let short : length d.1 ≤ length q = within_ok (length q) (p (t ∷ q)) d.0 d.1 (progress t q f) d.2 in
              let inner : many_at l p fs n d.1 ≡ Ok (g.0, []) = g.2 ∙ ap (λ (z : Tokens). Ok (g.0, z)) h.1 in
              subst (λ (o : Outcome l (List A)). GoesOn (length s) o) (sym (if_yes (has (kind l t) fs) (and_then l (p ((t ∷ q) ++ b ∷ s)) (turn m)) (Ok ([], (t ∷ q) ++ b ∷ s)) f))
              (go d.0 d.1 d.2 short (λ u v. extend_many rp ex n d.1 u g.0 inner b s m v)))
        ]
          where
            go : (x : A) (r1 : Tokens) → p (t ∷ q) ≡ Ok (x, r1) → length r1 ≤ length q → (length r1 ≤ n → length (r1 ++ b ∷ s) ≤ m → GoesOn (length s) (many_at l p fs m (r1 ++ b ∷ s))) → GoesOn (length s) (and_then l (p ((t ∷ q) ++ b ∷ s)) (turn m))
            go x [] a short rest = goes_then {B = List A} (length s) (p ((t ∷ q) ++ b ∷ s)) (turn m) (ex (t ∷ q) x a b s) (λ y r le. turn_goes m (length s) y r le)
            go x (d ∷ r1) a short rest =
                let c = rp (t ∷ q) x d r1 a (b ∷ s) in
                let e2 = rest (omega arith) (omega (arith, length-append (d ∷ r1) (b ∷ s), length-append (t ∷ q) (b ∷ s))) in
                subst (λ (o : Outcome l A). GoesOn (length s) (and_then l o (turn m))) (sym c) (goes_then {B = List A} (length s) (many_at l p fs m ((d ∷ r1) ++ b ∷ s)) (λ zs z. Ok (x ∷ zs, z)) e2 (λ xs z h. h))

      abbrev pub InnerReplays : Type 0
      InnerReplays = (x : l.Inside) (t : l.Token) (w : Tokens) (y : l.Value x) (c : l.Token) (r : Tokens) → i x (t ∷ w) ≡ Ok (y, c ∷ r) → (s : Tokens) → i x (t ∷ (w ++ s)) ≡ Ok (y, (c ∷ r) ++ s)

      abbrev pub InnerExtends : Type 0
      InnerExtends = (x : l.Inside) (t : l.Token) (w : Tokens) (y : l.Value x) → i x (t ∷ w) ≡ Ok (y, []) → (b : l.Token) (s : Tokens) → GoesOn (length s) (i x (t ∷ (w ++ b ∷ s)))

      module _ (replays : InnerReplays) where
        pub replay : {A : Type 0} (g : Grammar l A) → good g → Replays (read l i g)
        replay (word ks) gd [] y c r e s = absurd (cc (e))
        replay (word ks) gd (t ∷ q) y c r e s = elim (true_or_false (has (kind l t) ks)) [
          | inl f ↦ (
              let g = parts t y q (c ∷ r) (sym (if_yes (has (kind l t) ks) (Ok (t, q)) (Err (Syntax (suc (length q)))) f) ∙ e) in
              if_yes (has (kind l t) ks) (Ok (t, q ++ s)) (Err (Syntax (suc (length (q ++ s))))) f ∙ ap (λ (z : l.Token). Ok (z, q ++ s)) g.0 ∙ ap (λ (z : Tokens). Ok (y, z ++ s)) g.1)
          | inr f ↦ (let g = sym (if_no (has (kind l t) ks) (Ok (t, q)) (Err (Syntax (suc (length q)))) f) ∙ e in absurd (cc (g)))
        ]
        replay (nothing ks a) gd w y c r e s = let g = parts a y w (c ∷ r) e in ap (λ z. Ok (z, w ++ s)) g.0 ∙ ap (λ (z : Tokens). Ok (y, z ++ s)) g.1
        replay (both {A} {B} g h) gd w y c r e s =
            let d = came_from {B = A × B} (read l i g w) (λ x r. and_then l (read l i h r) (λ y s. Ok ((x, y), s))) (y, c ∷ r) e in
            let k = came_from {B = A × B} (read l i h d.1) (λ y s. Ok ((d.0, y), s)) (y, c ∷ r) d.3 in
            let n = parts (d.0, k.0) y k.1 (c ∷ r) k.3 in
            let inner : read l i h d.1 ≡ Ok (k.0, c ∷ r) = k.2 ∙ ap (λ (z : Tokens). Ok (k.0, z)) n.1 in
            go d.0 d.1 d.2 k.0 inner n.0 (λ u v q. replay g (good_left g h gd) w d.0 u v q s) (λ u v q. replay h (good_right g h gd) (u ∷ v) k.0 c r q s)
          where
            go : (x : A) (r1 : Tokens) → read l i g w ≡ Ok (x, r1) → (z : B) → read l i h r1 ≡ Ok (z, c ∷ r) → ◌≡◌ {A = A × B} (x, z) y
                → ((u : l.Token) (v : Tokens) → read l i g w ≡ Ok (x, u ∷ v) → read l i g (w ++ s) ≡ Ok (x, (u ∷ v) ++ s)) → ((u : l.Token) (v : Tokens) → read l i h (u ∷ v) ≡ Ok (z, c ∷ r) → read l i h ((u ∷ v) ++ s) ≡ Ok (z, (c ∷ r) ++ s))
                → and_then l {B = A × B} (read l i g (w ++ s)) (λ x r. and_then l (read l i h r) (λ y s. Ok ((x, y), s))) ≡ Ok (y, (c ∷ r) ++ s)
            go x [] a z inner last f k = absurd (some_left (read l i h []) [] z c r (bound h []) inner refl)
            go x (u ∷ v) a z inner last f k =
                ap (λ (o : Outcome l A). and_then l {B = A × B} o (λ x r. and_then l (read l i h r) (λ y s. Ok ((x, y), s)))) (f u v a) ∙ ap (λ (o : Outcome l B). and_then l {B = A × B} o (λ y s. Ok ((x, y), s))) (k u v inner) ∙ ap (λ (q : A × B). Ok (q, (c ∷ r) ++ s)) last
        replay (either g h) gd [] y c r e s = absurd (some_left (read l i (either g h) []) [] y c r (bound (either g h) []) e refl)
        replay (either g h) gd (t ∷ q) y c r e s = go (λ z. replay g (one_good g h gd) (t ∷ q) y c r z s) (λ z. replay h (other_good g h gd) (t ∷ q) y c r z s) (has (kind l t) (firsts l g)) e
          where
            go : (read l i g (t ∷ q) ≡ Ok (y, c ∷ r) → read l i g ((t ∷ q) ++ s) ≡ Ok (y, (c ∷ r) ++ s)) → (read l i h (t ∷ q) ≡ Ok (y, c ∷ r) → read l i h ((t ∷ q) ++ s) ≡ Ok (y, (c ∷ r) ++ s))
                → (b : Bool) → (if b then read l i g (t ∷ q) else read l i h (t ∷ q)) ≡ Ok (y, c ∷ r) → (if b then read l i g ((t ∷ q) ++ s) else read l i h ((t ∷ q) ++ s)) ≡ Ok (y, (c ∷ r) ++ s)
            go a b true e = a e
            go a b false e = b e
        replay (many g) gd w y c r e s = replay_many (read l i g) (firsts l g) (λ v. bound g v) (λ b v h. past g (item_good g gd) b v h) (replay g (item_good g gd)) (length w) w (omega arith) y c r e s (length (w ++ s)) (omega arith)
        replay (shown f g) gd w y c r e s =
            let d = came_from (read l i g w) (λ x r. Ok (f x, r)) (y, c ∷ r) e in
            let k = parts (f d.0) y d.1 (c ∷ r) d.3 in
            let a = replay g gd w d.0 c r (d.2 ∙ ap (λ (z : Tokens). Ok (d.0, z)) k.1) s in
            ap (λ o. and_then l o (λ x r. Ok (f x, r))) a ∙ ap (λ z. Ok (z, (c ∷ r) ++ s)) k.0
        replay (opening ks x) gd [] y c r e s = absurd (cc (e))
        replay (opening ks x) gd (t ∷ q) y c r e s = elim (true_or_false (has (kind l t) ks)) [
          | inl f ↦ (
              let d = came_from {B = l.Token × l.Value x} (i x (t ∷ q)) (λ y s. Ok ((t, y), s)) (y, c ∷ r) (sym (if_yes (has (kind l t) ks) (and_then l {B = l.Token × l.Value x} (i x (t ∷ q)) (λ y s. Ok ((t, y), s))) (Err (Syntax (suc (length q)))) f) ∙ e) in
              let k = parts (t, d.0) y d.1 (c ∷ r) d.3 in
              let a = replays x t q d.0 c r (d.2 ∙ ap (λ (z : Tokens). Ok (d.0, z)) k.1) s in
              if_yes (has (kind l t) ks) (and_then l {B = l.Token × l.Value x} (i x (t ∷ (q ++ s))) (λ y s. Ok ((t, y), s))) (Err (Syntax (suc (length (q ++ s))))) f
              ∙ ap (λ (o : Outcome l (l.Value x)). and_then l {B = l.Token × l.Value x} o (λ y s. Ok ((t, y), s))) a ∙ ap (λ (z : l.Token × l.Value x). Ok (z, (c ∷ r) ++ s)) k.0)
          | inr f ↦ (let g = sym (if_no (has (kind l t) ks) (and_then l {B = l.Token × l.Value x} (i x (t ∷ q)) (λ y s. Ok ((t, y), s))) (Err (Syntax (suc (length q)))) f) ∙ e in absurd (cc (g)))
        ]

        module _ (goes : InnerExtends) where
          pub extends : {A : Type 0} (g : Grammar l A) → good g → Extends (read l i g)
          extends (word ks) gd [] y e b s = absurd (cc (e))
          extends (word ks) gd (t ∷ q) y e b s = elim (true_or_false (has (kind l t) ks)) [
            | inl f ↦ (
                let g = parts t y q [] (sym (if_yes (has (kind l t) ks) (Ok (t, q)) (Err (Syntax (suc (length q)))) f) ∙ e) in
                let n : length q ≡ 0 = ap length g.1 in
                subst (λ (o : Outcome l l.Token). GoesOn (length s) o) (sym (if_yes (has (kind l t) ks) (Ok (t, q ++ b ∷ s)) (Err (Syntax (suc (length (q ++ b ∷ s))))) f)) (omega (arith, n, length-append q (b ∷ s))))
            | inr f ↦ (let g = sym (if_no (has (kind l t) ks) (Ok (t, q)) (Err (Syntax (suc (length q)))) f) ∙ e in absurd (cc (g)))
          ]
          extends (nothing ks a) gd w y e b s = let g = parts a y w [] e in let n : length w ≡ 0 = ap length g.1 in omega (arith, n, length-append w (b ∷ s))
          extends (both {A} {B} g h) gd w y e b s =
              let d = came_from {B = A × B} (read l i g w) (λ x r. and_then l (read l i h r) (λ y s. Ok ((x, y), s))) (y, []) e in
              let k = came_from {B = A × B} (read l i h d.1) (λ y s. Ok ((d.0, y), s)) (y, []) d.3 in
              let n = parts (d.0, k.0) y k.1 [] k.3 in
              let inner : read l i h d.1 ≡ Ok (k.0, []) = k.2 ∙ ap (λ (z : Tokens). Ok (k.0, z)) n.1 in
              go d.0 d.1 d.2 k.0 inner (λ q. extends g (good_left g h gd) w d.0 q b s) (λ u v q m z. extends h (good_right g h gd) u v q m z)
            where
              go : (x : A) (r1 : Tokens) → read l i g w ≡ Ok (x, r1) → (z : B) → read l i h r1 ≡ Ok (z, []) → (read l i g w ≡ Ok (x, []) → GoesOn (length s) (read l i g (w ++ b ∷ s)))
                  → ((u : Tokens) (v : B) → read l i h u ≡ Ok (v, []) → (m : l.Token) (z : Tokens) → GoesOn (length z) (read l i h (u ++ m ∷ z)))
                  → GoesOn (length s) (and_then l {B = A × B} (read l i g (w ++ b ∷ s)) (λ x r. and_then l (read l i h r) (λ y s. Ok ((x, y), s))))
              go x [] a z inner f k = goes_then {B = A × B} (length s) (read l i g (w ++ b ∷ s)) (λ x r. and_then l (read l i h r) (λ y s. Ok ((x, y), s))) (f a)
                  (λ x r le. goes_then {B = A × B} (length s) (read l i h r) (λ y s. Ok ((x, y), s)) (then_goes r le) (λ y s q. q))
                where
                  then_goes : (r : Tokens) → length r ≤ suc (length s) → GoesOn (length s) (read l i h r)
                  then_goes [] le = within_goes 0 (length s) (omega arith) (read l i h []) (bound h [])
                  then_goes (m ∷ r) le = goes_more (length r) (length s) (omega arith) (read l i h (m ∷ r)) (k [] z inner m r)
              go x (u ∷ v) a z inner f k =
                  let c = replay g (good_left g h gd) w x u v a (b ∷ s) in
                  subst (λ (o : Outcome l A). GoesOn {A = A × B} (length s) (and_then l o (λ x r. and_then l (read l i h r) (λ y s. Ok ((x, y), s))))) (sym c)
                  (goes_then {B = A × B} (length s) (read l i h ((u ∷ v) ++ b ∷ s)) (λ y s. Ok ((x, y), s)) (k (u ∷ v) z inner b s) (λ y s q. q))
          extends (either g h) gd [] y e b s = go (λ z. extends h (other_good g h gd) [] y z b s) (has 0 (firsts l g)) e
            where
              here : GoesOn (length s) (read l i h (b ∷ s)) → (c : Bool) → has (kind l b) (firsts l g) ≡ c → GoesOn (length s) (if c then read l i g (b ∷ s) else read l i h (b ∷ s))
              here f true q = within_goes (length s) (length s) (omega arith) (read l i g (b ∷ s)) (past g (one_good g h gd) b s q)
              here f false q = f

              go : (read l i h [] ≡ Ok (y, []) → GoesOn (length s) (read l i h (b ∷ s))) → (c : Bool) → (if c then read l i g [] else read l i h []) ≡ Ok (y, []) → GoesOn (length s) (if has (kind l b) (firsts l g) then read l i g (b ∷ s) else read l i h (b ∷ s))
              go f true e = absurd (nothing_read g (one_good g h gd) (no_empty g h gd) y [] e)
              go f false e = here (f e) (has (kind l b) (firsts l g)) refl
          extends (either g h) gd (t ∷ q) y e b s = go (λ z. extends g (one_good g h gd) (t ∷ q) y z b s) (λ z. extends h (other_good g h gd) (t ∷ q) y z b s) (has (kind l t) (firsts l g)) e
            where
              go : (read l i g (t ∷ q) ≡ Ok (y, []) → GoesOn (length s) (read l i g ((t ∷ q) ++ b ∷ s))) → (read l i h (t ∷ q) ≡ Ok (y, []) → GoesOn (length s) (read l i h ((t ∷ q) ++ b ∷ s)))
                  → (c : Bool) → (if c then read l i g (t ∷ q) else read l i h (t ∷ q)) ≡ Ok (y, []) → GoesOn (length s) (if c then read l i g ((t ∷ q) ++ b ∷ s) else read l i h ((t ∷ q) ++ b ∷ s))
              go f k true e = f e
              go f k false e = k e
          extends (many g) gd w y e b s = extend_many (read l i g) (firsts l g) (λ v. bound g v) (λ b v h. past g (item_good g gd) b v h) (replay g (item_good g gd)) (extends g (item_good g gd)) (length w) w (omega arith) y e b s (length (w ++ b ∷ s)) (omega arith)
          extends (shown f g) gd w y e b s =
              let d = came_from (read l i g w) (λ x r. Ok (f x, r)) (y, []) e in
              let k = parts (f d.0) y d.1 [] d.3 in
              let a = extends g gd w d.0 (d.2 ∙ ap (λ (z : Tokens). Ok (d.0, z)) k.1) b s in
              goes_then (length s) (read l i g (w ++ b ∷ s)) (λ x r. Ok (f x, r)) a (λ x r q. q)
          extends (opening ks x) gd [] y e b s = absurd (cc (e))
          extends (opening ks x) gd (t ∷ q) y e b s = elim (true_or_false (has (kind l t) ks)) [
            | inl f ↦ (
                let d = came_from {B = l.Token × l.Value x} (i x (t ∷ q)) (λ y s. Ok ((t, y), s)) (y, []) (sym (if_yes (has (kind l t) ks) (and_then l {B = l.Token × l.Value x} (i x (t ∷ q)) (λ y s. Ok ((t, y), s))) (Err (Syntax (suc (length q)))) f) ∙ e) in
                let k = parts (t, d.0) y d.1 [] d.3 in
                let a = goes x t q d.0 (d.2 ∙ ap (λ (z : Tokens). Ok (d.0, z)) k.1) b s in
                subst (λ (o : Outcome l (l.Token × l.Value x)). GoesOn (length s) o) (sym (if_yes (has (kind l t) ks) (and_then l {B = l.Token × l.Value x} (i x (t ∷ (q ++ b ∷ s))) (λ y s. Ok ((t, y), s))) (Err (Syntax (suc (length (q ++ b ∷ s))))) f))
                (goes_then {B = l.Token × l.Value x} (length s) (i x (t ∷ (q ++ b ∷ s))) (λ y s. Ok ((t, y), s)) a (λ y s q. q)))
            | inr f ↦ (let g = sym (if_no (has (kind l t) ks) (and_then l {B = l.Token × l.Value x} (i x (t ∷ q)) (λ y s. Ok ((t, y), s))) (Err (Syntax (suc (length q)))) f) ∙ e in absurd (cc (g)))
          ]

-- ---- the same at each number of levels

pub record Counts (l : Language) (i : Readers l) (table late : l.Inside → List ℕ) : Type 0 where
  pub bounded : Bounded l i
  pub replays : InnerReplays l i bounded table late
  pub goes : InnerExtends l i bounded table late

pub counts : (l : Language) (body : Bodies l) (table late : l.Inside → List ℕ) → ((x : l.Inside) → is_good l table late (body x) ≡ true) → (n : ℕ) → Counts l (reader l body n) table late
unfolding reader
counts l body table late good zero = record { bounded = λ x t w. tt; replays = λ x t w y c r e s. absurd (cc (e)); goes = λ x t w y e b s. absurd (cc (e)) }
counts l body table late good (suc n) =
    let c = counts l body table late good n in record {
      bounded = λ x t w. bound l (reader l body n) c.bounded (body x) w;
      replays = λ x t w y d r e s. replay l (reader l body n) c.bounded table late c.replays (body x) (good x) w y d r e s;
      goes = λ x t w y e b s. extends l (reader l body n) c.bounded table late c.replays c.goes (body x) (good x) w y e b s;
    }

-- where a text is read whole, more tokens aren't refused at the first of them
pub not_refused : (l : Language) (body : Bodies l) (table late : l.Inside → List ℕ) → ((x : l.Inside) → is_good l table late (body x) ≡ true) → (n : ℕ) {A : Type 0} (g : Grammar l A) → is_good l table late g ≡ true → (w : List l.Token) (y : A) → read l (reader l body n) g w ≡ Ok (y, []) → (b : l.Token) (s : List l.Token)
    → read l (reader l body n) g (w ++ b ∷ s) ≡ Err (Syntax (suc (length s))) → ⊥
not_refused l body table late good n {A} g gd w y e b s f =
    let c = counts l body table late good n in
    let h = extends l (reader l body n) c.bounded table late c.replays c.goes g gd w y e b s in
    let k : suc (length s) ≤ length s = subst (λ (o : Outcome l A). GoesOn l (length s) o) f h in
    omega (arith, k)
