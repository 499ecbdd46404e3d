-- The same with more levels, where none is too deep.
use Rattle.std.proofs.Common.{◌≡◌, ℕ, ◌+◌, ◌≤◌, zero, suc, Bool, true, false, if◌then◌else◌, List, [], ◌∷◌, length, refl, ap, arith, ◌∙◌, subst, append-nil, Ok, Err}
use Rattle.asm_grammar.specs.declared.Stop.{Stop}
use Rattle.asm_grammar.specs.declared.Stop.TheVariants.{Memory, Syntax, TooDeep}
use Rattle.asm_grammar.specs.Grammar.{Language, has, word, nothing, both, either, many, shown, opening, Bodies, Grammar, Low, Outcome, Placed, Readers, ahead, and_then, behind, firsts, inside, kind, many_at, opening_at, read, reader, spells, tokens}
use Rattle.asm_grammar.proofs.Theory.{barred, ends, is_good}
use Rattle.asm_grammar.proofs.Judged.{Judge, judged}
use Rattle.asm_grammar.proofs.Levels.{Checked, inside_judged, inside_lives, inside_settles}
use Rattle.asm_grammar.proofs.Complete.{complete_all}

module _ (l : Language) where
  abbrev pub IsFlat : {A : Type 0} → Outcome l A → Type 0
  IsFlat (Ok p) = Unit {0}
  IsFlat (Err Memory) = Unit {0}
  IsFlat (Err (Syntax k)) = Unit {0}
  IsFlat (Err (TooDeep k)) = ⊥

  abbrev pub Agrees : {A : Type 0} → Outcome l A → Outcome l A → Type 0
  Agrees o p = IsFlat o → p ≡ o

  pub flat_err : (A B : Type 0) (e : Stop) → IsFlat {A = A} (Err e) → IsFlat {A = B} (Err e)
  flat_err A B Memory h = tt
  flat_err A B (Syntax k) h = tt
  flat_err A B (TooDeep k) h = h

  pub agree_then : {A B : Type 0} (o p : Outcome l A) (f g : A → List l.Token → Outcome l B) → Agrees o p → ((x : A) (r : List l.Token) → Agrees (f x r) (g x r)) → Agrees (and_then l o f) (and_then l p g)
  agree_then (Ok q) p f g a b h = rw (a tt) (b q.0 q.1 h)
  agree_then {A} {B} (Err e) p f g a b h = rw (a (flat_err B A e h)) refl

  pub agree_many : {A : Type 0} (p q : List l.Token → Outcome l A) (fs : List ℕ) → ((w : List l.Token) → Agrees (p w) (q w)) → (n : ℕ) (w : List l.Token) → Agrees (many_at l p fs n w) (many_at l q fs n w)
  agree_many p q fs a zero w h = refl
  agree_many {A} p q fs a (suc n) w h = go (λ r. agree_many p q fs a n r) (has (ahead l w 0) fs) h
    where
      go : ((r : List l.Token) → Agrees (many_at l p fs n r) (many_at l q fs n r)) → (b : Bool) → IsFlat (if b then and_then l (p w) (λ x r. and_then l {A = List A} (many_at l p fs n r) (λ xs s. Ok (x ∷ xs, s))) else Ok ([], w))
          → (if b then and_then l (q w) (λ x r. and_then l {A = List A} (many_at l q fs n r) (λ xs s. Ok (x ∷ xs, s))) else Ok ([], w)) ≡ (if b then and_then l (p w) (λ x r. and_then l {A = List A} (many_at l p fs n r) (λ xs s. Ok (x ∷ xs, s))) else Ok ([], w))
      go f true h = agree_then {B = List A} (p w) (q w) (λ x r. and_then l {A = List A} (many_at l p fs n r) (λ xs s. Ok (x ∷ xs, s))) (λ x r. and_then l {A = List A} (many_at l q fs n r) (λ xs s. Ok (x ∷ xs, s))) (a w)
          (λ x r. agree_then {B = List A} (many_at l p fs n r) (many_at l q fs n r) (λ xs s. Ok (x ∷ xs, s)) (λ xs s. Ok (x ∷ xs, s)) (f r) (λ xs s e. refl)) h
      go f false h = refl

  pub agree_if : {A : Type 0} (b : Bool) (o p q r : Outcome l A) → Agrees o p → Agrees q r → Agrees (if b then o else q) (if b then p else r)
  agree_if true o p q r a c h = a h
  agree_if false o p q r a c h = c h

  pub agree_opening : {A : Type 0} (k : List ℕ) (p q : List l.Token → Outcome l A) → ((w : List l.Token) → Agrees (p w) (q w)) → (w : List l.Token) → Agrees (opening_at l k p w) (opening_at l k q w)
  agree_opening k p q a [] h = refl
  agree_opening {A} k p q a (t ∷ r) h = agree_if (has (kind l t) k) (and_then l {B = l.Token × A} (p (t ∷ r)) (λ y s. Ok ((t, y), s))) (and_then l {B = l.Token × A} (q (t ∷ r)) (λ y s. Ok ((t, y), s))) (Err (Syntax (suc (length r)))) (Err (Syntax (suc (length r))))
      (agree_then {B = l.Token × A} (p (t ∷ r)) (q (t ∷ r)) (λ y s. Ok ((t, y), s)) (λ y s. Ok ((t, y), s)) (a (t ∷ r)) (λ y s e. refl)) (λ e. refl) h

  pub agree : (i j : Readers l) → ((x : l.Inside) (w : List l.Token) → Agrees (i x w) (j x w)) → {A : Type 0} → (g : Grammar l A) (w : List l.Token) → Agrees (read l i g w) (read l j g w)
  agree i j a (word k) w h = refl
  agree i j a (nothing ks z) w h = refl
  agree i j a (both {A} {B} g k) w h = agree_then {B = A × B} (read l i g w) (read l j g w) (λ x r. and_then l (read l i k r) (λ y s. Ok ((x, y), s))) (λ x r. and_then l (read l j k r) (λ y s. Ok ((x, y), s))) (agree i j a g w)
      (λ x r. agree_then {B = A × B} (read l i k r) (read l j k r) (λ y s. Ok ((x, y), s)) (λ y s. Ok ((x, y), s)) (agree i j a k r) (λ y s f. refl)) h
  agree i j a (either g k) w h = agree_if (has (ahead l w 0) (firsts l g)) (read l i g w) (read l j g w) (read l i k w) (read l j k w) (agree i j a g w) (agree i j a k w) h
  agree i j a (many g) w h = agree_many (read l i g) (read l j g) (firsts l g) (λ v. agree i j a g v) (length w) w h
  agree i j a (shown f g) w h = agree_then (read l i g w) (read l j g w) (λ x r. Ok (f x, r)) (λ x r. Ok (f x, r)) (agree i j a g w) (λ y s e. refl) h
  agree i j a (opening k x) w h = agree_opening k (i x) (j x) (a x) w h

  pub more_levels : (body : Bodies l) (n m : ℕ) → n ≤ m → (x : l.Inside) (w : List l.Token) → Agrees (reader l body n x w) (reader l body m x w)
  unfolding reader
  more_levels body zero m le x w h = absurd h
  more_levels body (suc n) zero le x w h = absurd (omega arith)
  more_levels body (suc n) (suc m) le x w h = agree (reader l body n) (reader l body m) (more_levels body n m (omega arith)) (body x) (behind l w) h

  -- ---- texts have a greatest depth

  pub low_more : (a b : ℕ) (u : List (Placed l)) → a ≤ b → Low l a u → Low l b u
  low_more a b [] le h = tt
  low_more a b (p ∷ u) le h = (omega (arith, h.0), low_more a b u le h.1)

  pub height : (u : List (Placed l)) → (n : ℕ) × Low l n u
  height [] = (0, tt)
  height (p ∷ u) = let h = height u in (p.depth + h.0, (omega arith, low_more h.0 (p.depth + h.0) u (omega arith) h.1))

  pub ok_same : {A : Type 0} (o : Outcome l A) (p q : A × List l.Token) → o ≡ Ok p → o ≡ Ok q → p ≡ q
  ok_same o p q a b = cc

  pub one_value : {A : Type 0} (o : Outcome l A) (x y : A) (r s : List l.Token) → o ≡ Ok (x, r) → o ≡ Ok (y, s) → x ≡ y
  one_value o x y r s a b = ap (λ z. z.0) (ok_same o (x, r) (y, s) a b)

  pub one_rest : {A : Type 0} (o : Outcome l A) (x y : A) (r s : List l.Token) → o ≡ Ok (x, r) → o ≡ Ok (y, s) → r ≡ s
  one_rest o x y r s a b = ap (λ z. z.1) (ok_same o (x, r) (y, s) a b)

  pub not_both : {A : Type 0} (o : Outcome l A) (p : A × List l.Token) (e : Stop) → o ≡ Ok p → o ≡ Err e → ⊥
  not_both o p e a b = (cc)

  -- ---- what follows for whole texts

  module _ (body : Bodies l) (table late : l.Inside → List ℕ) (checked : Checked l body table late) {A : Type 0} (g : Grammar l A) (good : is_good l table late g ≡ true) (closed : has 0 (ends l table g) ≡ false) where
    pub whole_read : (limit : ℕ) (u : List (Placed l)) (y : A) → spells l body g 0 u y 0 → Low l limit u → read l (reader l body limit) g (tokens l u) ≡ Ok (y, [])
    whole_read limit u y s low =
        let e = complete_all l body table late checked limit g good u y [] s low closed in
        subst (λ (w : List l.Token). read l (reader l body limit) g w ≡ Ok (y, [])) (append-nil (tokens l u)) e

    -- a text has at most one tree
    pub one_tree : (u v : List (Placed l)) (y z : A) → tokens l u ≡ tokens l v → spells l body g 0 u y 0 → spells l body g 0 v z 0 → y ≡ z
    one_tree u v y z e s t =
        let h = height u in
        let k = height v in
        let a = whole_read (h.0 + k.0) u y s (low_more h.0 (h.0 + k.0) u (omega arith) h.1) in
        let b = whole_read (h.0 + k.0) v z t (low_more k.0 (h.0 + k.0) v (omega arith) k.1) in
        let c : read l (reader l body (h.0 + k.0)) g (tokens l u) ≡ Ok (z, []) = rw e b in
        one_value _ y z [] [] a c

    -- where reading stops for good, no text goes on
    pub no_text : (limit : ℕ) (w : List l.Token) (k : ℕ) → read l (reader l body limit) g w ≡ Err (Syntax k) → (u : List (Placed l)) (y : A) → tokens l u ≡ w → spells l body g 0 u y 0 → ⊥
    no_text limit w k e u y t s =
        let h = height u in
        let a = whole_read (limit + h.0) u y s (low_more h.0 (limit + h.0) u (omega arith) h.1) in
        let f : IsFlat (read l (reader l body limit) g w) = rw e tt in
        let b : read l (reader l body (limit + h.0)) g w ≡ read l (reader l body limit) g w = agree (reader l body limit) (reader l body (limit + h.0)) (more_levels body limit (limit + h.0) (omega arith)) g w f in
        let c : read l (reader l body (limit + h.0)) g w ≡ Ok (y, []) = rw (← t) a in
        not_both _ _ _ c (b ∙ e)

    -- nor where tokens are left
    pub no_longer : (limit : ℕ) (w : List l.Token) (x : A) (r : List l.Token) → read l (reader l body limit) g w ≡ Ok (x, r) → (r ≡ [] → ⊥) → (u : List (Placed l)) (y : A) → tokens l u ≡ w → spells l body g 0 u y 0 → ⊥
    no_longer limit w x r e ne u y t s =
        let h = height u in
        let a = whole_read (limit + h.0) u y s (low_more h.0 (limit + h.0) u (omega arith) h.1) in
        let f : IsFlat (read l (reader l body limit) g w) = rw e tt in
        let b : read l (reader l body (limit + h.0)) g w ≡ read l (reader l body limit) g w = agree (reader l body limit) (reader l body (limit + h.0)) (more_levels body limit (limit + h.0) (omega arith)) g w f in
        let c : read l (reader l body (limit + h.0)) g w ≡ Ok (y, []) = rw (← t) a in
        ne (one_rest _ x y r [] (b ∙ e) c)

    pub judge : (limit : ℕ) (w : List l.Token) → has (ahead l w 0) (barred l g) ≡ false → Judge l (inside l body) (reader l body limit) g 0 limit w (read l (reader l body limit) g w)
    judge limit w o = judged l table late (inside l body) (reader l body limit) (inside_lives l body table late checked) (inside_settles l body table late checked) 0 limit (omega arith) (inside_judged l body table late checked limit 0 limit (omega arith)) g good w o
