-- Grammars as data: what they spell, and how they are read.
use Rattle.std.specs.Prelude.{◌≡◌, ◌≢◌, ℕ, zero, suc, ◌≤◌, List, [], ◌∷◌, ◌++◌, Result, Ok, Err, Bool, true, false, ◌||◌, ◌&&◌, if◌then◌else◌, ◌⊎◌, ◌==◌, length}
use Rattle.asm_grammar.specs.declared.Stop.{Stop}
use Rattle.asm_grammar.specs.declared.Stop.TheVariants.{Memory, Syntax, TooDeep}

-- What a grammar is over: tokens, each of a kind, and the names of what stands behind an opening token, each with the type of its value.
pub record Language : Type 1 where
  pub Token : Type 0
  pub index : Token → ℕ
  -- some token of a kind, where there is one
  pub sample : ℕ → Token
  pub Inside : Type 0
  pub Value : Inside → Type 0

abbrev pub has : ℕ → List ℕ → Bool
has k [] = false
has k (x ∷ xs) = (k == x) || has k xs

module _ (l : Language) where
  -- from 1 on, since 0 stands for the end of the text
  abbrev pub kind : l.Token → ℕ
  kind t = suc (l.index t)

  -- some token of one of these kinds
  abbrev pub some_of : List ℕ → l.Token
  some_of [] = l.sample 0
  some_of (k ∷ ks) = l.sample k

  -- a token, and how many things are open at it, those that it opens included
  pub record Placed : Type 0 where
    pub token : l.Token
    pub depth : ℕ

  abbrev pub tokens : List Placed → List l.Token
  tokens [] = []
  tokens (p ∷ u) = p.token ∷ tokens u

  -- The text u spells y, where a token of the kind next follows.
  abbrev pub Lang : Type 0 → Type 1
  Lang A = List Placed → A → ℕ → Type 0

  pub data Grammar : Type 0 → Type 1 where
    -- one token of one of these kinds
    word : List ℕ → Grammar l.Token
    -- no token, where none of these kinds comes next
    nothing : {A : Type 0} → List ℕ → A → Grammar A
    both : {A B : Type 0} → Grammar A → Grammar B → Grammar (A × B)
    either : {A : Type 0} → Grammar A → Grammar A → Grammar A
    many : {A : Type 0} → Grammar A → Grammar (List A)
    shown : {A B : Type 0} → (A → B) → Grammar A → Grammar B
    -- a token of one of these kinds, which opens one more level, and what stands in there
    opening : List ℕ → (x : l.Inside) → Grammar (l.Token × l.Value x)

  -- ---- what a grammar spells

  -- the kind of the first token, where tokens of the given kind follow
  abbrev pub ahead : List l.Token → ℕ → ℕ
  ahead [] next = next
  ahead (t ∷ u) next = kind t

  abbrev pub next_of : List Placed → ℕ → ℕ
  next_of [] next = next
  next_of (p ∷ u) next = kind p.token

  abbrev pub Inner : Type 1
  Inner = (x : l.Inside) → ℕ → Lang (l.Value x)

  abbrev pub spelled_list : {A : Type 0} → Lang A → Lang (List A)
  spelled_list item u [] next = u ≡ []
  spelled_list item u (y ∷ ys) next = (v w : List Placed) × (u ≡ v ++ w) × item v y (next_of w next) × spelled_list item w ys next

  -- with d things open around
  abbrev pub spelled : Inner → {A : Type 0} → Grammar A → ℕ → Lang A
  spelled inner (word ks) d u y next = (u ≡ record { token = y; depth = d } ∷ []) × (has (kind y) ks ≡ true)
  spelled inner (nothing ks a) d u y next = (u ≡ []) × (y ≡ a) × (has next ks ≡ false)
  spelled inner (both g h) d u y next = (v w : List Placed) × (u ≡ v ++ w) × spelled inner g d v y.0 (next_of w next) × spelled inner h d w y.1 next
  spelled inner (either g h) d u y next = spelled inner g d u y next ⊎ spelled inner h d u y next
  spelled inner (many g) d u y next = spelled_list (spelled inner g d) u y next
  spelled inner (shown {A} f g) d u y next = (x : A) × (y ≡ f x) × spelled inner g d u x next
  spelled inner (opening ks x) d u y next = (v : List Placed) × (u ≡ record { token = y.0; depth = suc d } ∷ v) × (has (kind y.0) ks ≡ true) × inner x (suc d) v y.1 next

  abbrev pub Bodies : Type 1
  Bodies = (x : l.Inside) → Grammar (l.Value x)

  -- nested no deeper than the number says
  unfoldable pub nested : Bodies → ℕ → Inner
  nested body zero x d u y next = ⊥
  nested body (suc m) x d u y next = spelled (nested body m) (body x) d u y next

  abbrev pub inside : Bodies → Inner
  inside body x d u y next = (m : ℕ) × nested body m x d u y next

  -- what the grammar spells, with no bound on its nesting
  abbrev pub spells : Bodies → {A : Type 0} → Grammar A → ℕ → Lang A
  spells body g = spelled (inside body) g

  -- no token nests deeper than the limit
  abbrev pub Low : ℕ → List Placed → Type 0
  Low limit [] = Unit {0}
  Low limit (p ∷ u) = (p.depth ≤ limit) × Low limit u

  -- ---- the tokens that a grammar begins with, and those that may go on with a text of it

  abbrev pub is_empty : {A : Type 0} → Grammar A → Bool
  is_empty (word k) = false
  is_empty (nothing ks a) = true
  is_empty (both g h) = is_empty g && is_empty h
  is_empty (either g h) = is_empty g || is_empty h
  is_empty (many g) = true
  is_empty (shown f g) = is_empty g
  is_empty (opening k x) = false

  abbrev pub firsts : {A : Type 0} → Grammar A → List ℕ
  firsts (word ks) = ks
  firsts (nothing ks a) = []
  firsts (both g h) = firsts g ++ (if is_empty g then firsts h else [])
  firsts (either g h) = firsts g ++ firsts h
  firsts (many g) = firsts g
  firsts (shown f g) = firsts g
  firsts (opening ks x) = ks

  -- ---- how a grammar is read

  abbrev pub Outcome : Type 0 → Type 0
  Outcome A = Result (A × List l.Token) Stop

  abbrev pub and_then : {A B : Type 0} → Outcome A → (A → List l.Token → Outcome B) → Outcome B
  and_then (Ok p) f = f p.0 p.1
  and_then (Err e) f = Err e

  abbrev pub word_at : List ℕ → List l.Token → Outcome l.Token
  word_at ks [] = Err (Syntax 0)
  word_at ks (t ∷ r) = if has (kind t) ks then Ok (t, r) else Err (Syntax (suc (length r)))

  abbrev pub Readers : Type 0
  Readers = (x : l.Inside) → List l.Token → Outcome (l.Value x)

  abbrev pub opening_at : {A : Type 0} → List ℕ → (List l.Token → Outcome A) → List l.Token → Outcome (l.Token × A)
  opening_at ks p [] = Err (Syntax 0)
  opening_at ks p (t ∷ r) = if has (kind t) ks then and_then (p (t ∷ r)) (λ y s. Ok ((t, y), s)) else Err (Syntax (suc (length r)))

  -- The number bounds the turns. Each turn takes a token, so the count of tokens is enough.
  abbrev pub many_at : {A : Type 0} → (List l.Token → Outcome A) → List ℕ → ℕ → List l.Token → Outcome (List A)
  many_at p fs zero w = Ok ([], w)
  many_at p fs (suc n) w = if has (ahead w 0) fs then and_then (p w) (λ x r. and_then (many_at p fs n r) (λ xs s. Ok (x ∷ xs, s))) else Ok ([], w)

  abbrev pub read : Readers → {A : Type 0} → Grammar A → List l.Token → Outcome A
  read inner (word ks) w = word_at ks w
  read inner (nothing ks a) w = Ok (a, w)
  read inner (both g h) w = and_then (read inner g w) (λ x r. and_then (read inner h r) (λ y s. Ok ((x, y), s)))
  read inner (either g h) w = if has (ahead w 0) (firsts g) then read inner g w else read inner h w
  read inner (many g) w = many_at (read inner g) (firsts g) (length w) w
  read inner (shown f g) w = and_then (read inner g w) (λ x r. Ok (f x, r))
  read inner (opening k x) w = opening_at k (inner x) w

  abbrev pub behind : List l.Token → List l.Token
  behind [] = []
  behind (t ∷ r) = r

  -- one level more, and the tokens behind the one that opens it
  abbrev pub entered : ℕ → List l.Token → Outcome ℕ
  entered zero w = Err (TooDeep (length w))
  entered (suc n) w = Ok (n, behind w)

  -- what is left of the levels; each is given the tokens from the opening one on
  unfoldable pub reader : Bodies → ℕ → Readers
  reader body zero x w = Err (TooDeep (length w))
  reader body (suc n) x w = read (reader body n) (body x) (behind w)

  -- What a function that reads ensures: it gives what reading gives, unless memory ran out.
  abbrev pub Gives : {X A : Type 0} → (X → A × List l.Token) → Result X Stop → Outcome A → Type 0
  Gives view (Ok x) o = o ≡ Ok (view x)
  Gives view (Err e) o = e ≢ Memory → o ≡ Err e
