-- What a whole text is, and why tokens are none.
use Rattle.std.specs.Prelude.{◌≡◌, ℕ, ◌<◌, List, [], ◌∷◌, ◌++◌, length}
use Rattle.asm_grammar.specs.Grammar.{Language, Placed, tokens, Low, Grammar, Bodies, spells}

module _ (l : Language) (body : Bodies l) {A : Type 0} (whole : Grammar l A) where
  -- The text u, each token with its nesting, spells y.
  abbrev pub Spells : List (Placed l) → A → Type 0
  Spells u y = spells l body whole 0 u y 0

  -- The tokens spell y, and none of them nests deeper than the limit.
  pub record IsText (limit : ℕ) (ts : List l.Token) (y : A) : Type 0 where
    pub text : List (Placed l)
    pub same : tokens l text ≡ ts
    pub low : Low l limit text
    pub spelling : Spells text y

  -- Some text begins so.
  pub record Begins (front : List (Placed l)) : Type 0 where
    pub more : List (Placed l)
    pub tree : A
    pub spelling : Spells (front ++ more) tree

  -- No text, however deep, begins with these tokens and the next one; at the end, these tokens are none.
  abbrev pub EndsThere : List l.Token → List l.Token → Type 0
  EndsThere front [] = (u : List (Placed l)) (y : A) → tokens l u ≡ front → Spells u y → ⊥
  EndsThere front (t ∷ rest) = (u : List (Placed l)) → tokens l u ≡ front ++ t ∷ [] → Begins u → ⊥

  -- Token k, counted from 0, is the first with which no text goes on, and none before it nests too deep. The number of tokens stands for the end.
  pub record IsRefused (limit : ℕ) (ts : List l.Token) (k : ℕ) : Type 0 where
    pub front : List (Placed l)
    pub rest : List l.Token
    pub same : ts ≡ tokens l front ++ rest
    pub place : k ≡ length front
    pub low : Low l limit front
    pub begins : Begins front
    pub ends : EndsThere (tokens l front) rest

  -- The tokens up to token k begin a text, where it is the first that nests deeper than the limit.
  pub record IsTooDeep (limit : ℕ) (ts : List l.Token) (k : ℕ) : Type 0 where
    pub front : List (Placed l)
    pub deep : Placed l
    pub rest : List l.Token
    pub same : ts ≡ tokens l front ++ deep.token ∷ rest
    pub place : k ≡ length front
    pub low : Low l limit front
    pub over : limit < deep.depth
    pub begins : Begins (front ++ deep ∷ [])

  -- A text has at most one tree, and its tokens determine how deep each nests.
  abbrev pub OneTree : Type 0
  OneTree = (u v : List (Placed l)) (y z : A) → tokens l u ≡ tokens l v → Spells u y → Spells v z → (y ≡ z) × (u ≡ v)
