-- What it is to be the front of tokens that is read, and why there is none.
use Rattle.std.specs.Prelude.{◌≡◌, ℕ, List, [], ◌∷◌, ◌++◌, length}
use Rattle.asm_grammar.specs.Grammar.{Language, Placed, tokens, Low, Grammar, Bodies}
use Rattle.asm_grammar.specs.Text.{Spells, Begins}

module _ (l : Language) (body : Bodies l) {A : Type 0} (whole : Grammar l A) where
  -- No text, however deep, has tokens that begin with these and the next one, if there is a next one.
  abbrev pub CantGoOn : List l.Token → List l.Token → Type 0
  CantGoOn front [] = Unit {0}
  CantGoOn front (t ∷ rest) = (u : List (Placed l)) → tokens l u ≡ front ++ t ∷ [] → Begins l body whole u → ⊥

  -- The first k tokens spell y, none of them nests deeper than the limit, and no text goes on with the next.
  pub record IsFront (limit : ℕ) (ts : List l.Token) (y : A) (k : ℕ) : Type 0 where
    pub text : List (Placed l)
    pub rest : List l.Token
    pub same : ts ≡ tokens l text ++ rest
    pub place : k ≡ length text
    pub low : Low l limit text
    pub spelling : Spells l body whole text y
    pub ends : CantGoOn (tokens l text) rest

  -- The first k tokens, of which none nests deeper than the limit, begin a text and are none, and no text goes on with the next.
  pub record IsNoFront (limit : ℕ) (ts : List l.Token) (k : ℕ) : Type 0 where
    pub front : List (Placed l)
    pub rest : List l.Token
    pub same : ts ≡ tokens l front ++ rest
    pub place : k ≡ length front
    pub low : Low l limit front
    pub begins : Begins l body whole front
    pub ends : CantGoOn (tokens l front) rest
    pub unfinished : (u : List (Placed l)) (y : A) → tokens l u ≡ tokens l front → Spells l body whole u y → ⊥
