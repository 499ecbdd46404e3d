-- What questions and rivals are.
use Rattle.std.specs.Prelude.{◌≡◌, ℕ, zero, suc, ⊤, ◌<◌, Bool, true, false, ◌||◌, nat_eq, List, [], ◌∷◌, ◌++◌}
use Rattle.cnf_base.specs.declared.lit.Lit.{Lit}
use Rattle.cnf_base.specs.Clauses.{IsSatisfied}
use Rattle.cnf_gate.specs.Circuit.{Drawn}
use Rattle.two_level.specs.declared.problem.EncError.{EncError}
use Rattle.two_level.specs.declared.problem.EncError.TheVariants.{TooLarge, TooWide, TooManyAnswers, Memory}

-- the numbers below one, in order
abbrev pub below : ℕ → List ℕ
below zero = []
below (suc n) = below n ++ n ∷ []

-- whether a number is in a list
abbrev pub is_named : List ℕ → ℕ → Bool
is_named [] n = false
is_named (x ∷ xs) n = nat_eq n x || is_named xs n

-- each named number is below one
abbrev pub AreBelow : ℕ → List ℕ → Type 0
AreBelow count ns = (n : ℕ) → is_named ns n ≡ true → n < count

-- the clauses of a circuit, required ones too
abbrev pub formula_of : Drawn → List (List Lit)
formula_of c = c.fixed ++ c.required

-- no list of values satisfies the circuit's formula
abbrev pub IsRefuted : Drawn → Type 0
IsRefuted c = (a : List Bool) → IsSatisfied (formula_of c) a → ⊥

-- the clauses of a question, and the case that each assignment stands for by it
pub record Posed (Case : Type 0) : Type 0 where
  pub formula : List (List Lit)
  pub case_of : List Bool → Case

-- the clauses of a rival, and the case of its candidate
pub record Tried (Case : Type 0) : Type 0 where
  pub formula : List (List Lit)
  pub case : Case

-- a refusal is want of memory, or one that may be given
abbrev pub Refuses : (EncError → Type 0) → EncError → Type 0
Refuses may TooLarge = may TooLarge
Refuses may TooWide = may TooWide
Refuses may TooManyAnswers = may TooManyAnswers
Refuses may Memory = ⊤

module _ {Case : Type 0} (meets : ℕ → Case → Type 0) (ns : List ℕ) where
  -- one of the named answers meets the case
  pub record Gives (k : Case) : Type 0 where
    pub answer : ℕ
    pub is_one : is_named ns answer ≡ true
    pub meeting : meets answer k

  -- none of the named answers meets the case
  abbrev pub MeetsNone : Case → Type 0
  MeetsNone k = (n : ℕ) → is_named ns n ≡ true → meets n k → ⊥

-- each solution of the circuit stands for a case that none of the named answers meets
abbrev pub Tells : {Case : Type 0} → (Case → Type 0) → (ℕ → Case → Type 0) → List ℕ → Drawn → (List Bool → Case) → Type 0
Tells is_case meets ns c case_of = (a : List Bool) → IsSatisfied (formula_of c) a → is_case (case_of a) × MeetsNone meets ns (case_of a)

-- each answer that meets the case gives a solution of the circuit
abbrev pub IsRival : {Case : Type 0} → ℕ → (ℕ → Case → Type 0) → Case → Drawn → Type 0
IsRival count meets k c = (n : ℕ) → n < count → meets n k → (a : List Bool) × IsSatisfied (formula_of c) a
