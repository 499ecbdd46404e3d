-- What a call that takes a rule answers, and the words that are left then.
use Rattle.std.specs.Prelude.{◌≡◌, ℕ, ⊤, List, Result, Ok, Err}
use Rattle.asm_fire.specs.declared.error.FireError.{FireError}
use Rattle.asm_fire.specs.declared.error.FireError.TheVariants.{Stop, Memory}
use Rattle.asm_node.specs.Taking.{Attempt, Yields, Faults}

-- the fault is that of the definition; want of memory says nothing
abbrev pub Halts : {A : Type 0} → FireError → List ℕ → Attempt (List ℕ) A → Type 0
Halts (Stop stop) words a = a ≡ Faults stop words
Halts Memory words a = ⊤

-- the answer is that of the definition, or the fault is
abbrev pub Fires : {A : Type 0} → Result A FireError → List ℕ → Attempt (List ℕ) A → Type 0
Fires (Ok x) words a = a ≡ Yields x words
Fires (Err e) words a = Halts e words a
