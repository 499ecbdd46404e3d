-- How the answer of `add` tells the outcome of a line.
use Rattle.std.specs.Prelude.{◌≡◌, Result, Ok, Err, ⊤}
use Rattle.cnf_base.specs.Derivation.{Outcome, accepted, tautology, no_such_hint, not_unit, no_conflict}
use Rattle.cnf_check.specs.declared.bad.Bad.{Bad}
use Rattle.cnf_check.specs.declared.bad.Bad.TheVariants.{Tautology, NoSuchHint, NotUnit, NoConflict, Memory}

abbrev pub Tells : Bad → Outcome → Type 0
Tells Tautology o = o ≡ tautology
Tells (NoSuchHint i) o = o ≡ no_such_hint i
Tells (NotUnit i) o = o ≡ not_unit i
Tells NoConflict o = o ≡ no_conflict
Tells Memory o = ⊤

-- want of memory says nothing of the line
abbrev pub Answers : {T : Type 0} → Result T Bad → Outcome → Type 0
Answers (Ok _) o = o ≡ accepted
Answers (Err e) o = Tells e o
