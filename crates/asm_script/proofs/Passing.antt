-- Two passes, one after the other.
use Rattle.std.proofs.Common.{◌≡◌, List, [], ◌∷◌, Option, Some, None, refl}
use Rattle.asm_faults.specs.declared.fault.Fault.{Fault}
use Rattle.asm_faults.specs.First.{noted, or_later, first_fault}
use Rattle.asm_faults.proofs.Order.{none_at_all}

-- where nothing is found, nothing is wrong
first_none : (faults : List Fault) (later : Option Fault) → or_later (noted None faults) later ≡ None → (faults ≡ []) × (later ≡ None)
first_none faults later none = by (noted None faults) refl none
  where
    by : (o : Option Fault) → noted None faults ≡ o → or_later o later ≡ None → (faults ≡ []) × (later ≡ None)
    by None e is = (none_at_all faults e, is)
    by (Some f) e is = absurd (cc is)

pub both_none : (xs ys : List Fault) → first_fault (xs ∷ ys ∷ []) ≡ None → (xs ≡ []) × (ys ≡ [])
both_none xs ys none =
    let first = first_none xs (first_fault (ys ∷ [])) none in
    let second = first_none ys None first.1 in
    (first.0, second.0)
