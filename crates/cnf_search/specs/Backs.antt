-- The pass, as the code keeps it.
use Rattle.std.specs.Prelude.{ℕ, Bool, false, List, reverse, slice_index_or, is_none, take}
use Rattle.std.specs.List.{list_any}
use Rattle.cnf_search.specs.Trails.{Entry}
use Rattle.cnf_search.specs.Passes.{Pass}
use Rattle.cnf_search.specs.declared.back.Learning.{Learning}

-- the variables that are marked
abbrev pub marked : List Bool → ℕ → Bool
marked marks n = slice_index_or marks n false

-- clause and hints are made from the last on
abbrev pub told : Learning → Pass
told l = record { seen = marked l.seen.items; found = l.found; clause = reverse l.clause.items; hints = reverse l.hints.items }

-- whether a decision stands before a place
abbrev pub late_at : List Entry → ℕ → Bool
late_at es i = list_any (λ e. is_none e.reason) (take i es)
