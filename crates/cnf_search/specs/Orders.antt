-- The groups in another order.
use Rattle.std.specs.Prelude.{List, [], map, slice_index_or}
use Rattle.cnf_base.specs.declared.lit.Lit.{Lit}
use Rattle.cnf_search.specs.declared.order.Ranked.{Ranked}

-- the groups at the places of a list
abbrev pub picked : List (List Lit) → List Ranked → List (List Lit)
picked gs rs = map (λ r. slice_index_or gs r.place []) rs
