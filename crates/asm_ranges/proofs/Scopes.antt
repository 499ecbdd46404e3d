-- Variables that are bound.
use Rattle.std.proofs.Common.{◌≡◌, ℕ, suc, ◌+◌, ◌<◌, Bool as Truth, true, false, List, length, drop, get_or, Option, Some, None, refl, ap, ◌∙◌, drop-cons, add-one, if◌then◌else◌}
use Rattle.std.specs.Prelude.{map, bytes_eq}
use Rattle.asm_faults.specs.Ranges.{Spread, NoNumber, or_bound, bound_spread, spread_or_none}
use Rattle.asm_ranges.specs.declared.spread.Spread as code
use Rattle.asm_ranges.specs.Spreads.{bounds_of}
use Rattle.asm_ranges.specs.Bound.{bound_of}
use Rattle.asm_ranges.specs.declared.scope.Variable.{Variable}

-- the interval that stands where a name is free
abbrev pub spread_or : Option Spread → Spread → Spread
spread_or None other = other
spread_or (Some r) other = r

pub or_none : (o : Option Spread) → spread_or o NoNumber ≡ spread_or_none o
or_none None = refl
or_none (Some r) = refl

spread_or-or_bound : (o p : Option Spread) (r : Spread) → spread_or (or_bound o p) r ≡ spread_or o (spread_or p r)
spread_or-or_bound None p r = refl
spread_or-or_bound (Some s) p r = refl

chosen : (t : Truth) (s r : Spread) → spread_or (if t then Some s else None) r ≡ (if t then s else r)
chosen true s r = refl
chosen false s r = refl

bounds_chosen : (t : Truth) (s r : code.Spread) → bounds_of (if t then s else r) ≡ (if t then bounds_of s else bounds_of r)
bounds_chosen true s r = refl
bounds_chosen false s r = refl

-- what is found so far counts where none of the variables that are left has the name
pub found_step : (vs : List Variable) (i : ℕ) (d : Variable) (x : List ℕ) (found : Spread) → i < length vs
    → spread_or (bound_spread (map bound_of (drop i vs)) x) found ≡ spread_or (bound_spread (map bound_of (drop (i + 1) vs)) x) (if bytes_eq (get_or vs i d).name x then bounds_of (get_or vs i d).spread else found)
found_step vs i d x found h =
    rw (add-one, drop-cons vs i d)
    (spread_or-or_bound (bound_spread (map bound_of (drop (suc i) vs)) x) (if bytes_eq (get_or vs i d).name x then Some (bounds_of (get_or vs i d).spread) else None) found
    ∙ ap (spread_or (bound_spread (map bound_of (drop (suc i) vs)) x)) (chosen (bytes_eq (get_or vs i d).name x) (bounds_of (get_or vs i d).spread) found))
