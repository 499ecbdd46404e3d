-- The intervals of domains, in the order of these.
use Rattle.std.specs.Prelude.{◌≡◌, List, map}
use Rattle.asm_sign.specs.declared.function.DeclaredDomain.{DeclaredDomain}
use Rattle.asm_faults.specs.Ranges.{Spread, universe_spread}
use Rattle.asm_ranges.specs.declared.spread.Spread as code
use Rattle.asm_ranges.specs.Spreads.{bounds_of}

abbrev pub spread_of : DeclaredDomain → Spread
spread_of d = universe_spread d.domain

pub record AreSpreads (domains : List DeclaredDomain) (spreads : List code.Spread) : Type 0 where
  pub spreads_are : map bounds_of spreads ≡ map spread_of domains
