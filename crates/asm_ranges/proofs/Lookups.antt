-- The intervals of domains, by their numbers.
use Rattle.std.proofs.Common.{◌≡◌, ℕ, zero, suc, List, [], ◌∷◌, Option, Some, None, slice_get, refl, ap, sym, ◌∙◌, arith}
use Rattle.std.specs.Prelude.{map, nat_eq, false}
use Rattle.std.proofs.lemmas.Bool.Decides.{nat_tests}
use Rattle.asm_sign.specs.declared.function.DeclaredDomain.{DeclaredDomain}
use Rattle.asm_node.specs.Values.{whole}
use Rattle.asm_faults.specs.Ranges.{Spread, NoNumber, declared_spread, domain_spread}
use Rattle.asm_ranges.specs.declared.spread.Spread as code
use Rattle.asm_ranges.specs.Spreads.{bounds_of, whole_numbers}
use Rattle.asm_ranges.specs.Spreading.{AreSpreads, spread_of}

abbrev pub bounds_or : Option code.Spread → Spread
bounds_or None = NoNumber
bounds_or (Some s) = bounds_of s

at_place : (ds : List DeclaredDomain) (ss : List code.Spread) (d : ℕ) → map bounds_of ss ≡ map spread_of ds → bounds_or (slice_get ss d) ≡ declared_spread (slice_get ds d)
at_place [] [] d e = refl
at_place [] (s ∷ ss) d e = absurd (cc (e))
at_place (x ∷ ds) [] d e = absurd (cc (e))
at_place (x ∷ ds) (s ∷ ss) zero e = let h : bounds_of s ≡ spread_of x = cc in h
at_place (x ∷ ds) (s ∷ ss) (suc d) e = let h : map bounds_of ss ≡ map spread_of ds = cc in at_place ds ss d h

pub spread_at : (ds : List DeclaredDomain) (ss : List code.Spread) (d : ℕ) (o : Option code.Spread) → AreSpreads ds ss → slice_get ss d ≡ o → (d ≡ whole → ⊥) → bounds_or o ≡ domain_spread ds d
spread_at ds ss d o are e other =
    ap bounds_or (sym e) ∙ at_place ds ss d are.spreads_are ∙ sym (other_number ds d other)
  where
    other_number : (ds : List DeclaredDomain) (d : ℕ) → (d ≡ whole → ⊥) → domain_spread ds d ≡ declared_spread (slice_get ds d)
    other_number ds d other = let e : nat_eq d whole ≡ false = grind (arith, nat_tests) in rw e refl

pub whole_at : (ds : List DeclaredDomain) (d : ℕ) → d ≡ whole → whole_numbers ≡ domain_spread ds d
whole_at ds d e = rw e refl
