-- Two lists whose items are compared place by place.
use Rattle.std.proofs.Common.{◌≡◌, ℕ, ◌+◌, Bool as Truth, true, false, ◌&&◌, List, drop, Some, slice_get, refl, ap, sym, ◌∙◌}
use Rattle.asm_sign.proofs.Picks.{drop-at}
use Rattle.ref_link.specs.Linkable.{alike}

module _ {A : Type 0} (test : A → A → Truth) (xs ys : List A) (i : ℕ) (x y : A) (is : slice_get xs i ≡ Some x) (are : slice_get ys i ≡ Some y) (whole : alike test (drop i xs) (drop i ys) ≡ alike test xs ys) where
  at_place : alike test (drop i xs) (drop i ys) ≡ test x y && alike test (drop (i + 1) xs) (drop (i + 1) ys)
  at_place = rw (drop-at xs i x is, drop-at ys i y are) refl

  -- an item for which the test fails
  pub stops : (b : Truth) → b ≡ test x y → b ≡ false → false ≡ alike test xs ys
  stops b tested fails = ap (λ c. c && alike test (drop (i + 1) xs) (drop (i + 1) ys)) (sym fails) ∙ ap (λ c. c && alike test (drop (i + 1) xs) (drop (i + 1) ys)) tested ∙ sym at_place ∙ whole

  -- an item for which it holds
  pub goes_on : (b : Truth) → b ≡ test x y → b ≡ true → alike test (drop (i + 1) xs) (drop (i + 1) ys) ≡ alike test xs ys
  goes_on b tested holds = ap (λ c. c && alike test (drop (i + 1) xs) (drop (i + 1) ys)) (sym holds ∙ tested) ∙ sym at_place ∙ whole
