-- Products and quotients of sizes.
use Rattle.std.proofs.Common.{◌≡◌, ℕ, zero, suc, ◌+◌, ◌*◌, ◌/◌, ◌%◌, ◌^◌, ◌<◌, ◌≤◌, sym, ap, ◌∙◌, arith, lit≤}
use Rattle.std.proofs.Math.Nat.{pow-suc, div-lt_iff_lt-mul, mul-div_cancel_left}

-- at most four sizes have a product of 32 bits
pub small_power : (i : ℕ) → i ≤ 4 → 256 ^ i ≤ 2 ^ 32
small_power zero le = lit≤ tt
small_power (suc zero) le = lit≤ tt
small_power (suc (suc zero)) le = lit≤ tt
small_power (suc (suc (suc zero))) le = lit≤ tt
small_power (suc (suc (suc (suc zero)))) le = lit≤ tt
small_power (suc (suc (suc (suc (suc i))))) le = absurd (omega arith)

pub product_le : (a b c d : ℕ) → a ≤ c → b ≤ d → a * b ≤ c * d
product_le a b c d h k = grind arith

pub power_more : (c s i : ℕ) → c ≤ 256 ^ i → s ≤ 256 → c * s ≤ 256 ^ (i + 1)
power_more c s i h k =
    let e : i + 1 ≡ suc i = omega arith in
    rw (e, pow-suc 256 i) (product_le c s (256 ^ i) 256 h k)

pub place_more : (p s r i : ℕ) → p < 256 ^ i → s ≤ 256 → r < s → p * s + r < 256 ^ (i + 1)
place_more p s r i h k lt =
    let e : i + 1 ≡ suc i = omega arith in
    let less : p * s + r < (p + 1) * s = grind arith in
    let more = product_le (p + 1) s (256 ^ i) 256 (omega arith) k in
    rw (e, pow-suc 256 i) (omega (arith, less, more))

-- a place in steps, the first item slowest
pub horner : (p s r t m n : ℕ) → n ≡ s * t → p * n + (r * t + m) ≡ (p * s + r) * t + m
horner p s r t m n e = rw e (grind arith)

pub exact_quotient : (n s t : ℕ) → n ≡ s * t → 0 < s → n / s ≡ t
exact_quotient n s t e some = rw e (mul-div_cancel_left t some)

pub quotient_below : (n s t r : ℕ) → n ≡ s * t → r < n → 0 < t → r / t < s
quotient_below n s t r e lt some = (div-lt_iff_lt-mul some).1 (rw (sym e) lt)

pub some_factor : (n s t r : ℕ) → n ≡ s * t → r < n → 0 < t
some_factor n s zero r e lt = absurd (omega arith)
some_factor n s (suc t) r e lt = omega arith

pub divided : (r t : ℕ) → 0 < t → (r / t) * t + r % t ≡ r
divided r t some = grind arith

pub partial : (c s t n m : ℕ) → c * n ≡ m → n ≡ s * t → (c * s) * t ≡ m
partial c s t n m e f = let g : c * s * t ≡ c * (s * t) = grind arith in g ∙ ap (λ x. c * x) (sym f) ∙ e
