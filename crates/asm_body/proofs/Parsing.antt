-- Tokens from a place on.
use Rattle.std.proofs.Common.{◌≡◌, ℕ, zero, suc, ◌-◌, true, false, List, [], ◌∷◌, refl, ap, sym, ◌∙◌, length, take, drop, if◌then◌else◌, Ok}
use Rattle.std.proofs.lemmas.List.{length-map, length-drop}
use Rattle.asm_lex.specs.declared.token.Token.{Token}
use Rattle.asm_lex.specs.Cut.{cut, AreIn}
use Rattle.asm_lex.proofs.Small.{AreSmall, small}
use Rattle.asm_lex.proofs.Sound.{sound}
use Rattle.asm_tree.specs.declared.error.ParseError.TheVariants.{Syntax, Unsupported}
use Rattle.asm_body.specs.declared.lexeme.Lexeme.{Lexeme}
use Rattle.asm_body.specs.Fronts.{left_out}
use Rattle.asm_body.specs.Seen.{seen, all_seen}

seen_from : (n : ℕ) (xs : List Lexeme) → all_seen (drop n xs) ≡ drop n (all_seen xs)
seen_from zero xs = refl
seen_from (suc n) [] = refl
seen_from (suc n) (x ∷ xs) = seen_from n xs

left_out_at : (xs : List Lexeme) (left : ℕ) → left_out (drop (length (all_seen xs) - left) (all_seen xs)) ≡ left_out (all_seen (drop (length xs - left) xs))
left_out_at xs left = ap (λ (n : ℕ). left_out (drop (n - left) (all_seen xs))) (length-map xs seen) ∙ ap left_out (sym (seen_from (length xs - left) xs))

all_taken : {T : Type 0} (xs : List T) → take (length xs) xs ≡ xs
all_taken [] = refl
all_taken {T} (x ∷ xs) = ap (λ (ys : List T). x ∷ ys) (all_taken xs)

-- The items from a place to the end are those from it on.
pub to_end : {T : Type 0} (n : ℕ) (xs : List T) → take (length xs - n) (drop n xs) ≡ drop n xs
to_end n xs = ap (λ (k : ℕ). take k (drop n xs)) (sym (length-drop n xs)) ∙ all_taken (drop n xs)

pub stop_left_out : (xs : List Lexeme) (left k : ℕ) → left_out (all_seen (drop (length xs - left) xs)) ≡ true → (if left_out (drop (length (all_seen xs) - left) (all_seen xs)) then Unsupported k else Syntax k) ≡ Unsupported k
stop_left_out xs left k h = rw (left_out_at xs left, h) refl

pub stop_plain : (xs : List Lexeme) (left k : ℕ) → left_out (all_seen (drop (length xs - left) xs)) ≡ false → (if left_out (drop (length (all_seen xs) - left) (all_seen xs)) then Unsupported k else Syntax k) ≡ Syntax k
stop_plain xs left k h = rw (left_out_at xs left, h) refl

pub ruleset stops = (stop_left_out, stop_plain)

in_from : (n : ℕ) (text : List ℕ) (ts : List Token) → AreIn text ts → AreIn text (drop n ts)
in_from zero text ts a = a
in_from (suc n) text [] a = a
in_from (suc n) text (t ∷ ts) a = in_from n text ts a.1

small_from : (n : ℕ) (text : List ℕ) (ts : List Token) → AreSmall text ts → AreSmall text (drop n ts)
small_from zero text ts a = a
small_from (suc n) text [] a = a
small_from (suc n) text (t ∷ ts) a = small_from n text ts a.1

pub places_on : (n : ℕ) (text : List ℕ) (ts : List Token) → cut text ≡ Ok ts → AreIn text (drop n ts)
places_on n text ts e = in_from n text ts (sound text ts e)

pub small_on : (n : ℕ) (text : List ℕ) (ts : List Token) → cut text ≡ Ok ts → AreSmall text (drop n ts)
small_on n text ts e = small_from n text ts (small text ts e)
