-- No number of a cut is above the greatest.
use Rattle.std.proofs.Common.{◌≡◌, ℕ, zero, suc, ◌+◌, ◌-◌, Bool, true, false, if◌then◌else◌, List, [], ◌∷◌, Result, Ok, Err, Option, Some, None, refl, ap, sym, ◌∙◌, subst, arith, take, drop}
use Rattle.std.specs.Prelude.{slice_range}
use Rattle.asm_lex.specs.declared.token.Token.{Token}
use Rattle.asm_lex.specs.declared.token.Kind.{Kind}
use Rattle.asm_lex.specs.declared.piece.Piece.{Piece}
use Rattle.asm_lex.specs.declared.piece.Piece.TheVariants as piece_of
use Rattle.asm_lex.specs.declared.error.LexError.{LexError}
use Rattle.asm_lex.specs.declared.error.LexError.TheVariants.{OpenComment, NumberTooBig}
use Rattle.asm_lex.specs.Cut.{is_open, is_too_big, judged, longest_piece, first_piece, Cut, onto, taken, cut_from, cut}
use Rattle.asm_lex.proofs.Sound.{next_place, onto_ok}

-- the token is no number above the greatest
abbrev pub IsSmall : List ℕ → Token → Type 0
IsSmall text t = is_too_big (piece_of.Token t.kind) (slice_range text t.from t.to) ≡ false

abbrev pub AreSmall : List ℕ → List Token → Type 0
AreSmall text [] = Unit {0}
AreSmall text (t ∷ ts) = IsSmall text t × AreSmall text ts

judged_small : (at : ℕ) (bs : List ℕ) (o : Option (ℕ × Piece)) (n : ℕ) (p : Piece) → judged at bs o ≡ Ok (n, p) → is_too_big p (take n bs) ≡ false
judged_small at bs None n p e = absurd (cc (e))
judged_small at bs (Some x) n p e = go (is_too_big x.1 (take x.0 bs)) refl e
  where
    go : (b : Bool) → is_too_big x.1 (take x.0 bs) ≡ b → ◌≡◌ {A = Result (ℕ × Piece) LexError} (if b then Err (NumberTooBig at) else Ok x) (Ok (n, p)) → is_too_big p (take n bs) ≡ false
    go true s e = absurd (cc (e))
    go false s e = let y : ℕ × Piece = (n, p) in let g : x ≡ y = cc (e) in subst (λ (z : ℕ × Piece). is_too_big z.1 (take z.0 bs) ≡ false) g s

first_small : (at n : ℕ) (p : Piece) (bs : List ℕ) → first_piece at bs ≡ Ok (n, p) → is_too_big p (take n bs) ≡ false
unfolding first_piece
first_small at n p bs e = go (is_open bs) e
  where
    go : (b : Bool) → ◌≡◌ {A = Result (ℕ × Piece) LexError} (if b then Err (OpenComment at) else judged at bs (longest_piece bs)) (Ok (n, p)) → is_too_big p (take n bs) ≡ false
    go true e = absurd (cc (e))
    go false e = judged_small at bs (longest_piece bs) n p e

is_small : (text : List ℕ) (at n : ℕ) (kind : Kind) (b : ℕ) (bs : List ℕ) → drop at text ≡ b ∷ bs → first_piece at (b ∷ bs) ≡ Ok (n, piece_of.Token kind) → IsSmall text (record { kind = kind; from = at; to = at + n })
is_small text at n kind b bs d e =
    ap (λ (m : ℕ). is_too_big (piece_of.Token kind) (take m (drop at text))) (let i : (at + n) - at ≡ n = omega arith in i) ∙ ap (λ w. is_too_big (piece_of.Token kind) (take n w)) d ∙ first_small at n (piece_of.Token kind) (b ∷ bs) e

small_from : (text : List ℕ) (at inside : ℕ) (bs : List ℕ) (ts : List Token) → drop at text ≡ bs → cut_from at inside bs ≡ Ok ts → AreSmall text ts
small_from text at zero [] ts d e = let f : [] ≡ ts = cc (e) in subst (AreSmall text) f tt
small_from text at (suc n) [] ts d e = let f : [] ≡ ts = cc (e) in subst (AreSmall text) f tt
small_from text at (suc n) (b ∷ bs) ts d e = small_from text (suc at) n bs ts (next_place text at b bs d) e
small_from text at zero (b ∷ bs) ts d e = go (λ n us. small_from text (suc at) n bs us (next_place text at b bs d)) (first_piece at (b ∷ bs)) refl e
  where
    go : ((n : ℕ) (us : List Token) → cut_from (suc at) n bs ≡ Ok us → AreSmall text us) → (o : Result (ℕ × Piece) LexError) → first_piece at (b ∷ bs) ≡ o → taken at o (λ n. cut_from (suc at) n bs) ≡ Ok ts → AreSmall text ts
    go rest (Err i) q e = absurd (cc (e))
    go rest (Ok (n, piece_of.Gap)) q e = rest (n - 1) ts e
    go rest (Ok (n, piece_of.Token kind)) q e =
        onto_ok (AreSmall text) tt (record { kind = kind; from = at; to = at + n }) (cut_from (suc at) (n - 1) bs) ts (λ us f. (is_small text at n kind b bs d q, rest (n - 1) us f)) e

pub small : (text : List ℕ) (ts : List Token) → cut text ≡ Ok ts → AreSmall text ts
unfolding cut
small text ts e = small_from text 0 0 text ts refl e
