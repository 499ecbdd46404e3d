-- Where the tokens of a cut stand.
use Rattle.std.proofs.Common.{◌≡◌, ℕ, zero, suc, ◌+◌, ◌-◌, ◌≤◌, List, [], ◌∷◌, Result, Ok, Err, refl, ap, sym, ◌∙◌, subst, arith, length, take, drop}
use Rattle.std.proofs.lemmas.List.{drop-drop, length-drop}
use Rattle.asm_lex.specs.declared.token.Token.{Token}
use Rattle.asm_lex.specs.declared.token.Kind.{Kind}
use Rattle.asm_lex.specs.declared.piece.Piece.{Piece}
use Rattle.asm_lex.specs.declared.piece.Piece.TheVariants as piece_of
use Rattle.asm_lex.specs.declared.error.LexError.{LexError}
use Rattle.asm_lex.specs.Cut.{piece, first_piece, Cut, onto, taken, cut_from, cut, IsIn, AreIn}
use Rattle.asm_lex.proofs.Steps.{has_length, is_piece}

pub next_place : (text : List ℕ) (at b : ℕ) (bs : List ℕ) → drop at text ≡ b ∷ bs → drop (suc at) text ≡ bs
next_place text at b bs e = ap (λ (n : ℕ). drop n text) (let i : suc at ≡ at + 1 = omega arith in i) ∙ sym (drop-drop 1 at text) ∙ ap (drop 1) e

is_in : (text : List ℕ) (at n : ℕ) (kind : Kind) (b : ℕ) (bs : List ℕ) → drop at text ≡ b ∷ bs → first_piece at (b ∷ bs) ≡ Ok (n, piece_of.Token kind) → IsIn text (record { kind = kind; from = at; to = at + n })
is_in text at n kind b bs d e =
    let h = has_length at n (piece_of.Token kind) (b ∷ bs) e in
    let k : length (drop at text) ≡ length (b ∷ bs) = ap length d in record {
      some = omega (arith, h.some);
      within = omega (arith, h.within, length-drop at text, k);
      form = ap (λ (m : ℕ). piece (take m (drop at text))) (let i : (at + n) - at ≡ n = omega arith in i) ∙ ap (λ w. piece (take n w)) d ∙ is_piece at n (piece_of.Token kind) (b ∷ bs) e;
    }

-- what is said of the tokens of a cut
module _ (P : List Token → Type 0) (none : P []) where
  pub onto_ok : (t : Token) (c : Cut) (ts : List Token) → ((us : List Token) → c ≡ Ok us → P (t ∷ us)) → onto t c ≡ Ok ts → P ts
  onto_ok t (Ok us) ts f e = let g : t ∷ us ≡ ts = cc (e) in subst P g (f us refl)
  onto_ok t (Err i) ts f e = absurd (cc (e))

pub sound_from : (text : List ℕ) (at inside : ℕ) (bs : List ℕ) (ts : List Token) → drop at text ≡ bs → cut_from at inside bs ≡ Ok ts → AreIn text ts
sound_from text at zero [] ts d e = let f : [] ≡ ts = cc (e) in subst (AreIn text) f tt
sound_from text at (suc n) [] ts d e = let f : [] ≡ ts = cc (e) in subst (AreIn text) f tt
sound_from text at (suc n) (b ∷ bs) ts d e = sound_from text (suc at) n bs ts (next_place text at b bs d) e
sound_from text at zero (b ∷ bs) ts d e = go (λ n us. sound_from text (suc at) n bs us (next_place text at b bs d)) (first_piece at (b ∷ bs)) refl e
  where
    go : ((n : ℕ) (us : List Token) → cut_from (suc at) n bs ≡ Ok us → AreIn text us) → (o : Result (ℕ × Piece) LexError) → first_piece at (b ∷ bs) ≡ o → taken at o (λ n. cut_from (suc at) n bs) ≡ Ok ts → AreIn text ts
    go rest (Err i) q e = absurd (cc (e))
    go rest (Ok (n, piece_of.Gap)) q e = rest (n - 1) ts e
    go rest (Ok (n, piece_of.Token kind)) q e =
        onto_ok (AreIn text) tt (record { kind = kind; from = at; to = at + n }) (cut_from (suc at) (n - 1) bs) ts (λ us f. (is_in text at n kind b bs d q, rest (n - 1) us f)) e

pub sound : (text : List ℕ) (ts : List Token) → cut text ≡ Ok ts → AreIn text ts
unfolding cut
sound text ts e = sound_from text 0 0 text ts refl e

pub count_from : (at inside : ℕ) (bs : List ℕ) (ts : List Token) → cut_from at inside bs ≡ Ok ts → length ts ≤ length bs
count_from at zero [] ts e = let f : [] ≡ ts = cc (e) in subst (λ (us : List Token). length us ≤ 0) f (omega arith)
count_from at (suc n) [] ts e = let f : [] ≡ ts = cc (e) in subst (λ (us : List Token). length us ≤ 0) f (omega arith)
count_from at (suc n) (b ∷ bs) ts e = omega (arith, count_from (suc at) n bs ts e)
count_from at zero (b ∷ bs) ts e = go (λ n us. count_from (suc at) n bs us) (first_piece at (b ∷ bs)) e
  where
    go : ((n : ℕ) (us : List Token) → cut_from (suc at) n bs ≡ Ok us → length us ≤ length bs) → (o : Result (ℕ × Piece) LexError) → taken at o (λ n. cut_from (suc at) n bs) ≡ Ok ts → length ts ≤ length (b ∷ bs)
    go rest (Err i) e = absurd (cc (e))
    go rest (Ok (n, piece_of.Gap)) e = omega (arith, rest (n - 1) ts e)
    go rest (Ok (n, piece_of.Token kind)) e =
        onto_ok (λ us. length us ≤ length (b ∷ bs)) (omega arith) (record { kind = kind; from = at; to = at + n }) (cut_from (suc at) (n - 1) bs) ts (λ us f. omega (arith, rest (n - 1) us f)) e

-- there are no more tokens than bytes
pub count : (text : List ℕ) (ts : List Token) → cut text ≡ Ok ts → length ts ≤ length text
unfolding cut
count text ts e = count_from 0 0 text ts e
