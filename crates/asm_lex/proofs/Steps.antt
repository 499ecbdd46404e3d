-- The cut, piece by piece.
use Rattle.std.proofs.Common.{◌≡◌, ℕ, zero, suc, ◌+◌, ◌-◌, ◌<◌, ◌≤◌, Bool, true, false, if◌then◌else◌, List, [], ◌∷◌, ◌++◌, Option, Some, None, Result, Ok, Err, refl, ap, sym, ◌∙◌, subst, arith, length, take, drop, append_assoc}
use Rattle.std.specs.Prelude.{is_some}
use Rattle.std.proofs.lemmas.List.{drop-drop, length-drop}
use Rattle.asm_lex.specs.declared.token.Token.{Token}
use Rattle.asm_lex.specs.declared.token.Kind.{Kind}
use Rattle.asm_lex.specs.declared.piece.Piece.{Piece}
use Rattle.asm_lex.specs.declared.piece.Piece.TheVariants as piece_of
use Rattle.asm_lex.specs.declared.error.LexError.{LexError}
use Rattle.asm_lex.specs.declared.error.LexError.TheVariants.{OpenComment, NumberTooBig}
use Rattle.asm_lex.specs.Cut.{piece, longest, sized, is_open, is_too_big, judged, longest_piece, first_piece, Cut, onto, cut_from, cut}

-- these tokens, and then those of the cut
abbrev pub with_front : List Token → Cut → Cut
with_front ts (Ok us) = Ok (ts ++ us)
with_front ts (Err e) = Err e

-- ---- a piece has its length

pub record HasLength (n : ℕ) (bs : List ℕ) : Type 0 where
  pub some : 0 < n
  pub within : n ≤ length bs

longest_within : (n : ℕ) (bs : List ℕ) → longest n bs ≤ n
longest_within zero bs = omega arith
longest_within (suc n) bs = go (is_some (piece (take (suc n) bs))) (longest_within n bs)
  where
    go : (b : Bool) → longest n bs ≤ n → (if b then suc n else longest n bs) ≤ suc n
    go true le = omega arith
    go false le = omega arith

sized_is : (m n : ℕ) (o : Option Piece) (p : Piece) → sized m o ≡ Some (n, p) → (m ≡ n) × (o ≡ Some p)
sized_is m n None p e = absurd (cc)
sized_is m n (Some q) p e = let a : ℕ × Piece = (m, q) in let b : ℕ × Piece = (n, p) in let g : a ≡ b = cc (e) in (ap (λ z. z.0) g, ap (λ z. Some z.1) g)

judged_is : (at : ℕ) (bs : List ℕ) (o : Option (ℕ × Piece)) (n : ℕ) (p : Piece) → judged at bs o ≡ Ok (n, p) → o ≡ Some (n, p)
judged_is at bs None n p e = absurd (cc (e))
judged_is at bs (Some x) n p e = let y : ℕ × Piece = (n, p) in go y (is_too_big x.1 (take x.0 bs)) e
  where
    go : (y : ℕ × Piece) (b : Bool) → ◌≡◌ {A = Result (ℕ × Piece) LexError} (if b then Err (NumberTooBig at) else Ok x) (Ok y) → Some x ≡ Some y
    go y true e = absurd (cc (e))
    go y false e = let g : x ≡ y = cc (e) in ap (λ z. Some z) g

longest_is : (at n : ℕ) (p : Piece) (bs : List ℕ) → first_piece at bs ≡ Ok (n, p) → longest_piece bs ≡ Some (n, p)
unfolding first_piece
longest_is at n p bs e = go (is_open bs) e
  where
    go : (b : Bool) → ◌≡◌ {A = Result (ℕ × Piece) LexError} (if b then Err (OpenComment at) else judged at bs (longest_piece bs)) (Ok (n, p)) → longest_piece bs ≡ Some (n, p)
    go true e = absurd (cc (e))
    go false e = judged_is at bs (longest_piece bs) n p e

longest_length : (n : ℕ) (p : Piece) (bs : List ℕ) → longest_piece bs ≡ Some (n, p) → HasLength n bs
unfolding longest_piece
longest_length n p bs e = go n (sized_is (longest (length bs) bs) n (piece (take (longest (length bs) bs) bs)) p e)
  where
    go : (n : ℕ) → (longest (length bs) bs ≡ n) × (piece (take (longest (length bs) bs) bs) ≡ Some p) → HasLength n bs
    go zero q = let f : piece (take 0 bs) ≡ Some p = subst (λ (k : ℕ). piece (take k bs) ≡ Some p) q.0 q.1 in absurd (cc)
    go (suc n) q = record { some = omega arith; within = subst (λ (k : ℕ). k ≤ length bs) q.0 (longest_within (length bs) bs) }

longest_piece_is : (n : ℕ) (p : Piece) (bs : List ℕ) → longest_piece bs ≡ Some (n, p) → piece (take n bs) ≡ Some p
unfolding longest_piece
longest_piece_is n p bs e = let q = sized_is (longest (length bs) bs) n (piece (take (longest (length bs) bs) bs)) p e in subst (λ (k : ℕ). piece (take k bs) ≡ Some p) q.0 q.1

pub has_length : (at n : ℕ) (p : Piece) (bs : List ℕ) → first_piece at bs ≡ Ok (n, p) → HasLength n bs
has_length at n p bs e = longest_length n p bs (longest_is at n p bs e)

pub is_piece : (at n : ℕ) (p : Piece) (bs : List ℕ) → first_piece at bs ≡ Ok (n, p) → piece (take n bs) ≡ Some p
is_piece at n p bs e = longest_piece_is n p bs (longest_is at n p bs e)

-- ---- the bytes of a piece are passed over

pub passes : (at n : ℕ) (bs : List ℕ) → n ≤ length bs → cut_from at n bs ≡ cut_from (at + n) 0 (drop n bs)
passes at zero bs le = ap (λ k. cut_from k 0 bs) (let e : at ≡ at + 0 = omega arith in e)
passes at (suc n) [] le = absurd (omega arith)
passes at (suc n) (b ∷ bs) le = passes (suc at) n bs (omega arith) ∙ ap (λ k. cut_from k 0 (drop n bs)) (let e : suc at + n ≡ at + suc n = omega arith in e)

pub cut_gap : (at n : ℕ) (bs : List ℕ) → first_piece at bs ≡ Ok (n, piece_of.Gap) → cut_from at 0 bs ≡ cut_from (at + n) 0 (drop n bs)
cut_gap at n [] e = let h = has_length at n piece_of.Gap [] e in absurd (omega (arith, h.some, h.within))
cut_gap at zero (b ∷ bs) e = let h = has_length at zero piece_of.Gap (b ∷ bs) e in absurd (omega (arith, h.some))
cut_gap at (suc n) (b ∷ bs) e =
    let h = has_length at (suc n) piece_of.Gap (b ∷ bs) e in
    rw e (ap (λ k. cut_from (suc at) k bs) (let i : suc n - 1 ≡ n = omega arith in i) ∙ passes (suc at) n bs (omega (arith, h.within)) ∙ ap (λ k. cut_from k 0 (drop n bs)) (let i : suc at + n ≡ at + suc n = omega arith in i))

pub cut_token : (at n : ℕ) (kind : Kind) (bs : List ℕ) → first_piece at bs ≡ Ok (n, piece_of.Token kind) → cut_from at 0 bs ≡ onto (record { kind = kind; from = at; to = at + n }) (cut_from (at + n) 0 (drop n bs))
cut_token at n kind [] e = let h = has_length at n (piece_of.Token kind) [] e in absurd (omega (arith, h.some, h.within))
cut_token at zero kind (b ∷ bs) e = let h = has_length at zero (piece_of.Token kind) (b ∷ bs) e in absurd (omega (arith, h.some))
cut_token at (suc n) kind (b ∷ bs) e =
    let h = has_length at (suc n) (piece_of.Token kind) (b ∷ bs) e in
    rw e (ap (onto (record { kind = kind; from = at; to = at + suc n }))
    (ap (λ k. cut_from (suc at) k bs) (let i : suc n - 1 ≡ n = omega arith in i) ∙ passes (suc at) n bs (omega (arith, h.within)) ∙ ap (λ k. cut_from k 0 (drop n bs)) (let i : suc at + n ≡ at + suc n = omega arith in i)))

pub cut_bad : (at : ℕ) (e : LexError) (bs : List ℕ) → 0 < length bs → first_piece at bs ≡ Err e → cut_from at 0 bs ≡ Err e
cut_bad at e [] lt h = absurd (omega arith)
cut_bad at e (b ∷ bs) lt h = rw h refl

-- ---- the loop

front_onto : (ts : List Token) (t : Token) (c : Cut) → with_front ts (onto t c) ≡ with_front (ts ++ t ∷ []) c
front_onto ts t (Ok us) = ap Ok (sym (append_assoc ts (t ∷ []) us))
front_onto ts t (Err e) = refl

-- The invariant: these tokens and those from the place on are those of the text.
pub record CutsTo (text : List ℕ) (ts : List Token) (at : ℕ) : Type 0 where
  pub whole : with_front ts (cut_from at 0 (drop at text)) ≡ cut text
  pub within : at ≤ length text

pub cuts_at_first : (text : List ℕ) → CutsTo text [] 0
unfolding cut
cuts_at_first text = record { whole = go (cut_from 0 0 text); within = omega arith }
  where
    go : (c : Cut) → with_front [] c ≡ c
    go (Ok us) = refl
    go (Err e) = refl

behind_at : (text : List ℕ) (at n : ℕ) → drop n (drop at text) ≡ drop (at + n) text
behind_at text at n = drop-drop n at text

pub cuts_gap : (text : List ℕ) (ts : List Token) (at n : ℕ) → CutsTo text ts at → first_piece at (drop at text) ≡ Ok (n, piece_of.Gap) → CutsTo text ts (at + n)
cuts_gap text ts at n c e =
    let h = has_length at n piece_of.Gap (drop at text) e in record {
      whole = subst (λ (w : List ℕ). with_front ts (cut_from (at + n) 0 w) ≡ cut text) (behind_at text at n) (subst (λ (z : Cut). with_front ts z ≡ cut text) (cut_gap at n (drop at text) e) c.whole);
      within = omega (arith, h.within, length-drop at text, c.within);
    }

pub cuts_token : (text : List ℕ) (ts : List Token) (at n : ℕ) (kind : Kind) → CutsTo text ts at → first_piece at (drop at text) ≡ Ok (n, piece_of.Token kind)
    → CutsTo text (ts ++ record { kind = kind; from = at; to = at + n } ∷ []) (at + n)
cuts_token text ts at n kind c e =
    let h = has_length at n (piece_of.Token kind) (drop at text) e in
    let t : Token = record { kind = kind; from = at; to = at + n } in record {
      whole = subst (λ (w : List ℕ). with_front (ts ++ t ∷ []) (cut_from (at + n) 0 w) ≡ cut text) (behind_at text at n)
          (sym (front_onto ts t (cut_from (at + n) 0 (drop n (drop at text)))) ∙ subst (λ (z : Cut). with_front ts z ≡ cut text) (cut_token at n kind (drop at text) e) c.whole);
      within = omega (arith, h.within, length-drop at text, c.within);
    }

pub cuts_bad : (text : List ℕ) (ts : List Token) (at : ℕ) (e : LexError) → CutsTo text ts at → at < length text → first_piece at (drop at text) ≡ Err e → cut text ≡ Err e
cuts_bad text ts at e c lt h = sym c.whole ∙ rw (cut_bad at e (drop at text) (omega (arith, length-drop at text)) h) refl

pub cuts_at_last : (text : List ℕ) (ts : List Token) (at : ℕ) → CutsTo text ts at → length text ≤ at → cut text ≡ Ok ts
cuts_at_last text ts at c le = sym c.whole ∙ go (drop at text) (omega (arith, length-drop at text))
  where
    nil : (ts : List Token) → ts ++ [] ≡ ts
    nil [] = refl
    nil (t ∷ ts) = ap (λ z. t ∷ z) (nil ts)

    go : (w : List ℕ) → length w ≤ 0 → with_front ts (cut_from at 0 w) ≡ Ok ts
    go [] h = ap Ok (nil ts)
    go (b ∷ w) h = absurd (omega arith)
