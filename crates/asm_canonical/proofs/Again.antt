-- The canonical text is read again.
use Rattle.std.proofs.Common.{◌≡◌, ℕ, zero, suc, ◌+◌, ◌-◌, Bool, true, false, if◌then◌else◌, List, [], ◌∷◌, Option, Some, None, Result, Ok, Err, refl, ap, sym, ◌∙◌, subst, arith, take, drop, append-nil}
use Rattle.std.specs.Prelude.{nat_lt, codes, slice_range}
use Rattle.std.specs.Str.Parse.{digits_value}
use Rattle.std.proofs.lemmas.List.{drop-drop}
use Rattle.asm_lex.specs.declared.token.Token.{Token}
use Rattle.asm_lex.specs.declared.token.Kind.{Kind}
use Rattle.asm_lex.specs.declared.token.Kind.TheVariants as token_kind
use Rattle.asm_lex.specs.declared.piece.Piece.{Piece}
use Rattle.asm_lex.specs.declared.piece.Piece.TheVariants as piece_of
use Rattle.asm_lex.specs.declared.error.LexError.{LexError}
use Rattle.asm_lex.specs.declared.error.LexError.TheVariants.{OpenComment, NumberTooBig}
use Rattle.asm_lex.specs.Cut.{piece, is_open, is_too_big, judged, longest_piece, first_piece, taken, onto, Cut, cut_from, cut, is_number, greatest_number}
use Rattle.asm_lex.proofs.Pieces.{front_blank}
use Rattle.asm_lex.proofs.Steps.{with_front, cut_gap, is_piece}
use Rattle.asm_grammar.specs.Grammar.{Placed, tokens, inside}
use Rattle.asm_tree.specs.Language.{TokenText, models}
use Rattle.asm_tree.specs.Rules.{body}
use Rattle.asm_tree.specs.Units.{unit}
use Rattle.asm_tree.specs.Spelling.{token_text, token_texts}
use Rattle.asm_canonical.specs.Units.{unit_doc, canonical}
use Rattle.asm_canonical.specs.Law.{CanonicalText, ReadAgain}
use Rattle.asm_canonical.proofs.Classes.{no_word, no_variable}
use Rattle.asm_canonical.proofs.Cutting.{end_of, seen_whole}
use Rattle.asm_canonical.proofs.Made.{made, Fits, AllFit, Every}
use Rattle.asm_canonical.proofs.Known.{Known, known}
use Rattle.asm_canonical.proofs.GoodPaths.{unit_good}

-- ---- the numbers of a text that is cut

judged_small : (at : ℕ) (bs : List ℕ) (o : Option (ℕ × Piece)) (n : ℕ) (p : Piece) → judged at bs o ≡ Ok (n, p) → is_too_big p (take n bs) ≡ false
judged_small at bs None n p e = absurd (cc (e))
judged_small at bs (Some x) n p e = let y : ℕ × Piece = (n, p) in go y (is_too_big x.1 (take x.0 bs)) refl e
  where
    go : (y : ℕ × Piece) (b : Bool) → is_too_big x.1 (take x.0 bs) ≡ b → ◌≡◌ {A = Result (ℕ × Piece) LexError} (if b then Err (NumberTooBig at) else Ok x) (Ok y) → is_too_big y.1 (take y.0 bs) ≡ false
    go y true f e = absurd (cc (e))
    go y false f e = let g : x ≡ y = cc (e) in ap (λ (z : ℕ × Piece). is_too_big z.1 (take z.0 bs)) (sym g) ∙ f

first_small : (at n : ℕ) (p : Piece) (bs : List ℕ) → first_piece at bs ≡ Ok (n, p) → is_too_big p (take n bs) ≡ false
unfolding first_piece
first_small at n p bs e = go (is_open bs) e
  where
    go : (b : Bool) → ◌≡◌ {A = Result (ℕ × Piece) LexError} (if b then Err (OpenComment at) else judged at bs (longest_piece bs)) (Ok (n, p)) → is_too_big p (take n bs) ≡ false
    go true e = absurd (cc (e))
    go false e = judged_small at bs (longest_piece bs) n p e

number_piece : (w : List ℕ) → is_number w ≡ true → piece w ≡ Some (piece_of.Token token_kind.Number)
number_piece w h = let e = no_word w h in let f = no_variable w h in rw (e, f, h) refl

small_number : (w : List ℕ) (k : Kind) → piece w ≡ Some (piece_of.Token k) → is_too_big (piece_of.Token k) w ≡ false → is_number w ≡ true → nat_lt greatest_number (digits_value 10 w) ≡ false
small_number w k e s h =
    let f : Some (piece_of.Token k) ≡ Some (piece_of.Token token_kind.Number) = sym e ∙ number_piece w h in
    let g : piece_of.Token k ≡ piece_of.Token token_kind.Number = cc (f) in
    ap (λ (p : Piece). is_too_big p w) (sym g) ∙ s

next_place : (text : List ℕ) (at b : ℕ) (bs : List ℕ) → drop at text ≡ b ∷ bs → drop (suc at) text ≡ bs
next_place text at b bs e = ap (λ (n : ℕ). drop n text) (let i : suc at ≡ at + 1 = omega arith in i) ∙ sym (drop-drop 1 at text) ∙ ap (drop 1) e

-- each token's number, if it is one, is not above the greatest
abbrev AllSmall : List ℕ → List Token → Type 0
AllSmall text ts = Every Fits (token_texts text ts)

one_small : (text : List ℕ) (at n : ℕ) (kind : Kind) (b : ℕ) (bs : List ℕ) → drop at text ≡ b ∷ bs → first_piece at (b ∷ bs) ≡ Ok (n, piece_of.Token kind) → Fits (token_text text (record { kind = kind; from = at; to = at + n }))
one_small text at n kind b bs d e = record {
  small = λ h.
      let i : slice_range text at (at + n) ≡ take n (b ∷ bs) = ap (λ (m : ℕ). take m (drop at text)) (let j : (at + n) - at ≡ n = omega arith in j) ∙ ap (take n) d in
      ap (λ w. nat_lt greatest_number (digits_value 10 w)) i ∙ small_number (take n (b ∷ bs)) kind (is_piece at n (piece_of.Token kind) (b ∷ bs) e) (first_small at n (piece_of.Token kind) (b ∷ bs) e) (sym (ap is_number i) ∙ h);
}

onto_small : (text : List ℕ) (t : Token) (c : Cut) (ts : List Token) → Fits (token_text text t) → ((us : List Token) → c ≡ Ok us → AllSmall text us) → onto t c ≡ Ok ts → AllSmall text ts
onto_small text t (Ok us) ts f g e = let h : t ∷ us ≡ ts = cc (e) in subst (AllSmall text) h (f, g us refl)
onto_small text t (Err i) ts f g e = absurd (cc (e))

small_from : (text : List ℕ) (at inside : ℕ) (bs : List ℕ) (ts : List Token) → drop at text ≡ bs → cut_from at inside bs ≡ Ok ts → AllSmall text ts
small_from text at zero [] ts d e = let f : [] ≡ ts = cc (e) in subst (AllSmall text) f tt
small_from text at (suc n) [] ts d e = let f : [] ≡ ts = cc (e) in subst (AllSmall text) f tt
small_from text at (suc n) (b ∷ bs) ts d e = small_from text (suc at) n bs ts (next_place text at b bs d) e
small_from text at zero (b ∷ bs) ts d e = go (λ n us. small_from text (suc at) n bs us (next_place text at b bs d)) (first_piece at (b ∷ bs)) refl e
  where
    go : ((n : ℕ) (us : List Token) → cut_from (suc at) n bs ≡ Ok us → AllSmall text us) → (o : Result (ℕ × Piece) LexError) → first_piece at (b ∷ bs) ≡ o → taken at o (λ n. cut_from (suc at) n bs) ≡ Ok ts → AllSmall text ts
    go rest (Err i) q e = absurd (cc (e))
    go rest (Ok (n, piece_of.Gap)) q e = rest (n - 1) ts e
    go rest (Ok (n, piece_of.Token kind)) q e =
        onto_small text (record { kind = kind; from = at; to = at + n }) (cut_from (suc at) (n - 1) bs) ts (one_small text at n kind b bs d q) (λ us f. rest (n - 1) us f) e

all_small : (text : List ℕ) (ts : List Token) → cut text ≡ Ok ts → AllSmall text ts
unfolding cut
all_small text ts e = small_from text 0 0 text ts refl e

all_fit : (placed : List (Placed models)) (us : List TokenText) → tokens models placed ≡ us → Every Fits us → AllFit placed
all_fit [] us e h = tt
all_fit (p ∷ placed) [] e h = absurd (cc (e))
all_fit (p ∷ placed) (t ∷ us) e h =
    let f : p.token ≡ t = cc (e) in
    let g : tokens models placed ≡ us = cc (e) in
    (subst Fits (sym f) h.0, all_fit placed us g h.1)

-- ---- the law

front_last : (ts : List Token) → with_front ts (Ok []) ≡ Ok ts
front_last ts = ap Ok (append-nil ts)

cut_last : (at : ℕ) → cut_from at 0 (codes "\n") ≡ Ok []
cut_last at = cut_gap at 1 (codes "\n") (front_blank at 10 [] refl refl refl)

pub canonical_text : CanonicalText
unfolding canonical cut
canonical_text text u s =
    let fits = all_fit s.placed (token_texts text s.pieces) s.same (all_small text s.pieces s.is_cut) in
    let m = made Known (inside models (body false)) (λ x d v y next f t. known t.0 x d v y next f t.1) unit 0 s.placed u 0 fits s.spelling in
    let g = unit_good u m in
    let p = g.prints 0 0 0 in
    let c = g.cuts.cuts 0 (codes "\n") refl in (
      p.value,
      record {
        pieces = c.pieces;
        is_cut = c.is_cut ∙ ap (with_front c.pieces) (cut_last (end_of 0 (unit_doc u))) ∙ front_last c.pieces;
        placed = p.text;
        same = p.same ∙ sym (seen_whole (unit_doc u) (codes "\n") c.pieces c.places);
        spelling = p.spelling;
      },
      p.holds,
    )

pub read_again : ReadAgain
read_again text u ts s e low =
    let c = canonical_text text u s in
    let v = c.0 in
    let i = c.1 in
    let f : i.pieces ≡ ts = let g : Ok i.pieces ≡ Ok ts = sym i.is_cut ∙ e in cc (g) in
    let same = i.same ∙ ap (token_texts (canonical u)) f in
    (v, record { text = i.placed; same = same; low = low i.placed v same i.spelling; spelling = i.spelling }, c.2)
