-- How the text of a document is cut.
use Rattle.std.proofs.Common.{◌≡◌, ℕ, zero, suc, ◌+◌, ◌*◌, ◌-◌, true, List, [], ◌∷◌, ◌++◌, length, take, drop, refl, ap, sym, ◌∙◌, append_assoc, append-nil, length-append, arith, Ok, Err}
use Rattle.std.specs.Prelude.{map, replicate, slice_range}
use Rattle.asm_lex.specs.declared.token.Token.{Token}
use Rattle.asm_lex.specs.Cut.{onto, Cut, cut_from}
use Rattle.asm_lex.proofs.Pieces.{front_blank}
use Rattle.asm_lex.proofs.Steps.{with_front, cut_gap, cut_token}
use Rattle.asm_tree.specs.Language.{TokenText}
use Rattle.asm_tree.specs.Spelling.{token_text, token_texts}
use Rattle.asm_canonical.specs.Document.{Item, Gap, Line, One, item_text, text_in}
use Rattle.asm_canonical.proofs.Texts.{text_in-append}
use Rattle.asm_canonical.proofs.Ends.{Ends, breaks, Stops, Free}

-- where the text of a document ends that begins at this place
abbrev pub end_of : ℕ → List Item → ℕ
end_of at d = at + length (text_in d)

-- the first and the last place of each token
abbrev pub spans : ℕ → List Item → List (ℕ × ℕ)
spans at [] = []
spans at (Gap ∷ d) = spans (at + length (item_text Gap)) d
spans at (Line n ∷ d) = spans (at + length (item_text (Line n))) d
spans at (One w ∷ d) = (at, at + length w) ∷ spans (at + length w) d

-- the tokens with their places
abbrev pub seen : ℕ → List Item → List TokenText
seen at [] = []
seen at (Gap ∷ d) = seen (at + length (item_text Gap)) d
seen at (Line n ∷ d) = seen (at + length (item_text (Line n))) d
seen at (One w ∷ d) = record { at = at; text = w } ∷ seen (at + length w) d

abbrev pub span : Token → ℕ × ℕ
span t = (t.from, t.to)

-- it is cut into its tokens, and then the rest
pub record CutTo (at : ℕ) (d : List Item) (r : List ℕ) : Type 0 where
  pub pieces : List Token
  pub is_cut : cut_from at 0 (text_in d ++ r) ≡ with_front pieces (cut_from (end_of at d) 0 r)
  pub places : map span pieces ≡ spans at d

-- before any text with which no token goes on
pub record Cuts (d : List Item) : Type 0 where
  pub cuts : (at : ℕ) (r : List ℕ) → breaks r ≡ true → CutTo at d r

-- no token goes on with a text that begins so
pub record Leads (d : List Item) : Type 0 where
  pub breaking : (r : List ℕ) → breaks r ≡ true → breaks (text_in d ++ r) ≡ true

-- the token ends before this document
pub record Joins (w : List ℕ) (d : List Item) : Type 0 where
  pub ends : (r : List ℕ) → breaks r ≡ true → Ends w (text_in d ++ r)

pub joins_leads : {w : List ℕ} {d : List Item} → Stops w → Leads d → Joins w d
joins_leads {w} {d} s l = record { ends = λ r h. s.ends (text_in d ++ r) (l.breaking r h) }

pub joins_free : {w : List ℕ} {d : List Item} → Free w → Joins w d
joins_free {w} {d} f = record { ends = λ r h. f.ends (text_in d ++ r) }

-- ---- appending

with_none : (c : Cut) → with_front [] c ≡ c
with_none (Ok us) = refl
with_none (Err e) = refl

with_both : (ts us : List Token) (c : Cut) → with_front ts (with_front us c) ≡ with_front (ts ++ us) c
with_both ts us (Ok vs) = ap Ok (sym (append_assoc ts us vs))
with_both ts us (Err e) = refl

with_one : (t : Token) (c : Cut) → onto t c ≡ with_front (t ∷ []) c
with_one t (Ok us) = refl
with_one t (Err e) = refl

map-append : (ts us : List Token) → map span (ts ++ us) ≡ map span ts ++ map span us
map-append [] us = refl
map-append (t ∷ ts) us = ap (λ z. span t ∷ z) (map-append ts us)

pub end-cons : (at : ℕ) (i : Item) (d : List Item) → end_of (at + length (item_text i)) d ≡ end_of at (i ∷ d)
end-cons at i d = omega (arith, length-append (item_text i) (text_in d))

pub end-append : (at : ℕ) (a b : List Item) → end_of (end_of at a) b ≡ end_of at (a ++ b)
end-append at a b = let e = ap length (text_in-append a b) in omega (arith, e, length-append (text_in a) (text_in b))

pub spans-append : (at : ℕ) (a b : List Item) → spans at (a ++ b) ≡ spans at a ++ spans (end_of at a) b
spans-append at [] b = ap (λ k. spans k b) (let e : at ≡ at + 0 = omega arith in e)
spans-append at (Gap ∷ a) b = spans-append (at + length (item_text Gap)) a b ∙ ap (λ k. spans (at + length (item_text Gap)) a ++ spans k b) (end-cons at Gap a)
spans-append at (Line n ∷ a) b = spans-append (at + length (item_text (Line n))) a b ∙ ap (λ k. spans (at + length (item_text (Line n))) a ++ spans k b) (end-cons at (Line n) a)
spans-append at (One w ∷ a) b = ap (λ z. (at, at + length w) ∷ z) (spans-append (at + length w) a b ∙ ap (λ k. spans (at + length w) a ++ spans k b) (end-cons at (One w) a))

pub seen-append : (at : ℕ) (a b : List Item) → seen at (a ++ b) ≡ seen at a ++ seen (end_of at a) b
seen-append at [] b = ap (λ k. seen k b) (let e : at ≡ at + 0 = omega arith in e)
seen-append at (Gap ∷ a) b = seen-append (at + length (item_text Gap)) a b ∙ ap (λ k. seen (at + length (item_text Gap)) a ++ seen k b) (end-cons at Gap a)
seen-append at (Line n ∷ a) b = seen-append (at + length (item_text (Line n))) a b ∙ ap (λ k. seen (at + length (item_text (Line n))) a ++ seen k b) (end-cons at (Line n) a)
seen-append at (One w ∷ a) b = ap (λ z. record { at = at; text = w } ∷ z) (seen-append (at + length w) a b ∙ ap (λ k. seen (at + length w) a ++ seen k b) (end-cons at (One w) a))

pub cut_both : (at : ℕ) (a b : List Item) (r : List ℕ) → CutTo at a (text_in b ++ r) → CutTo (end_of at a) b r → CutTo at (a ++ b) r
cut_both at a b r p q = record {
  pieces = p.pieces ++ q.pieces;
  is_cut = ap (cut_from at 0) (ap (λ z. z ++ r) (text_in-append a b) ∙ append_assoc (text_in a) (text_in b) r) ∙ p.is_cut ∙ ap (with_front p.pieces) q.is_cut
      ∙ with_both p.pieces q.pieces (cut_from (end_of (end_of at a) b) 0 r) ∙ ap (λ k. with_front (p.pieces ++ q.pieces) (cut_from k 0 r)) (end-append at a b);
  places = map-append p.pieces q.pieces ∙ ap (λ z. z ++ map span q.pieces) p.places ∙ ap (λ z. spans at a ++ z) q.places ∙ sym (spans-append at a b);
}

pub cuts_nil : Cuts []
cuts_nil = record {
  cuts = λ at r h. record { pieces = []; is_cut = ap (λ k. cut_from k 0 r) (let e : at ≡ at + 0 = omega arith in e) ∙ sym (with_none (cut_from (end_of at []) 0 r)); places = refl };
}

-- a text, a break, and a text
pub cuts_then : (a b : List Item) → Cuts a → Leads b → Cuts b → Cuts (a ++ b)
cuts_then a b p l q = record { cuts = λ at r h. cut_both at a b r (p.cuts at (text_in b ++ r) (l.breaking r h)) (q.cuts (end_of at a) r h) }

-- ---- one item

drop_front : (w r : List ℕ) → drop (length w) (w ++ r) ≡ r
drop_front [] r = refl
drop_front (b ∷ w) r = drop_front w r

-- a token, and what it ends before
cut_one : (at : ℕ) (w r : List ℕ) → Ends w r → CutTo at (One w ∷ []) r
cut_one at w r e = record {
  pieces = record { kind = e.kind; from = at; to = at + length w } ∷ [];
  is_cut = ap (λ z. cut_from at 0 (z ++ r)) (append-nil w) ∙ cut_token at (length w) e.kind (w ++ r) (e.first at)
      ∙ ap (λ z. onto (record { kind = e.kind; from = at; to = at + length w }) (cut_from (at + length w) 0 z)) (drop_front w r)
      ∙ with_one (record { kind = e.kind; from = at; to = at + length w }) (cut_from (at + length w) 0 r)
      ∙ ap (λ k. with_front (record { kind = e.kind; from = at; to = at + length w } ∷ []) (cut_from k 0 r)) (ap (λ z. at + length z) (sym (append-nil w)));
  places = refl;
}

pub cuts_one : (w : List ℕ) (d : List Item) → Joins w d → Cuts d → Cuts (One w ∷ d)
cuts_one w d j p = record { cuts = λ at r h. cut_both at (One w ∷ []) d r (cut_one at w (text_in d ++ r) (j.ends r h)) (p.cuts (end_of at (One w ∷ [])) r h) }

cut_blank : (at : ℕ) (r : List ℕ) → cut_from at 0 (32 ∷ r) ≡ cut_from (at + 1) 0 r
cut_blank at r = cut_gap at 1 (32 ∷ r) (front_blank at 32 r refl refl refl)

cut_feed : (at : ℕ) (r : List ℕ) → cut_from at 0 (10 ∷ r) ≡ cut_from (at + 1) 0 r
cut_feed at r = cut_gap at 1 (10 ∷ r) (front_blank at 10 r refl refl refl)

cut_blanks : (n at : ℕ) (r : List ℕ) → cut_from at 0 (replicate n 32 ++ r) ≡ cut_from (at + length {A = ℕ} (replicate n 32)) 0 r
cut_blanks zero at r = ap (λ k. cut_from k 0 r) (let e : at ≡ at + 0 = omega arith in e)
cut_blanks (suc n) at r = cut_blank at (replicate n 32 ++ r) ∙ cut_blanks n (at + 1) r ∙ ap (λ k. cut_from k 0 r) (let e : at + 1 + length {A = ℕ} (replicate n 32) ≡ at + suc (length {A = ℕ} (replicate n 32)) = omega arith in e)

cut_space : (at : ℕ) (r : List ℕ) → CutTo at (Gap ∷ []) r
cut_space at r = record { pieces = []; is_cut = cut_blank at r ∙ sym (with_none (cut_from (at + 1) 0 r)); places = refl }

cut_line : (at n : ℕ) (r : List ℕ) → CutTo at (Line n ∷ []) r
cut_line at n r = record {
  pieces = [];
  is_cut = ap (λ z. cut_from at 0 (10 ∷ (z ++ r))) (append-nil (replicate (2 * n) 32)) ∙ cut_feed at (replicate (2 * n) 32 ++ r) ∙ cut_blanks (2 * n) (at + 1) r
      ∙ ap (λ k. cut_from k 0 r) (let e : at + 1 + length {A = ℕ} (replicate (2 * n) 32) ≡ at + suc (length {A = ℕ} (replicate (2 * n) 32)) = omega arith in e ∙ ap (λ z. at + suc (length z)) (sym (append-nil (replicate (2 * n) 32))))
      ∙ sym (with_none (cut_from (end_of at (Line n ∷ [])) 0 r));
  places = refl;
}

pub cuts_gap : (d : List Item) → Cuts d → Cuts (Gap ∷ d)
cuts_gap d p = record { cuts = λ at r h. cut_both at (Gap ∷ []) d r (cut_space at (text_in d ++ r)) (p.cuts (end_of at (Gap ∷ [])) r h) }

pub cuts_line : (n : ℕ) (d : List Item) → Cuts d → Cuts (Line n ∷ d)
cuts_line n d p = record { cuts = λ at r h. cut_both at (Line n ∷ []) d r (cut_line at n (text_in d ++ r)) (p.cuts (end_of at (Line n ∷ [])) r h) }

-- ---- what leads

pub leads_nil : Leads []
leads_nil = record { breaking = λ r h. h }

pub leads_gap : {d : List Item} → Leads (Gap ∷ d)
leads_gap = record { breaking = λ r h. refl }

pub leads_line : {n : ℕ} {d : List Item} → Leads (Line n ∷ d)
leads_line = record { breaking = λ r h. refl }

pub leads_byte : {b : ℕ} {w : List ℕ} {d : List Item} → breaks (b ∷ []) ≡ true → Leads (One (b ∷ w) ∷ d)
leads_byte {b} {w} {d} e = record { breaking = λ r h. e }

-- ---- the tokens in the text

abbrev span_text : List ℕ → ℕ × ℕ → TokenText
span_text text p = record { at = p.0; text = slice_range text p.0 p.1 }

by_spans : (text : List ℕ) (ts : List Token) → token_texts text ts ≡ map (span_text text) (map span ts)
by_spans text [] = refl
by_spans text (t ∷ ts) = ap (λ z. token_text text t ∷ z) (by_spans text ts)

take_front : (w r : List ℕ) → take (length w) (w ++ r) ≡ w
take_front [] r = refl
take_front (b ∷ w) r = ap (λ z. b ∷ z) (take_front w r)

slice_behind : (front w r : List ℕ) → slice_range (front ++ (w ++ r)) (length front) (length front + length w) ≡ w
slice_behind front w r =
    ap (λ (n : ℕ). take n (drop (length front) (front ++ (w ++ r)))) (let e : length front + length w - length front ≡ length w = omega arith in e)
    ∙ ap (take (length w)) (drop_front front (w ++ r)) ∙ take_front w r

moved : (front : List ℕ) (i : Item) (d : List Item) (r : List ℕ) → front ++ (text_in (i ∷ d) ++ r) ≡ (front ++ item_text i) ++ (text_in d ++ r)
moved front i d r = ap (λ z. front ++ z) (append_assoc (item_text i) (text_in d) r) ∙ sym (append_assoc front (item_text i) (text_in d ++ r))

-- the rest of a document, behind one item
next_seen : (front : List ℕ) (i : Item) (d : List Item) (r : List ℕ) → map (span_text ((front ++ item_text i) ++ (text_in d ++ r))) (spans (length (front ++ item_text i)) d) ≡ seen (length (front ++ item_text i)) d
    → map (span_text (front ++ (text_in (i ∷ d) ++ r))) (spans (length front + length (item_text i)) d) ≡ seen (length front + length (item_text i)) d
next_seen front i d r e =
    let n = length-append front (item_text i) in
    ap (λ (text : List ℕ). map (span_text text) (spans (length front + length (item_text i)) d)) (moved front i d r)
    ∙ ap (λ (k : ℕ). map (span_text ((front ++ item_text i) ++ (text_in d ++ r))) (spans k d)) (sym n) ∙ e ∙ ap (λ (k : ℕ). seen k d) n

seen_in : (front : List ℕ) (d : List Item) (r : List ℕ) → map (span_text (front ++ (text_in d ++ r))) (spans (length front) d) ≡ seen (length front) d
seen_in front [] r = refl
seen_in front (Gap ∷ d) r = next_seen front Gap d r (seen_in (front ++ item_text Gap) d r)
seen_in front (Line n ∷ d) r = next_seen front (Line n) d r (seen_in (front ++ item_text (Line n)) d r)
seen_in front (One w ∷ d) r = cons (ap (λ z. slice_range (front ++ z) (length front) (length front + length w)) (append_assoc w (text_in d) r) ∙ slice_behind front w (text_in d ++ r)) (next_seen front (One w) d r (seen_in (front ++ w) d r))
  where
    cons : {a : ℕ} {v w : List ℕ} {ts us : List TokenText} → v ≡ w → ts ≡ us → ◌≡◌ {A = List TokenText} (record { at = a; text = v } ∷ ts) (record { at = a; text = w } ∷ us)
    cons {a} {v} {w} {ts} {us} e f = ap (λ (z : List ℕ). record { at = a; text = z } ∷ ts) e ∙ ap (λ (z : List TokenText). record { at = a; text = w } ∷ z) f

-- the tokens of a text that is a document and a rest
pub seen_whole : (d : List Item) (r : List ℕ) (ts : List Token) → map span ts ≡ spans 0 d → token_texts (text_in d ++ r) ts ≡ seen 0 d
seen_whole d r ts e = by_spans (text_in d ++ r) ts ∙ ap (map (span_text (text_in d ++ r))) e ∙ seen_in [] d r
