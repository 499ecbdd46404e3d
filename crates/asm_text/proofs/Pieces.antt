-- Texts that are appended piece by piece.
use Rattle.std.proofs.Common.{◌≡◌, ℕ, suc, ◌+◌, ◌-◌, ◌<◌, List, [], ◌∷◌, ◌++◌, length, get_or, drop, Result, Ok, refl, sym, ap, ◌∙◌, subst, append-nil, append_assoc, drop-cons, add-one, arith}
use Rattle.std.specs.Prelude.{IsErrAnd, map, codes}
use Rattle.std.specs.List.{flat_map, range_with_len}
use Rattle.std.proofs.lemmas.Result.{err_from_is_err_and}
use Rattle.asm_domain.specs.declared.value.Value.{Value}
use Rattle.asm_source.specs.Appends.{Appends, AppendsPart, AppendsFront}
use Rattle.asm_source.proofs.Appending.{text_front_none, text_front_more, text_front_part}
use Rattle.asm_node.specs.Machine.{State}
use Rattle.asm_sign.specs.Vocabulary.{Vocabulary, locations}
use Rattle.asm_text.specs.Texts.{joint, with_commas, value_text, kept_line, state_text}

-- an error after a part
pub ends : {T E : Type 0} (Q : E → Type 0) (old new bytes : List ℕ) (r : Result T E) → IsErrAnd r Q → AppendsPart old new bytes → Appends old new bytes r
ends Q old new bytes r is part = let p = err_from_is_err_and r is in rw p.1 (record { ok = tt; err = part })

-- the same bytes in other words
pub along : {T E : Type 0} (old new xs ys : List ℕ) (r : Result T E) → xs ≡ ys → Appends old new xs r → Appends old new ys r
along old new xs ys r same a = subst (λ zs. Appends old new zs r) same a

pub four : (a b c d : List ℕ) → a ++ (b ++ (c ++ d)) ≡ a ++ b ++ c ++ d
four a b c d = simp append_assoc

pub six : (a b c d e f : List ℕ) → a ++ (b ++ (c ++ (d ++ (e ++ f)))) ≡ a ++ b ++ c ++ d ++ e ++ f
six a b c d e f = simp append_assoc

-- a name, a line and a column
pub spot_is : (name colon line column : List ℕ) → name ++ (colon ++ (line ++ (colon ++ column))) ≡ name ++ colon ++ (line ++ colon ++ column)
spot_is name colon line column = simp append_assoc

-- a loop is at its end
pub done : {T E : Type 0} (old now bytes rest : List ℕ) (x : T) → AppendsFront old now bytes rest → rest ≡ [] → Appends {T = T} {E = E} old now bytes (Ok x)
done old now bytes rest x so_far none = record {
  ok = so_far.now_is ∙ ap (λ zs. old ++ zs) (sym (so_far.bytes_are ∙ ap (λ zs. so_far.front ++ zs) none ∙ append-nil so_far.front));
  err = tt;
}

-- ---- lists with commas

-- the texts from one of this number on, each behind a comma if it isn't the first
abbrev pub rest_from : ℕ → List (List ℕ) → List ℕ
rest_from n [] = []
rest_from n (t ∷ ts) = (joint n ++ t) ++ rest_from (suc n) ts

behind : (n : ℕ) (t : List ℕ) (ts : List (List ℕ)) → t ++ rest_from (suc n) ts ≡ with_commas (t ∷ ts)
behind n t [] = append-nil t
behind n t (u ∷ us) = ap (λ z. t ++ 44 ∷ z) (behind (suc n) u us) ∙ sym (append_assoc t (codes ",") (with_commas (u ∷ us)))

pub all_from : (ts : List (List ℕ)) → rest_from 0 ts ≡ with_commas ts
all_from [] = refl
all_from (t ∷ ts) = behind 0 t ts

pub items_begin : (old : List ℕ) (ts : List (List ℕ)) → AppendsFront old old (with_commas ts) (rest_from 0 ts)
items_begin old ts = rw (all_from ts) (text_front_none old (with_commas ts))

pub items_step : (v : Vocabulary) (xs : List Value) (n : ℕ) (d : Value) → n < length xs
    → rest_from n (map (value_text v) (drop n xs)) ≡ (joint n ++ value_text v (get_or xs n d)) ++ rest_from (n + 1) (map (value_text v) (drop (n + 1) xs))
items_step v xs n d lt = rw (add-one, drop-cons xs n d) refl

pub items_more : (v : Vocabulary) (xs : List Value) (n : ℕ) (d : Value) (old mid now : List ℕ) → n < length xs
    → AppendsFront old mid (with_commas (map (value_text v) xs)) (rest_from n (map (value_text v) (drop n xs)))
    → now ≡ mid ++ (joint n ++ value_text v (get_or xs n d))
    → AppendsFront old now (with_commas (map (value_text v) xs)) (rest_from (n + 1) (map (value_text v) (drop (n + 1) xs)))
items_more v xs n d old mid now lt so_far more = text_front_more old mid now _ _ _ _ (items_step v xs n d lt) so_far more

pub items_cut : (v : Vocabulary) (xs : List Value) (n : ℕ) (d : Value) (old mid now : List ℕ) → n < length xs
    → AppendsFront old mid (with_commas (map (value_text v) xs)) (rest_from n (map (value_text v) (drop n xs)))
    → AppendsPart mid now (joint n ++ value_text v (get_or xs n d))
    → AppendsPart old now (with_commas (map (value_text v) xs))
items_cut v xs n d old mid now lt so_far part = text_front_part old mid now _ _ _ _ (items_step v xs n d lt) so_far part

nothing_left : {A : Type 0} (xs : List A) → drop (length xs) xs ≡ []
nothing_left [] = refl
nothing_left (x ∷ xs) = nothing_left xs

pub items_end : (v : Vocabulary) (xs : List Value) (n : ℕ) → n ≡ length xs → rest_from n (map (value_text v) (drop n xs)) ≡ []
items_end v xs n is = rw (is, nothing_left xs) refl

-- ---- states

slots_step : (f : ℕ → List ℕ) (slot count : ℕ) → slot < count → flat_map f (range_with_len slot (count - slot)) ≡ f slot ++ flat_map f (range_with_len (slot + 1) (count - (slot + 1)))
slots_step f slot count lt =
    let e : count - slot ≡ suc (count - (slot + 1)) = omega arith in
    ap (λ k. flat_map f (range_with_len slot k)) e

pub slots_begin : (v : Vocabulary) (s : State) (old : List ℕ) → AppendsFront old old (state_text v s) (flat_map (kept_line v s) (range_with_len 0 (length (locations v) - 0)))
slots_begin v s old =
    let e : length (locations v) - 0 ≡ length (locations v) = omega arith in
    subst (λ k. AppendsFront old old (state_text v s) (flat_map (kept_line v s) (range_with_len 0 k))) (sym e) (text_front_none old (state_text v s))

pub slots_more : (v : Vocabulary) (s : State) (slot : ℕ) (old mid now : List ℕ) → slot < length (locations v)
    → AppendsFront old mid (state_text v s) (flat_map (kept_line v s) (range_with_len slot (length (locations v) - slot)))
    → now ≡ mid ++ kept_line v s slot
    → AppendsFront old now (state_text v s) (flat_map (kept_line v s) (range_with_len (slot + 1) (length (locations v) - (slot + 1))))
slots_more v s slot old mid now lt so_far more = text_front_more old mid now _ _ _ _ (slots_step (kept_line v s) slot (length (locations v)) lt) so_far more

pub slots_cut : (v : Vocabulary) (s : State) (slot : ℕ) (old mid now : List ℕ) → slot < length (locations v)
    → AppendsFront old mid (state_text v s) (flat_map (kept_line v s) (range_with_len slot (length (locations v) - slot)))
    → AppendsPart mid now (kept_line v s slot)
    → AppendsPart old now (state_text v s)
slots_cut v s slot old mid now lt so_far part = text_front_part old mid now _ _ _ _ (slots_step (kept_line v s) slot (length (locations v)) lt) so_far part

pub slots_end : (v : Vocabulary) (s : State) (slot : ℕ) → length (locations v) ≡ slot → flat_map (kept_line v s) (range_with_len slot (length (locations v) - slot)) ≡ []
slots_end v s slot all =
    let e : length (locations v) - slot ≡ 0 = omega (arith, all) in
    ap (λ k. flat_map (kept_line v s) (range_with_len slot k)) e
