-- A text is entered, and the names are indexed with it at their end.
use Rattle.std.proofs.Common.{◌≡◌, ℕ, ◌+◌, ◌<◌, ◌≤◌, ◌^◌, Bool, true, false, List, [], ◌∷◌, ◌++◌, length, get_or, position, slice_get, is_some, Option, Some, None, refl, sym, ap, subst, ◌∙◌, arith, true≢false, length-append, String, string_bytes}
use Rattle.std.specs.Str.{bytes_eq}
use Rattle.std.specs.Cmp.Lexicographic.{nat_list_eq_equiv, bytes_decides}
use Rattle.std.specs.Map.{keys_of}
use Rattle.std.specs.Option.{option_or}
use Rattle.std.proofs.lemmas.List.{get_or-map, length-map, map-append}
use Rattle.std.proofs.lemmas.List.Elements.{All-push}
use Rattle.std.proofs.lemmas.List.Quantifiers.{position-Some}
use Rattle.std.proofs.lemmas.Option.{slice_get-get_or}
use Rattle.name_table.specs.Entered.{Entries, IsEntered}
use Rattle.name_table.specs.Numbered.{number_of, text_of, names_at, number_in, IsIndexed}
use Rattle.name_table.proofs.Numbers.{alone, number_of-push, number_in-push, names_at-push, slice_get-last}

-- the entry where a text is found has this text
pub found_text : {A : Type 0} (entries : List (String A × ℕ)) (text : List ℕ) (place : ℕ) → position (λ key. bytes_eq text (string_bytes key)) (keys_of entries) ≡ Some place → place < length entries → text_of (slice_get entries place) ≡ text
found_text [] text place at h = absurd (omega (arith, h))
found_text {A} (entry ∷ entries) text place at h =
    let all : List (String A × ℕ) = entry ∷ entries in
    let passes : bytes_eq text (string_bytes (get_or (keys_of all) place entry.0)) ≡ true = (position-Some (λ key. bytes_eq text (string_bytes key)) (keys_of all) place entry.0 at).1 in
    let same : text ≡ string_bytes (get_or (keys_of all) place entry.0) = (bytes_decides _ _).0 passes in
    ap text_of (slice_get-get_or all place entry h) ∙ sym (same ∙ ap string_bytes (get_or-map (λ e. e.0) all place entry entry.0 h))

-- a text that is found is entered with nothing changed
pub entered-found : {A : Type 0} (entries : List (String A × ℕ)) (text : List ℕ) (number place : ℕ) → position (λ key. bytes_eq text (string_bytes key)) (keys_of entries) ≡ Some place → is_some (number_in entries text) ≡ true → place < length entries → IsEntered entries entries text number place
entered-found entries text number place at some h =
    record { within = h; text_is = found_text entries text place at h; entries = by (number_in entries text) some }
  where
    by : (r : Option ℕ) → is_some r ≡ true → Entries entries entries text number r
    by None e = absurd (true≢false (sym e))
    by (Some _) e = refl

-- a text that is not found gets an entry behind all others
pub entered-new : {A : Type 0} (entries new : List (String A × ℕ)) (key : String A) (text : List ℕ) (number place : ℕ) → string_bytes key ≡ text → place ≡ length entries → new ≡ entries ++ (key, number) ∷ [] → number_in entries text ≡ None → IsEntered entries new text number place
entered-new {A} entries new key text number place is at grown none =
    let last : slice_get new place ≡ Some (key, number) = (λ j. slice_get (grown j) (at j)) ∙ slice_get-last entries (key, number) in
    let more : length new ≡ length entries + 1 = ap length grown ∙ length-append entries _ in
    record {
      within = omega (arith, more, at);
      text_is = ap text_of last ∙ is;
      entries = subst (Entries entries new text number) (sym none) (key, is, grown);
    }

-- what is not some is none
pub none_from : (r : Option ℕ) → is_some r ≡ false → r ≡ None
none_from None e = refl
none_from (Some n) e = absurd (true≢false e)

-- one more name that had a number changes nothing
absorbed : (r : Option ℕ) (b : Bool) (k : ℕ) → (b ≡ true → is_some r ≡ true) → r ≡ option_or r (alone b k)
absorbed (Some j) b k h = refl
absorbed None true k h = absurd (true≢false (sym (h refl)))
absorbed None false k h = refl

-- a text that is entered has the number that its first place gives it
pub indexed-entered : {A : Type 0} (entries new : List (String A × ℕ)) (places now : List ℕ) (text : List ℕ) (number place : ℕ) → now ≡ places ++ place ∷ [] → number ≡ length places → length places + 1 < 2 ^ 32 → IsIndexed entries places → IsEntered entries new text number place → IsIndexed new now × (names_at new now ≡ names_at entries places ++ text ∷ [])
indexed-entered entries new places now text number place pushed is short was entered =
    subst (λ l. IsIndexed new l × (names_at new l ≡ names_at entries places ++ text ∷ [])) (sym pushed) (by (number_in entries text) refl entered.entries)
  where
    made : names_at new places ≡ names_at entries places → length new ≤ length places + 1 → length entries ≤ length new → ((name : List ℕ) → number_in new name ≡ option_or (number_of (names_at entries places) name) (alone (bytes_eq text name) (length (names_at entries places)))) → IsIndexed new (places ++ place ∷ []) × (names_at new (places ++ place ∷ []) ≡ names_at entries places ++ text ∷ [])
    made kept few more numbers =
        let grown : names_at new (places ++ place ∷ []) ≡ names_at entries places ++ text ∷ [] = map-append (λ p. text_of (slice_get new p)) places (place ∷ []) ∙ (λ j. kept j ++ entered.text_is j ∷ []) in
        let count : length (places ++ place ∷ []) ≡ length places + 1 = length-append places (place ∷ []) in (
          record {
            within = All-push (λ p. p < length new) places place (λ k d lt. omega (arith, was.within k d lt, more)) entered.within;
            few = omega (arith, count, few);
            short = omega (arith, count, short);
            numbers = λ name. numbers name ∙ sym (number_of-push (names_at entries places) text name) ∙ ap (λ ns. number_of ns name) (sym grown);
          },
          grown,
        )

    by : (r : Option ℕ) → number_in entries text ≡ r → Entries entries new text number r → IsIndexed new (places ++ place ∷ []) × (names_at new (places ++ place ∷ []) ≡ names_at entries places ++ text ∷ [])
    by None e (key, same, grown) =
        let more : length new ≡ length entries + 1 = ap length grown ∙ length-append entries _ in
        let count : number ≡ length (names_at entries places) = is ∙ sym (length-map places (λ p. text_of (slice_get entries p))) in
        made (ap (λ es. names_at es places) grown ∙ names_at-push entries ((key, number) ∷ []) places was.within) (omega (arith, more, was.few)) (omega (arith, more))
        (λ name. ap (λ es. number_in es name) grown ∙ number_in-push entries key number name
        ∙ (λ j. option_or (was.numbers name j) (alone ((ap (bytes_eq name) same ∙ nat_list_eq_equiv.symm name text) j) (count j))))
    by (Some n) e same =
        let had : is_some (number_of (names_at entries places) text) ≡ true = ap is_some (sym (was.numbers text) ∙ e) in
        made (ap (λ es. names_at es places) same) (omega (arith, ap length same, was.few)) (omega (arith, ap length same))
        (λ name. ap (λ es. number_in es name) same ∙ was.numbers name
        ∙ absorbed _ _ _ (λ b. subst (λ t. is_some (number_of (names_at entries places) t) ≡ true) ((bytes_decides text name).0 b) had))
