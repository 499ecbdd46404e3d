-- The first entries of a store.
use Rattle.std.proofs.Common.{◌≡◌, ℕ, ◌+◌, ◌<◌, Bool as Truth, true, false, List, [], ◌∷◌, ◌++◌, length, get_or, Option, Some, None, is_some, ⊎_elim, if◌then◌else◌, refl, sym, ap, ◌∙◌, subst, arith, length-append}
use Rattle.std.proofs.lemmas.Bool.{cases_eq, cases_lt}
use Rattle.std.proofs.lemmas.List.{get_or_append_left, get_or_push, get_or_past}
use Rattle.std.proofs.lemmas.Option.{slice_get_past}
use Rattle.asm_domain.specs.declared.value.Value.{Value}
use Rattle.asm_domain.specs.declared.value.Value.TheVariants.{Undef}
use Rattle.asm_sign.specs.Vocabulary.{Vocabulary, locations, function_of, function_at, codomain_of, kept_of}
use Rattle.asm_state.specs.State.{State, IsUndefined, MayHold, IsStateOf}
use Rattle.asm_state.specs.Entries.{held}
use Rattle.asm_state.proofs.Held.{get-held}

-- the first entry of a slot
abbrev pub first_entry : Truth → Option Value
first_entry kept = if kept then Some Undef else None

-- the entries of so many slots
pub record AreFirstEntries (v : Vocabulary) (count : ℕ) (xs : List (Option Value)) : Type 0 where
  pub length_is : length xs ≡ count
  pub entry_is : (k : ℕ) → k < count → get_or xs k None ≡ first_entry (kept_of (function_at v k))

pub no_entries : (v : Vocabulary) (xs : List (Option Value)) → xs ≡ [] → AreFirstEntries v 0 xs
no_entries v xs none = record { length_is = ap length none; entry_is = λ k lt. absurd (omega (arith, lt)) }

pub one_entry_more : (v : Vocabulary) (count : ℕ) (xs ys : List (Option Value)) (kept : Truth) → AreFirstEntries v count xs → kept ≡ kept_of (function_at v count) → ys ≡ xs ++ first_entry kept ∷ [] → AreFirstEntries v (count + 1) ys
one_entry_more v count xs ys kept are is more = record {
  length_is = let n = ap length more in let m = length-append xs (first_entry kept ∷ []) in let l = are.length_is in omega (arith, n, m, l);
  entry_is = λ k lt. ap (λ zs. get_or zs k None) more ∙ ⊎_elim
      (λ e. get_or_push xs (first_entry kept) None k (are.length_is ∙ sym e) ∙ ap first_entry is ∙ ap (λ j. first_entry (kept_of (function_at v j))) (sym e))
      (λ n. get_or_append_left xs (first_entry kept ∷ []) None k (let l = are.length_is in omega (arith, l, lt, n))
      ∙ are.entry_is k (omega (arith, lt, n)))
      (cases_eq k count);
}

pub undefined : (v : Vocabulary) (count : ℕ) (xs : List (Option Value)) → AreFirstEntries v count xs → count ≡ length (locations v) → IsUndefined v (held xs)
undefined v count xs are all slot = get-held xs slot ∙ ⊎_elim
    (λ lt. are.entry_is slot lt)
    (λ ge. get_or_past xs slot None (let l = are.length_is in omega (arith, l, ge))
    ∙ sym (ap (λ o. first_entry (kept_of (function_of v o))) (slice_get_past (locations v) slot (omega (arith, all, ge)))))
    (cases_lt slot count)

is_some-first_entry : (kept : Truth) → is_some (first_entry kept) ≡ kept
is_some-first_entry true = refl
is_some-first_entry false = refl

first_value : (kept : Truth) (value : Value) → first_entry kept ≡ Some value → value ≡ Undef
first_value true value is = cc is
first_value false value is = absurd (cc is)

-- where every location is undefined there is a state
pub undefined_is_state : (v : Vocabulary) (s : State) → IsUndefined v s → IsStateOf v s
undefined_is_state v s u = record {
  slots = λ slot. ap is_some (u slot) ∙ is_some-first_entry (kept_of (function_at v slot));
  values = λ slot value is. subst (MayHold (codomain_of v (function_at v slot))) (sym (first_value _ value (sym (u slot) ∙ is))) tt;
}
