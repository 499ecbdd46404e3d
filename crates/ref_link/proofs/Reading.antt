-- Which functions terms read, and rows of truth values of functions.
use Rattle.std.proofs.Common.{◌≡◌, ℕ, zero, suc, ◌+◌, ◌<◌, ◌≤◌, Bool as Truth, true, false, ◌||◌, List, [], ◌∷◌, ◌++◌, length, map, drop, get_or, drop-cons, add-one, refl, ap, sym, ◌∙◌, arith, inl, inr}
use Rattle.std.specs.Prelude.{Some, slice_get}
use Rattle.std.specs.List.{range_with_len}
use Rattle.std.specs.declared.rc.Rc.{Rc}
use Rattle.std.specs.declared.alloc.Global.{Global}
use Rattle.std.proofs.lemmas.Bool.{cases_lt}
use Rattle.std.proofs.lemmas.List.{get_or_past}
use Rattle.std.proofs.lemmas.List.FromFn.{get_or-map-range_with_len, length-map-range_with_len, map-range_with_len_more}
use Rattle.std.proofs.lemmas.Option.{slice_get_past, slice_get-get_or}
use Rattle.asm_sign.specs.declared.function.Function.{Function}
use Rattle.asm_node.specs.declared.term.Term.{Term}
use Rattle.asm_node.specs.Machine.{Machine, has_kind, is_monitored}
use Rattle.asm_node.specs.Tree.{plain, plain_all}
use Rattle.ref_link.specs.Linkable.{reads_any, read_any, is_input_or_reads, reads_input}
use Rattle.ref_link.specs.Rows.{for_each, is_in}

-- ---- terms one after another

module _ (test : ℕ → Truth) (ts : List (Rc Term Global)) (i : ℕ) (t : Rc Term Global) (less : i < length ts) (is : t ≡ get_or ts i t) (whole : read_any test (plain_all (drop i ts)) ≡ read_any test (plain_all ts)) where
  at_place : read_any test (plain_all (drop i ts)) ≡ reads_any test (plain t.value) || read_any test (plain_all (drop (i + 1) ts))
  at_place = ap (λ xs. read_any test (plain_all xs)) (drop-cons ts i t less)
      ∙ ap (λ (x : Rc Term Global). reads_any test (plain x.value) || read_any test (plain_all (drop (suc i) ts))) (sym is)
      ∙ ap (λ n. reads_any test (plain t.value) || read_any test (plain_all (drop n ts))) (let next : suc i ≡ i + 1 = omega arith in next)

  -- one that reads such a function
  pub some_first : (b : Truth) → b ≡ reads_any test (plain t.value) → b ≡ true → true ≡ read_any test (plain_all ts)
  some_first b tested holds = ap (λ c. c || read_any test (plain_all (drop (i + 1) ts))) (sym holds ∙ tested) ∙ sym at_place ∙ whole

  -- one that doesn't
  pub some_later : (b : Truth) → b ≡ reads_any test (plain t.value) → b ≡ false → read_any test (plain_all (drop (i + 1) ts)) ≡ read_any test (plain_all ts)
  some_later b tested fails = ap (λ c. c || read_any test (plain_all (drop (i + 1) ts))) (sym fails ∙ tested) ∙ sym at_place ∙ whole

-- ---- rows

module _ (m : Machine) where
  abbrev functions : List Function
  functions = m.signature.functions

  row_at : (p : ℕ → Truth) (n : ℕ) → n < length functions → is_in (for_each m p) n ≡ p n
  row_at p n less = get_or-map-range_with_len p 0 (length functions) n n false less (omega arith)

  row_past : (p : ℕ → Truth) (n : ℕ) → length functions ≤ n → is_in (for_each m p) n ≡ false
  row_past p n le =
      let e = length-map-range_with_len p 0 (length functions) in
      get_or_past (for_each m p) n false (omega arith)

  -- what isn't declared reads nothing
  reads_past : (k n : ℕ) → length functions ≤ n → reads_input m k n ≡ false
  unfolding reads_input
  reads_past zero n le = ap (has_kind is_monitored) (slice_get_past functions n le)
  reads_past (suc k) n le = ap (is_input_or_reads m (reads_input m k) n) (slice_get_past functions n le)

  pub in_row : (k n : ℕ) → is_in (for_each m (reads_input m k)) n ≡ reads_input m k n
  in_row k n =
      elim (cases_lt n (length functions)) [
        | inl less ↦ row_at (reads_input m k) n less
        | inr le ↦ row_past (reads_input m k) n le ∙ sym (reads_past k n le)
      ]

  pub first_row : (f : ℕ) → has_kind is_monitored (slice_get functions f) ≡ reads_input m 0 f
  unfolding reads_input
  first_row f = refl

  next_row : (k f : ℕ) → is_input_or_reads m (reads_input m k) f (slice_get functions f) ≡ reads_input m (suc k) f
  unfolding reads_input
  next_row k f = refl

  -- a row that is made from the row before
  pub one_more : (k : ℕ) (row next : List Truth) → row ≡ for_each m (reads_input m k) → next ≡ for_each m (λ f. is_input_or_reads m (is_in row) f (slice_get functions f)) → next ≡ for_each m (reads_input m (k + 1))
  one_more k row next r e =
      e ∙ ap (λ xs. for_each m (λ f. is_input_or_reads m (is_in xs) f (slice_get functions f))) r
      ∙ (λ i. for_each m (λ f. is_input_or_reads m (λ n. in_row k n i) f (slice_get functions f)))
      ∙ (λ i. for_each m (λ f. next_row k f i))
      ∙ ap (λ n. for_each m (reads_input m n)) (sym (add-one k))

-- a row with one more truth value at its end
pub grown : (p : ℕ → Truth) (n : ℕ) (row next : List Truth) (b : Truth) → row ≡ map p (range_with_len 0 n) → next ≡ row ++ b ∷ [] → b ≡ p n → next ≡ map p (range_with_len 0 (n + 1))
grown p n row next b r e s =
    e ∙ ap (λ xs. xs ++ b ∷ []) r
    ∙ ap (λ x. map p (range_with_len 0 n) ++ x ∷ []) s
    ∙ sym (map-range_with_len_more p 0 n n (omega arith))

-- an item of a list that is another one
pub item_at : (given fs : List Function) (i : ℕ) (f : Function) → given ≡ fs → i < length given → f ≡ get_or given i f → slice_get fs i ≡ Some f
item_at given fs i f same less is = ap (λ l. slice_get l i) (sym same) ∙ slice_get-get_or given i f less ∙ ap Some (sym is)
