-- What the calls that read from a token on answer.
use Rattle.std.proofs.Common.{◌≡◌, ◌≢◌, ◌⊎◌, inl, inr, ℕ, suc, ◌+◌, ◌-◌, ◌≤◌, Bool, true, false, if◌then◌else◌, List, ◌++◌, [], ◌∷◌, Result, Ok, Err, refl, ap, sym, ◌∙◌, subst, arith, length, length-append, drop}
use Rattle.std.proofs.lemmas.List.{length-map, length-drop}
use Rattle.asm_grammar.specs.declared.Stop.{Stop}
use Rattle.asm_grammar.specs.declared.Stop.TheVariants as stop
use Rattle.asm_grammar.specs.Grammar.{Grammar, Placed, tokens, Outcome}
use Rattle.asm_grammar.proofs.Whole.{CheckedWhole, length-tokens}
use Rattle.asm_grammar.proofs.Fronts.{front_found, front_refused, front_deep, front_is_read, no_front_is_read, deep_front_is_read}
use Rattle.asm_lex.specs.declared.token.Token.{Token}
use Rattle.asm_tree.specs.declared.error.ParseError.{ParseError}
use Rattle.asm_tree.specs.declared.error.ParseError.TheVariants.{Memory, Syntax, Unsupported, TooDeep}
use Rattle.asm_tree.specs.Language.{TokenText, models}
use Rattle.asm_tree.specs.Rules.{body}
use Rattle.asm_tree.specs.Spelling.{limit, token_text}
use Rattle.asm_tree.proofs.Checks.{table, late}
use Rattle.asm_body.specs.declared.lexeme.Lexeme.{Lexeme}
use Rattle.asm_body.specs.Fronts.{left_out, tokens_on, IsAt, IsStoppedAt, Explains, error_of, Counts}
use Rattle.asm_body.specs.Reading.{read_in}
use Rattle.asm_body.specs.Seen.{seen, all_seen}

behind_front : {T : Type 0} (a b : List T) → drop (length a) (a ++ b) ≡ b
behind_front [] b = refl
behind_front (x ∷ a) b = behind_front a b

module _ {A : Type 0} (s : Bool) (g : Grammar models A) (c : CheckedWhole models (body s) g table late) (text : List ℕ) (ts : List Token) (from nest : ℕ) (le : from ≤ length ts) (xs : List Lexeme) (same : all_seen xs ≡ tokens_on s g text ts from nest) where
  abbrev words : List TokenText
  words = tokens_on s g text ts from nest

  abbrev outcome : List TokenText → Outcome models A
  outcome w = read_in (limit - nest) s g w

  given : (o : Outcome models A) → outcome (all_seen xs) ≡ o → outcome words ≡ o
  given o e = subst (λ (w : List TokenText). outcome w ≡ o) same e

  counted : length words + from ≡ length ts
  counted = let a = length-map (drop from ts) (token_text text) in let b = length-drop from ts in omega (arith, a, b, le)

  size_of : length (all_seen xs) ≡ length words
  size_of = ap length same

  left_is : (r : List Lexeme) → length (all_seen r) ≡ length r
  left_is r = length-map r seen

  pub few : length xs ≤ length ts
  few = omega (arith, counted, size_of, left_is xs)

  pub is_within : (y : A) (r : List Lexeme) → outcome (all_seen xs) ≡ Ok (y, all_seen r) → length r ≤ length ts
  is_within y r e = let f = front_found models (body s) g table late c (limit - nest) words y (all_seen r) (given (Ok (y, all_seen r)) e) in omega (arith, f.counted, counted, left_is r)

  pub is_found : (y : A) (r : List Lexeme) → outcome (all_seen xs) ≡ Ok (y, all_seen r) → IsAt s g text ts from nest y (length ts - length r)
  is_found y r e =
      let f = front_found models (body s) g table late c (limit - nest) words y (all_seen r) (given (Ok (y, all_seen r)) e) in
      record { size = f.k; place = omega (arith, f.counted, counted, left_is r); front = f.front }

  pub is_only : (y : A) (k : ℕ) → IsAt s g text ts from nest y k → (x : A) (r : List Lexeme) → outcome (all_seen xs) ≡ Ok (x, all_seen r) → (x ≡ y) × (length ts - length r ≡ k)
  is_only y k i x r e =
      let f = front_is_read models (body s) g table late c (limit - nest) words y i.size i.front in
      let h = given (Ok (x, all_seen r)) e in
      let p : A × List TokenText = (x, all_seen r) in
      let q : A × List TokenText = (y, f.0) in
      let n : p ≡ q = cc (h, f.1) in
      let m : length (all_seen r) ≡ length f.0 = ap (λ z. length z.1) n in
      (ap (λ z. z.0) n, omega (arith, m, f.2, counted, left_is r, i.place))

  not_both : (y : A) (r : List TokenText) (e : Stop) → outcome words ≡ Ok (y, r) → outcome words ≡ Err e → ⊥
  not_both y r e a b = cc (a, b)

  pub only_memory : (y : A) (k : ℕ) → IsAt s g text ts from nest y k → (e : Stop) → (e ≢ stop.Memory → outcome (all_seen xs) ≡ Err e) → error_of (all_seen xs) (length ts) e ≡ Memory
  only_memory y k i stop.Memory h = refl
  only_memory y k i (stop.Syntax n) h = let f = front_is_read models (body s) g table late c (limit - nest) words y i.size i.front in absurd (not_both y f.0 (stop.Syntax n) f.1 (given (Err (stop.Syntax n)) (h (λ z. (cc (z))))))
  only_memory y k i (stop.TooDeep n) h = let f = front_is_read models (body s) g table late c (limit - nest) words y i.size i.front in absurd (not_both y f.0 (stop.TooDeep n) f.1 (given (Err (stop.TooDeep n)) (h (λ z. (cc (z))))))

  pub counts : (e : Stop) → (e ≢ stop.Memory → outcome (all_seen xs) ≡ Err e) → Counts (length xs) e
  counts stop.Memory h = tt
  counts (stop.Syntax n) h = let f = front_refused models (body s) g table late c (limit - nest) words n (given (Err (stop.Syntax n)) (h (λ z. (cc (z))))) in omega (arith, f.counted, size_of, left_is xs)
  counts (stop.TooDeep n) h = let f = front_deep models (body s) g table late c (limit - nest) words n (given (Err (stop.TooDeep n)) (h (λ z. (cc (z))))) in omega (arith, f.counted, size_of, left_is xs)

  -- what follows the front
  rest_of : (k left : ℕ) → k + left ≡ length words → (u : List (Placed models)) (r : List TokenText) → words ≡ tokens models u ++ r → k ≡ length u → drop (length (all_seen xs) - left) (all_seen xs) ≡ r
  rest_of k left n u r e p =
      let m : length (all_seen xs) - left ≡ length (tokens models u) = omega (arith, n, p, size_of, length-tokens models u) in
      ap (λ (w : List TokenText). drop (length (all_seen xs) - left) w) (same ∙ e) ∙ ap (λ (j : ℕ). drop j (tokens models u ++ r)) m ∙ behind_front (tokens models u) r

  syntax_explains : (b : Bool) (k : ℕ) (i : IsStoppedAt s g text ts from nest k) → left_out i.none.rest ≡ b → Explains s g text ts from nest (if b then Unsupported k else Syntax k)
  syntax_explains true k i e = (i, e)
  syntax_explains false k i e = (i, e)

  pub explains : (e : Stop) → (e ≢ stop.Memory → outcome (all_seen xs) ≡ Err e) → Explains s g text ts from nest (error_of (all_seen xs) (length ts) e)
  explains stop.Memory h = tt
  explains (stop.Syntax n) h =
      let f = front_refused models (body s) g table late c (limit - nest) words n (given (Err (stop.Syntax n)) (h (λ z. (cc (z))))) in
      let i : IsStoppedAt s g text ts from nest (length ts - n) = record { size = f.k; place = omega (arith, f.counted, counted); none = f.none } in
      let r = rest_of f.k n f.counted f.none.front f.none.rest f.none.same f.none.place in
      syntax_explains (left_out (drop (length (all_seen xs) - n) (all_seen xs))) (length ts - n) i (ap left_out (sym r))
  explains (stop.TooDeep n) h =
      let f = front_deep models (body s) g table late c (limit - nest) words n (given (Err (stop.TooDeep n)) (h (λ z. (cc (z))))) in
      record { size = f.k; place = omega (arith, f.counted, counted); deep = f.deep }

  -- what a call makes of what was read
  abbrev pub answers : ParseError → Result (A × List Lexeme) Stop → Type 0
  answers e (Ok y) = ⊥
  answers e (Err f) = (error_of (all_seen xs) (length ts) f ≡ Memory) ⊎ (error_of (all_seen xs) (length ts) f ≡ e)

  abbrev pub GivesHere : Result (A × List Lexeme) Stop → Type 0
  GivesHere (Ok p) = outcome (all_seen xs) ≡ Ok (p.0, all_seen p.1)
  GivesHere (Err f) = f ≢ stop.Memory → outcome (all_seen xs) ≡ Err f

  cause_of : (f : Stop) (e : ParseError) → error_of (all_seen xs) (length ts) f ≡ e → outcome words ≡ Err f → (r : Result (A × List Lexeme) Stop) → GivesHere r → answers e r
  cause_of f e m h (Ok p) q = absurd (not_both p.0 (all_seen p.1) f (given (Ok (p.0, all_seen p.1)) q) h)
  cause_of f e m h (Err stop.Memory) q = inl refl
  cause_of f e m h (Err (stop.Syntax k)) q = let b = given (Err (stop.Syntax k)) (q (λ z. (cc (z)))) in let z : stop.Syntax k ≡ f = cc (h, b) in inr (ap (error_of (all_seen xs) (length ts)) z ∙ m)
  cause_of f e m h (Err (stop.TooDeep k)) q = let b = given (Err (stop.TooDeep k)) (q (λ z. (cc (z)))) in let z : stop.TooDeep k ≡ f = cc (h, b) in inr (ap (error_of (all_seen xs) (length ts)) z ∙ m)

  stopped_error : (k : ℕ) (i : IsStoppedAt s g text ts from nest k) (b : Bool) → left_out i.none.rest ≡ b → error_of (all_seen xs) (length ts) (stop.Syntax (length words - i.size)) ≡ (if b then Unsupported k else Syntax k)
  stopped_error k i b e =
      let n : length words ≡ i.size + length i.none.rest = ap length i.none.same ∙ length-append (tokens models i.none.front) i.none.rest ∙ (let q = length-tokens models i.none.front in omega (arith, q, i.none.place)) in
      let j : i.size + (length words - i.size) ≡ length words = omega (arith, n) in
      let r = rest_of i.size (length words - i.size) j i.none.front i.none.rest i.none.same i.none.place in
      let m : length ts - (length words - i.size) ≡ k = omega (arith, n, counted, i.place) in
      ap (λ (z : Bool). if z then Unsupported (length ts - (length words - i.size)) else Syntax (length ts - (length words - i.size))) (ap left_out r ∙ e)
      ∙ ap (λ (z : ℕ). if b then Unsupported z else Syntax z) m

  -- a cause has its answer
  pub refuses_with : (r : Result (A × List Lexeme) Stop) → GivesHere r → (e : ParseError) → e ≢ Memory → Explains s g text ts from nest e → answers e r
  refuses_with r q (Syntax k) ne x = cause_of (stop.Syntax (length words - x.0.size)) (Syntax k) (stopped_error k x.0 false x.1) (no_front_is_read models (body s) g table late c (limit - nest) words x.0.size x.0.none) r q
  refuses_with r q (Unsupported k) ne x = cause_of (stop.Syntax (length words - x.0.size)) (Unsupported k) (stopped_error k x.0 true x.1) (no_front_is_read models (body s) g table late c (limit - nest) words x.0.size x.0.none) r q
  refuses_with r q (TooDeep k) ne x = cause_of (stop.TooDeep (length words - x.size)) (TooDeep k) (ap TooDeep deep_place) (deep_front_is_read models (body s) g table late c (limit - nest) words x.size x.deep) r q
    where
      deep_place : length ts - (length words - x.size) ≡ k
      deep_place =
          let n : length words ≡ length (tokens models x.deep.front) + suc (length x.deep.rest) = ap length x.deep.same ∙ length-append (tokens models x.deep.front) (x.deep.deep.token ∷ x.deep.rest) in
          let m = length-tokens models x.deep.front in
          omega (arith, n, m, counted, x.place, x.deep.place)
  refuses_with r q Memory ne x = absurd (ne refl)
