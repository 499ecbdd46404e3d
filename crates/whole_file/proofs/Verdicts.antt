-- What reading a whole text answers, whatever its grammar.
use Rattle.std.proofs.Common.{◌≡◌, ◌≢◌, inl, inr, ℕ, ◌-◌, Bool, true, false, List, ◌++◌, ◌∷◌, Result, Ok, Err, refl, ap, ◌∙◌, subst, arith, length, length-append, drop, if◌then◌else◌}
use Rattle.std.specs.Prelude.{IfOk, IfErr}
use Rattle.asm_grammar.specs.declared.Stop.{Stop}
use Rattle.asm_grammar.specs.declared.Stop.TheVariants as stop
use Rattle.asm_grammar.specs.Grammar.{Grammar, tokens}
use Rattle.asm_grammar.specs.Text.{IsTooDeep}
use Rattle.asm_grammar.specs.Whole.{whole_at}
use Rattle.asm_grammar.proofs.Whole.{CheckedWhole, only, found, refuses, too_deep, length-tokens}
use Rattle.asm_grammar.proofs.Exact.{refused_is_read, deep_is_read}
use Rattle.asm_lex.specs.declared.token.Token.{Token}
use Rattle.asm_tree.specs.declared.error.ParseError.{ParseError}
use Rattle.asm_tree.specs.declared.error.ParseError.TheVariants.{Memory, Syntax, Unsupported, TooDeep}
use Rattle.asm_tree.specs.Language.{models, TokenText}
use Rattle.asm_tree.specs.Rules.{body}
use Rattle.asm_tree.specs.Spelling.{limit, token_texts}
use Rattle.asm_tree.proofs.Checks.{table, late}
use Rattle.asm_body.specs.Fronts.{left_out, error_of, Counts}
use Rattle.whole_file.specs.Parsed.{parse_of, parsed, Parses}
use Rattle.whole_file.specs.Trees.{IsTree, IsRefusedAt, Explains, AgreesWith, RefusesWith}

module _ {A : Type 0} (g : Grammar models A) (c : CheckedWhole models (body true) g table late) where
  abbrev pub whole_of : List TokenText → Result A Stop
  whole_of ws = whole_at models (body true) g limit ws

  -- no more tokens are left than there are
  pub counts : (ws : List TokenText) (e : Stop) → whole_of ws ≡ Err e → Counts (length ws) e
  counts ws stop.Memory h = tt
  counts ws (stop.Syntax left) h = let r = refuses models (body true) g table late c limit ws left h in omega (arith, r.counted)
  counts ws (stop.TooDeep left) h = let r = too_deep models (body true) g table late c limit ws left h in omega (arith, r.counted)

  module _ (text : List ℕ) (ts : List Token) where
    abbrev ws : List TokenText
    ws = token_texts text ts

    -- the error where token k is refused
    abbrev pub refusal : Bool → ℕ → ParseError
    refusal b k = if b then Unsupported k else Syntax k

    abbrev pub refusal_at : ℕ → ParseError
    refusal_at k = refusal (left_out (drop k ws)) k

    -- ---- from the tokens to the answer

    pub tree_parsed : (y : A) → IsTree g text ts y → parsed g text ts ≡ Ok y
    unfolding parsed
    tree_parsed y s = ap (parse_of ws) (only models (body true) g table late c limit ws y s)

    refused_at : (k : ℕ) → IsRefusedAt g text ts k → parsed g text ts ≡ Err (refusal_at k)
    unfolding parsed
    refused_at k x = ap (parse_of ws) (refused_is_read models (body true) g table late c limit ws k x) ∙ ap (λ (n : ℕ). Err (refusal_at n)) (left_of k x.place x.same)
      where
        left_of : (k : ℕ) → k ≡ length x.front → ws ≡ tokens models x.front ++ x.rest → length ws - (length ws - k) ≡ k
        left_of k p e = omega (arith, p, ap length e, length-append (tokens models x.front) x.rest, length-tokens models x.front)

    deep_at : (k : ℕ) → IsTooDeep models (body true) g limit ws k → parsed g text ts ≡ Err (TooDeep k)
    unfolding parsed
    deep_at k x = ap (parse_of ws) (deep_is_read models (body true) g table late c limit ws k x) ∙ ap (λ (n : ℕ). Err (TooDeep n)) (left_of k x.place x.same)
      where
        left_of : (k : ℕ) → k ≡ length x.front → ws ≡ tokens models x.front ++ x.deep.token ∷ x.rest → length ws - (length ws - k) ≡ k
        left_of k p e = omega (arith, p, ap length e, length-append (tokens models x.front) (x.deep.token ∷ x.rest), length-tokens models x.front)

    pub refused_parsed : (e : ParseError) → e ≢ Memory → Explains g text ts e → parsed g text ts ≡ Err e
    refused_parsed (Syntax k) ne x = refused_at k x.0 ∙ ap (λ (b : Bool). Err (refusal b k)) x.1
    refused_parsed (Unsupported k) ne x = refused_at k x.0 ∙ ap (λ (b : Bool). Err (refusal b k)) x.1
    refused_parsed (TooDeep k) ne x = deep_at k x
    refused_parsed Memory ne x = absurd (ne refl)

    -- ---- from the answer to the tokens

    made : (r : Result A Stop) (y : A) → parse_of ws r ≡ Ok y → r ≡ Ok y
    made (Ok x) y h = let same : x ≡ y = cc in ap Ok same
    made (Err e) y h = absurd (cc (h))

    pub parsed_tree : (y : A) → parsed g text ts ≡ Ok y → IsTree g text ts y
    unfolding parsed
    parsed_tree y h = found models (body true) g table late c limit ws y (made (whole_of ws) y h)

    explained : (k : ℕ) (b : Bool) → left_out (drop k ws) ≡ b → IsRefusedAt g text ts k → Explains g text ts (refusal b k)
    explained k true is x = (x, is)
    explained k false is x = (x, is)

    stopped : (e : Stop) → whole_of ws ≡ Err e → Explains g text ts (error_of ws (length ws) e)
    stopped stop.Memory h = tt
    stopped (stop.Syntax left) h =
        let r = refuses models (body true) g table late c limit ws left h in
        let i : r.k ≡ length ws - left = omega (arith, r.counted) in
        explained (length ws - left) (left_out (drop (length ws - left) ws)) refl (subst (λ (k : ℕ). IsRefusedAt g text ts k) i r.refused)
    stopped (stop.TooDeep left) h =
        let r = too_deep models (body true) g table late c limit ws left h in
        let i : r.k ≡ length ws - left = omega (arith, r.counted) in
        subst (λ (k : ℕ). IsTooDeep models (body true) g limit ws k) i r.deep

    refused_as : (r : Result A Stop) → whole_of ws ≡ r → (e : ParseError) → parse_of ws r ≡ Err e → Explains g text ts e
    refused_as (Ok x) is e h = absurd (cc (h))
    refused_as (Err f) is e h = let same : error_of ws (length ws) f ≡ e = cc in subst (λ (x : ParseError). Explains g text ts x) same (stopped f is)

    pub parsed_refused : (e : ParseError) → parsed g text ts ≡ Err e → Explains g text ts e
    unfolding parsed
    parsed_refused e h = refused_as (whole_of ws) refl e h

    -- ---- what a call that gives it answers

    pub gives_tree : (r : Result A ParseError) → Parses r (parsed g text ts) → IfOk r (λ y. IsTree g text ts y)
    gives_tree (Ok y) p = parsed_tree y p
    gives_tree (Err e) p = tt

    pub gives_only : (r : Result A ParseError) → Parses r (parsed g text ts) → (y : A) → IsTree g text ts y → AgreesWith y r
    gives_only (Ok x) p y s = let a = tree_parsed y s in cc (a, p)
    gives_only (Err (Syntax k)) p y s = let a = tree_parsed y s in let b = p (λ z. (cc (z))) in absurd (cc (a, b))
    gives_only (Err (Unsupported k)) p y s = let a = tree_parsed y s in let b = p (λ z. (cc (z))) in absurd (cc (a, b))
    gives_only (Err (TooDeep k)) p y s = let a = tree_parsed y s in let b = p (λ z. (cc (z))) in absurd (cc (a, b))
    gives_only (Err Memory) p y s = refl

    pub gives_refused : (r : Result A ParseError) → Parses r (parsed g text ts) → IfErr r (λ e. Explains g text ts e)
    gives_refused (Ok x) p = tt
    gives_refused (Err (Syntax k)) p = parsed_refused (Syntax k) (p (λ z. (cc (z))))
    gives_refused (Err (Unsupported k)) p = parsed_refused (Unsupported k) (p (λ z. (cc (z))))
    gives_refused (Err (TooDeep k)) p = parsed_refused (TooDeep k) (p (λ z. (cc (z))))
    gives_refused (Err Memory) p = tt

    same_error : (f e : ParseError) → parsed g text ts ≡ Err f → parsed g text ts ≡ Err e → f ≡ e
    same_error f e p q = cc (p, q)

    pub gives_refuses : (r : Result A ParseError) → Parses r (parsed g text ts) → (e : ParseError) → e ≢ Memory → Explains g text ts e → RefusesWith e r
    gives_refuses (Ok x) p e ne x' = let a = refused_parsed e ne x' in absurd (cc (a, p))
    gives_refuses (Err (Syntax k)) p e ne x = inr (same_error (Syntax k) e (p (λ z. (cc (z)))) (refused_parsed e ne x))
    gives_refuses (Err (Unsupported k)) p e ne x = inr (same_error (Unsupported k) e (p (λ z. (cc (z)))) (refused_parsed e ne x))
    gives_refuses (Err (TooDeep k)) p e ne x = inr (same_error (TooDeep k) e (p (λ z. (cc (z)))) (refused_parsed e ne x))
    gives_refuses (Err Memory) p e ne x = inl refl
