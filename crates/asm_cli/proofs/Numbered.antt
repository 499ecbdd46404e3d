-- Numbers between commas.
use Rattle.std.proofs.Common.{◌≡◌, ◌∙◌, ℕ, suc, ◌<◌, List, [], ◌∷◌, ◌++◌, length, drop, get_or, Option, Some, None, refl, sym, ap, append_assoc, drop-cons}
use Rattle.std.specs.Option.{option_map}
use denote.Ref.{Bor}
use Rattle.asm_cli.specs.Words.{and_then, number_up_to, numbers_among, texts, Options, with_option, options_from}

abbrev pub behind : List ℕ → Option (List ℕ) → Option (List ℕ)
behind ns o = option_map (λ (ms : List ℕ). ns ++ ms) o

pub behind_nothing : (o : Option (List ℕ)) → behind [] o ≡ o
behind_nothing None = refl
behind_nothing (Some ns) = refl

behind_one : (ns : List ℕ) (n : ℕ) (o : Option (List ℕ)) → behind ns (option_map (λ (ms : List ℕ). n ∷ ms) o) ≡ behind (ns ++ n ∷ []) o
behind_one ns n None = refl
behind_one ns n (Some ms) = ap Some (sym (append_assoc ns (n ∷ []) ms))

module _ (limit : ℕ) (ns : List ℕ) (ps : List (Bor (List ℕ))) (i : ℕ) (p : Bor (List ℕ)) (within : i < length ps) (is : p ≡ get_or ps i p) where
  cut : numbers_among limit (texts (drop i ps)) ≡ numbers_among limit (p.now ∷ texts (drop (suc i) ps))
  cut = ap (λ (qs : List (Bor (List ℕ))). numbers_among limit (texts qs)) (drop-cons ps i p within) ∙ ap (λ (q : Bor (List ℕ)). numbers_among limit (q.now ∷ texts (drop (suc i) ps))) (sym is)

  -- one more number
  pub number_met : (n : ℕ) (whole : Option (List ℕ)) → number_up_to limit p.now ≡ Some n → behind ns (numbers_among limit (texts (drop i ps))) ≡ whole → behind (ns ++ n ∷ []) (numbers_among limit (texts (drop (suc i) ps))) ≡ whole
  number_met n whole number is_whole =
      sym (behind_one ns n (numbers_among limit (texts (drop (suc i) ps))))
      ∙ sym (ap (behind ns) (cut ∙ ap (λ (o : Option ℕ). and_then o (λ n. option_map (λ (ms : List ℕ). n ∷ ms) (numbers_among limit (texts (drop (suc i) ps))))) number))
      ∙ is_whole

  -- a word that is no number
  pub no_number : (whole : Option (List ℕ)) → number_up_to limit p.now ≡ None → behind ns (numbers_among limit (texts (drop i ps))) ≡ whole → None ≡ whole
  no_number whole number is_whole =
      sym (ap (behind ns) (cut ∙ ap (λ (o : Option ℕ). and_then o (λ n. option_map (λ (ms : List ℕ). n ∷ ms) (numbers_among limit (texts (drop (suc i) ps))))) number))
      ∙ is_whole

-- one more option
pub option_met : (o p : Options) (words after rest : List (List ℕ)) (name value : List ℕ) → words ≡ name ∷ after → after ≡ value ∷ rest → with_option o name value ≡ Some p → options_from p rest ≡ options_from o words
option_met o p words after rest name value words_are after_is met =
    sym (ap (options_from o) (words_are ∙ ap (λ (xs : List (List ℕ)). name ∷ xs) after_is) ∙ ap (λ (q : Option Options). and_then q (λ p. options_from p rest)) met)
