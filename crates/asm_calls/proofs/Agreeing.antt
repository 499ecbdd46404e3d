-- Two graphs that agree at the numbers of names.
use Rattle.std.proofs.Common.{◌≡◌, ℕ, zero, suc, nat_eq, Bool, true, false, ◌||◌, List, [], ◌∷◌, ◌++◌, get_or, Option, Some, None, refl, sym, ap, ◌∙◌}
use Rattle.std.specs.List.{list_any}
use Rattle.call_graph.specs.declared.graph.Node.{Node}
use Rattle.call_graph.specs.Calls.{no_node, calls_of, calls_at, is_in, has_chain, leads, touches}
use Rattle.asm_faults.specs.At.{Name}
use Rattle.asm_faults.specs.Files.{to_list}
use Rattle.asm_faults.specs.Calls.{Names, numbers_of}

or_true : (b : Bool) → b || true ≡ true
or_true true = refl
or_true false = refl

swapped : (a b c d : Bool) → (a || b) || (c || d) ≡ (a || c) || (b || d)
swapped true b c d = refl
swapped false true c d = sym (or_true c)
swapped false false c d = refl

pub any_or : (p q : ℕ → Bool) (xs : List ℕ) → list_any (λ (c : ℕ). p c || q c) xs ≡ list_any p xs || list_any q xs
any_or p q [] = refl
any_or p q (x ∷ xs) = ap (λ (b : Bool). (p x || q x) || b) (any_or p q xs) ∙ swapped (p x) (q x) (list_any p xs) (list_any q xs)

any_one : (p q : ℕ → Bool) (o : Option ℕ) → ((n : ℕ) → o ≡ Some n → p n ≡ q n) → (xs : List ℕ) → list_any p xs ≡ list_any q xs → list_any p (to_list o ++ xs) ≡ list_any q (to_list o ++ xs)
any_one p q None h xs e = e
any_one p q (Some n) h xs e = λ j. h n refl j || e j

-- two tests that agree at the numbers of names
pub any_same : (number : Name → Option ℕ) (p q : ℕ → Bool) → ((x : Name) (n : ℕ) → number x ≡ Some n → p n ≡ q n) → (xs : Names) → list_any p (numbers_of number xs) ≡ list_any q (numbers_of number xs)
any_same number p q h [] = refl
any_same number p q h (x ∷ xs) = any_one p q (number x) (h x) (numbers_of number xs) (any_same number p q h xs)

-- the graphs g and whole have the same node at the number of each name, which calls the numbers of these names
pub record Agree (number : Name → Option ℕ) (names : Name → Names) (whole g : List Node) : Type 0 where
  pub same : (x : Name) (n : ℕ) → number x ≡ Some n → get_or g n no_node ≡ get_or whole n no_node
  pub calls_are : (x : Name) (n : ℕ) → number x ≡ Some n → calls_at whole n ≡ numbers_of number (names x)

module _ (number : Name → Option ℕ) (names : Name → Names) (whole g : List Node) (agree : Agree number names whole g) where
  calls_same : (x : Name) (n : ℕ) → number x ≡ Some n → calls_at g n ≡ numbers_of number (names x)
  calls_same x n e = ap calls_of (agree.same x n e) ∙ agree.calls_are x n e

  pub chain_same : (k : ℕ) (x : Name) (n : ℕ) → number x ≡ Some n → has_chain g k n ≡ has_chain whole k n
  unfolding has_chain
  chain_same zero x n e = refl
  chain_same (suc zero) x n e = ap (λ (a : Node). a.there) (agree.same x n e)
  chain_same (suc (suc k)) x n e =
      ap (list_any (has_chain g (suc k))) (calls_same x n e)
      ∙ any_same number (has_chain g (suc k)) (has_chain whole (suc k)) (λ y m f. chain_same (suc k) y m f) (names x)
      ∙ sym (ap (list_any (has_chain whole (suc k))) (agree.calls_are x n e))

  pub leads_same : (k h : ℕ) (x : Name) (n : ℕ) → number x ≡ Some n → leads g k n h ≡ leads whole k n h
  unfolding leads
  leads_same zero h x n e = refl
  leads_same (suc k) h x n e =
      ap (list_any (λ (c : ℕ). nat_eq c h || leads g k c h)) (calls_same x n e)
      ∙ any_same number (λ (c : ℕ). nat_eq c h || leads g k c h) (λ (c : ℕ). nat_eq c h || leads whole k c h) (λ y m f. ap (λ (b : Bool). nat_eq m h || b) (leads_same k h y m f)) (names x)
      ∙ sym (ap (list_any (λ (c : ℕ). nat_eq c h || leads whole k c h)) (agree.calls_are x n e))

  module _ (marked own : List Bool) (own_are : (x : Name) (n : ℕ) → number x ≡ Some n → is_in own n ≡ list_any (is_in marked) (numbers_of number (names x))) where
    -- where nodes that call a marked one are marked in its place, one call less suffices
    pub shifted : (k : ℕ) (x : Name) (n : ℕ) → number x ≡ Some n → touches whole marked (suc k) n ≡ is_in marked n || touches g own k n
    unfolding touches
    shifted zero x n e = ap (λ (cs : List ℕ). is_in marked n || list_any (is_in marked) cs) (agree.calls_are x n e) ∙ ap (λ (b : Bool). is_in marked n || b) (sym (own_are x n e))
    shifted (suc k) x n e =
        ap (λ (cs : List ℕ). is_in marked n || list_any (touches whole marked (suc k)) cs) (agree.calls_are x n e)
        ∙ ap (λ (b : Bool). is_in marked n || b)
        (any_same number (touches whole marked (suc k)) (λ (c : ℕ). is_in marked c || touches g own k c) (λ y m f. shifted k y m f) (names x)
        ∙ any_or (is_in marked) (touches g own k) (numbers_of number (names x))
        ∙ ap (λ (b : Bool). b || list_any (touches g own k) (numbers_of number (names x))) (sym (own_are x n e)))
        ∙ ap (λ (cs : List ℕ). is_in marked n || (is_in own n || list_any (touches g own k) cs)) (sym (calls_same x n e))

    -- what the numbers of some names touch
    pub touch_any : (k : ℕ) (xs : Names) → list_any (touches whole marked (suc k)) (numbers_of number xs) ≡ list_any (is_in marked) (numbers_of number xs) || list_any (touches g own k) (numbers_of number xs)
    touch_any k xs =
        any_same number (touches whole marked (suc k)) (λ (c : ℕ). is_in marked c || touches g own k c) (λ y m f. shifted k y m f) xs
        ∙ any_or (is_in marked) (touches g own k) (numbers_of number xs)
