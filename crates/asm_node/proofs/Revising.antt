-- What states have at their slots once other values are put there.
use Rattle.std.proofs.Common.{◌≡◌, ℕ, Bool as Truth, true, false, cond, if◌then◌else◌, List, [], ◌∷◌, map, Option, Some, None, option_map, unwrap_or, is_some, refl, sym, ap, ◌∙◌}
use Rattle.std.specs.Ordering.{nat_cmp, eq_by_cmp}
use Rattle.std.specs.Cmp.{nat_cmp_total, Equal-is}
use Rattle.std.specs.FinMap.{nat_cmp-IsAntisymmetric, find, get, entries, from_entries, get-entries, get-from_entries, get-empty, same_map}
use Rattle.asm_domain.specs.declared.value.Value.{Value}
use Rattle.asm_sign.specs.Vocabulary.{Vocabulary, function_at}
use Rattle.asm_node.specs.Machine.{State, Input, no_input, revised, has_kind, is_shared}
use Rattle.asm_node.specs.Step.{shared_value, with_shared}

abbrev revised_entries : (ℕ → Value → Value) → List (ℕ × Value) → List (ℕ × Value)
revised_entries f es = map (λ e. (e.0, f e.0 e.1)) es

find-revised : (f : ℕ → Value → Value) (es : List (ℕ × Value)) (l : ℕ) → find nat_cmp l (revised_entries f es) ≡ option_map (f l) (find nat_cmp l es)
find-revised f [] l = refl
find-revised f (e ∷ es) l =
    elim (eq_by_cmp nat_cmp l e.0) as (λ b. eq_by_cmp nat_cmp l e.0 ≡ b → cond b (Some (f e.0 e.1)) (find nat_cmp l (revised_entries f es)) ≡ option_map (f l) (cond b (Some e.1) (find nat_cmp l es))) [
      | true ↦ λ tie. ap (λ k. Some (f k e.1)) (sym (nat_cmp-IsAntisymmetric l e.0 ((Equal-is (nat_cmp l e.0)).0 tie)))
      | false ↦ λ _. find-revised f es l
    ] refl

pub get-revised : (f : ℕ → Value → Value) (s : State) (l : ℕ) → get (revised f s) l ≡ option_map (f l) (get s l)
get-revised f s l =
    get-from_entries nat_cmp_total (revised_entries f (entries s)) l ∙ find-revised f (entries s) l ∙ ap (option_map (f l)) (sym (get-entries s l))

pub same_state : (s t : State) → ((l : ℕ) → get s l ≡ get t l) → s ≡ t
same_state s t same = same_map nat_cmp_total nat_cmp-IsAntisymmetric s t same

-- the state of listed entries
pub revised-listed : (f : ℕ → Value → Value) (es : List (ℕ × Value)) → revised f (from_entries es) ≡ from_entries (map (λ e. (e.0, f e.0 e.1)) es)
revised-listed f es = same_state _ _ (λ l.
    get-revised f (from_entries es) l ∙ ap (option_map (f l)) (get-from_entries nat_cmp_total es l)
    ∙ sym (get-from_entries nat_cmp_total (revised_entries f es) l ∙ find-revised f es l))

is_some-map : (f : Value → Value) (o : Option Value) → is_some (option_map f o) ≡ is_some o
is_some-map f (Some v) = refl
is_some-map f None = refl

-- it has the same slots
pub has-revised : (f : ℕ → Value → Value) (s : State) (l : ℕ) → is_some (get (revised f s) l) ≡ is_some (get s l)
has-revised f s l = ap is_some (get-revised f s l) ∙ is_some-map (f l) (get s l)

-- without an input a state stays
pub no_shared : (signature : Vocabulary) (s : State) → with_shared signature no_input s ≡ s
no_shared signature s = same_state _ _ (λ l. get-revised (shared_value signature no_input) s l ∙ unchanged l (get s l))
  where
    kept : (b : Truth) (l : ℕ) (v : Value) → (if b then unwrap_or (get no_input l) v else v) ≡ v
    kept true l v = ap (λ o. unwrap_or o v) (get-empty nat_cmp l)
    kept false l v = refl

    unchanged : (l : ℕ) (o : Option Value) → option_map (shared_value signature no_input l) o ≡ o
    unchanged l None = refl
    unchanged l (Some v) = ap Some (kept (has_kind is_shared (function_at signature l)) l v)

pub get-shared : (signature : Vocabulary) (es : List (ℕ × Value)) (i : Input) (l : ℕ) → get (with_shared signature i (from_entries es)) l ≡ option_map (shared_value signature i l) (find nat_cmp l es)
get-shared signature es i l = get-revised (shared_value signature i) (from_entries es) l ∙ ap (option_map (shared_value signature i l)) (get-from_entries nat_cmp_total es l)
