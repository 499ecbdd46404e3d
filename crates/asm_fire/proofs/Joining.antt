-- Sets to which pairs are added.
use Rattle.std.proofs.Common.{◌≡◌, ℕ, ◌+◌, ◌<◌, Bool as Truth, true, false, ◌||◌, List, length, take, get_or, refl, sym, ap, ◌∙◌}
use Rattle.std.specs.FinSet as set
use Rattle.std.specs.Ordering.{eq_by_cmp}
use Rattle.std.proofs.lemmas.List.{take_more}
use Rattle.asm_node.specs.UpdateSet.{UpdateSet, Pair, pair_cmp}
use Rattle.asm_node.proofs.UpdateSets.{pair_total, pair_apart, of_list, of_list-push}

or_none : (a : Truth) → (a || false) ≡ a
or_none true = refl
or_none false = refl

or_swap : (a b c : Truth) → (a || (b || c)) ≡ (b || (a || c))
or_swap true true c = refl
or_swap true false c = refl
or_swap false b c = refl

pub union-empty : (u : UpdateSet) → u ≡ set.union u set.empty
union-empty u = set.same_set pair_total pair_apart u (set.union u set.empty) (λ r. sym (set.contains-union pair_total u set.empty r ∙ ap (λ b. set.contains u r || b) (set.contains-empty pair_cmp r) ∙ or_none (set.contains u r)))

union-insert : (u v : UpdateSet) (p : Pair) → set.insert (set.union u v) p ≡ set.union u (set.insert v p)
union-insert u v p =
    set.same_set pair_total pair_apart (set.insert (set.union u v) p) (set.union u (set.insert v p)) (λ r.
    set.contains-insert pair_total (set.union u v) p r ∙ ap (λ b. eq_by_cmp pair_cmp r p || b) (set.contains-union pair_total u v r)
    ∙ or_swap (eq_by_cmp pair_cmp r p) (set.contains u r) (set.contains v r)
    ∙ sym (set.contains-union pair_total u (set.insert v p) r ∙ ap (λ b. set.contains u r || b) (set.contains-insert pair_total v p r)))

pub next-added : (u all : UpdateSet) (ps : List Pair) (i : ℕ) (d : Pair) → i < length ps → all ≡ set.union u (of_list (take i ps)) → set.insert all (get_or ps i d) ≡ set.union u (of_list (take (i + 1) ps))
next-added u all ps i d lt is =
    ap (λ v. set.insert v (get_or ps i d)) is ∙ union-insert u (of_list (take i ps)) (get_or ps i d)
    ∙ ap (set.union u) (sym (of_list-push (take i ps) (get_or ps i d)) ∙ ap of_list (sym (take_more ps i d lt)))
