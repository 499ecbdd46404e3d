-- Maps by the entries of ordered maps.
use Rattle.std.proofs.Common.{◌≡◌, ℕ, List, [], ◌∷◌, Some, None, cond, refl, sym, ap, ◌∙◌}
use Rattle.std.specs.Ordering.{nat_cmp, eq_by_cmp}
use Rattle.std.specs.Cmp.{nat_cmp_total, eq_by_cmp_equiv}
use Rattle.std.specs.BTreeMap.{is_at}
use Rattle.std.specs.Map.{lookup}
use Rattle.std.specs.FinMap.{nat_cmp-IsAntisymmetric, find, get, insert, remove, from_entries, get-from_entries, get-insert, get-remove, same_map}

-- what a key has among some entries
pub get-lookup : {X : Type 0} (es : List (ℕ × X)) (q : ℕ) → get (from_entries {R = nat_cmp} es) q ≡ lookup (is_at (nat_cmp q)) es
get-lookup es q = get-from_entries nat_cmp_total es q ∙ found es
  where
    found : {X : Type 0} (es : List (ℕ × X)) → find nat_cmp q es ≡ lookup (is_at (nat_cmp q)) es
    found [] = refl
    found (e ∷ es) = ap (cond (eq_by_cmp nat_cmp q e.0) (Some e.1)) (found es)

-- entries in which one key has another value make the map with that value
pub insert-lookup : {X : Type 0} (es fs : List (ℕ × X)) (k : ℕ) (v : X) → ((q : ℕ) → lookup (is_at (nat_cmp q)) fs ≡ cond (is_at (nat_cmp k) q) (Some v) (lookup (is_at (nat_cmp q)) es)) → from_entries {R = nat_cmp} fs ≡ insert (from_entries es) k v
insert-lookup es fs k v puts =
    same_map nat_cmp_total nat_cmp-IsAntisymmetric _ _ (λ q.
    get-lookup fs q ∙ puts q ∙ sym (get-insert nat_cmp_total (from_entries es) k v q
    ∙ ap (λ b. cond b (Some v) (get {R = nat_cmp} (from_entries es) q)) ((eq_by_cmp_equiv nat_cmp_total).symm q k)
    ∙ ap (cond (eq_by_cmp nat_cmp k q) (Some v)) (get-lookup es q)))

-- entries in which one key is missing make the map without it
pub remove-lookup : {X : Type 0} (es fs : List (ℕ × X)) (k : ℕ) → ((q : ℕ) → lookup (is_at (nat_cmp q)) fs ≡ cond (is_at (nat_cmp k) q) None (lookup (is_at (nat_cmp q)) es)) → from_entries {R = nat_cmp} fs ≡ remove (from_entries es) k
remove-lookup es fs k drops =
    same_map nat_cmp_total nat_cmp-IsAntisymmetric _ _ (λ q.
    get-lookup fs q ∙ drops q ∙ sym (get-remove nat_cmp_total (from_entries es) k q
    ∙ ap (λ b. cond b None (get {R = nat_cmp} (from_entries es) q)) ((eq_by_cmp_equiv nat_cmp_total).symm q k)
    ∙ ap (cond (eq_by_cmp nat_cmp k q) None) (get-lookup es q)))
