-- The entries of each slot, one pair after the other.
use Rattle.std.proofs.Common.{◌≡◌, ℕ, zero, suc, ◌+◌, ◌<◌, List, [], ◌∷◌, ◌++◌, length, map, filter, take, get_or, set, sym, ◌∙◌, Bool, true, false, not, cond, ◌&&◌, ◌||◌, refl, ap, nat_eq, Option, Some, None, is_some, unwrap_or, append-nil, ⊎_elim}
use Rattle.std.specs.List.{list_any}
use Rattle.std.proofs.lemmas.Bool.{eq-eqb, ne_eqb, cases_eq}
use Rattle.std.proofs.lemmas.List.{get_or-set_same, get_or-set_other}
use Rattle.cnf_base.specs.Clauses.{lit_true}
use Rattle.asm_domain.specs.declared.value.Value.{Value}
use Rattle.asm_node.specs.Values.{same}
use Rattle.asm_node.specs.Term.{Gives}
use Rattle.asm_node.proofs.Sameness.{same_itself}
use Rattle.enc_group.specs.declared.group.Entry.{Entry}
use Rattle.enc_group.specs.Binding.{group_at}
use Rattle.enc_group.specs.Group.{Means, holds}
use Rattle.enc_group.proofs.Groups.{one_more}
use Rattle.enc_update.specs.declared.pair.Pair.{Pair}
use Rattle.enc_update.specs.Updates.{has_pair}
use Rattle.enc_update.specs.Slots.{Writes, entries_at}

abbrev pub entry_of : Pair → Entry
entry_of p = record { value = p.value; lit = p.lit }

-- the entry of a pair of the slot
abbrev pub entry_if : Bool → Pair → List Entry
entry_if b p = cond b (entry_of p ∷ []) []

entries_push : (ps : List Pair) (p : Pair) (l : ℕ) → entries_at (ps ++ p ∷ []) l ≡ entries_at ps l ++ entry_if (nat_eq p.slot l) p
entries_push [] p l =
    elim (nat_eq p.slot l) as (λ b. map entry_of (cond b (p ∷ []) []) ≡ entry_if b p) [
      | true ↦ refl
      | false ↦ refl
    ]
entries_push (q ∷ ps) p l =
    elim (nat_eq q.slot l) as (λ b. map entry_of (cond b (q ∷ filter (λ r. nat_eq r.slot l) (ps ++ p ∷ [])) (filter (λ r. nat_eq r.slot l) (ps ++ p ∷ []))) ≡ map entry_of (cond b (q ∷ filter (λ r. nat_eq r.slot l) ps) (filter (λ r. nat_eq r.slot l) ps)) ++ entry_if (nat_eq p.slot l) p) [
      | true ↦ ap (λ (es : List Entry). entry_of q ∷ es) (entries_push ps p l)
      | false ↦ entries_push ps p l
    ]

pub entries_more : (ps : List Pair) (i : ℕ) (p : Pair) (l : ℕ) → i < length ps → p ≡ get_or ps i p → entries_at (take (i + 1) ps) l ≡ entries_at (take i ps) l ++ entry_if (nat_eq p.slot l) p
entries_more ps i p l h k = ap (λ (qs : List Pair). entries_at qs l) (one_more ps i p h k) ∙ entries_push (take i ps) p l

-- the pairs of a slot are its entries
pub pairs_at : (v : ℕ → Bool) (ps : List Pair) (l : ℕ) (x : Value) → has_pair v ps l x ≡ holds v (entries_at ps l) x
pairs_at v [] l x = refl
pairs_at v (p ∷ ps) l x =
    elim (nat_eq p.slot l) as (λ b. ((b && same p.value x) && lit_true v p.lit) || has_pair v ps l x ≡ holds v (map entry_of (cond b (p ∷ filter (λ r. nat_eq r.slot l) ps) (filter (λ r. nat_eq r.slot l) ps))) x) [
      | true ↦ ap (λ b. (same p.value x && lit_true v p.lit) || b) (pairs_at v ps l x)
      | false ↦ pairs_at v ps l x
    ]

-- ---- groups by slots

pub empty_more : (gs : List (List Entry)) (l : ℕ) → ((k : ℕ) → group_at gs k ≡ []) → group_at (gs ++ [] ∷ []) l ≡ []
empty_more [] zero all = refl
empty_more [] (suc l) all = refl
empty_more (g ∷ gs) zero all = all 0
empty_more (g ∷ gs) (suc l) all = empty_more gs l (λ k. all (suc k))

-- an entry that is added at its slot
pub added_at : (gs hs : List (List Entry)) (p : Pair) (l : ℕ) → p.slot < length gs → hs ≡ set gs p.slot (get_or gs p.slot [] ++ entry_of p ∷ []) → group_at hs l ≡ group_at gs l ++ entry_if (nat_eq p.slot l) p
added_at gs hs p l within is =
    ap (λ (x : List (List Entry)). group_at x l) is ∙ ⊎_elim
    (λ e. ap (λ k. group_at (set gs p.slot (get_or gs p.slot [] ++ entry_of p ∷ [])) k) (sym e)
    ∙ get_or-set_same gs p.slot (get_or gs p.slot [] ++ entry_of p ∷ []) [] within
    ∙ ap (λ k. group_at gs k ++ entry_of p ∷ []) e
    ∙ ap (λ b. group_at gs l ++ entry_if b p) (sym (eq-eqb p.slot l e)))
    (λ n. get_or-set_other gs p.slot l (get_or gs p.slot [] ++ entry_of p ∷ []) [] (λ e. n (sym e))
    ∙ sym (append-nil (group_at gs l))
    ∙ ap (λ b. group_at gs l ++ entry_if b p) (sym (ne_eqb p.slot l n)))
    (cases_eq p.slot l)

-- ---- what is written

some_lit : (v : ℕ → Bool) (es : List Entry) (y : Value) → holds v es y ≡ true → list_any (λ e. lit_true v e.lit) es ≡ true
some_lit v [] y h = cc
some_lit v (e ∷ es) y h = either (same e.value y) (lit_true v e.lit) (holds v es y) (list_any (λ d. lit_true v d.lit) es) h (some_lit v es y)
  where
    either : (s l r m : Bool) → (s && l) || r ≡ true → (r ≡ true → m ≡ true) → l || m ≡ true
    either s true r m h k = refl
    either true false r m h k = k h
    either false false r m h k = k h

no_lit : (v : ℕ → Bool) (es : List Entry) → ((y : Value) → holds v es y ≡ false) → list_any (λ e. lit_true v e.lit) es ≡ false
no_lit v [] none = refl
no_lit v (e ∷ es) none =
    let rest = no_lit v es (λ y. right (same e.value y && lit_true v e.lit) (holds v es y) (none y)) in
    let here : (true && lit_true v e.lit) || holds v es e.value ≡ false = ap (λ b. (b && lit_true v e.lit) || holds v es e.value) (sym (same_itself e.value)) ∙ none e.value in
    both (lit_true v e.lit) (holds v es e.value) (list_any (λ d. lit_true v d.lit) es) here rest
  where
    right : (a b : Bool) → a || b ≡ false → b ≡ false
    right true b h = cc
    right false b h = h

    both : (l r m : Bool) → (true && l) || r ≡ false → m ≡ false → l || m ≡ false
    both true r m h k = cc
    both false r m h k = k

pub any_lit : (v : ℕ → Bool) (es : List Entry) → list_any (lit_true v) (map (λ e. e.lit) es) ≡ list_any (λ e. lit_true v e.lit) es
any_lit v [] = refl
any_lit v (e ∷ es) = ap (λ b. lit_true v e.lit || b) (any_lit v es)

-- a literal is true exactly where something is written
pub some_written : (v : ℕ → Bool) (es : List Entry) (written : Option Value) → Writes v es written → list_any (λ e. lit_true v e.lit) es ≡ is_some written
some_written v es (Some y) w = some_lit v es y (w.at y ∙ same_itself y)
some_written v es None w = no_lit v es w.at

-- what is written stands, and else the old value
pub overwritten : (v : ℕ → Bool) (set old bag : List Entry) (written : Option Value) (x : Value) → Writes v set written → Means v old (Gives x)
    → ((y : Value) → holds v bag y ≡ (holds v set y || (not (is_some written) && holds v old y))) → Means v bag (Gives (unwrap_or written x))
overwritten v set old bag (Some w) x writes means is = record { at = λ y. is y ∙ (λ i. writes.at y i || false) ∙ ends (same w y) }
  where
    ends : (a : Bool) → a || false ≡ a
    ends true = refl
    ends false = refl
overwritten v set old bag None x writes means is = record { at = λ y. is y ∙ (λ i. writes.at y i || means.at y i) }
