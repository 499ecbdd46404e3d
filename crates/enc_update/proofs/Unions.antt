-- What several rules give together.
use Rattle.std.proofs.Common.{◌≡◌, ℕ, ◌+◌, List, [], ◌∷◌, ◌++◌, length, map, take, get_or, ◌<◌, arith, sym, ◌∙◌, Bool, true, false, ◌&&◌, ◌||◌, refl, ap, nat_eq, append_assoc, append-nil}
use Rattle.std.specs.List.{list_any}
use Rattle.std.specs.FinSet as set
use Rattle.std.proofs.lemmas.List.Folds.{list_any-append}
use Rattle.cnf_base.specs.Clauses.{lit_true}
use Rattle.cnf_base.specs.declared.lit.Lit.{Lit}
use Rattle.asm_domain.specs.declared.value.Value.{Value}
use Rattle.asm_node.specs.Values.{same}
use Rattle.asm_node.specs.UpdateSet.{UpdateSet, pair_cmp}
use Rattle.asm_node.specs.Taking.{Yields, Faults, each, and_then}
use Rattle.asm_node.proofs.UpdateSets.{pair_total}
use Rattle.enc_group.proofs.Groups.{map_more, one_more}
use Rattle.enc_update.specs.declared.pair.Pair.{Pair}
use Rattle.enc_update.specs.declared.pair.UpdateBits.{UpdateBits}
use Rattle.enc_update.specs.Updates.{Taken, is_fault, yields_pair, has_pair, Takes, pairs_of, faults_of, union_of, TakesEach}

or_assoc : (a b c : Bool) → (a || b) || c ≡ a || (b || c)
or_assoc true b c = refl
or_assoc false b c = refl

or_none : (a : Bool) → a ≡ a || false
or_none true = refl
or_none false = refl

or_false : (a b : Bool) → a || b ≡ false → (a ≡ false) × (b ≡ false)
or_false true b h = cc
or_false false b h = (refl, h)

-- a fault of one is a fault of all
pub union_faults : (given : List Taken) (u : UpdateSet) → is_fault (union_of given u) ≡ list_any is_fault given
union_faults [] u = refl
union_faults (Yields w s ∷ given) u = union_faults given (set.union u w)
union_faults (Faults stop s ∷ given) u = refl

-- without a fault the set has the pairs that were there and those of each
pub union_pairs : (given : List Taken) (u : UpdateSet) → list_any is_fault given ≡ false → (l : ℕ) (x : Value)
    → yields_pair l x (union_of given u) ≡ (set.contains u (l, x) || list_any (yields_pair l x) given)
union_pairs [] u fine l x = or_none (set.contains u (l, x))
union_pairs (Yields w s ∷ given) u fine l x =
    union_pairs given (set.union u w) fine l x
    ∙ ap (λ b. b || list_any (yields_pair l x) given) (set.contains-union pair_total u w (l, x))
    ∙ or_assoc (set.contains u (l, x)) (set.contains w (l, x)) (list_any (yields_pair l x) given)
union_pairs (Faults stop s ∷ given) u fine l x = cc

parts_fault : (v : ℕ → Bool) (given : List Taken) (bs : List UpdateBits) → TakesEach v given bs → list_any (lit_true v) (faults_of bs) ≡ list_any is_fault given
parts_fault v [] [] h = refl
parts_fault v [] (b ∷ bs) h = absurd h
parts_fault v (a ∷ given) [] h = absurd h
parts_fault v (a ∷ given) (b ∷ bs) h = rw (h.0.faults, parts_fault v given bs h.1) refl

parts_pairs : (v : ℕ → Bool) (given : List Taken) (bs : List UpdateBits) → TakesEach v given bs → list_any is_fault given ≡ false → (l : ℕ) (x : Value)
    → has_pair v (pairs_of bs) l x ≡ list_any (yields_pair l x) given
parts_pairs v [] [] h fine l x = refl
parts_pairs v [] (b ∷ bs) h fine l x = absurd h
parts_pairs v (a ∷ given) [] h fine l x = absurd h
parts_pairs v (a ∷ given) (b ∷ bs) h fine l x =
    let p = or_false (is_fault a) (list_any is_fault given) fine in
    list_any-append (λ (p : Pair). (nat_eq p.slot l && same p.value x) && lit_true v p.lit) b.pairs (pairs_of bs)
    ∙ (λ i. h.0.pairs p.0 l x i || parts_pairs v given bs h.1 p.1 l x i)

-- the union of all parts
pub united : (v : ℕ → Bool) (given : List Taken) (bs : List UpdateBits) (ps : List Pair) (fault : Lit) → TakesEach v given bs
    → ps ≡ pairs_of bs → lit_true v fault ≡ list_any (lit_true v) (faults_of bs) → Takes v ps fault (union_of given set.empty)
united v given bs ps fault h is f = record {
  faults = f ∙ parts_fault v given bs h ∙ sym (union_faults given set.empty);
  pairs = λ fine l x.
      let none = sym (union_faults given set.empty) ∙ fine in
      ap (λ ps. has_pair v ps l x) is ∙ parts_pairs v given bs h none l x
      ∙ sym (union_pairs given set.empty none l x ∙ ap (λ b. b || list_any (yields_pair l x) given) (set.contains-empty pair_cmp (l, x)));
}

-- the instances of a rule are several rules
pub each_is_union : (instance : List Value → Unit {0} → Taken) (ts : List (List Value)) (u : UpdateSet) → each instance ts u tt ≡ union_of (map (λ t. instance t tt) ts) u
each_is_union instance [] u = refl
each_is_union instance (t ∷ ts) u =
    elim (instance t tt) as (λ a. and_then a (λ w s. each instance ts (set.union u w) s) ≡ and_then a (λ w s. union_of (map (λ t. instance t tt) ts) (set.union u w))) [
      | Yields w s ↦ each_is_union instance ts (set.union u w)
      | Faults stop s ↦ refl
    ]

-- ---- one part more

pairs_push : (cs : List UpdateBits) (b : UpdateBits) → pairs_of (cs ++ b ∷ []) ≡ pairs_of cs ++ b.pairs
pairs_push [] b = append-nil b.pairs
pairs_push (c ∷ cs) b = ap (λ ps. c.pairs ++ ps) (pairs_push cs b) ∙ sym (append_assoc c.pairs (pairs_of cs) b.pairs)

pub pairs_more : (bs : List UpdateBits) (i : ℕ) (b : UpdateBits) → i < length bs → b ≡ get_or bs i b → pairs_of (take (i + 1) bs) ≡ pairs_of (take i bs) ++ b.pairs
pairs_more bs i b h k = ap pairs_of (one_more bs i b h k) ∙ pairs_push (take i bs) b

pub faults_more : (bs : List UpdateBits) (i : ℕ) (b : UpdateBits) → i < length bs → b ≡ get_or bs i b → faults_of (take (i + 1) bs) ≡ faults_of (take i bs) ++ b.fault ∷ []
faults_more bs i b h k = map_more (λ (c : UpdateBits). c.fault) bs i b h k

pub faults_long : (bs : List UpdateBits) → length (faults_of bs) ≡ length bs
faults_long [] = refl
faults_long (b ∷ bs) = omega (arith, faults_long bs)
