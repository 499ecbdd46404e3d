-- What sets of listed pairs give, by their lists.
use Rattle.std.proofs.Common.{Option, Some, None, Ok, Err, if◌then◌else◌, ◌≡◌, ℕ, suc, Bool as Truth, true, false, not, List, [], ◌∷◌, ◌++◌, nat_eq, map, filter, find, option_map, unwrap_or, refl, sym, ap, ◌∙◌}
use Rattle.std.specs.Ordering.{eq_by_cmp}
use Rattle.std.specs.List.{list_any, list_all}
use Rattle.std.specs.FinSet as set
use Rattle.std.specs.FinMap as finite
use Rattle.asm_domain.specs.declared.value.Value.{Value}
use Rattle.asm_sign.specs.Vocabulary.{Vocabulary, locations, function_at}
use Rattle.asm_node.specs.declared.stop.Stop.TheVariants.{Clash}
use Rattle.asm_node.specs.RuleTree.{Rule, Par, Seq, none, more}
use Rattle.asm_node.specs.Machine.{Machine, State, revised, no_input}
use Rattle.asm_node.proofs.Revising.{revised-listed, no_shared}
use Rattle.asm_source.specs.declared.sources.Place.{Place}
use Rattle.asm_node.specs.Term.{World, Places}
use Rattle.asm_node.specs.UpdateSet.{UpdateSet, Pair, pair_cmp, agree, override, fire, ranked_values, first_two, clash, clash_from}
use Rattle.asm_node.specs.declared.path.Step.TheVariants.{Part}
use Rattle.asm_node.specs.Taking.{Attempt, Yields, Pick, Bodies, Path, and_then, after_set, fired, taken, outcome, by_words}
use Rattle.asm_node.specs.Step.{next, ended, after}
use Rattle.asm_node.proofs.UpdateSets.{pair_total, of_list, of_list-append, of_list-filter, any-items, consistent-list, value_at-list}

abbrev pub is_listed : List Pair → Pair → Truth
is_listed ps p = list_any (eq_by_cmp pair_cmp p) ps

abbrev pub listed_consistent : List Pair → Truth
listed_consistent ps = list_all (λ p. list_all (λ q. agree p q) ps) ps

abbrev pub listed_clash : Vocabulary → List Pair → ℕ → List (ℕ × List Value) → Option (ℕ × Value × Value)
listed_clash signature ps l [] = None
listed_clash signature ps l (_ ∷ others) =
    first_two l (filter (λ v. is_listed ps (l, v)) (ranked_values signature (function_at signature l))) (listed_clash signature ps (suc l) others)

clash_from-listed : (signature : Vocabulary) (ps : List Pair) (l : ℕ) (others : List (ℕ × List Value)) → clash_from signature (of_list ps) l others ≡ listed_clash signature ps l others
clash_from-listed signature ps l [] = refl
clash_from-listed signature ps l (x ∷ others) = λ i.
    first_two l (filter (λ v. set.contains-from_list pair_total ps (l, v) i) (ranked_values signature (function_at signature l))) (clash_from-listed signature ps (suc l) others i)

pub clash-listed : (signature : Vocabulary) (ps : List Pair) → clash signature (of_list ps) ≡ listed_clash signature ps 0 (locations signature)
clash-listed signature ps = clash_from-listed signature ps 0 (locations signature)

-- the state of listed entries
abbrev pub held : List (ℕ × Value) → State
held es = finite.from_entries es

abbrev pub listed_fire : List Pair → List (ℕ × Value) → List (ℕ × Value)
listed_fire ps es = map (λ e. (e.0, unwrap_or (option_map (λ p. p.1) (find (λ p. nat_eq p.0 e.0) ps)) e.1)) es

pub fire-listed : (ps : List Pair) (es : List (ℕ × Value)) → listed_consistent ps ≡ true → fire (held es) (of_list ps) ≡ held (listed_fire ps es)
fire-listed ps es agrees =
    (λ i. revised (λ l v. unwrap_or (value_at-list ps l (consistent-list ps ∙ agrees) i) v) (held es))
    ∙ revised-listed (λ l v. unwrap_or (option_map (λ p. p.1) (find (λ p. nat_eq p.0 l) ps)) v) es

pub union-listed : (ps qs : List Pair) → set.union (of_list ps) (of_list qs) ≡ of_list (ps ++ qs)
union-listed ps qs = sym (of_list-append ps qs)

abbrev pub listed_override : List Pair → List Pair → List Pair
listed_override ps qs = filter (λ p. not (list_any (λ q. nat_eq q.0 p.0) qs)) ps ++ qs

pub override-listed : (ps qs : List Pair) → override (of_list ps) (of_list qs) ≡ of_list (listed_override ps qs)
override-listed ps qs =
    (λ i. set.union (set.retain (of_list ps) (λ p. not (any-items (λ q. nat_eq q.0 p.0) qs i))) (of_list qs))
    ∙ ap (λ u. set.union u (of_list qs)) (sym (of_list-filter (λ p. not (list_any (λ q. nat_eq q.0 p.0) qs)) ps)) ∙ union-listed _ qs

module _ {S : Type 0} (pick : Pick S) (bodies : Bodies S) (path : Path) (w : World) (e : Places) (place : Place) (p q : Rule) (s t r : S) (ps qs : List Pair) where
  abbrev First : Type 0
  First = taken pick bodies (path ++ Part 0 ∷ []) w e p s ≡ Yields (of_list ps) t

  -- two parts in the same state
  pub par-listed : First → taken pick bodies (path ++ Part 1 ∷ []) w e q t ≡ Yields (of_list qs) r → taken pick bodies path w e (Par place (more p (more q none))) s ≡ Yields (of_list (ps ++ qs)) r
  par-listed first second =
      ap (λ a. and_then a (λ u s. and_then (taken pick bodies (path ++ Part 1 ∷ []) w e q s) (λ v s. Yields (set.union (set.union set.empty u) v) s))) first
      ∙ ap (λ a. and_then a (λ v s. Yields (set.union (set.union set.empty (of_list ps)) v) s)) second
      ∙ ap (λ u. Yields (set.union u (of_list qs)) r) (union-listed [] ps) ∙ ap (λ u. Yields u r) (union-listed ps qs)

  abbrev after_first : UpdateSet → S → Attempt S UpdateSet
  after_first u s = after_set u s (λ s. taken pick bodies (path ++ Part 1 ∷ []) (fired w u) e q s)

  abbrev later : Truth → Attempt S UpdateSet
  later b = if b then and_then (taken pick bodies (path ++ Part 1 ∷ []) (fired w (of_list ps)) e q t) (λ v s. Yields (override (of_list ps) v) s) else Yields (of_list ps) t

  -- a second part after an inconsistent first one
  pub seq-alone : First → listed_consistent ps ≡ false → taken pick bodies path w e (Seq place p q) s ≡ Yields (of_list ps) t
  seq-alone first clash = ap (λ a. and_then a after_first) first ∙ ap later (consistent-list ps ∙ clash)

  -- a second part in the state after the first
  pub seq-listed : (es : List (ℕ × Value)) → w.state ≡ held es → First → listed_consistent ps ≡ true → taken pick bodies (path ++ Part 1 ∷ []) (record w { state = held (listed_fire ps es) }) e q t ≡ Yields (of_list qs) r → taken pick bodies path w e (Seq place p q) s ≡ Yields (of_list (listed_override ps qs)) r
  seq-listed es is_held first agrees second =
      ap (λ a. and_then a after_first) first ∙ ap later (consistent-list ps ∙ agrees)
      ∙ ap (λ a. and_then a (λ v s. Yields (override (of_list ps) v) s)) (ap (λ state. taken pick bodies (path ++ Part 1 ∷ []) (record w { state = state }) e q t) (ap (λ state. fire state (of_list ps)) is_held ∙ fire-listed ps es agrees) ∙ second)
      ∙ ap (λ u. Yields u r) (override-listed ps qs)

-- a model in the state of listed entries, without an input
abbrev pub world_of : Machine → List (ℕ × Value) → World
world_of m es = record { machine = m; state = held es; input = no_input }

pub next-is : (m : Machine) (es : List (ℕ × Value)) (words : List ℕ) (rule : Rule) → next m (held es) no_input words rule ≡ ended (world_of m es) (outcome by_words (world_of m es) rule words)
next-is m es words rule = ap (λ s. ended (record { machine = m; state = s; input = no_input }) (outcome by_words (record { machine = m; state = s; input = no_input }) rule words)) (no_shared m.signature (held es))

module _ (m : Machine) (es : List (ℕ × Value)) (words : List ℕ) (rule : Rule) (ps : List Pair) (left : List ℕ) where
  abbrev Gives : Type 0
  Gives = outcome by_words (world_of m es) rule words ≡ Yields (of_list ps) left

  -- a step whose set has two values of a location
  pub clashes : (c : ℕ × Value × Value) → Gives → listed_clash m.signature ps 0 (locations m.signature) ≡ Some c → next m (held es) no_input words rule ≡ Err (Clash c.0 c.1 c.2)
  clashes c gives two = next-is m es words rule ∙ ap (ended (world_of m es)) gives ∙ ap (after (world_of m es) (of_list ps) left) (clash-listed m.signature ps ∙ two)

  -- a step whose set is fired
  pub goes_on : Gives → listed_clash m.signature ps 0 (locations m.signature) ≡ None → listed_consistent ps ≡ true → next m (held es) no_input words rule ≡ Ok (held (listed_fire ps es), left)
  goes_on gives no_clash agrees =
      next-is m es words rule ∙ ap (ended (world_of m es)) gives ∙ ap (after (world_of m es) (of_list ps) left) (clash-listed m.signature ps ∙ no_clash)
      ∙ ap (λ t. Ok (t, left)) (fire-listed ps es agrees)
