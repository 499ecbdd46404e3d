-- What was made of rules stays while more is made.
use Rattle.std.proofs.Common.{◌≡◌, ℕ, zero, suc, ◌+◌, ◌-◌, ◌<◌, ◌≤◌, List, [], ◌∷◌, ◌++◌, map, take, drop, length, Some, slice_get, slice_index_or, All, refl, sym, ap, ◌∙◌, subst, arith}
use Rattle.std.proofs.lemmas.List.Elements.{All-append}
use Rattle.std.specs.declared.rc.Rc.{Rc}
use Rattle.std.specs.declared.alloc.Global.{Global}
use Rattle.asm_source.specs.declared.sources.Place.{Place}
use Rattle.asm_node.specs.declared.term.Term.{Term}
use Rattle.asm_node.specs.declared.rule.Rule as of_rule
use Rattle.asm_node.specs.Pool.{terms_of, rules_of, HasRule}
use Rattle.asm_node.specs.Tree.{Tree, plain}
use Rattle.asm_node.specs.RuleTree.{Rule, Skip, If, Let, plain_rule}
use Rattle.asm_node.proofs.Growing.{front_stays}
use Rattle.asm_tree.specs.declared.unit.LoadedUnit.{LoadedUnit}
use Rattle.asm_faults.specs.At.{Name}
use Rattle.asm_build.specs.declared.maker.Maker.{Maker}
use Rattle.asm_build.specs.Made.{Agrees, HasGrown, plains}
use Rattle.asm_build.specs.MadeRules.{OfFiles, IsRule, AreRules, plains_of_rules, rule_names}
use Rattle.asm_build.specs.Forms.{test}
use Rattle.asm_build.specs.RuleParts.{rule_cases_from, rule_bounds_from, sequence_on, sequence_from}
use Rattle.asm_build.proofs.Growing.{agrees_back, map_push, append_none, took_all}
use Rattle.asm_build.proofs.Nesting.{drop_at, drop_all, get_map, length_map}

abbrev Nodes : Type 0
Nodes = List (Rc of_rule.Rule Global)

pub grown_rules : (m n : Maker) (rs : List of_rule.Rule) → terms_of n.pool ≡ terms_of m.pool → rules_of n.pool ≡ rules_of m.pool ++ rs → n.variables ≡ m.variables → HasGrown m n
grown_rules m n rs terms rules same = record {
  further_terms = [];
  terms = terms ∙ append_none (terms_of m.pool);
  further_rules = rs;
  rules = rules;
  further_names = [];
  names = same ∙ append_none m.variables;
}

pub rule_stays : {m n : Maker} (r : of_rule.Rule) → HasGrown m n → HasRule (rules_of m.pool) r → HasRule (rules_of n.pool) r
rule_stays {m = m} r grown has = subst (λ rs. HasRule rs r) (sym grown.rules) (front_stays (rules_of m.pool) grown.further_rules r.id r has)

pub rules_stay : {m n : Maker} (rs : Nodes) → HasGrown m n → All (λ r. HasRule (rules_of m.pool) r.value) rs → All (λ r. HasRule (rules_of n.pool) r.value) rs
rules_stay rs grown has = λ k r lt. rule_stays (slice_index_or rs k r).value grown (has k r lt)

pub same_rule : {m : Maker} {names : List Name} (tree tree' : OfFiles Rule) {r : of_rule.Rule}
    → ((number : Name → ℕ) (units : List LoadedUnit) → Agrees number m.variables → names ≡ rule_names units → tree number units ≡ tree' number units) → IsRule m names tree r → IsRule m names tree' r
same_rule tree tree' same is = record { is_of_pool = is.is_of_pool; is_tree = λ number units agrees known. is.is_tree number units agrees known ∙ same number units agrees known }

pub same_rules : {m : Maker} {names : List Name} (trees trees' : OfFiles (List Rule)) (ps qs : Nodes) → qs ≡ ps → ((number : Name → ℕ) (units : List LoadedUnit) → trees number units ≡ trees' number units)
    → AreRules m names trees ps → AreRules m names trees' qs
same_rules {m = m} trees trees' ps qs e same are = record {
  are_of_pool = subst (λ (xs : Nodes). All (λ r. HasRule (rules_of m.pool) r.value) xs) (sym e) are.are_of_pool;
  are_trees = λ number units agrees known. ap (map (λ (r : Rc of_rule.Rule Global). plain_rule r.value)) e ∙ are.are_trees number units agrees known ∙ same number units;
}

pub no_rules : (m : Maker) (names : List Name) (trees : OfFiles (List Rule)) (ps : Nodes) → ps ≡ [] → ((number : Name → ℕ) (units : List LoadedUnit) → trees number units ≡ []) → AreRules m names trees ps
no_rules m names trees ps e none = record {
  are_of_pool = subst (λ (us : Nodes). All (λ r. HasRule (rules_of m.pool) r.value) us) (sym e) (λ k d lt. absurd (omega (arith, lt)));
  are_trees = λ number units agrees known. ap (map (λ (r : Rc of_rule.Rule Global). plain_rule r.value)) e ∙ sym (none number units);
}

one_rule : (n : Maker) (r : Rc of_rule.Rule Global) → HasRule (rules_of n.pool) r.value → All (λ r. HasRule (rules_of n.pool) r.value) (r ∷ [])
one_rule n r has zero d lt = has
one_rule n r has (suc k) d lt = absurd (omega (arith, lt))

pub pushed_rule : {m n : Maker} {names : List Name} (trees : OfFiles (List Rule)) (tree : OfFiles Rule) (ps : Nodes) (p : Rc of_rule.Rule Global) → HasGrown m n → AreRules m names trees ps → IsRule n names tree p.value
    → AreRules n names (λ number units. trees number units ++ tree number units ∷ []) (ps ++ p ∷ [])
pushed_rule {m = m} {n = n} trees tree ps p grown are is = record {
  are_of_pool = All-append (λ (r : Rc of_rule.Rule Global). HasRule (rules_of n.pool) r.value) ps (p ∷ []) (rules_stay ps grown are.are_of_pool) (one_rule n p is.is_of_pool);
  are_trees = λ number units agrees known.
      map_push (λ (r : Rc of_rule.Rule Global). plain_rule r.value) ps p
      ∙ ap (λ us. us ++ plain_rule p.value ∷ []) (are.are_trees number units (agrees_back number grown agrees) known) ∙ ap (λ u. trees number units ++ u ∷ []) (is.is_tree number units agrees known);
}

pub same_held : (rules : List of_rule.Rule) (ps qs : Nodes) → qs ≡ ps → All (λ r. HasRule rules r.value) ps → All (λ r. HasRule rules r.value) qs
same_held rules ps qs e has = subst (λ (rs : Nodes). All (λ r. HasRule rules r.value) rs) (sym e) has

pub rule_held : (rules : List of_rule.Rule) (ps : Nodes) (j : ℕ) (p : Rc of_rule.Rule Global) → All (λ r. HasRule rules r.value) ps → slice_get ps j ≡ Some p → HasRule rules p.value
rule_held rules [] j p has e = absurd (cc (e))
rule_held rules (q ∷ ps) zero p has e = let same : q ≡ p = cc in subst (λ (r : Rc of_rule.Rule Global). HasRule rules r.value) same (has 0 q (omega arith))
rule_held rules (q ∷ ps) (suc j) p has e = rule_held rules ps j p (λ k d lt. has (suc k) d (omega (arith, lt))) e

-- ---- nested rules from the last part on

module _ (place : Place) (xs : List ℕ) (ts : List (Rc Term Global)) (body : Rule) where
  none_behind : (us : List Tree) (n : ℕ) → n ≡ length us → rule_bounds_from place (drop n xs) (drop n us) body ≡ body
  none_behind us n e = ap (λ vs. rule_bounds_from place (drop n xs) vs body) (ap (λ m. drop m us) e ∙ drop_all us) ∙ no_terms (drop n xs)
    where
      no_terms : (ys : List ℕ) → rule_bounds_from place ys [] body ≡ body
      no_terms [] = refl
      no_terms (y ∷ ys) = refl

  pub bounds_from_last : (d : ℕ) → d ≡ 0 → rule_bounds_from place (drop (length ts - d) xs) (drop (length ts - d) (plains ts)) body ≡ body
  bounds_from_last d e = none_behind (plains ts) (length ts - d) (let same : length (plains ts) ≡ length ts = length_map (λ (t : Rc Term Global). plain t.value) ts in omega (arith, same, e))

  pub one_more_bound : (d j x : ℕ) (t : Rc Term Global) → d < length ts → j ≡ (length ts - 1) - d → slice_get xs j ≡ Some x → slice_get ts j ≡ Some t
      → Let place x (plain t.value) (rule_bounds_from place (drop (length ts - d) xs) (drop (length ts - d) (plains ts)) body) ≡ rule_bounds_from place (drop (length ts - (d + 1)) xs) (drop (length ts - (d + 1)) (plains ts)) body
  one_more_bound d j x t less e f g =
      let next : length ts - d ≡ suc j = omega arith in
      let this : length ts - (d + 1) ≡ j = omega arith in
      ap (λ n. Let place x (plain t.value) (rule_bounds_from place (drop n xs) (drop n (plains ts)) body)) next
      ∙ sym (ap (λ us. rule_bounds_from place us (drop j (plains ts)) body) (drop_at xs j x f) ∙ ap (λ us. rule_bounds_from place (x ∷ drop (suc j) xs) us body) (drop_at (plains ts) j (plain t.value) (get_map (λ (t : Rc Term Global). plain t.value) ts j t g)))
      ∙ ap (λ n. rule_bounds_from place (drop n xs) (drop n (plains ts)) body) (sym this)

  pub bounds_all : {m : Maker} {names : List Name} (r : of_rule.Rule) (d : ℕ) → d ≡ length ts → IsRule m names (λ number units. rule_bounds_from place (drop (length ts - d) xs) (drop (length ts - d) (plains ts)) body) r
      → IsRule m names (λ number units. rule_bounds_from place xs (plains ts) body) r
  bounds_all {m = m} {names = names} r d e is =
      let none : length ts - d ≡ 0 = omega arith in
      subst (λ (n : ℕ). IsRule m names (λ number units. rule_bounds_from place (drop n xs) (drop n (plains ts)) body) r) none is

module _ (place : Place) (subject : Tree) (ls : List (Rc Term Global)) (ps : Nodes) (other : Rule) where
  no_cases : (us : List Tree) (n : ℕ) → n ≡ length us → rule_cases_from place subject (drop n us) (drop n (plains_of_rules ps)) other ≡ other
  no_cases us n e = ap (λ vs. rule_cases_from place subject vs (drop n (plains_of_rules ps)) other) (ap (λ m. drop m us) e ∙ drop_all us) ∙ none (drop n (plains_of_rules ps))
    where
      none : (ys : List Rule) → rule_cases_from place subject [] ys other ≡ other
      none [] = refl
      none (y ∷ ys) = refl

  pub cases_from_last : (d : ℕ) → d ≡ 0 → rule_cases_from place subject (drop (length ls - d) (plains ls)) (drop (length ls - d) (plains_of_rules ps)) other ≡ other
  cases_from_last d e = no_cases (plains ls) (length ls - d) (let same : length (plains ls) ≡ length ls = length_map (λ (t : Rc Term Global). plain t.value) ls in omega (arith, same, e))

  pub one_more_case : (d j : ℕ) (l : Rc Term Global) (p : Rc of_rule.Rule Global) → d < length ls → j ≡ (length ls - 1) - d → slice_get ls j ≡ Some l → slice_get ps j ≡ Some p
      → If place (test subject (plain l.value)) (plain_rule p.value) (rule_cases_from place subject (drop (length ls - d) (plains ls)) (drop (length ls - d) (plains_of_rules ps)) other)
      ≡ rule_cases_from place subject (drop (length ls - (d + 1)) (plains ls)) (drop (length ls - (d + 1)) (plains_of_rules ps)) other
  one_more_case d j l p less e f g =
      let next : length ls - d ≡ suc j = omega arith in
      let this : length ls - (d + 1) ≡ j = omega arith in
      ap (λ n. If place (test subject (plain l.value)) (plain_rule p.value) (rule_cases_from place subject (drop n (plains ls)) (drop n (plains_of_rules ps)) other)) next
      ∙ sym (ap (λ us. rule_cases_from place subject us (drop j (plains_of_rules ps)) other) (drop_at (plains ls) j (plain l.value) (get_map (λ (t : Rc Term Global). plain t.value) ls j l f))
      ∙ ap (λ us. rule_cases_from place subject (plain l.value ∷ drop (suc j) (plains ls)) us other) (drop_at (plains_of_rules ps) j (plain_rule p.value) (get_map (λ (r : Rc of_rule.Rule Global). plain_rule r.value) ps j p g)))
      ∙ ap (λ n. rule_cases_from place subject (drop n (plains ls)) (drop n (plains_of_rules ps)) other) (sym this)

  pub cases_all : {m : Maker} {names : List Name} (r : of_rule.Rule) (d : ℕ) → d ≡ length ls
      → IsRule m names (λ number units. rule_cases_from place subject (drop (length ls - d) (plains ls)) (drop (length ls - d) (plains_of_rules ps)) other) r
      → IsRule m names (λ number units. rule_cases_from place subject (plains ls) (plains_of_rules ps) other) r
  cases_all {m = m} {names = names} r d e is =
      let none : length ls - d ≡ 0 = omega arith in
      subst (λ (n : ℕ). IsRule m names (λ number units. rule_cases_from place subject (drop n (plains ls)) (drop n (plains_of_rules ps)) other) r) none is

-- ---- what is left of a list

pub dropped : {A : Type 0} (xs : List A) (i : ℕ) (x : A) → i < length xs → x ≡ slice_index_or xs i x → drop i xs ≡ x ∷ drop (i + 1) xs
dropped [] i x lt e = absurd (omega (arith, lt))
dropped (y ∷ xs) zero x lt e = λ j. sym e j ∷ xs
dropped (y ∷ xs) (suc i) x lt e = let next : suc i + 1 ≡ suc (i + 1) = omega arith in dropped xs i x (omega (arith, lt)) e ∙ ap (λ n. x ∷ drop n (y ∷ xs)) (sym next)

pub dropped_all : {A : Type 0} (xs : List A) (i : ℕ) → length xs ≤ i → drop i xs ≡ []
dropped_all [] zero le = refl
dropped_all [] (suc i) le = refl
dropped_all (x ∷ xs) zero le = absurd (omega (arith, le))
dropped_all (x ∷ xs) (suc i) le = dropped_all xs i (omega (arith, le))

-- the same rules in a pool that has grown
pub made_rules : {m n : Maker} {names : List Name} {trees : OfFiles (List Rule)} {ps : Nodes} → HasGrown m n → AreRules m names trees ps → AreRules n names trees ps
made_rules {ps = ps} grown are = record { are_of_pool = rules_stay ps grown are.are_of_pool; are_trees = λ number units agrees known. are.are_trees number units (agrees_back number grown agrees) known }

-- ---- sequences

pub from_none : (place : Place) (ps : Nodes) → length ps < 1 → Skip place ≡ sequence_from place (plains_of_rules ps)
from_none place [] less = refl
from_none place (p ∷ ps) less = absurd (omega (arith, less))

pub from_first : (place : Place) (ps : Nodes) (p : Rc of_rule.Rule Global) → 1 ≤ length ps → p ≡ slice_index_or ps 0 p
    → sequence_on place (plain_rule p.value) (plains_of_rules (take (length ps - 1) (drop 1 ps))) ≡ sequence_from place (plains_of_rules ps)
from_first place [] p some e = absurd (omega (arith, some))
from_first place (q ∷ ps) p some e =
    ap (λ (r : Rc of_rule.Rule Global). sequence_on place (plain_rule r.value) (plains_of_rules (take (suc (length ps) - 1) ps))) e
    ∙ ap (λ (qs : Nodes). sequence_on place (plain_rule q.value) (plains_of_rules qs)) (took_all ps (suc (length ps) - 1) (omega arith))
