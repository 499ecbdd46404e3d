-- The documents of the parts of whole files.
use Rattle.std.proofs.Common.{◌≡◌, ℕ, suc, zero, ◌≤◌, Bool, true, false, not, ◌&&◌, ◌==◌, List, [], ◌∷◌, ◌++◌, Some, None, Option, refl, ap, sym, ◌∙◌, subst, inl, inr, append_assoc, arith}
use Rattle.std.specs.Prelude.{codes, map, ℤ, pos, negsuc, neg_ℤ}
use Rattle.std.specs.Option.{option_map}
use Rattle.std.specs.Fmt.{decimal}
use Rattle.std.specs.Str.Parse.{digits_value}
use Rattle.std.proofs.lemmas.Bool.{ltb-false}
use Rattle.std.proofs.lemmas.Bool.Decides.{nat_tests}
use Rattle.asm_lex.specs.Cut.{greatest_number, is_word, is_letter, in_word, is_digit}
use Rattle.asm_grammar.specs.Grammar.{Grammar, word, nothing, both, either, many, shown, opening, has, next_of}
use Rattle.asm_grammar.proofs.Theory.{tokens-append}
use Rattle.asm_tree.specs.Words.{class_of, number, kind_of}
use Rattle.asm_tree.specs.declared.class.Class.TheVariants as class
use Rattle.asm_tree.specs.declared.term.RawName.{RawName}
use Rattle.asm_tree.specs.declared.term.RawBinder.{RawBinder}
use Rattle.asm_tree.specs.declared.term.RawTerm.{RawTerm}
use Rattle.asm_tree.specs.declared.rule.RawRule.{RawRule}
use Rattle.asm_tree.specs.declared.unit.RawFunctionKind.{RawFunctionKind}
use Rattle.asm_tree.specs.declared.unit.RawFunctionKind.TheVariants as function_kind
use Rattle.asm_tree.specs.declared.unit.RawDeclaration.{RawDeclaration}
use Rattle.asm_tree.specs.declared.unit.RawDeclaration.TheVariants as declaration_of
use Rattle.asm_tree.specs.declared.unit.RawInt.{RawInt}
use Rattle.asm_tree.specs.declared.unit.RawFunction.{RawFunction}
use Rattle.asm_tree.specs.declared.unit.RawDefinition.{RawDefinition}
use Rattle.asm_tree.specs.declared.unit.RawDefinition.TheVariants as definition_of
use Rattle.asm_tree.specs.Language.{TokenText, models, after, before, name, functions, rules, invariants, elements, domains, words, free_words, Parameters, Product}
use Rattle.asm_tree.specs.Terms.{term}
use Rattle.asm_tree.specs.Rules.{body, rule, int, more_domains}
use Rattle.asm_tree.specs.Units.{more_elements, enumeration_of, enumeration, subset, abstract_domain, dynamic_kind, function_kinds, plain_type, arrow, function_type, function, declaration, more_ints, numbers, domain_of, domain, parameters, function_body_of, function_body, macro_of, plain_macro, macro, invariant_name, more_over, invariant_of, invariant, definition}
use Rattle.asm_canonical.specs.Document.{Item, Gap, Line, One, commas, further, lines, parenthesized, text_in}
use Rattle.asm_canonical.specs.Terms.{whole_term}
use Rattle.asm_canonical.specs.Rules.{rule_doc}
use Rattle.asm_canonical.specs.Units as units
use Rattle.asm_canonical.specs.Placeless as plain
use Rattle.asm_canonical.specs.Placeless.{plain_name, plain_binder, plain_term, plain_rule}
use Rattle.asm_canonical.proofs.Ends.{Ends, Stops, Free, word_stops, breaks, begins_not, word_ends, number_ends, dot_ends, slash_ends, no_dot, no_word, stops, decimal_stops, decimal_number, decimal_value, decimal_small, stops_colon, stops_minus, minus_ends, free_to, free_brace, free_close_brace, free_bar, free_equal, free_arrow, free_comma, free_open, free_close}
use Rattle.asm_canonical.proofs.Classes.{kind_number, class_number}
use Rattle.asm_canonical.proofs.Cutting.{Cuts, Leads, Joins, cuts_one, seen, end_of, seen-append, joins_leads, joins_free, leads_nil, leads_gap, leads_byte}
use Rattle.asm_canonical.proofs.Made.{Every, Fits}
use Rattle.asm_canonical.proofs.Good.{Good, good_word, good_nothing, good_left, good_right, good_shown, good_where, good_both, good_first, good_after, good_gap, good_line, good_none, good_more, good_alone, good_name}
use Rattle.asm_canonical.proofs.Phrases.{is_kind, Given, function_stops, rule_stops, invariant_stops, element_stops, domain_stops, any_stops, free_stops, word_then, symbol_then, free_then, word_alone, symbol_alone, closed, free_opens}
use Rattle.asm_canonical.proofs.Levels.{whole}
use Rattle.asm_canonical.proofs.GoodTerms.{GoodTerm, GoodBinder, binders_good, leads_further}
use Rattle.asm_canonical.proofs.GoodRules.{GoodRule, child_rule, leads_lines}
use Rattle.asm_canonical.proofs.Known.{M, Filled, Perhaps, Named, every, behind, ahead_of, named_of, known_term, known_rule}

-- one phrase and another, whose cut is known
pub good_pair : {A B : Type 0} {g : Grammar models A} {h : Grammar models B} {a b : List Item} {P : A → Type 0} {Q : B → Type 0} → Good g a P → Good h b Q → Cuts (a ++ b) → Good (both g h) (a ++ b) (λ p. P p.0 × Q p.1)
good_pair {A} {B} {g} {h} {a} {b} {P} {Q} p q c = record {
  prints = λ at depth next.
      (let y = q.prints (end_of at a) depth next in
      let x = p.prints at depth (next_of models y.text next) in record {
        text = x.text ++ y.text;
        value = (x.value, y.value);
        same = tokens-append models x.text y.text ∙ ap (λ z. z ++ Rattle.asm_grammar.specs.Grammar.tokens models y.text) x.same ∙ ap (λ z. seen at a ++ z) y.same ∙ sym (seen-append at a b);
        spelling = (x.text, y.text, refl, x.spelling, y.spelling);
        holds = (x.holds, y.holds);
      });
  cuts = c;
}

-- ---- names

domain_name : (n : RawName) → Named domains n → Good (name domains) (One n.text ∷ []) (λ m. plain_name m ≡ plain_name n)
domain_name n k = good_name n (domain_stops k) k

function_name : (n : RawName) → Named (functions false) n → Good (name (functions false)) (One n.text ∷ []) (λ m. plain_name m ≡ plain_name n)
function_name n k = good_name n (function_stops k) k

rule_name : (n : RawName) → Named rules n → Good (name rules) (One n.text ∷ []) (λ m. plain_name m ≡ plain_name n)
rule_name n k = good_name n (rule_stops k) k

element_name : (n : RawName) → Named elements n → Good (name elements) (One n.text ∷ []) (λ m. plain_name m ≡ plain_name n)
element_name n k = good_name n (element_stops k) k

free_name : (n : RawName) → Named free_words n → Good (name free_words) (One n.text ∷ []) (λ m. plain_name m ≡ plain_name n)
free_name n k = good_name n (free_stops k) k

pub any_name : (n : RawName) → Named words n → Good (name words) (One n.text ∷ []) (λ m. plain_name m ≡ plain_name n)
any_name n k = good_name n (any_stops k) k

-- names with commas
more_names_good : (ks : List ℕ) → ((n : RawName) → Named ks n → Good (name ks) (One n.text ∷ []) (λ m. plain_name m ≡ plain_name n)) → (ns : List RawName) → Every (Named ks) ns
    → Good (many (after class.Comma (name ks))) (further (codes ",") (map units.name_doc ns)) (λ ms. map plain_name ms ≡ map plain_name ns)
unfolding number class_of
more_names_good ks f [] g = good_none {f = plain_name}
more_names_good ks f (n ∷ ns) g = good_more {f = plain_name} {a = One (codes ",") ∷ Gap ∷ One n.text ∷ []} {x = n} ns (symbol_then (stops free_comma) refl (f n g.0)) (leads_further (map units.name_doc ns)) (more_names_good ks f ns g.1)

some_names_good : (ks : List ℕ) → ((n : RawName) → Named ks n → Good (name ks) (One n.text ∷ []) (λ m. plain_name m ≡ plain_name n)) → (n : RawName) (ns : List RawName) → Every (Named ks) (n ∷ ns)
    → Good (both (name ks) (many (after class.Comma (name ks)))) (commas (map units.name_doc (n ∷ ns))) (λ p. (plain_name p.0 ≡ plain_name n) × (map plain_name p.1 ≡ map plain_name ns))
some_names_good ks f n ns g = good_both {a = One n.text ∷ []} (f n g.0) (leads_further (map units.name_doc ns)) (more_names_good ks f ns g.1)

-- ---- declarations

more_elements_good : (es : List RawName) → Every (Named elements) es → Good more_elements (units.more_elements es) (λ ms. map plain_name ms ≡ map plain_name es)
unfolding number class_of more_elements
more_elements_good [] g = good_none {f = plain_name}
more_elements_good (e ∷ es) g = good_more {f = plain_name} {a = Gap ∷ One (codes "|") ∷ Gap ∷ One e.text ∷ []} {x = e} es (good_gap (symbol_then (stops free_bar) refl (element_name e g.0))) (leads_more es) (more_elements_good es g.1)
  where
    leads_more : (es : List RawName) → Leads (units.more_elements es)
    leads_more [] = leads_nil
    leads_more (e ∷ es) = leads_gap

leads_elements : (es : List RawName) → Leads (units.more_elements es)
leads_elements [] = leads_nil
leads_elements (e ∷ es) = leads_gap

abbrev LikeDeclaration : RawDeclaration → RawDeclaration → Type 0
LikeDeclaration d e = plain.plain_declaration e ≡ plain.plain_declaration d

enumeration_good : (d : RawName) (e : RawName) (es : List RawName) → Named domains d → Every (Named elements) (e ∷ es) → Good enumeration (units.declaration_doc (declaration_of.Enumeration d (e ∷ es))) (LikeDeclaration (declaration_of.Enumeration d (e ∷ es)))
unfolding number class_of enumeration units.declaration_doc
enumeration_good d e es k g =
    word_then (codes "enum") refl refl (word_then (codes "domain") refl refl (good_shown (good_both (domain_name d k) leads_gap (good_gap (symbol_then (stops free_equal) refl
    (free_then free_brace refl (closed (good_both {a = One e.text ∷ []} (element_name e g.0) (leads_elements es) (more_elements_good es g.1)) (leads_byte refl) (symbol_alone (stops free_close_brace) refl))))))
    (λ p h. ap (λ z. declaration_of.Enumeration z (plain_name p.1.0 ∷ map plain_name p.1.1)) h.0 ∙ ap (λ z. declaration_of.Enumeration (plain_name d) (z ∷ map plain_name p.1.1)) h.1.0 ∙ ap (λ z. declaration_of.Enumeration (plain_name d) (plain_name e ∷ z)) h.1.1)))

subset_good : (d e : RawName) → Named domains d → Named domains e → Good subset (units.declaration_doc (declaration_of.Subset d e)) (LikeDeclaration (declaration_of.Subset d e))
unfolding number class_of subset units.declaration_doc
subset_good d e k j =
    word_then (codes "domain") refl refl (good_shown (good_both (domain_name d k) leads_gap (good_gap (word_then (codes "subsetof") refl refl (domain_name e j))))
    (λ p h. ap (λ z. declaration_of.Subset z (plain_name p.1)) h.0 ∙ ap (λ z. declaration_of.Subset (plain_name d) z) h.1))

abstract_good : (d : RawName) → Named domains d → Good abstract_domain (units.declaration_doc (declaration_of.Abstract d)) (LikeDeclaration (declaration_of.Abstract d))
unfolding number class_of abstract_domain units.declaration_doc
abstract_good d k = word_then (codes "abstract") refl refl (word_then (codes "domain") refl refl (good_shown (domain_name d k) (λ n h. ap (λ z. declaration_of.Abstract z) h)))

kind_good : (k : RawFunctionKind) → Good function_kinds (One (units.kind_word k) ∷ []) (λ j. j ≡ k)
unfolding number class_of function_kinds dynamic_kind
kind_good function_kind.Controlled = good_right (good_left (good_left (good_shown (word_alone (codes "controlled") refl refl) (λ t e. refl))))
kind_good function_kind.Monitored = good_right (good_left (good_right (good_left (good_shown (word_alone (codes "monitored") refl refl) (λ t e. refl)))))
kind_good function_kind.Shared = good_right (good_left (good_right (good_right (good_left (good_shown (word_alone (codes "shared") refl refl) (λ t e. refl))))))
kind_good function_kind.Out = good_right (good_left (good_right (good_right (good_right (good_shown (word_alone (codes "out") refl refl) (λ t e. refl))))))
kind_good function_kind.Static = good_right (good_right (good_left (good_shown (word_alone (codes "static") refl refl) (λ t e. refl))))
kind_good function_kind.Derived = good_right (good_right (good_right (good_shown (word_alone (codes "derived") refl refl) (λ t e. refl))))

abbrev LikeType : List RawName → RawName → List RawName × RawName → Type 0
LikeType ds c p = (map plain_name p.0 ≡ map plain_name ds) × (plain_name p.1 ≡ plain_name c)

constant_type : (c : RawName) (p : RawName × Option RawName) → (plain_name p.0 ≡ plain_name c) × (p.1 ≡ None) → LikeType [] c (plain_type p)
constant_type c (d, None) h = (refl, h.0)
constant_type c (d, Some e) h = absurd (cc (h.1))

arrow_type : (d c : RawName) (p : RawName × Option RawName) → (plain_name p.0 ≡ plain_name d) × Given (λ m. plain_name m ≡ plain_name c) p.1 → LikeType (d ∷ []) c (plain_type p)
arrow_type d c (e, None) h = absurd h.1
arrow_type d c (e, Some b) h = (ap (λ z. z ∷ []) h.0, h.1)

type_good : (ds : List RawName) (c : RawName) → Every (Named domains) ds → Named domains c → Good function_type (units.type_doc ds c) (LikeType ds c)
unfolding number class_of function_type arrow body more_domains
type_good [] c g k = good_right (good_alone (domain_name c k) (good_right (good_nothing {P = λ z. z ≡ None} refl)) (constant_type c))
type_good (d ∷ []) c g k = good_right (good_shown (good_both (domain_name d g.0) leads_gap (good_gap (good_left (good_shown {Q = Given (λ m. plain_name m ≡ plain_name c)} (symbol_then (stops free_arrow) refl (domain_name c k)) (λ z h. h))))) (arrow_type d c))
type_good (d ∷ e ∷ es) c g k =
    good_left (good_after (is_kind refl) (joins_leads (word_stops_prod) (leads_byte refl)) (good_both {a = parenthesized (commas (map units.name_doc (d ∷ e ∷ es)))}
    (good_shown {Q = λ ms. map plain_name ms ≡ map plain_name (d ∷ e ∷ es)} (free_opens {x = Product} {P = λ ms. map plain_name ms ≡ map plain_name (d ∷ e ∷ es)} free_open refl (closed (good_shown {Q = λ ms. map plain_name ms ≡ map plain_name (d ∷ e ∷ es)} (some_names_good domains domain_name d (e ∷ es) g)
    (λ p h. ap (λ z. z ∷ map plain_name p.1) h.0 ∙ ap (λ z. plain_name d ∷ z) h.1)) (leads_byte refl) (symbol_alone (stops free_close) refl))) (λ p h. h.1))
    leads_gap (good_gap (symbol_then (stops free_arrow) refl (domain_name c k)))))
  where
    word_stops_prod : Stops (codes "Prod")
    word_stops_prod = Rattle.asm_canonical.proofs.Ends.word_stops (codes "Prod") refl

function_good : (k : RawFunctionKind) (f : RawName) (ds : List RawName) (c : RawName) → Named (functions false) f → Every (Named domains) ds → Named domains c → Good function (units.declaration_doc (declaration_of.Function k f ds c)) (LikeDeclaration (declaration_of.Function k f ds c))
unfolding number class_of function units.declaration_doc
function_good k f ds c n g j =
    good_shown (good_both {a = One (units.kind_word k) ∷ []} (kind_good k) leads_gap (good_gap (good_both {a = One f.text ∷ []} (function_name f n) leads_gap (good_gap (symbol_then stops_colon refl (type_good ds c g j))))))
    (λ p h. ap (λ z. declaration_of.Function z (plain_name p.1.0) (map plain_name p.1.1.0) (plain_name p.1.1.1)) h.0 ∙ ap (λ z. declaration_of.Function k z (map plain_name p.1.1.0) (plain_name p.1.1.1)) h.1.0
    ∙ ap (λ z. declaration_of.Function k (plain_name f) z (plain_name p.1.1.1)) h.1.1.0 ∙ ap (λ z. declaration_of.Function k (plain_name f) (map plain_name ds) z) h.1.1.1)

type_known : (p : List RawName × RawName) → M function_type p → Every (Named domains) p.0 × Named domains p.1
unfolding function_type arrow
type_known p (inl m) = subst (λ (q : List RawName × RawName). Every (Named domains) q.0 × Named domains q.1) (sym m.1) (to_all m.0.1.0 (subst (Filled (Named domains)) (sym m.2.1.0.1) m.2.1.0.2.2), behind class.Arrow (name domains) (Named domains) (named_of domains) m.0.1.1 m.2.1.1)
  where
    to_all : (ns : List RawName) → Filled (Named domains) ns → Every (Named domains) ns
    to_all [] h = absurd h
    to_all (n ∷ ns) h = h
type_known p (inr m) = subst (λ (q : List RawName × RawName). Every (Named domains) q.0 × Named domains q.1) (sym m.1) (go m.0.0 m.0.1 (named_of domains m.0.0 m.2.0) m.2.1)
  where
    go : (d : RawName) (o : Option RawName) → Named domains d → M arrow o → Every (Named domains) (plain_type (d, o)).0 × Named domains (plain_type (d, o)).1
    go d None k m = (tt, k)
    go d (Some c) k (inl m) = ((k, tt), subst (Perhaps (Named domains)) (sym m.1) (behind class.Arrow (name domains) (Named domains) (named_of domains) m.0 m.2))
    go d (Some c) k (inr m) = absurd (cc (m))

abbrev GoodDeclaration : Grammar models RawDeclaration → RawDeclaration → Type 0
GoodDeclaration g d = Good g (units.declaration_doc d) (LikeDeclaration d)

-- an element behind a mark
element_behind : (n : RawName) → M (shown (λ (p : TokenText × RawName). p.1) (both (word (kind_of class.Bar ∷ kind_of class.Comma ∷ [])) (name elements))) n → Named elements n
element_behind n m = subst (Named elements) (sym m.1) (named_of elements m.0.1 m.2.1)

enumeration_known : (d : RawDeclaration) → M enumeration d → GoodDeclaration enumeration d
unfolding enumeration more_elements
enumeration_known d m =
    behind class.Enum (after class.Domain (shown enumeration_of (both (name domains) (after class.Equal (after class.OpenBrace (before (both (name elements) more_elements) class.CloseBrace)))))) (GoodDeclaration enumeration)
    (behind class.Domain (shown enumeration_of (both (name domains) (after class.Equal (after class.OpenBrace (before (both (name elements) more_elements) class.CloseBrace))))) (GoodDeclaration enumeration)
    (λ e n. subst (GoodDeclaration enumeration) (sym n.1) (enumeration_good n.0.0 n.0.1.0 n.0.1.1 (named_of domains n.0.0 n.2.0)
    (behind class.Equal (after class.OpenBrace (before (both (name elements) more_elements) class.CloseBrace)) (λ p. Every (Named elements) (p.0 ∷ p.1))
    (behind class.OpenBrace (before (both (name elements) more_elements) class.CloseBrace) (λ p. Every (Named elements) (p.0 ∷ p.1))
    (ahead_of class.CloseBrace (both (name elements) more_elements) (λ p. Every (Named elements) (p.0 ∷ p.1))
    (λ p k. (named_of elements p.0 k.0, every _ (Named elements) element_behind p.1 k.1)))) n.0.1 n.2.1)))) d m

subset_known : (d : RawDeclaration) → M subset d → GoodDeclaration subset d
unfolding subset
subset_known d m =
    behind class.Domain (shown (λ p. declaration_of.Subset p.0 p.1) (both (name domains) (after class.SubsetOf (name domains)))) (GoodDeclaration subset)
    (λ e n. subst (GoodDeclaration subset) (sym n.1) (subset_good n.0.0 n.0.1 (named_of domains n.0.0 n.2.0) (behind class.SubsetOf (name domains) (Named domains) (named_of domains) n.0.1 n.2.1))) d m

abstract_known : (d : RawDeclaration) → M abstract_domain d → GoodDeclaration abstract_domain d
unfolding abstract_domain
abstract_known d m =
    behind class.Abstract (after class.Domain (shown declaration_of.Abstract (name domains))) (GoodDeclaration abstract_domain)
    (behind class.Domain (shown declaration_of.Abstract (name domains)) (GoodDeclaration abstract_domain)
    (λ e n. subst (GoodDeclaration abstract_domain) (sym n.1) (abstract_good n.0 (named_of domains n.0 n.2)))) d m

function_known : (d : RawDeclaration) → M function d → GoodDeclaration function d
unfolding function
function_known d m =
    let t = behind class.Colon function_type (λ p. Every (Named domains) p.0 × Named domains p.1) type_known m.0.1.1 m.2.1.1 in
    subst (GoodDeclaration function) (sym m.1) (function_good m.0.0 m.0.1.0 m.0.1.1.0 m.0.1.1.1 (named_of (functions false) m.0.1.0 m.2.1.0) t.0 t.1)

pub declaration_good : (d : RawDeclaration) → M declaration d → GoodDeclaration declaration d
unfolding declaration
declaration_good d (inl m) = good_left (enumeration_known d m)
declaration_good d (inr (inl m)) = good_right (good_left (subset_known d m))
declaration_good d (inr (inr (inl m))) = good_right (good_right (good_left (abstract_known d m)))
declaration_good d (inr (inr (inr m))) = good_right (good_right (good_right (function_known d m)))

pub declarations_good : (ds : List RawDeclaration) → Every (M declaration) ds → Good (many declaration) (lines 1 (map units.declaration_doc ds)) (λ es. map plain.plain_declaration es ≡ map plain.plain_declaration ds)
declarations_good [] g = good_none {f = plain.plain_declaration}
declarations_good (d ∷ ds) g = good_more {f = plain.plain_declaration} {a = Line 1 ∷ units.declaration_doc d} {x = d} ds (good_line (declaration_good d g.0)) (leads_lines 1 (map units.declaration_doc ds)) (declarations_good ds g.1)

-- ---- whole numbers

-- at most the greatest number on both sides
abbrev InReach : ℤ → Type 0
InReach (pos n) = n ≤ greatest_number
InReach (negsuc n) = suc n ≤ greatest_number

token_value : (t : TokenText) → Fits t × (has (suc (number (class_of t.text))) (kind_of class.Number ∷ []) ≡ true) → digits_value 10 t.text ≤ greatest_number
unfolding number
token_value t m = ltb-false greatest_number (digits_value 10 t.text) (m.0.small (kind_number t.text m.1))

opposite_reach : (n : ℕ) → n ≤ greatest_number → InReach (neg_ℤ (pos n))
opposite_reach zero h = omega arith
opposite_reach (suc n) h = h

int_known : (i : RawInt) → M int i → InReach i.value
unfolding int
int_known i (inl m) = subst (λ (j : RawInt). InReach j.value) (sym m.1) (opposite_reach (digits_value 10 m.0.1.text) (token_value m.0.1 m.2.1))
int_known i (inr m) = subst (λ (j : RawInt). InReach j.value) (sym m.1) (token_value m.0 m.2)

decimal_kind : (n : ℕ) → n ≤ greatest_number → has (suc (number (class_of (decimal n)))) (kind_of class.Number ∷ []) ≡ true
unfolding number
decimal_kind n le = ap (λ z. has (suc (number z)) (kind_of class.Number ∷ [])) (class_number (decimal n) (decimal_number n le))

abbrev LikeInt : ℤ → RawInt → Type 0
LikeInt z j = j.value ≡ z

digit_no_greater : (b : ℕ) → is_digit b ≡ true → (b == 62) ≡ false
digit_no_greater b h = grind (arith, nat_tests)

front_of : (x y : Bool) → (x && y) ≡ true → x ≡ true
front_of true y h = refl
front_of false y h = absurd (cc)

number_front : (w r : List ℕ) → Rattle.asm_lex.specs.Cut.is_number w ≡ true → begins_not (λ c. c == 62) (w ++ r) ≡ true
number_front [] r h = absurd (cc)
number_front (b ∷ w) r h = ap not (digit_no_greater b (front_of (is_digit b) _ h))

joins_minus : (n : ℕ) {d : List Item} → n ≤ greatest_number → Joins (codes "-") (One (decimal n) ∷ d)
joins_minus n {d} le = record { ends = λ r h. subst (Ends (codes "-")) (sym (append_assoc (decimal n) (text_in d) r)) (minus_ends (decimal n ++ (text_in d ++ r)) (number_front (decimal n) (text_in d ++ r) (decimal_number n le))) }

whole_good : (z : ℤ) → InReach z → Good int (units.whole_number z) (LikeInt z)
unfolding number class_of int
whole_good (pos n) le = good_right (good_shown (good_word (decimal_stops n le) (is_kind (decimal_kind n le)) (λ t e. e)) (λ t e. ap pos (ap (digits_value 10) e ∙ decimal_value n le)))
whole_good (negsuc n) le =
    good_left (good_shown (good_first (is_kind refl) (joins_minus (suc n) le) (good_word (decimal_stops (suc n) le) (is_kind (decimal_kind (suc n) le)) (λ t e. e)))
    (λ p h. ap (λ m. neg_ℤ (pos m)) (ap (digits_value 10) h.1 ∙ decimal_value (suc n) le)))

pub int_good : (i : RawInt) → M int i → Good int (units.int_doc i) (λ j. plain.plain_int j ≡ plain.plain_int i)
int_good i m = good_where (whole_good i.value (int_known i m)) (λ j e. ap (λ z. record { at = 0; first = []; value = z }) e)

-- ---- domains of numbers

-- a number before `..`
number_to : (n : ℕ) {d : List Item} → n ≤ greatest_number → Joins (decimal n) (One (codes "..") ∷ d)
number_to n {d} le = record { ends = λ r h. number_ends (decimal n) (text_in (One (codes "..") ∷ d) ++ r) (decimal_number n le) (decimal_small n le) refl }

cuts_to : (z : ℤ) {d : List Item} → InReach z → Cuts (One (codes "..") ∷ d) → Cuts (units.whole_number z ++ (One (codes "..") ∷ d))
cuts_to (pos n) {d} le c = cuts_one (decimal n) (One (codes "..") ∷ d) (number_to n le) c
cuts_to (negsuc n) {d} le c = cuts_one (codes "-") (One (decimal (suc n)) ∷ One (codes "..") ∷ d) (joins_minus (suc n) le) (cuts_one (decimal (suc n)) (One (codes "..") ∷ d) (number_to (suc n) le) c)

abbrev LikeDefinition : RawDefinition → RawDefinition → Type 0
LikeDefinition d e = plain.plain_definition e ≡ plain.plain_definition d

range_same : (d : RawName) (low high : RawInt) (p : RawName × (RawInt × (Option RawInt × List RawInt)))
    → (plain_name p.0 ≡ plain_name d) × ((plain.plain_int p.1.0 ≡ plain.plain_int low) × Given (λ j. plain.plain_int j ≡ plain.plain_int high) p.1.1.0) → LikeDefinition (definition_of.Range d low high) (domain_of p)
range_same d low high (d', (low', (None, xs))) h = absurd h.1.1
range_same d low high (d', (low', (Some high', xs))) h =
    ap (λ z. definition_of.Range z (plain.plain_int low') (plain.plain_int high')) h.0 ∙ ap (λ z. definition_of.Range (plain_name d) z (plain.plain_int high')) h.1.0 ∙ ap (λ z. definition_of.Range (plain_name d) (plain.plain_int low) z) h.1.1

range_good : (d : RawName) (low high : RawInt) → Named domains d → M int low → M int high → Good domain (units.definition_doc (definition_of.Range d low high)) (LikeDefinition (definition_of.Range d low high))
unfolding number class_of domain numbers units.definition_doc
range_good d low high k m n =
    word_then (codes "domain") refl refl (good_shown (good_both (domain_name d k) leads_gap (good_gap (symbol_then (stops free_equal) refl (free_then free_brace refl
    (subst (λ (e : List Item). Good (both int (before numbers class.CloseBrace)) e (λ p. (plain.plain_int p.0 ≡ plain.plain_int low) × Given (λ j. plain.plain_int j ≡ plain.plain_int high) p.1.0)) (sym (append_assoc (units.int_doc low) (One (codes "..") ∷ units.int_doc high) (One (codes "}") ∷ [])))
    (good_pair (int_good low m) rest (cuts_to low.value (int_known low m) rest.cuts))))))) (range_same d low high))
  where
    rest : Good (before numbers class.CloseBrace) ((One (codes "..") ∷ units.int_doc high) ++ One (codes "}") ∷ []) (λ q. Given (λ j. plain.plain_int j ≡ plain.plain_int high) q.0)
    rest = closed {a = One (codes "..") ∷ units.int_doc high} (good_left (good_shown {Q = λ q. Given (λ j. plain.plain_int j ≡ plain.plain_int high) q.0} (good_first (is_kind refl) (joins_free free_to) (int_good high n)) (λ p h. h.1))) (leads_byte refl) (symbol_alone (stops free_close_brace) refl)

more_ints_good : (xs : List RawInt) → Every (M int) xs → Good more_ints (further (codes ",") (map units.int_doc xs)) (λ ys. map plain.plain_int ys ≡ map plain.plain_int xs)
unfolding number class_of more_ints
more_ints_good [] g = good_none {f = plain.plain_int}
more_ints_good (x ∷ xs) g = good_more {f = plain.plain_int} {a = One (codes ",") ∷ Gap ∷ units.int_doc x} {x = x} xs (symbol_then (stops free_comma) refl (int_good x g.0)) (leads_further (map units.int_doc xs)) (more_ints_good xs g.1)

leads_closing : (ds : List (List Item)) → Leads (further (codes ",") ds ++ One (codes "}") ∷ [])
leads_closing [] = leads_byte refl
leads_closing (d ∷ ds) = leads_byte refl

list_same : (d : RawName) (x : RawInt) (xs : List RawInt) (p : RawName × (RawInt × (Option RawInt × List RawInt)))
    → (plain_name p.0 ≡ plain_name d) × ((plain.plain_int p.1.0 ≡ plain.plain_int x) × ((p.1.1.0 ≡ None) × (map plain.plain_int p.1.1.1 ≡ map plain.plain_int xs))) → LikeDefinition (definition_of.List d (x ∷ xs)) (domain_of p)
list_same d x xs (d', (x', (Some y, ys))) h = absurd (cc (h.1.1.0))
list_same d x xs (d', (x', (None, ys))) h =
    ap (λ z. definition_of.List z (plain.plain_int x' ∷ map plain.plain_int ys)) h.0 ∙ ap (λ z. definition_of.List (plain_name d) (z ∷ map plain.plain_int ys)) h.1.0 ∙ ap (λ z. definition_of.List (plain_name d) (plain.plain_int x ∷ z)) h.1.1.1

list_good : (d : RawName) (x : RawInt) (xs : List RawInt) → Named domains d → M int x → Every (M int) xs → Good domain (units.definition_doc (definition_of.List d (x ∷ xs))) (LikeDefinition (definition_of.List d (x ∷ xs)))
unfolding number class_of domain numbers units.definition_doc
list_good d x xs k m g =
    word_then (codes "domain") refl refl (good_shown (good_both (domain_name d k) leads_gap (good_gap (symbol_then (stops free_equal) refl (free_then free_brace refl
    (subst (λ (e : List Item). Good (both int (before numbers class.CloseBrace)) e (λ p. (plain.plain_int p.0 ≡ plain.plain_int x) × ((p.1.0 ≡ None) × (map plain.plain_int p.1.1 ≡ map plain.plain_int xs)))) (sym (append_assoc (units.int_doc x) (further (codes ",") (map units.int_doc xs)) (One (codes "}") ∷ [])))
    (good_both (int_good x m) (leads_closing (map units.int_doc xs)) (closed (good_right (good_shown {Q = λ q. (q.0 ≡ None) × (map plain.plain_int q.1 ≡ map plain.plain_int xs)} (more_ints_good xs g) (λ ys h. (refl, h)))) (leads_byte refl) (symbol_alone (stops free_close_brace) refl))))))))
    (list_same d x xs))

domain_known : (d : RawDefinition) → M domain d → Good domain (units.definition_doc d) (LikeDefinition d)
unfolding domain numbers more_ints
domain_known d m =
    behind class.Domain (shown domain_of (both (name domains) (after class.Equal (after class.OpenBrace (both int (before numbers class.CloseBrace)))))) GoodDomain
    (λ e n. subst GoodDomain (sym n.1) (go n.0.0 n.0.1.0 n.0.1.1.0 n.0.1.1.1 (named_of domains n.0.0 n.2.0)
    (behind class.Equal (after class.OpenBrace (both int (before numbers class.CloseBrace))) (λ p. M int p.0 × M numbers p.1)
    (behind class.OpenBrace (both int (before numbers class.CloseBrace)) (λ p. M int p.0 × M numbers p.1) (λ p k. (k.0, ahead_of class.CloseBrace numbers (M numbers) (λ q j. j) p.1 k.1))) n.0.1 n.2.1))) d m
  where
    GoodDomain : RawDefinition → Type 0
    GoodDomain d = Good domain (units.definition_doc d) (LikeDefinition d)

    go : (n : RawName) (x : RawInt) (o : Option RawInt) (xs : List RawInt) → Named domains n → M int x × M numbers (o, xs) → Good domain (units.definition_doc (domain_of (n, (x, (o, xs))))) (LikeDefinition (domain_of (n, (x, (o, xs)))))
    go n x None xs k (m, inl j) = let e : None ≡ Some j.0.1 = ap (λ (q : Option RawInt × List RawInt). q.0) j.1 in absurd (cc (e))
    go n x (Some y) xs k (m, inr j) = let e : Some y ≡ None = ap (λ (q : Option RawInt × List RawInt). q.0) j.1 in absurd (cc (e))
    go n x (Some y) xs k (m, inl j) =
        let e : Some y ≡ Some j.0.1 = ap (λ (q : Option RawInt × List RawInt). q.0) j.1 in
        let f : y ≡ j.0.1 = cc (e) in
        range_good n x y k m (subst (M int) (sym f) j.2.1)
    go n x None xs k (m, inr j) =
        let f : xs ≡ j.0 = ap (λ (q : Option RawInt × List RawInt). q.1) j.1 in
        list_good n x xs k m (subst (Every (M int)) (sym f) (every (M (after class.Comma int)) (M int) (behind class.Comma int (M int) (λ i n. n)) j.0 j.2))

-- ---- functions, rules and invariants

parameters_known : (ps : List RawBinder) → M parameters ps → Every GoodBinder ps
unfolding parameters
parameters_known ps (inl m) = subst (Every GoodBinder) (sym m.1) (to_all m.0.1 m.2.2)
  where
    to_all : (bs : List RawBinder) → Filled GoodBinder bs → Every GoodBinder bs
    to_all [] h = absurd h
    to_all (b ∷ bs) h = h
parameters_known ps (inr m) = subst (Every GoodBinder) (sym m) tt

abbrev LikeBinders : List RawBinder → List RawBinder → Type 0
LikeBinders ps qs = map plain_binder qs ≡ map plain_binder ps

parameters_good : (ps : List RawBinder) → Every GoodBinder ps → Good parameters (units.parameters_doc ps) (LikeBinders ps)
unfolding number class_of parameters body
parameters_good [] g = good_right (good_nothing refl)
parameters_good (p ∷ ps) g = good_left (good_shown {Q = LikeBinders (p ∷ ps)} (free_opens {x = Parameters} {P = LikeBinders (p ∷ ps)} free_open refl (closed (binders_good p ps g) (leads_byte refl) (symbol_alone (stops free_close) refl))) (λ q h. h.1))

leads_parameters : (ps : List RawBinder) (d : List Item) → Leads (units.parameters_doc ps ++ (Gap ∷ d))
leads_parameters [] d = leads_gap
leads_parameters (p ∷ ps) d = leads_byte refl

pub function_body_good : (f : RawFunction) → M function_body f → Good function_body (units.function_doc f) (λ g. plain.plain_function g ≡ plain.plain_function f)
unfolding number class_of function_body
function_body_good f m =
    behind class.Function (shown function_body_of (both (name (functions false)) (both parameters (after class.Equal (term false))))) GoodFunction
    (λ g n. subst GoodFunction (sym n.1) (go n.0.0 n.0.1.0 n.0.1.1 (named_of (functions false) n.0.0 n.2.0) (parameters_known n.0.1.0 n.2.1.0) (behind class.Equal (term false) GoodTerm known_term n.0.1.1 n.2.1.1))) f m
  where
    GoodFunction : RawFunction → Type 0
    GoodFunction f = Good function_body (units.function_doc f) (λ g. plain.plain_function g ≡ plain.plain_function f)

    go : (n : RawName) (ps : List RawBinder) (x : RawTerm) → Named (functions false) n → Every GoodBinder ps → GoodTerm x → GoodFunction (record { name = n; parameters = ps; term = x })
    go n ps x k g t = word_then (codes "function") refl refl (good_shown (good_both {a = One n.text ∷ []} (function_name n k) (leads_parameters ps (One (codes "=") ∷ Gap ∷ whole_term x))
        (good_both {a = units.parameters_doc ps} (parameters_good ps g) leads_gap (good_gap (symbol_then (stops free_equal) refl (whole x t)))))
        (λ p h. ap (λ z. record { name = z; parameters = map plain_binder p.1.0; term = plain_term p.1.1 }) h.0 ∙ ap (λ z. record { name = plain_name n; parameters = z; term = plain_term p.1.1 }) h.1.0 ∙ ap (λ z. record { name = plain_name n; parameters = map plain_binder ps; term = z }) h.1.1))

plain_macro_good : (d : RawDefinition) → M plain_macro d → Good plain_macro (units.definition_doc d) (LikeDefinition d)
unfolding number class_of plain_macro units.definition_doc
plain_macro_good d m =
    behind class.Rule (shown macro_of (both (name rules) (both parameters (after class.Equal (rule false))))) GoodMacro
    (λ g n. subst GoodMacro (sym n.1) (go n.0.0 n.0.1.0 n.0.1.1 (named_of rules n.0.0 n.2.0) (parameters_known n.0.1.0 n.2.1.0) (behind class.Equal (rule false) GoodRule known_rule n.0.1.1 n.2.1.1))) d m
  where
    GoodMacro : RawDefinition → Type 0
    GoodMacro d = Good plain_macro (units.definition_doc d) (LikeDefinition d)

    go : (n : RawName) (ps : List RawBinder) (r : RawRule) → Named rules n → Every GoodBinder ps → GoodRule r → GoodMacro (definition_of.Rule n ps r)
    go n ps r k g t = word_then (codes "rule") refl refl (good_shown (good_both {a = One n.text ∷ []} (rule_name n k) (leads_parameters ps (One (codes "=") ∷ Line 2 ∷ rule_doc r 2))
        (good_both {a = units.parameters_doc ps} (parameters_good ps g) leads_gap (good_gap (free_then free_equal refl (good_line (child_rule r t 2))))))
        (λ p h. ap (λ z. definition_of.Rule z (map plain_binder p.1.0) (plain_rule p.1.1)) h.0 ∙ ap (λ z. definition_of.Rule (plain_name n) z (plain_rule p.1.1)) h.1.0 ∙ ap (λ z. definition_of.Rule (plain_name n) (map plain_binder ps) z) h.1.1))

macro_good : (d : RawDefinition) → M macro d → Good macro (units.definition_doc d) (LikeDefinition d)
unfolding macro
macro_good d (inl m) = good_right (plain_macro_good d (behind class.Macro plain_macro (M plain_macro) (λ e n. n) d m))
macro_good d (inr m) = good_right (plain_macro_good d m)

invariant_same : (at : ℕ) (n : Option RawName) (o : RawName) (os : List RawName) (x : RawTerm) (p : TokenText × (Option RawName × ((RawName × List RawName) × RawTerm)))
    → (option_map plain_name p.1.0 ≡ option_map plain_name n) × (((plain_name p.1.1.0.0 ≡ plain_name o) × (map plain_name p.1.1.0.1 ≡ map plain_name os)) × (plain_term p.1.1.1 ≡ plain_term x))
    → LikeDefinition (definition_of.Invariant (record { at = at; name = n; over = o ∷ os; term = x })) (invariant_of p)
invariant_same at n o os x p h =
    ap (λ z. definition_of.Invariant (record { at = 0; name = z; over = plain_name p.1.1.0.0 ∷ map plain_name p.1.1.0.1; term = plain_term p.1.1.1 })) h.0
    ∙ ap (λ z. definition_of.Invariant (record { at = 0; name = option_map plain_name n; over = z ∷ map plain_name p.1.1.0.1; term = plain_term p.1.1.1 })) h.1.0.0
    ∙ ap (λ z. definition_of.Invariant (record { at = 0; name = option_map plain_name n; over = plain_name o ∷ z; term = plain_term p.1.1.1 })) h.1.0.1
    ∙ ap (λ z. definition_of.Invariant (record { at = 0; name = option_map plain_name n; over = plain_name o ∷ map plain_name os; term = z })) h.1.1

abbrev LikeOver : RawName → List RawName → RawTerm → (RawName × List RawName) × RawTerm → Type 0
LikeOver o os x p = ((plain_name p.0.0 ≡ plain_name o) × (map plain_name p.0.1 ≡ map plain_name os)) × (plain_term p.1 ≡ plain_term x)

over_good : (o : RawName) (os : List RawName) (x : RawTerm) → Every (Named free_words) (o ∷ os) → GoodTerm x
    → Good (after class.Over (both (both (name free_words) more_over) (after class.Colon (term false)))) (One (codes "over") ∷ Gap ∷ (commas (map units.name_doc (o ∷ os)) ++ (Gap ∷ One (codes ":") ∷ Gap ∷ whole_term x))) (LikeOver o os x)
unfolding number class_of more_over
over_good o os x g t = word_then (codes "over") refl refl (good_both {a = commas (map units.name_doc (o ∷ os))} (some_names_good free_words free_name o os g) leads_gap (good_gap (symbol_then stops_colon refl (whole x t))))

invariant_built : (at : ℕ) (n : Option RawName) (o : RawName) (os : List RawName) (x : RawTerm) → Perhaps (Named invariants) n → Every (Named free_words) (o ∷ os) → GoodTerm x
    → Good invariant (units.invariant_doc (record { at = at; name = n; over = o ∷ os; term = x })) (LikeDefinition (definition_of.Invariant (record { at = at; name = n; over = o ∷ os; term = x })))
unfolding number class_of invariant invariant_name units.invariant_doc
invariant_built at None o os x k g t =
    good_shown (good_first (is_kind refl) (joins_leads (word_stops (codes "invariant") refl) leads_gap) (good_both {a = []} (good_right (good_nothing {P = λ z. option_map plain_name z ≡ None} refl)) leads_gap (good_gap (over_good o os x g t)))) (λ p h. invariant_same at None o os x p h.1)
invariant_built at (Some n) o os x k g t =
    good_shown (good_first (is_kind refl) (joins_leads (word_stops (codes "invariant") refl) leads_gap) (good_both {a = Gap ∷ One n.text ∷ []} (good_gap (good_left (good_shown {Q = λ z. option_map plain_name z ≡ Some (plain_name n)} (good_name n (invariant_stops k) k) (λ m e. ap Some e)))) leads_gap (good_gap (over_good o os x g t)))) (λ p h. invariant_same at (Some n) o os x p h.1)

invariant_good : (d : RawDefinition) → M invariant d → Good invariant (units.definition_doc d) (LikeDefinition d)
unfolding invariant invariant_name more_over units.definition_doc
invariant_good d m =
    let over = behind class.Over (both (both (name free_words) more_over) (after class.Colon (term false))) (λ p. Every (Named free_words) (p.0.0 ∷ p.0.1) × GoodTerm p.1)
    (λ p n. ((named_of free_words p.0.0 n.0.0, every (M (after class.Comma (name free_words))) (Named free_words) (behind class.Comma (name free_words) (Named free_words) (named_of free_words)) p.0.1 n.0.1), behind class.Colon (term false) GoodTerm known_term p.1 n.1)) m.0.1.1 m.2.1.1 in
    subst (λ (d : RawDefinition). Good invariant (units.definition_doc d) (LikeDefinition d)) (sym m.1) (invariant_built m.0.0.at m.0.1.0 m.0.1.1.0.0 m.0.1.1.0.1 m.0.1.1.1 (known_name m.0.1.0 m.2.1.0) over.0 over.1)
  where
    known_name : (o : Option RawName) → M invariant_name o → Perhaps (Named invariants) o
    known_name o (inl n) = subst (Perhaps (Named invariants)) (sym n.1) (named_of invariants n.0 n.2)
    known_name o (inr n) = subst (Perhaps (Named invariants)) (sym n) tt

pub definition_good : (d : RawDefinition) → M definition d → Good definition (units.definition_doc d) (LikeDefinition d)
unfolding definition units.definition_doc
definition_good d (inl m) = good_left (domain_known d m)
definition_good d (inr (inl m)) =
    subst (λ (e : RawDefinition). Good definition (units.definition_doc e) (LikeDefinition e)) (sym m.1) (good_right (good_left (good_shown (function_body_good m.0 m.2) (λ g e. ap (λ z. definition_of.Function z) e))))
definition_good d (inr (inr (inl m))) = good_right (good_right (good_left (macro_good d m)))
definition_good d (inr (inr (inr m))) = good_right (good_right (good_right (invariant_good d m)))

pub definitions_good : (ds : List RawDefinition) → Every (M definition) ds → Good (many definition) (lines 1 (map units.definition_doc ds)) (λ es. map plain.plain_definition es ≡ map plain.plain_definition ds)
definitions_good [] g = good_none {f = plain.plain_definition}
definitions_good (d ∷ ds) g = good_more {f = plain.plain_definition} {a = Line 1 ∷ units.definition_doc d} {x = d} ds (good_line (definition_good d g.0)) (leads_lines 1 (map units.definition_doc ds)) (definitions_good ds g.1)

pub functions_good : (fs : List RawFunction) → Every (M function_body) fs → Good (many function_body) (lines 1 (map units.function_doc fs)) (λ gs. map plain.plain_function gs ≡ map plain.plain_function fs)
functions_good [] g = good_none {f = plain.plain_function}
functions_good (f ∷ fs) g = good_more {f = plain.plain_function} {a = Line 1 ∷ units.function_doc f} {x = f} fs (good_line (function_body_good f g.0)) (leads_lines 1 (map units.function_doc fs)) (functions_good fs g.1)
