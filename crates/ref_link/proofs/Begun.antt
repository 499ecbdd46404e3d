-- Links that are made one after another.
use Rattle.std.proofs.Common.{◌≡◌, ◌≢◌, ℕ, zero, suc, ◌+◌, ◌<◌, ◌≤◌, List, [], ◌∷◌, ◌++◌, length, drop, get_or, drop-cons, append_assoc, append-nil, Result, Ok, Err, refl, ap, sym, ◌∙◌, arith}
use Rattle.std.specs.List.{flat_map, enumerate_from}
use Rattle.std.proofs.lemmas.List.Concat.{flat_map-cons}
use Rattle.asm_sign.specs.declared.function.Function.{Function}
use Rattle.asm_node.specs.Machine.{Machine}
use Rattle.link_parse.specs.declared.tree.RawLink.{RawLink}
use Rattle.ref_link.specs.declared.error.LinkError.{LinkError}
use Rattle.ref_link.specs.declared.error.LinkError.TheVariants.{Memory}
use Rattle.ref_link.specs.declared.link.Link.{Link}
use Rattle.ref_link.specs.Linked.{link_of, before_links, links_of, default_link, default_with, function_of_name, GivesLink}

-- links that are made, and then further ones
abbrev pub begun : List Link → Result (List Link) LinkError → Result (List Link) LinkError
begun made (Ok links) = Ok (made ++ links)
begun made (Err e) = Err e

drop_all : {A : Type 0} (xs : List A) (i : ℕ) → length xs ≤ i → drop i xs ≡ []
drop_all [] zero le = refl
drop_all [] (suc i) le = refl
drop_all (x ∷ xs) zero le = absurd (omega arith)
drop_all (x ∷ xs) (suc i) le = drop_all xs i (omega arith)

module _ (a c : Machine) (raws : List RawLink) (i : ℕ) (made : List Link) where
  abbrev rest : ℕ → Result (List Link) LinkError
  rest n = links_of a c (drop n raws)

  module _ (raw : RawLink) (less : i < length raws) (is : raw ≡ get_or raws i raw) (whole : begun made (rest i) ≡ links_of a c raws) where
    at_place : rest i ≡ before_links (link_of a c raw) (rest (i + 1))
    at_place = ap (links_of a c) (drop-cons raws i raw less)
        ∙ ap (λ (r : RawLink). before_links (link_of a c r) (links_of a c (drop (suc i) raws))) (sym is)
        ∙ ap (λ n. before_links (link_of a c raw) (links_of a c (drop n raws))) (let next : suc i ≡ i + 1 = omega arith in next)

    one_more : (link : Link) (others : Result (List Link) LinkError) → begun (made ++ link ∷ []) others ≡ begun made (before_links (Ok link) others)
    one_more link (Ok links) = ap Ok (append_assoc made (link ∷ []) links)
    one_more link (Err e) = refl

    -- a link that is one
    pub goes_on : (link : Link) (now : List Link) → now ≡ made ++ link ∷ [] → link_of a c raw ≡ Ok link → begun now (rest (i + 1)) ≡ links_of a c raws
    goes_on link now grown ok =
        ap (λ l. begun l (rest (i + 1))) grown ∙ one_more link (rest (i + 1))
        ∙ ap (λ o. begun made (before_links o (rest (i + 1)))) (sym ok) ∙ ap (begun made) (sym at_place) ∙ whole

    -- one that is none
    pub stops : (e : LinkError) → GivesLink (Err e) (link_of a c raw) → e ≢ Memory → links_of a c raws ≡ Err e
    stops e gives ne = sym whole ∙ ap (begun made) at_place ∙ ap (λ o. begun made (before_links o (rest (i + 1)))) (gives ne)

  -- behind the last
  pub ends : length raws ≤ i → begun made (rest i) ≡ links_of a c raws → links_of a c raws ≡ Ok made
  ends le whole = sym whole ∙ ap (λ l. begun made (links_of a c l)) (drop_all raws i le) ∙ ap Ok (append-nil made)

-- the default links from one function on
abbrev pub later : Machine → Machine → List Function → ℕ → List Link
later a c fs n = flat_map (default_link a c) (enumerate_from n (drop n fs))

module _ (a c : Machine) (fs : List Function) (i : ℕ) (f : Function) (less : i < length fs) (is : f ≡ get_or fs i f) where
  next : later a c fs i ≡ default_with a c i (function_of_name c f.name) ++ later a c fs (i + 1)
  next = ap (λ l. flat_map (default_link a c) (enumerate_from i l)) (drop-cons fs i f less)
      ∙ flat_map-cons (default_link a c) (i, get_or fs i f) (enumerate_from (i + 1) (drop (suc i) fs))
      ∙ ap (λ (g : Function). default_with a c i (function_of_name c g.name) ++ flat_map (default_link a c) (enumerate_from (i + 1) (drop (suc i) fs))) (sym is)
      ∙ ap (λ n. default_with a c i (function_of_name c f.name) ++ flat_map (default_link a c) (enumerate_from (i + 1) (drop n fs))) (let same : suc i ≡ i + 1 = omega arith in same)

  pub default_more : (made now : List Link) → now ≡ made ++ default_with a c i (function_of_name c f.name) → now ++ later a c fs (i + 1) ≡ made ++ later a c fs i
  default_more made now grown =
      ap (λ l. l ++ later a c fs (i + 1)) grown ∙ append_assoc made (default_with a c i (function_of_name c f.name)) (later a c fs (i + 1))
      ∙ ap (λ l. made ++ l) (sym next)

pub default_end : (a c : Machine) (fs : List Function) (i : ℕ) (made : List Link) → length fs ≤ i → made ++ later a c fs i ≡ made
default_end a c fs i made le = ap (λ l. made ++ flat_map (default_link a c) (enumerate_from i l)) (drop_all fs i le) ∙ append-nil made
