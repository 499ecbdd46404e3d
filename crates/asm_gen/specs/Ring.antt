-- The texts of a token ring: an abstract model, in which the token goes round, and a concrete one, in which each station holds it for a while.
use Rattle.std.specs.Prelude.{ℕ, ◌+◌, ◌-◌, ◌/◌, ◌%◌, List, ◌++◌, codes, flat_map, decimal}
use Rattle.std.specs.List.{range_with_len}

-- how many stations the ring of this number has
abbrev pub stations : ℕ → ℕ
stations k = 3 + k % 6

-- for how many steps a station holds the token before it may pass it on
abbrev pub hold : ℕ → ℕ
hold k = 1 + k / 6 % 7

-- of the abstract model: the holder is the next station after each step
abbrev pub abstract_text : ℕ → List ℕ
abstract_text n =
    codes "asm ringA\nsignature:\n  domain Station subsetof Integer\n  controlled holder : Station\ndefinitions:\n  domain Station = {0.."
    ++ decimal (n - 1) ++ codes "}\nmain rule r_Main =\n  holder := (holder + 1) mod " ++ decimal n
    ++ codes "\ndefault init s0:\n  function holder = 0\n"

-- the declarations of the concrete model
abbrev pub signature_text : ℕ → ℕ → List ℕ
signature_text n h =
    codes "asm ringC\nsignature:\n  domain Station subsetof Integer\n  domain Count subsetof Integer\n  controlled has : Station -> Boolean\n  controlled wait : Station -> Count\n  derived holder : Station\ndefinitions:\n  domain Station = {0.."
    ++ decimal (n - 1) ++ codes "}\n  domain Count = {0.." ++ decimal h ++ codes "}\n"

-- the question whether this station has the token
abbrev pub case_text : ℕ → List ℕ
case_text station = codes "if has(" ++ decimal station ++ codes ") then " ++ decimal station ++ codes " else "

-- a question for each station, from 0 on
abbrev pub cases_text : ℕ → List ℕ
cases_text n = flat_map case_text (range_with_len 0 n)

-- the end of each question
abbrev pub ends_text : ℕ → List ℕ
ends_text n = flat_map (λ _. codes " endif") (range_with_len 0 n)

-- the holder is the first station that has the token
abbrev pub holder_text : ℕ → List ℕ
holder_text n = codes "  function holder = " ++ cases_text n ++ codes "undef" ++ ends_text n ++ codes "\n"

-- the station that has the token waits, or passes it on
abbrev pub rule_text : ℕ → ℕ → List ℕ
rule_text n h =
    codes "  invariant over has : (exist unique $s in Station with has($s))\nmain rule r_Main =\n  forall $s in Station with has($s) do\n    if wait($s) > 0 then\n      wait($s) := wait($s) - 1\n    else\n      par\n        has($s) := false\n        has(($s + 1) mod "
    ++ decimal n ++ codes ") := true\n        wait(($s + 1) mod " ++ decimal n ++ codes ") := " ++ decimal h
    ++ codes "\n      endpar\n    endif\n"

-- station 0 has the token first
abbrev pub initial_text : ℕ → List ℕ
initial_text h = codes "default init s0:\n  function has($s in Station) = $s = 0\n  function wait($s in Station) = " ++ decimal h ++ codes "\n"

-- of the concrete model
abbrev pub concrete_text : ℕ → ℕ → List ℕ
concrete_text n h = signature_text n h ++ holder_text n ++ rule_text n h ++ initial_text h

-- the holders of both models are the same
abbrev pub links_text : List ℕ
links_text = codes "holder = holder;"
