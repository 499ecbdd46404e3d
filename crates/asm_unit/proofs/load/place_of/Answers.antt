use Rattle.std.proofs.Common.{◌≡◌, ◌∙◌, ◌-◌, ℕ, List, length, take, drop, rules, tests, sym, ap}
use Rattle.std.proofs.Math.Seq.{take-length}
use Rattle.std.proofs.lemmas.List.{length-drop}
use Rattle.std.specs.Prelude.{bytes_eq}
use Rattle.std.proofs.lemmas.Iterator.{YieldsList-from_slice}
use Rattle.std.proofs.lemmas.Iterator.Search.{position_from_yields_List}
use Rattle.asm_source.specs.declared.sources.Source.{Source}
use Rattle.asm_unit.proofs.load.place_of.Goals as goal

rest_whole : (n : ℕ) (s : List Source) → take (length s - n) (drop n s) ≡ drop n s
rest_whole n s = ap (λ (k : ℕ). take k (drop n s)) (sym (length-drop n s)) ∙ take-length (drop n s)

pub returns : goal.returns
returns c = position_from_yields_List (λ (source : Source). bytes_eq source.name c.args.name.now) _ _ c.position.result c.position.ensures.ran (YieldsList-from_slice (drop c.args.first c.args.sources.now) (c.iter.ensures.rest ∙ rest_whole c.args.first c.args.sources.now)) (λ x b q k. search (rules, tests))
