use Rattle.std.proofs.Common.{◌≡◌, ℕ, ◌+◌, [], ◌∷◌, ◌++◌, map, take, refl, sym, ap, ◌∙◌}
use Rattle.std.proofs.lemmas.List.{take_more}
use Rattle.asm_tree.specs.declared.term.RawBinder.{RawBinder}
use Rattle.asm_build.proofs.Growing.{same_maker, grown_on, pushed_number, took_all, no_numbers, same_numbers, mapped_more}
use Rattle.asm_build.proofs.gather.variables_of.Goals as goal

pub raws-init : goal.raws-init
raws-init c = record { made = no_numbers c.args.maker.now _ _ c.new-variables.ensures (λ number. refl); grown = same_maker c.args.maker.now }

pub raws-preserved : goal.raws-preserved
raws-preserved c =
    let i : ℕ = c.raws.raw-index in
    let more : take (i + 1) c.args.raws.now ≡ take i c.args.raws.now ++ c.raw-item.result ∷ [] = take_more c.args.raws.now i c.raw-item.result c.raws-test.true ∙ ap (λ (y : RawBinder). take i c.args.raws.now ++ y ∷ []) (sym c.raw-item.is) in
    record {
      made = same_numbers _ _ (c.raws.variables ++ c.in_ok-variable.variable ∷ []) _ c.in_ok-push.ensures.ok (λ number. mapped_more (λ (b : RawBinder). number b.variable.text) c.args.raws.now i c.raw-item.result more)
          (pushed_number _ c.raw-item.result.variable.text c.raws.variables c.in_ok-variable.variable c.in_ok-variable.ensures.grown c.raws.invariant.made c.in_ok-variable.ensures.number);
      grown = grown_on c.raws.invariant.grown c.in_ok-variable.ensures.grown;
    }

pub returns-clause-made : goal.returns-clause-made
returns-clause-made c = same_numbers _ _ c.raws.variables c.raws.variables refl (λ number. ap (map (λ (b : RawBinder). number b.variable.text)) (took_all c.args.raws.now c.raws.raw-index c.raws-test.false)) c.raws.invariant.made

pub returns-clause-grown : goal.returns-clause-grown
returns-clause-grown c = c.raws.invariant.grown
