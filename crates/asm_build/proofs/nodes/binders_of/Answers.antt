use Rattle.std.proofs.Common.{ℕ, List, [], ◌∷◌, ◌++◌, map, take, sym, ap, ◌∙◌}
use Rattle.std.proofs.lemmas.List.{take_more}
use Rattle.asm_node.specs.declared.term.Binder.{Binder}
use Rattle.asm_tree.specs.declared.term.RawBinder.{RawBinder}
use Rattle.asm_faults.specs.FunctionFaults.{number_or_whole}
use Rattle.asm_faults.specs.Model.{binders_of}
use Rattle.asm_build.proofs.Growing.{same_maker, grown_on, agrees_back, map_push, took_all}
use Rattle.asm_build.proofs.nodes.binders_of.Goals as goal

pub raws-init : goal.raws-init
raws-init c = record { made = record { are = λ number agrees. c.new-binders.ensures }; grown = same_maker c.args.maker.now }

pub raws-preserved : goal.raws-preserved
raws-preserved c =
    let f : (List ℕ → ℕ) → RawBinder → Binder = λ number b. record { variable = number b.variable.text; domain = number_or_whole c.args.known.now.domains b.domain } in
    let i : ℕ = c.raws.raw-index in
    record {
      made = record {
        are = λ number agrees.
            c.in_ok-push.ensures.ok
            ∙ ap (λ (bs : List Binder). bs ++ record { variable = c.in_ok-variable.variable; domain = c.domain_number-domain.result } ∷ []) (c.raws.invariant.made.are number (agrees_back number c.in_ok-variable.ensures.grown agrees))
            ∙ ap (λ (k : ℕ). map (f number) (take i c.args.raws.now) ++ record { variable = k; domain = c.domain_number-domain.result } ∷ []) (sym (agrees.at c.raw-item.result.variable.text c.in_ok-variable.variable c.in_ok-variable.ensures.number))
            ∙ ap (λ (k : ℕ). map (f number) (take i c.args.raws.now) ++ record { variable = number c.raw-item.result.variable.text; domain = k } ∷ []) c.domain_number-domain.ensures
            ∙ sym (map_push (f number) (take i c.args.raws.now) c.raw-item.result)
            ∙ ap (map (f number)) (ap (λ (y : RawBinder). take i c.args.raws.now ++ y ∷ []) c.raw-item.is ∙ sym (take_more c.args.raws.now i c.raw-item.result c.raws-test.true));
      };
      grown = grown_on c.raws.invariant.grown c.in_ok-variable.ensures.grown;
    }

pub returns-clause-made : goal.returns-clause-made
returns-clause-made c = record {
  are = λ number agrees. c.raws.invariant.made.are number agrees ∙ ap (binders_of number c.args.known.now) (took_all c.args.raws.now c.raws.raw-index c.raws-test.false);
}

pub returns-clause-grown : goal.returns-clause-grown
returns-clause-grown c = c.raws.invariant.grown
