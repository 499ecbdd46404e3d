use Rattle.std.proofs.Common.{◌≡◌, ◌++◌, ◌∷◌, [], List, refl, sym, ◌∙◌, subst}
use Rattle.cnf_base.specs.declared.lit.Lit.{Lit}
use Rattle.cnf_search.specs.Lines.{known}
use Rattle.cnf_search.specs.Queue.{IsIndex}
use Rattle.cnf_search.proofs.Extends.{clauses_after-append}
use Rattle.cnf_search.proofs.Named.{IsIndex-more}
use Rattle.cnf_search.proofs.walk.keep_line.Goals as goal

pub returns : goal.returns
returns c =
    let same : known c.keep.new.self ≡ known c.args.walk.now.checker ++ c.args.line.clause ∷ [] =
    (λ i. known (record { formula = c.in_ok-keep.ensures.formula i; lines = c.in_ok-keep.ensures.ok i }))
    ∙ clauses_after-append c.args.walk.now.checker.formula c.args.walk.now.checker.lines (c.args.line ∷ []) in
    let P : List (List Lit) → Type 0 = λ z. IsIndex z c.add_clause.new.lists.items in
    record {
      formula = c.in_ok-keep.ensures.formula;
      lines = c.in_ok-keep.ensures.ok;
      indexed = subst P (sym same)
          (IsIndex-more (known c.args.walk.now.checker) c.args.walk.now.lists.items c.add_clause.new.lists.items c.args.line.clause c.next_number-number.result c.requires.indexed
          c.in_ok-add_clause.ensures.names c.next_number-number.ensures);
      long = c.in_ok-add_clause.ensures.len;
      trace = refl;
      levels = refl;
      budget = refl;
    }
