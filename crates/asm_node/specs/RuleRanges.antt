-- Rules in whose terms no interval is refused.
use Rattle.std.specs.Prelude.{⊤, List}
use Rattle.asm_sign.specs.Vocabulary.{Vocabulary}
use Rattle.asm_node.specs.Tree.{Trees}
use Rattle.asm_node.specs.RuleTree.{Rule, Rules, Skip, Update, Par, Seq, If, Let, Forall, Choose, Call, none, more}
use Rattle.asm_node.specs.Ranges.{Range, Ranges, put_range, AreBound, HasRange, HaveRanges, IsRanged}

module _ (signature : Vocabulary) where
  -- terms in which no interval is refused
  abbrev pub AreRanged : Ranges → Trees → Type 0
  AreRanged rs ts = (ss : List Range) × HaveRanges signature rs ts ss

  abbrev mutual
    -- a `let` gives its variable the range of its term, a binder that of its domain
    pub IsRangedRule : Ranges → Rule → Type 0
    IsRangedRule rs (Skip place) = ⊤
    IsRangedRule rs (Update place f ts t) = AreRanged rs ts × IsRanged signature rs t
    IsRangedRule rs (Par place ps) = AreRangedRules rs ps
    IsRangedRule rs (Seq place p q) = IsRangedRule rs p × IsRangedRule rs q
    IsRangedRule rs (If place g p q) = IsRanged signature rs g × IsRangedRule rs p × IsRangedRule rs q
    IsRangedRule rs (Let place x t p) = (s : Range) × HasRange signature rs t s × IsRangedRule (put_range x s rs) p
    IsRangedRule rs (Forall place bs g p) = (inner : Ranges) × AreBound signature bs rs inner × IsRanged signature inner g × IsRangedRule inner p
    IsRangedRule rs (Choose place bs g p q) =
        ((inner : Ranges) × AreBound signature bs rs inner × IsRanged signature inner g × IsRangedRule inner p) × IsRangedRule rs q
    IsRangedRule rs (Call place f ts) = AreRanged rs ts

    pub AreRangedRules : Ranges → Rules → Type 0
    AreRangedRules rs none = ⊤
    AreRangedRules rs (more p ps) = IsRangedRule rs p × AreRangedRules rs ps
