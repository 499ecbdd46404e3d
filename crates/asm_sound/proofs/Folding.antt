-- Types, faults and trees of terms by their forms.
use Rattle.std.proofs.Common.{◌≡◌, ℕ}
use Rattle.asm_sign.specs.Vocabulary.{Vocabulary}
use Rattle.asm_node.specs.Tree.{Tree}
use Rattle.asm_tree.specs.declared.term.RawTermKind.{RawTermKind-F}
use Rattle.asm_tree.specs.declared.term.RawBind.{RawBind-F}
use Rattle.asm_tree.specs.declared.term.RawCase.{RawCase-F}
use Rattle.asm_tree.specs.declared.term.RawTerm.{RawTerm-F}
use Rattle.asm_faults.specs.At.{Name}
use Rattle.asm_faults.specs.Terms.{Judged, judged, Kind, LetBound, judge_kind, judge_bind, judge_case, judge_term}
use Rattle.asm_faults.specs.Model.{tree_kind, tree_of}
use Rattle.asm_sound.proofs.Inductions.{Form, at_form, folded_form, fold_at}

-- the type and the faults of a form
abbrev pub judged_form : (v : Vocabulary) (n : ℕ) → Form → RawTermKind-F (Kind v n) (LetBound v n) (Judged × Judged) Judged
judged_form v n = folded_form (Kind v n) (LetBound v n) (Judged × Judged) Judged (judge_kind v n) (judge_bind v n) (judge_case v n) (judge_term v n)

pub judged_at : (v : Vocabulary) (n at : ℕ) (first : Name) (k : Form) → judged v n (at_form at first k) ≡ judge_kind v n (judged_form v n k) at first
judged_at v n = fold_at (Kind v n) (LetBound v n) (Judged × Judged) Judged (judge_kind v n) (judge_bind v n) (judge_case v n) (judge_term v n)

module _ (number : Name → ℕ) (v : Vocabulary) where
  abbrev pub bind_tree : RawBind-F Tree (Name × Tree) (Tree × Tree) Tree → Name × Tree
  bind_tree b = (b.variable.text, b.term)

  abbrev pub case_tree : RawCase-F Tree (Name × Tree) (Tree × Tree) Tree → Tree × Tree
  case_tree c = (c.label, c.value)

  abbrev pub term_tree : RawTerm-F Tree (Name × Tree) (Tree × Tree) Tree → Tree
  term_tree t = t.kind

  abbrev pub tree_form : Form → RawTermKind-F Tree (Name × Tree) (Tree × Tree) Tree
  tree_form = folded_form Tree (Name × Tree) (Tree × Tree) Tree (tree_kind number v) bind_tree case_tree term_tree

  pub tree_at : (at : ℕ) (first : Name) (k : Form) → tree_of number v (at_form at first k) ≡ tree_kind number v (tree_form k)
  tree_at = fold_at Tree (Name × Tree) (Tree × Tree) Tree (tree_kind number v) bind_tree case_tree term_tree
