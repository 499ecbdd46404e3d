-- Calls that print answers.
use Rattle.std.proofs.Common.{ℕ, List, Option, inl, inr}
use Rattle.asm_cli.specs.declared.exit.Exit.{Exit}
use Rattle.asm_cli.specs.declared.exit.Exit.TheVariants.{Code, ReadFault, WriteFault, Memory}
use Rattle.asm_cli.specs.Exit.{OnCode, OnFault}
use Rattle.asm_cli.specs.Answer.{Saying, Prints, PrintsPart}
use Rattle.asm_cli.specs.Reply.{Replies}

pub on_code : (exit : Exit) {P : ℕ → Type 0} (Q : ℕ → Type 0) → OnCode exit P → ((k : ℕ) → P k → Q k) → OnCode exit Q
on_code (Code k) Q p f = f k p
on_code ReadFault Q p f = tt
on_code WriteFault Q p f = tt
on_code Memory Q p f = tt

pub on_fault : (exit : Exit) {P : Type 0} (Q : Type 0) → OnFault exit P → (P → Q) → OnFault exit Q
on_fault (Code k) Q p f = tt
on_fault ReadFault Q p f = f p
on_fault WriteFault Q p f = f p
on_fault Memory Q p f = f p

pub prints_more : (before now : Option (List ℕ)) (P Q : Saying) (k : ℕ) → ((t : List ℕ) (c : ℕ) → P t c → Q t c) → Prints before now P k → Prints before now Q k
prints_more before now P Q k f p = record { text = p.text; adds = p.adds; is_said = f p.text k p.is_said }

pub part_more : (before now : Option (List ℕ)) (P Q : Saying) → ((t : List ℕ) (c : ℕ) → P t c → Q t c) → PrintsPart before now P → PrintsPart before now Q
part_more before now P Q f p = record {
  text = p.text;
  adds = p.adds;
  is_said = elim p.is_said [ inl e ↦ inl e | inr q ↦ inr (q.0, f p.text q.0 q.1) ];
}

-- what prints texts of a relation prints texts of a wider one
pub replies_more : {K : Type 0} (written : K → Option (List ℕ)) (faults : K → ℕ) (old new : K) (P Q : Saying) (exit : Exit) → ((t : List ℕ) (c : ℕ) → P t c → Q t c) → Replies written faults old new P exit → Replies written faults old new Q exit
replies_more written faults old new P Q exit f r = record {
  answer = on_code exit (Prints (written old) (written new) Q) r.answer (λ k p. prints_more (written old) (written new) P Q k f p);
  prefix = on_fault exit (PrintsPart (written old) (written new) Q) r.prefix (λ p. part_more (written old) (written new) P Q f p);
  no_read = r.no_read;
  write_fault = r.write_fault;
  later = r.later;
}
