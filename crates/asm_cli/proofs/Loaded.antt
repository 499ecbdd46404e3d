-- What is printed of a model's files, by what became of loading them.
use Rattle.std.proofs.Common.{◌≡◌, ◌∙◌, ℕ, ◌≤◌, List, [], ◌++◌, length, Option, refl, ap, sym, subst, inl, arith}
use Rattle.std.specs.Prelude.{All}
use Rattle.asm_io.specs.Outside.{AddsPart}
use Rattle.asm_io.proofs.Printing.{part_of_none}
use Rattle.asm_source.specs.declared.sources.Source.{Source}
use Rattle.asm_tree.specs.declared.unit.LoadedUnit.{LoadedUnit}
use Rattle.asm_unit.specs.declared.error.LoadError.{LoadError}
use Rattle.asm_unit.specs.declared.error.LoadError.TheVariants.{Absent, TooLong, Read, Lex, Parse, ImportCycle, TooManyFiles}
use Rattle.asm_unit.specs.declared.error.LoadError.TheVariants as load
use Rattle.asm_unit.specs.Loading.{Outcome, ended, refused, AddsFiles, AreUnits, most_bytes, Fails}
use Rattle.asm_cli.specs.declared.exit.Exit.{Exit}
use Rattle.asm_cli.specs.declared.exit.Exit.TheVariants.{Code, ReadFault, WriteFault, Memory}
use Rattle.asm_cli.specs.Exit.{OnFault}
use Rattle.asm_cli.specs.Fault.{fault_text}
use Rattle.asm_cli.specs.Answer.{Saying, Says, PrintsPart, most_input_bytes, says_outcome}
use Rattle.asm_cli.specs.Reply.{Replies, Refuses, EndsQuiet}
use Rattle.asm_text.specs.Texts.{AreShort}

module _ {A : Type 0} {K : Type 0} (written : K → Option (List ℕ)) (faults : K → ℕ) (old new : K) (says : List Source → A → Saying) (o : Outcome A) (now : List Source) (exit : Exit) where
  -- ---- a file has a fault

  line_prefix : (e : LoadError) → o ≡ refused now e → Replies written faults old new (Says (fault_text now e) 3) exit → OnFault exit (PrintsPart (written old) (written new) (says_outcome says o))
  line_prefix e is r = subst (λ (p : Outcome A). OnFault exit (PrintsPart (written old) (written new) (says_outcome says p))) (sym is) r.prefix

  nothing : new ≡ old → PrintsPart (written old) (written new) (says_outcome says o)
  nothing same = record { text = []; adds = subst (λ (x : K). AddsPart (written old) (written x) []) (sym same) (part_of_none (written old) []); is_said = inl refl }

  quiet_prefix : (end : Exit) → EndsQuiet written faults old new end exit → OnFault exit (PrintsPart (written old) (written new) (says_outcome says o))
  quiet_prefix end q = go exit
    where
      go : (x : Exit) → OnFault x (PrintsPart (written old) (written new) (says_outcome says o))
      go (Code k) = tt
      go ReadFault = nothing q.same
      go WriteFault = nothing q.same
      go Memory = nothing q.same

  pub err_prefix : (e : LoadError) → Fails o now e → Refuses written faults old new now e exit → OnFault exit (PrintsPart (written old) (written new) (says_outcome says o))
  err_prefix (Absent n) f r = line_prefix (Absent n) f r
  err_prefix (TooLong n) f r = line_prefix (TooLong n) f r
  err_prefix (Read n) f r = quiet_prefix ReadFault r
  err_prefix (Lex place e) f r = line_prefix (Lex place e) f r
  err_prefix (Parse place e) f r = line_prefix (Parse place e) f r
  err_prefix (ImportCycle n) f r = line_prefix (ImportCycle n) f r
  err_prefix (TooManyFiles n) f r = line_prefix (TooManyFiles n) f r
  err_prefix load.Memory f r = quiet_prefix Memory r

-- ---- what was read

all_at_most : (limit : ℕ) (now : List Source) → limit ≤ most_input_bytes → All (λ (source : Source). length source.text ≤ limit) now → AreShort now
all_at_most limit now few short = λ i source within. (let at = short i source within in omega (arith, at, few))

pub all_short : (before now : List Source) → before ≡ [] → AddsFiles most_bytes before now → AreShort now
all_short before now none adds = all_at_most most_bytes now (omega arith) (subst (λ (l : List Source). All (λ (source : Source). length source.text ≤ most_bytes) l) (sym (adds.now_is ∙ ap (λ (l : List Source). l ++ adds.added) none)) adds.short)

pub units_of : (sources : List Source) (units listed : List LoadedUnit) → listed ≡ units → AreUnits sources units → AreUnits sources listed
units_of sources units listed same are = subst (λ (us : List LoadedUnit). AreUnits sources us) (sym same) are

pub fails_from : {A : Type 0} → (of : List Source → Outcome A) (before now : List Source) (e : LoadError) → before ≡ [] → Fails (of before) now e → Fails (of []) now e
fails_from of before now e none f = subst (λ (s : List Source). Fails (of s) now e) none f

pub ends_from : {A : Type 0} → (of : List Source → Outcome A) (before now : List Source) (a : A) → before ≡ [] → of before ≡ ended now a → of [] ≡ ended now a
ends_from of before now a none f = subst (λ (s : List Source). of s ≡ ended now a) none f
