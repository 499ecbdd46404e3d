use Rattle.asm_cli.proofs.Answering.{three_iff, four_iff, one_iff, zero_iff, case_of}
use Rattle.asm_cli.proofs.Replying.{on_code}
use Rattle.asm_cli.proofs.top.asmeta.Goals as goal

pub returns-clause-file_fault : goal.returns-clause-file_fault
returns-clause-file_fault g c = λ files told. on_code c.command.result _ (c.command.ensures.answer files told) (λ k a. three_iff c.args.words.now files a.text k a.is_said)

pub returns-clause-stopped : goal.returns-clause-stopped
returns-clause-stopped g c = λ files told. on_code c.command.result _ (c.command.ensures.answer files told) (λ k a. four_iff c.args.words.now files a.text k a.is_said)

pub returns-clause-done : goal.returns-clause-done
returns-clause-done g c = λ files told. on_code c.command.result _ (c.command.ensures.answer files told) (λ k a. zero_iff c.args.words.now files a.text k a.is_said)

pub returns-clause-failed : goal.returns-clause-failed
returns-clause-failed g c = λ files told. on_code c.command.result _ (c.command.ensures.answer files told) (λ k a. one_iff c.args.words.now files a.text k a.is_said)

pub returns-clause-complete : goal.returns-clause-complete
returns-clause-complete g c = λ files told. on_code c.command.result _ (c.command.ensures.answer files told) (λ k a. case_of c.args.words.now files a.text k a.is_said)
