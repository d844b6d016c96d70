use Rattle.text_commands.proofs.Complete.{shown-document-answers, valid-document-loads, valid-document-back, valid-script-answers, valid-document-explains, valid-document-rehearses}
use Rattle.text_commands.proofs.laws.what_is_valid_is_answered.Goals as goal

pub returns-clause-check : goal.returns-clause-check
returns-clause-check c = λ input taken. shown-document-answers input taken

pub returns-clause-loads : goal.returns-clause-loads
returns-clause-loads c = λ input taken. valid-document-loads input taken

pub returns-clause-back : goal.returns-clause-back
returns-clause-back c = λ input taken. valid-document-back input taken

pub returns-clause-explain : goal.returns-clause-explain
returns-clause-explain c = λ input taken. valid-document-explains input taken

pub returns-clause-sim : goal.returns-clause-sim
returns-clause-sim c = λ policy input taken. valid-script-answers policy input taken

pub returns-clause-rehearse : goal.returns-clause-rehearse
returns-clause-rehearse c = λ shape policy input taken. valid-document-rehearses shape policy input taken
