use Rattle.files.specs.Lines.{rev_text}
use Rattle.text.proofs.Writes.{writes, wrote_by}
use Rattle.files.proofs.lines.put_rev.Goals as goal

pub returns-in-WaitSetup : goal.returns-in-WaitSetup
returns-in-WaitSetup c = search (writes, wrote_by rev_text)

pub returns-in-WaitActive : goal.returns-in-WaitActive
returns-in-WaitActive c = search (writes, wrote_by rev_text)

pub returns-in-WaitAnswer : goal.returns-in-WaitAnswer
returns-in-WaitAnswer c = search (writes, wrote_by rev_text)

pub returns-in-WaitSetupConf : goal.returns-in-WaitSetupConf
returns-in-WaitSetupConf c = search (writes, wrote_by rev_text)

pub returns-in-WaitActiveConf : goal.returns-in-WaitActiveConf
returns-in-WaitActiveConf c = search (writes, wrote_by rev_text)

pub returns-in-WaitCalled : goal.returns-in-WaitCalled
returns-in-WaitCalled c = search (writes, wrote_by rev_text)
