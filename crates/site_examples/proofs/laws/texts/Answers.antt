use Rattle.std.proofs.Common.{refl}
use Rattle.std.specs.Fmt.{digits}
use Rattle.site_examples.proofs.Texts.{schedule}
use Rattle.site_examples.proofs.Programmed.{site}
use Rattle.site_examples.proofs.laws.texts.Goals as goal

pub returns-clause-site : goal.returns-clause-site
returns-clause-site c = site

pub returns-clause-schedule : goal.returns-clause-schedule
returns-clause-schedule c = schedule

pub returns-clause-history : goal.returns-clause-history
unfolding digits
returns-clause-history c = refl
