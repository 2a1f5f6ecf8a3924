use Rattle.site_same_laws.proofs.Apart.{chunk_apart}
use Rattle.site_same_laws.proofs.Progress.{readings_agree, no_reading_is_refused, refusals_are_alike}
use Rattle.site_same_laws.proofs.readings.readings_are_known.Goals as goal

pub returns-clause-agree : goal.returns-clause-agree
returns-clause-agree c = readings_agree c.same_programs_have_same_names.ensures c.same_sets_stay_same.ensures.modules (chunk_apart c.one_reading.ensures 1)

pub returns-clause-none : goal.returns-clause-none
returns-clause-none c = no_reading_is_refused c.same_programs_have_same_names.ensures c.same_sets_stay_same.ensures.modules (chunk_apart c.one_reading.ensures 1)

pub returns-clause-alike : goal.returns-clause-alike
returns-clause-alike c = refusals_are_alike c.same_programs_have_same_names.ensures c.same_sets_stay_same.ensures.modules (chunk_apart c.one_reading.ensures 1)
