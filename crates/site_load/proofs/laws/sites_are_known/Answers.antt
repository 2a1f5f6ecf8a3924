use Rattle.site_same_laws.proofs.Apart.{chunk_apart}
use Rattle.site_load.proofs.OneSite.{sites_are_known, no_site_is_refused, faults_are_alike}
use Rattle.site_load.proofs.laws.sites_are_known.Goals as goal

pub returns-clause-one : goal.returns-clause-one
returns-clause-one c =
    sites_are_known c.a_text_has_one_configuration.ensures c.no_site_is_refused.ensures (chunk_apart c.one_reading.ensures) c.same_sets_stay_same.ensures.modules
    c.same_sets_stay_same.ensures.blocks c.same_sets_start_alike.ensures c.same_programs_live_alike.ensures c.readings_are_known.ensures.agree
    c.readings_are_known.ensures.none c.readings_are_known.ensures.alike

pub returns-clause-none : goal.returns-clause-none
returns-clause-none c =
    no_site_is_refused c.a_text_has_one_configuration.ensures c.no_site_is_refused.ensures (chunk_apart c.one_reading.ensures) c.same_sets_stay_same.ensures.modules
    c.same_sets_stay_same.ensures.blocks c.same_sets_start_alike.ensures c.same_programs_live_alike.ensures c.readings_are_known.ensures.agree
    c.readings_are_known.ensures.none c.readings_are_known.ensures.alike

pub returns-clause-alike : goal.returns-clause-alike
returns-clause-alike c =
    faults_are_alike c.a_text_has_one_configuration.ensures c.no_site_is_refused.ensures (chunk_apart c.one_reading.ensures) c.same_sets_stay_same.ensures.modules
    c.same_sets_stay_same.ensures.blocks c.same_sets_start_alike.ensures c.same_programs_live_alike.ensures c.readings_are_known.ensures.agree
    c.readings_are_known.ensures.none c.readings_are_known.ensures.alike
