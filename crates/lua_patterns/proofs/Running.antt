-- The search as a whole.
use Rattle.std.proofs.Common.{◌≡◌, ℕ, ◌-◌, ◌<◌, ◌≤◌, Bool, true, false, List, [], ◌++◌, drop, length, Some, None, Result, Ok, sym, ◌∙◌, ap, append-nil}
use Rattle.std.specs.Prelude.{if◌then◌else◌}
use Rattle.std.specs.Prelude.{slice_index, ◌==◌}
use Rattle.std.proofs.lemmas.Bool.{lt-ltb, le-ltb}
use Rattle.lua_patterns.specs.declared.answers.PatFault.{PatFault}
use Rattle.lua_patterns.specs.declared.answers.Found.{Found}
use Rattle.lua_patterns.specs.declared.captures.Capture.{Capture}
use Rattle.lua_patterns.specs.declared.matcher.Pending.{Pending}
use Rattle.lua_patterns.specs.declared.matcher.Search.{Search}
use Rattle.lua_patterns.specs.declared.matcher.State.{State}
use Rattle.lua_patterns.specs.declared.matcher.Step.{Step}
use Rattle.lua_patterns.specs.declared.matcher.Step.TheVariants.{On, Back, Whole}
use Rattle.lua_patterns.specs.Searches.{trail_at, search_trail, answer, Outcome, match_of}
use Rattle.lua_patterns.specs.Matching.{next_at, later_from, later_trails, stacked, ahead, Before, Nears, AfterStep}
use Rattle.lua_patterns.proofs.Answering.{nothing_met}
use Rattle.lua_patterns.proofs.Stack.{stacked_none}
use Rattle.lua_patterns.proofs.Walking.{trails_first}

pub steps_on : (search : Search) (old new : State) (expected : Result Outcome PatFault) (step : Step)
    → step ≡ On → AfterStep search old new expected (Ok step)
    → Before search new (ahead search new) expected × Nears search old new
steps_on search old new expected On is steps = steps
steps_on search old new expected Back is steps = cc
steps_on search old new expected (Whole found) is steps = cc

pub steps_back : (search : Search) (old new : State) (expected : Result Outcome PatFault) (step : Step)
    → step ≡ Back → AfterStep search old new expected (Ok step)
    → Before search new [] expected × (search.limit - new.tests < search.limit - old.tests)
steps_back search old new expected On is steps = cc
steps_back search old new expected Back is steps = steps
steps_back search old new expected (Whole found) is steps = cc

same_found : (one other : Found) → Whole one ≡ Whole other → one ≡ other
same_found one other same = cc

pub steps_whole : (search : Search) (old new : State) (expected : Result Outcome PatFault) (step : Step) (found : Found)
    → step ≡ Whole found → AfterStep search old new expected (Ok step)
    → Ok (record { tests = new.tests; found = Some (match_of found) }) ≡ expected
steps_whole search old new expected On found is steps = cc
steps_whole search old new expected Back found is steps = cc
steps_whole search old new expected (Whole other) found is steps =
    ap (λ f. Ok (record { tests = new.tests; found = Some (match_of f) })) (sym (same_found other found is)) ∙ steps

-- where a search begins
pub begins_after : (subject pattern : List ℕ) (limit start : ℕ) → length subject < start
    → answer limit 0 (search_trail subject pattern start) ≡ Ok (record { tests = 0; found = None })
unfolding search_trail
begins_after subject pattern limit start past = rw (lt-ltb (length subject) start past) (nothing_met limit 0)

first_trails : (subject pattern : List ℕ) (anchored : Bool) (start : ℕ) → start ≤ length subject → anchored ≡ (slice_index pattern 0 == 94)
    → trail_at subject pattern (if anchored then 1 else 0) start ++ later_from subject pattern anchored start ≡ search_trail subject pattern start
unfolding search_trail
first_trails subject pattern true start within is = rw (le-ltb (length subject) start within, ← is) (append-nil (trail_at subject pattern 1 start))
first_trails subject pattern false start within is =
    rw (le-ltb (length subject) start within, ← is) (sym (trails_first (trail_at subject pattern 0) start (drop start subject)))

pub begins : (search : Search) (start at : ℕ) (pending : List Pending) (captures : List Capture)
    → start ≤ length search.subject.now → search.anchored ≡ (slice_index search.pattern.now 0 == 94)
    → at ≡ (if search.anchored then 1 else 0) → pending ≡ [] → captures ≡ []
    → answer search.limit 0 (next_at search start at start captures ++ stacked search start (λ older. later_trails search start) pending captures)
    ≡ answer search.limit 0 (search_trail search.subject.now search.pattern.now start)
begins search start at pending captures within is first empty none =
    rw (first, empty, none, stacked_none search start (λ older. later_trails search start) [])
    (ap (answer search.limit 0) (first_trails search.subject.now search.pattern.now search.anchored start within is))
