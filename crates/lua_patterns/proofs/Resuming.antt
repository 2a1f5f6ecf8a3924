-- Back to the last open choice.
use Rattle.std.proofs.Common.{◌≡◌, ◌-◌, ◌<◌, ◌≤◌, Bool, true, false, List, [], ◌∷◌, ◌++◌, take, length, None, Result, Ok, Err, ◌∙◌, ap, arith, length-append, append-nil}
use Rattle.lua_patterns.specs.declared.answers.PatFault.{PatFault}
use Rattle.lua_patterns.specs.declared.captures.Capture.{Capture}
use Rattle.lua_patterns.specs.declared.captures.OpenCapture.{OpenCapture}
use Rattle.lua_patterns.specs.declared.matcher.Pending.{Pending}
use Rattle.lua_patterns.specs.declared.matcher.Pending.TheVariants.{Forget, Reopen}
use Rattle.lua_patterns.specs.declared.matcher.Search.{Search}
use Rattle.lua_patterns.specs.declared.matcher.State.{State}
use Rattle.lua_patterns.specs.Captures.{opened_again}
use Rattle.lua_patterns.specs.Searches.{answer, Outcome}
use Rattle.lua_patterns.specs.Matching.{later_trails, stacked, pending_trail, undone, ahead, Before, AfterTry, AfterBack}
use Rattle.lua_patterns.proofs.Walking.{popped}

-- the choice that was popped is the one that was last
pub popped_at : (search : Search) (s : State) (last choice : Pending) (choices : List Pending) (expected : Result Outcome PatFault)
    → s.pending.items ≡ choices ++ last ∷ [] → last ≡ choice → Before search s [] expected
    → answer search.limit s.tests (pending_trail search s.start choice s.captures.items
    ++ stacked search s.start (λ older. later_trails search s.start) choices (undone choice s.captures.items)) ≡ expected
popped_at search s last choice choices expected pushed is before =
    popped search s choice choices expected (pushed ∙ ap (λ x. choices ++ x ∷ []) is) before

pub fewer_left : (all choices : List Pending) (last : Pending) → all ≡ choices ++ last ∷ [] → length choices < length all
fewer_left all choices last pushed = omega (arith, ap length pushed, length-append choices (last ∷ []))

pub forgotten : (search : Search) (s : State) (last : Pending) (choices : List Pending) (captures : List Capture) (expected : Result Outcome PatFault)
    → s.pending.items ≡ choices ++ last ∷ [] → last ≡ Forget → captures ≡ take (length s.captures.items - 1) s.captures.items
    → Before search s [] expected
    → answer search.limit s.tests (stacked search s.start (λ older. later_trails search s.start) choices captures) ≡ expected
forgotten search s last choices captures expected pushed is put before =
    rw put (popped_at search s last Forget choices expected pushed is before)

pub reopened : (search : Search) (s : State) (last : Pending) (found : OpenCapture) (choices : List Pending) (captures : List Capture) (expected : Result Outcome PatFault)
    → s.pending.items ≡ choices ++ last ∷ [] → last ≡ Reopen found → captures ≡ opened_again found s.captures.items
    → Before search s [] expected
    → answer search.limit s.tests (stacked search s.start (λ older. later_trails search s.start) choices captures) ≡ expected
reopened search s last found choices captures expected pushed is put before =
    rw put (popped_at search s last (Reopen found) choices expected pushed is before)

-- no choice is left
pub none_left : (search : Search) (s : State) (choices : List Pending) (expected : Result Outcome PatFault)
    → s.pending.items ≡ choices ++ [] → Before search s [] expected
    → answer search.limit s.tests (stacked search s.start (λ older. later_trails search s.start) choices s.captures.items) ≡ expected
none_left search s choices expected same before = rw (same, append-nil choices) at before

pub resumes_later : (search : Search) (old mid new : State) (expected : Result Outcome PatFault) (result : Result Bool PatFault)
    → old.tests ≤ mid.tests → AfterBack search mid new expected result → AfterBack search old new expected result
resumes_later search old mid new expected (Ok true) less resumes = (resumes.0, omega (arith, less, resumes.1))
resumes_later search old mid new expected (Ok false) less resumes = (resumes.0, omega (arith, less, resumes.1))
resumes_later search old mid new expected (Err wrong) less resumes = resumes

pub tries_true : (search : Search) (old new : State) (expected : Result Outcome PatFault) (b : Bool)
    → b ≡ true → AfterTry search old new expected (Ok b)
    → Before search new (ahead search new) expected × (old.tests ≤ new.tests)
tries_true search old new expected true is tries = tries
tries_true search old new expected false is tries = cc

pub tries_false : (search : Search) (old new : State) (expected : Result Outcome PatFault) (b : Bool)
    → b ≡ false → AfterTry search old new expected (Ok b)
    → Before search new [] expected × (old.tests ≤ new.tests) × (new.pending.items ≡ old.pending.items)
tries_false search old new expected true is tries = cc
tries_false search old new expected false is tries = tries

pub resumes_true : (search : Search) (old new : State) (expected : Result Outcome PatFault) (b : Bool)
    → b ≡ true → AfterBack search old new expected (Ok b)
    → Before search new (ahead search new) expected × (old.tests ≤ new.tests)
resumes_true search old new expected true is resumes = resumes
resumes_true search old new expected false is resumes = cc

pub resumes_false : (search : Search) (old new : State) (expected : Result Outcome PatFault) (b : Bool)
    → b ≡ false → AfterBack search old new expected (Ok b)
    → Ok (record { tests = new.tests; found = None }) ≡ expected
resumes_false search old new expected true is resumes = cc
resumes_false search old new expected false is resumes = resumes.0
