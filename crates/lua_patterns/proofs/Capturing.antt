-- The steps of the matcher on parentheses, '%b', back references and ends.
use Rattle.std.proofs.Common.{◌≡◌, ℕ, ◌+◌, ◌<◌, ◌≤◌, List, [], ◌∷◌, ◌++◌, drop, length, Option, Some, None, Result, Ok, Err, sym, ◌∙◌, subst, arith, inl}
use Rattle.std.proofs.lemmas.Bool.{lt-ltb, le-ltb, ne_eqb}
use Rattle.std.proofs.Common.{eq-eqb}
use Rattle.lua_patterns.specs.declared.answers.PatFault.{PatFault}
use Rattle.lua_patterns.specs.declared.answers.PatFault.TheVariants as fault
use Rattle.lua_patterns.specs.declared.items.Item.TheVariants as item
use Rattle.lua_patterns.specs.declared.captures.Cap.{Cap}
use Rattle.lua_patterns.specs.declared.captures.Capture.{Capture}
use Rattle.lua_patterns.specs.declared.captures.OpenCapture.{OpenCapture}
use Rattle.lua_patterns.specs.declared.matcher.Pending.{Pending}
use Rattle.lua_patterns.specs.declared.matcher.Pending.TheVariants.{Forget, Reopen}
use Rattle.lua_patterns.specs.declared.matcher.Search.{Search}
use Rattle.lua_patterns.specs.declared.matcher.State.{State}
use Rattle.lua_patterns.specs.declared.matcher.Step.TheVariants.{Back}
use Rattle.lua_patterns.specs.Captures.{first_open, last_open, closed_at, closed_ones, referenced}
use Rattle.lua_patterns.specs.Trails.{Event, Test, Whole, advanced, repeated_len, captured, closed, referred, whole, item_trail}
use Rattle.lua_patterns.specs.Searches.{answer, Outcome}
use Rattle.lua_patterns.specs.Matching.{next_at, left_after, later_trails, Before, BeforeItem, AfterStep}
use Rattle.lua_patterns.proofs.Answering.{one_test, one_too_many, wrong_met, too_many_met, match_met}
use Rattle.lua_patterns.proofs.CaptureLemmas.{forget_last, opened_again_is}
use Rattle.lua_patterns.proofs.Stack.{stacked_push}
use Rattle.lua_patterns.proofs.Stepping.{Goes}

-- a first test that is one too many
pub test_full : (search : Search) (s : State) (more : List Event) (wrong : PatFault) (expected : Result Outcome PatFault)
    → (wrong ≡ fault.Tests) × (search.limit < s.tests + 1) → Before search s (Test ∷ more) expected → Err wrong ≡ expected
test_full search s more wrong expected full before =
    rw full.0 (sym (one_too_many search.limit s.tests (more ++ left_after search s) full.1) ∙ before)

pub captured_too_many : (search : Search) (s : State) (one : Capture) (next : List Capture → List Event) (captures : List Capture) (expected : Result Outcome PatFault)
    → 32 ≤ length captures → Before search s (captured one captures next) expected → Err (fault.Captures s.tests) ≡ expected
captured_too_many search s one next captures expected most before =
    sym (too_many_met search.limit s.tests (left_after search s))
    ∙ (rw (le-ltb (length captures) 32 most) at before)

-- there is room for one capture more, so that it is one test
pub captured_room : (search : Search) (s : State) (one : Capture) (next : List Capture → List Event) (captures : List Capture) (expected : Result Outcome PatFault)
    → length captures < 32 → Before search s (captured one captures next) expected
    → Before search s (Test ∷ next (captures ++ one ∷ [])) expected
captured_room search s one next captures expected room before = rw (lt-ltb (length captures) 32 room) at before

pub captured_steps : (search : Search) (s : State) (t : ℕ) (one : Capture) (after : ℕ) (captures : List Capture) (pending : List Pending) (expected : Result Outcome PatFault)
    → (s.tests + 1 ≤ search.limit) × (t ≡ s.tests + 1)
    → pending ≡ s.pending.items ++ Forget ∷ [] → captures ≡ s.captures.items ++ one ∷ []
    → Before search s (Test ∷ next_at search s.start after s.index (s.captures.items ++ one ∷ [])) expected
    → Goes search s t after s.index captures pending expected
captured_steps search s t one after captures pending expected made pushed put before =
    let below = λ (older : List Capture). later_trails search s.start in
    rw (made.1, put, pushed, stacked_push search s.start below s.pending.items Forget (s.captures.items ++ one ∷ []), forget_last s.captures.items one)
    (sym (one_test search.limit s.tests (next_at search s.start after s.index (s.captures.items ++ one ∷ []) ++ left_after search s) made.0) ∙ before, inl (omega arith))

-- what a closing parenthesis means, by what is open
pub closed_into : (search : Search) (s : State) (at after : ℕ) (found : Option OpenCapture) (expected : Result Outcome PatFault)
    → found ≡ last_open s.captures.items
    → BeforeItem search s (item.Close at) after expected
    → Before search s (closed at s.index s.captures.items found (next_at search s.start after s.index)) expected
unfolding item_trail
closed_into search s at after found expected is before = rw is before

pub wrong_here : (search : Search) (s : State) (at : ℕ) (more : List Event) (expected : Result Outcome PatFault)
    → answer search.limit s.tests more ≡ Err (fault.Malformed at s.tests) → answer search.limit s.tests more ≡ expected → Err (fault.Malformed at s.tests) ≡ expected
wrong_here search s at more expected met before = sym met ∙ before

pub none_closed : (search : Search) (s : State) (at after : ℕ) (found : Option OpenCapture) (expected : Result Outcome PatFault)
    → found ≡ last_open s.captures.items → found ≡ None
    → BeforeItem search s (item.Close at) after expected → Err (fault.Malformed at s.tests) ≡ expected
none_closed search s at after found expected is none before =
    sym (wrong_met search.limit s.tests at (left_after search s)) ∙ closed_into search s at after None expected (sym none ∙ is) before

pub closed_steps : (search : Search) (s : State) (t : ℕ) (at after : ℕ) (found : OpenCapture) (captures : List Capture) (pending : List Pending) (expected : Result Outcome PatFault)
    → (s.tests + 1 ≤ search.limit) × (t ≡ s.tests + 1) → Some found ≡ last_open s.captures.items
    → pending ≡ s.pending.items ++ Reopen found ∷ [] → captures ≡ closed_at s.index found s.captures.items
    → BeforeItem search s (item.Close at) after expected
    → Goes search s t after s.index captures pending expected
closed_steps search s t at after found captures pending expected made is pushed put before =
    let below = λ (older : List Capture). later_trails search s.start in
    rw (made.1, put, pushed, stacked_push search s.start below s.pending.items (Reopen found) (closed_at s.index found s.captures.items), opened_again_is s.captures.items found s.index (sym is))
    (sym (one_test search.limit s.tests (next_at search s.start after s.index (closed_at s.index found s.captures.items) ++ left_after search s) made.0) ∙ closed_into search s at after (Some found) expected is before, inl (omega arith))

pub closed_full : (search : Search) (s : State) (at after : ℕ) (found : OpenCapture) (wrong : PatFault) (expected : Result Outcome PatFault)
    → (wrong ≡ fault.Tests) × (search.limit < s.tests + 1) → Some found ≡ last_open s.captures.items
    → BeforeItem search s (item.Close at) after expected → Err wrong ≡ expected
closed_full search s at after found wrong expected full is before =
    test_full search s _ wrong expected full (closed_into search s at after (Some found) expected is before)

pub advanced_none : (search : Search) (s : State) (t : ℕ) (len : Option ℕ) (next : ℕ → List Event) (expected : Result Outcome PatFault)
    → (s.tests + 1 ≤ search.limit) × (t ≡ s.tests + 1) → len ≡ None
    → Before search s (Test ∷ advanced s.index len next) expected
    → AfterStep search s (record s { tests = t }) expected (Ok Back)
advanced_none search s t len next expected made none before =
    rw made.1 (sym (one_test search.limit s.tests (left_after search s) made.0) ∙ (rw none at before), omega arith)

pub advanced_steps : (search : Search) (s : State) (t after : ℕ) (len : Option ℕ) (n : ℕ) (expected : Result Outcome PatFault)
    → (s.tests + 1 ≤ search.limit) × (t ≡ s.tests + 1) → len ≡ Some n
    → Before search s (Test ∷ advanced s.index len (λ p. next_at search s.start after p s.captures.items)) expected
    → Goes search s t after (s.index + n) s.captures.items s.pending.items expected
advanced_steps search s t after len n expected made some before =
    rw made.1 (sym (one_test search.limit s.tests (next_at search s.start after (s.index + n) s.captures.items ++ left_after search s) made.0) ∙ (rw some at before), inl (omega arith))

-- what a back reference means, by what its capture holds
pub referred_into : (search : Search) (s : State) (digit at after : ℕ) (found : Option Cap) (expected : Result Outcome PatFault)
    → found ≡ referenced digit s.captures.items
    → BeforeItem search s (item.Reference digit at) after expected
    → Before search s (referred search.subject.now at s.index found (λ p. next_at search s.start after p s.captures.items)) expected
unfolding item_trail
referred_into search s digit at after found expected is before = rw is before

pub none_referred : (search : Search) (s : State) (digit at after : ℕ) (found : Option Cap) (expected : Result Outcome PatFault)
    → found ≡ referenced digit s.captures.items → found ≡ None
    → BeforeItem search s (item.Reference digit at) after expected → Err (fault.Malformed at s.tests) ≡ expected
none_referred search s digit at after found expected is none before =
    sym (wrong_met search.limit s.tests at (left_after search s)) ∙ referred_into search s digit at after None expected (sym none ∙ is) before

pub referred_steps : (search : Search) (s : State) (digit at after : ℕ) (found : Cap) (len : Option ℕ) (text : List ℕ) (expected : Result Outcome PatFault)
    → Some found ≡ referenced digit s.captures.items → text ≡ drop s.index search.subject.now → len ≡ repeated_len search.subject.now text found
    → BeforeItem search s (item.Reference digit at) after expected
    → Before search s (Test ∷ advanced s.index len (λ p. next_at search s.start after p s.captures.items)) expected
referred_steps search s digit at after found len text expected is here sized before =
    let next = λ (p : ℕ). next_at search s.start after p s.captures.items in
    let P : List ℕ → Type 0 = λ bytes. Before search s (Test ∷ advanced s.index (repeated_len search.subject.now bytes found) next) expected in
    rw sized (subst P (sym here) (referred_into search s digit at after (Some found) expected is before))

-- the subject's end
pub end_goes : (search : Search) (s : State) (after : ℕ) (expected : Result Outcome PatFault)
    → s.index ≡ length search.subject.now → BeforeItem search s item.End after expected
    → answer search.limit s.tests (next_at search s.start after s.index s.captures.items ++ left_after search s) ≡ expected
unfolding item_trail
end_goes search s after expected last before = rw (eq-eqb s.index (length search.subject.now) last) at before

pub no_end : (search : Search) (s : State) (after : ℕ) (expected : Result Outcome PatFault)
    → (s.index ≡ length search.subject.now → ⊥) → BeforeItem search s item.End after expected
    → Before search s (Test ∷ []) expected
unfolding item_trail
no_end search s after expected other before = rw (ne_eqb s.index (length search.subject.now) other) at before

pub no_end_steps : (search : Search) (s : State) (t after : ℕ) (expected : Result Outcome PatFault)
    → (s.tests + 1 ≤ search.limit) × (t ≡ s.tests + 1) → (s.index ≡ length search.subject.now → ⊥)
    → BeforeItem search s item.End after expected
    → AfterStep search s (record s { tests = t }) expected (Ok Back)
no_end_steps search s t after expected made other before =
    rw made.1 (sym (one_test search.limit s.tests (left_after search s) made.0) ∙ no_end search s after expected other before, omega arith)

-- the pattern's end
pub whole_open : (search : Search) (s : State) (at : ℕ) (expected : Result Outcome PatFault)
    → Some at ≡ first_open s.captures.items → Before search s (whole s.start s.index s.captures.items) expected
    → Err (fault.Malformed at s.tests) ≡ expected
whole_open search s at expected is before =
    sym (wrong_met search.limit s.tests at (left_after search s)) ∙ (rw (← is) at before)

pub whole_full : (search : Search) (s : State) (wrong : PatFault) (expected : Result Outcome PatFault)
    → (wrong ≡ fault.Tests) × (search.limit < s.tests + 1) → None ≡ first_open s.captures.items
    → Before search s (whole s.start s.index s.captures.items) expected → Err wrong ≡ expected
whole_full search s wrong expected full is before =
    test_full search s (Whole (record { start = s.start; end = s.index; captures = closed_ones s.captures.items }) ∷ []) wrong expected full (rw (← is) at before)

pub whole_met : (search : Search) (s : State) (t : ℕ) (caps : List Cap) (expected : Result Outcome PatFault)
    → (s.tests + 1 ≤ search.limit) × (t ≡ s.tests + 1) → None ≡ first_open s.captures.items → caps ≡ closed_ones s.captures.items
    → Before search s (whole s.start s.index s.captures.items) expected
    → Ok (record { tests = t; found = Some (record { start = s.start; end = s.index; captures = caps }) }) ≡ expected
whole_met search s t caps expected made is known before =
    rw (made.1, known)
    (sym (match_met search.limit (s.tests + 1) (record { start = s.start; end = s.index; captures = closed_ones s.captures.items }) (left_after search s))
    ∙ sym (one_test search.limit s.tests _ made.0) ∙ (rw (← is) at before))
