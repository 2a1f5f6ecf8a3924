-- What a matcher with open choices still has before it.
use Rattle.std.specs.Prelude.{◌≡◌, ◌≢◌, ℕ, zero, suc, ◌+◌, ◌-◌, ◌<◌, ◌≤◌, ◌⊎◌, Bool, true, false, List, [], ◌∷◌, ◌++◌, take, drop, length, Option, Some, None}
use Rattle.std.specs.Prelude.{option_map, Result, Ok, Err, if◌then◌else◌}
use Rattle.lua_patterns.specs.declared.items.Item.{Item}
use Rattle.lua_patterns.specs.declared.captures.Capture.{Capture}
use Rattle.lua_patterns.specs.declared.answers.PatFault.{PatFault}
use Rattle.lua_patterns.specs.declared.answers.PatFault.TheVariants as fault
use Rattle.lua_patterns.specs.declared.answers.Found.{Found}
use Rattle.lua_patterns.specs.declared.matcher.Pending.{Pending}
use Rattle.lua_patterns.specs.declared.matcher.Pending.TheVariants.{Fewer, More, Forget, Reopen}
use Rattle.lua_patterns.specs.declared.matcher.Search.{Search}
use Rattle.lua_patterns.specs.declared.matcher.State.{State}
use Rattle.lua_patterns.specs.declared.matcher.Step.{Step}
use Rattle.lua_patterns.specs.declared.matcher.Step.TheVariants.{On, Back, Whole}
use Rattle.lua_patterns.specs.Classes.{accepts}
use Rattle.lua_patterns.specs.Captures.{opened_again}
use Rattle.lua_patterns.specs.Items.{items_from}
use Rattle.lua_patterns.specs.Trails.{Event, Test, accepts_first, shortest, advanced, captured, whole, trail, item_trail}
use Rattle.lua_patterns.specs.Searches.{trails, trail_at, Outcome, answer, match_of}

-- what follows at so many bytes after the lowest index, then at one fewer, down to that index
unfoldable pub fewer : (ℕ → List Event) → ℕ → ℕ → List Event
fewer next lowest zero = next lowest
fewer next lowest (suc n) = next (lowest + suc n) ++ fewer next lowest n

-- one byte more, and then more and more
abbrev pub one_more_byte : (ℕ → Bool) → (ℕ → List Event) → ℕ → List ℕ → List Event
one_more_byte accepted next index text =
    Test ∷ (if accepts_first accepted text then shortest accepted next (index + 1) (drop 1 text) else [])

-- what follows the items from an index of the pattern on, at each index of the subject
abbrev pub next_at : Search → ℕ → ℕ → ℕ → List Capture → List Event
next_at search start after index captures =
    trail search.subject.now search.pattern.now start (items_from search.pattern.now after) index captures

-- the trail of one open choice; what is only undone has none
abbrev pub pending_trail : Search → ℕ → Pending → List Capture → List Event
pending_trail search start (Fewer after lowest index) captures = fewer (λ p. next_at search start after p captures) lowest (index - lowest)
pending_trail search start (More class after index) captures =
    one_more_byte (accepts search.pattern.now class) (λ p. next_at search start after p captures) index (drop index search.subject.now)
pending_trail search start Forget captures = []
pending_trail search start (Reopen found) captures = []

-- the captures below an open choice
abbrev pub undone : Pending → List Capture → List Capture
undone Forget captures = take (length captures - 1) captures
undone (Reopen found) captures = opened_again found captures
undone (Fewer after lowest index) captures = captures
undone (More class after index) captures = captures

-- the trails of the open choices, of which the last comes first, and then what lies below
unfoldable pub stacked : Search → ℕ → (List Capture → List Event) → List Pending → List Capture → List Event
stacked search start below [] captures = below captures
stacked search start below (choice ∷ choices) captures =
    stacked search start (λ older. pending_trail search start choice older ++ below (undone choice older)) choices captures

-- the trails of the later indices where a match may begin
abbrev pub trails_after : (ℕ → List Event) → ℕ → List ℕ → List Event
trails_after at index [] = []
trails_after at index (c ∷ cs) = trails at (index + 1) cs

abbrev pub later_from : List ℕ → List ℕ → Bool → ℕ → List Event
later_from subject pattern true start = []
later_from subject pattern false start = trails_after (trail_at subject pattern 0) start (drop start subject)

abbrev pub later_trails : Search → ℕ → List Event
later_trails search start = later_from search.subject.now search.pattern.now search.anchored start

-- what the matcher meets where it stands, and what comes after that
abbrev pub ahead : Search → State → List Event
ahead search s = next_at search s.start s.at s.index s.captures.items

abbrev pub left_after : Search → State → List Event
left_after search s = stacked search s.start (λ captures. later_trails search s.start) s.pending.items s.captures.items

-- what an item means where the matcher stands, with what follows it from an index of the pattern on
abbrev pub item_next : Search → State → Item → ℕ → List Event
item_next search s item after =
    item_trail search.subject.now search.pattern.now item (next_at search s.start after) s.index s.captures.items

-- what one capture more means there, so many bytes more, and the pattern's end
abbrev pub capture_next : Search → State → Capture → ℕ → List Event
capture_next search s capture after = captured capture s.captures.items (next_at search s.start after s.index)

abbrev pub len_next : Search → State → Option ℕ → ℕ → List Event
len_next search s len after = Test ∷ advanced s.index len (λ p. next_at search s.start after p s.captures.items)

abbrev pub end_trail : State → List Event
end_trail s = whole s.start s.index s.captures.items

-- the search, whose answer is known, has this before it, and then what is left after it
abbrev pub Before : Search → State → List Event → Result Outcome PatFault → Type 0
Before search s trail expected = answer search.limit s.tests (trail ++ left_after search s) ≡ expected

abbrev pub BeforeItem : Search → State → Item → ℕ → Result Outcome PatFault → Type 0
BeforeItem search s item after expected = Before search s (item_next search s item after) expected

-- a step leads on: fewer tests are left, or it is further in the pattern
abbrev pub Nears : Search → State → State → Type 0
Nears search old new =
    (search.limit - new.tests < search.limit - old.tests)
    ⊎ ((new.tests ≡ old.tests) × (old.at < new.at) × (old.at < length search.pattern.now))

-- a fault is the answer, unless memory ran out
abbrev pub IsAnswer : PatFault → Result Outcome PatFault → Type 0
IsAnswer wrong expected = wrong ≢ fault.Memory → Err wrong ≡ expected

-- what is known of a search whose answer is known after a step
abbrev pub AfterStep : Search → State → State → Result Outcome PatFault → Result Step PatFault → Type 0
AfterStep search old new expected (Ok On) = Before search new (ahead search new) expected × Nears search old new
AfterStep search old new expected (Ok Back) = Before search new [] expected × (search.limit - new.tests < search.limit - old.tests)
AfterStep search old new expected (Ok (Whole found)) = Ok (record { tests = new.tests; found = Some (match_of found) }) ≡ expected
AfterStep search old new expected (Err wrong) = IsAnswer wrong expected

-- after going back to the last open choice
abbrev pub AfterBack : Search → State → State → Result Outcome PatFault → Result Bool PatFault → Type 0
AfterBack search old new expected (Ok true) = Before search new (ahead search new) expected × (old.tests ≤ new.tests)
AfterBack search old new expected (Ok false) =
    (Ok (record { tests = new.tests; found = None }) ≡ expected) × (old.tests ≤ new.tests)
AfterBack search old new expected (Err wrong) = IsAnswer wrong expected

-- after one byte more was tried
abbrev pub AfterTry : Search → State → State → Result Outcome PatFault → Result Bool PatFault → Type 0
AfterTry search old new expected (Ok true) = Before search new (ahead search new) expected × (old.tests ≤ new.tests)
AfterTry search old new expected (Ok false) =
    Before search new [] expected × (old.tests ≤ new.tests) × (new.pending.items ≡ old.pending.items)
AfterTry search old new expected (Err wrong) = IsAnswer wrong expected

-- after the next choice was taken
abbrev pub AfterChoice : Search → State → State → Result Outcome PatFault → Result (Unit {0}) PatFault → Type 0
AfterChoice search old new expected (Ok done) = Before search new (ahead search new) expected × (old.tests ≤ new.tests)
AfterChoice search old new expected (Err wrong) = IsAnswer wrong expected

-- where the search has ended
abbrev pub AfterRun : State → Result Outcome PatFault → Result (Option Found) PatFault → Type 0
AfterRun new expected (Ok found) = Ok (record { tests = new.tests; found = option_map match_of found }) ≡ expected
AfterRun new expected (Err wrong) = IsAnswer wrong expected

-- a step over a trail keeps the answer, whatever it is
abbrev pub GoesOn : Search → State → List Event → State → Result Step PatFault → Type 0
GoesOn search old trail new result =
    (expected : Result Outcome PatFault) → Before search old trail expected → AfterStep search old new expected result

-- so does one over an item
abbrev pub GoesOnAt : Search → State → Item → ℕ → State → Result Step PatFault → Type 0
GoesOnAt search old item after new result = GoesOn search old (item_next search old item after) new result

-- so does going back, where nothing else is before it
abbrev pub GoesBack : Search → State → State → Result Bool PatFault → Type 0
GoesBack search old new result =
    (expected : Result Outcome PatFault) → Before search old [] expected → AfterBack search old new expected result

-- so does an open choice that is taken, or tried
abbrev pub Takes : Search → State → Pending → State → Result (Unit {0}) PatFault → Type 0
Takes search old choice new result =
    (expected : Result Outcome PatFault) → Before search old (pending_trail search old.start choice old.captures.items) expected
    → AfterChoice search old new expected result

abbrev pub Tries : Search → State → Pending → State → Result Bool PatFault → Type 0
Tries search old choice new result =
    (expected : Result Outcome PatFault) → Before search old (pending_trail search old.start choice old.captures.items) expected
    → AfterTry search old new expected result

-- so does the whole search
abbrev pub Ends : Search → State → State → Result (Option Found) PatFault → Type 0
Ends search old new result = (expected : Result Outcome PatFault) → Before search old (ahead search old) expected → AfterRun new expected result
