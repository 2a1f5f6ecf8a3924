-- A search (Lua 5.1 manual, 5.4): the first match in order of preference, from the first index on at which there is one.
use Rattle.std.specs.Prelude.{◌≡◌, ◌≢◌, ℕ, ◌+◌, ◌==◌, nat_lt, List, [], ◌∷◌, ◌++◌, drop, length, slice_index, Option, Some, None, option_map, Result, Ok, Err}
use Rattle.std.specs.Prelude.{if◌then◌else◌}
use Rattle.lua_patterns.specs.declared.answers.PatFault.{PatFault}
use Rattle.lua_patterns.specs.declared.answers.PatFault.TheVariants as fault
use Rattle.lua_patterns.specs.declared.answers.Found.{Found}
use Rattle.lua_patterns.specs.declared.answers.Searched.{Searched}
use Rattle.lua_patterns.specs.Items.{items_from}
use Rattle.lua_patterns.specs.Trails.{Match, Event, Test, Whole, Wrong, TooMany, trail}
use Rattle.resty_base.specs.Ascii.{caret}

-- the trail of one index after the other, up to the subject's end and with it
unfoldable pub trails : (ℕ → List Event) → ℕ → List ℕ → List Event
trails trail_at index [] = trail_at index
trails trail_at index (c ∷ cs) = trail_at index ++ trails trail_at (index + 1) cs

-- the trail of a match that begins at an index, of the items from an index of the pattern on
abbrev pub trail_at : List ℕ → List ℕ → ℕ → ℕ → List Event
trail_at subject pattern at start = trail subject pattern start (items_from pattern at) start []

-- the trail of a search: of each index from the given one on, or of that one alone where '^' stands first in the pattern.
-- After the subject's end there is none
unfoldable pub search_trail : List ℕ → List ℕ → ℕ → List Event
search_trail subject pattern «from» =
    if nat_lt (length subject) «from» then []
    else if slice_index pattern 0 == caret then trail_at subject pattern 1 «from»
    else trails (trail_at subject pattern 0) «from» (drop «from» subject)

-- how many tests were made, and the match that was found
pub record Outcome : Type 0 where
  pub tests : ℕ
  pub found : Option Match

-- what a search gives that may make so many tests, has made some, and has this trail before it: the first that is no
-- test decides, and one test too many ends the search
unfoldable pub answer : ℕ → ℕ → List Event → Result Outcome PatFault
answer limit tests [] = Ok (record { tests = tests; found = None })
answer limit tests (Test ∷ trail) = if nat_lt tests limit then answer limit (tests + 1) trail else Err fault.Tests
answer limit tests (Whole found ∷ trail) = Ok (record { tests = tests; found = Some found })
answer limit tests (Wrong at ∷ trail) = Err (fault.Malformed at tests)
answer limit tests (TooMany ∷ trail) = Err (fault.Captures tests)

-- a found match, and what a search answered, as the definitions see them
abbrev pub match_of : Found → Match
match_of found = record { start = found.start; end = found.end; captures = found.captures.items }

abbrev pub outcome_of : Searched → Outcome
outcome_of searched = record { tests = searched.tests; found = option_map match_of searched.found }

-- what was returned is the answer, unless memory ran out
abbrev pub Answers : Result Searched PatFault → Result Outcome PatFault → Type 0
Answers (Ok searched) expected = expected ≡ Ok (outcome_of searched)
Answers (Err wrong) expected = wrong ≢ fault.Memory → expected ≡ Err wrong
