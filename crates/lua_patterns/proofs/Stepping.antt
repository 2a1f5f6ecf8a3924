-- The steps of the matcher on a class: what lay before it is what then lies before it.
use Rattle.std.proofs.Common.{◌≡◌, ◌≢◌, ℕ, zero, suc, ◌+◌, ◌-◌, ◌<◌, ◌≤◌, true, false, List, [], ◌∷◌, ◌++◌, drop, length, Result, Ok, Err, refl, sym, ◌∙◌, ap, arith, append_assoc, inl, inr}
use Rattle.std.specs.List.{prefix_len}
use Rattle.lua_patterns.specs.declared.answers.PatFault.{PatFault}
use Rattle.lua_patterns.specs.declared.answers.PatFault.TheVariants as fault
use Rattle.lua_patterns.specs.declared.classes.Class.{Class}
use Rattle.lua_patterns.specs.declared.items.Item.TheVariants as item
use Rattle.lua_patterns.specs.declared.items.Repeat.{Repeat}
use Rattle.lua_patterns.specs.declared.items.Repeat.TheVariants.{Once, Optional, Longest, LongestOfSome, Shortest}
use Rattle.lua_patterns.specs.declared.captures.Capture.{Capture}
use Rattle.lua_patterns.specs.declared.matcher.Pending.{Pending}
use Rattle.lua_patterns.specs.declared.matcher.Pending.TheVariants.{Fewer, More}
use Rattle.lua_patterns.specs.declared.matcher.Search.{Search}
use Rattle.lua_patterns.specs.declared.matcher.State.{State}
use Rattle.lua_patterns.specs.declared.matcher.Step.TheVariants.{On, Back, Whole}
use Rattle.lua_patterns.specs.Classes.{accepts}
use Rattle.lua_patterns.specs.Trails.{Event, accepts_first, repeated, item_trail}
use Rattle.lua_patterns.specs.Searches.{answer, Outcome}
use Rattle.lua_patterns.specs.Matching.{fewer, one_more_byte, next_at, left_after, later_trails, stacked, Before, BeforeItem, AfterStep, AfterTry}
use Rattle.lua_patterns.proofs.Repeating.{once_on, once_back, optional_on, optional_off, longest_on, longest_full, some_on, some_back, shortest_is, first_full, more_on, more_back}
use Rattle.lua_patterns.proofs.Stack.{stacked_push}
use Rattle.lua_patterns.proofs.Answering.{one_too_many}
use Rattle.std.proofs.lemmas.List.{drop-drop}
use Rattle.std.proofs.Common.{◌⊎◌}
use Rattle.lua_patterns.specs.declared.matcher.Step.{Step}

-- a class that is tried at once lets no further test be made
pub full_steps : (search : Search) (s : State) (class : Class) (repeat : Repeat) (after : ℕ) (wrong : PatFault) (expected : Result Outcome PatFault)
    → (wrong ≡ fault.Tests) × (search.limit < s.tests + 1) → repeat ≢ Longest → repeat ≢ Shortest
    → BeforeItem search s (item.Repeated class repeat) after expected → Err wrong ≡ expected
unfolding item_trail
full_steps search s class repeat after wrong expected full a b before =
    rw full.0 (sym (first_full search.limit s.tests (accepts search.pattern.now class) (λ p. next_at search s.start after p s.captures.items) s.index (drop s.index search.subject.now) (left_after search s) repeat full.1 a b) ∙ before)

pub once_steps : (search : Search) (s : State) (t : ℕ) (class : Class) (after : ℕ) (expected : Result Outcome PatFault)
    → (s.tests + 1 ≤ search.limit) × (t ≡ s.tests + 1) → accepts_first (accepts search.pattern.now class) (drop s.index search.subject.now) ≡ true
    → BeforeItem search s (item.Repeated class Once) after expected
    → AfterStep search s (record s { tests = t; index = s.index + 1; at = after }) expected (Ok On)
unfolding item_trail
once_steps search s t class after expected made taken before =
    rw made.1 (sym (once_on search.limit s.tests (accepts search.pattern.now class) (λ p. next_at search s.start after p s.captures.items) s.index (drop s.index search.subject.now) (left_after search s) made.0 taken) ∙ before, inl (omega arith))

pub once_fails : (search : Search) (s : State) (t : ℕ) (class : Class) (after : ℕ) (expected : Result Outcome PatFault)
    → (s.tests + 1 ≤ search.limit) × (t ≡ s.tests + 1) → accepts_first (accepts search.pattern.now class) (drop s.index search.subject.now) ≡ false
    → BeforeItem search s (item.Repeated class Once) after expected
    → AfterStep search s (record s { tests = t }) expected (Ok Back)
unfolding item_trail
once_fails search s t class after expected made refused before =
    rw made.1 (sym (once_back search.limit s.tests (accepts search.pattern.now class) (λ p. next_at search s.start after p s.captures.items) s.index (drop s.index search.subject.now) (left_after search s) made.0 refused) ∙ before, omega arith)

-- where the search then stands, and that it is nearer to its end
abbrev pub Goes : Search → State → ℕ → ℕ → ℕ → List Capture → List Pending → Result Outcome PatFault → Type 0
Goes search s t at index captures pending expected =
    (answer search.limit t
    (next_at search s.start at index captures
    ++ stacked search s.start (λ older. later_trails search s.start) pending captures)
    ≡ expected)
    × ((search.limit - t < search.limit - s.tests) ⊎ ((t ≡ s.tests) × (s.at < at) × (s.at < length search.pattern.now)))

fewer_self : (next : ℕ → List Event) (index : ℕ) → fewer next index (index - index) ≡ next index
unfolding fewer
fewer_self next index = let none : index - index ≡ 0 = omega arith in rw none refl

fewer_down : (next : ℕ → List Event) (lowest n : ℕ) → 0 < n → fewer next lowest n ≡ next (lowest + n) ++ fewer next lowest (n - 1)
unfolding fewer
fewer_down next lowest zero some = absurd (omega arith)
fewer_down next lowest (suc n) some = let less : suc n - 1 ≡ n = omega arith in rw less refl

fewer_none : (next : ℕ → List Event) (lowest n : ℕ) → n ≡ 0 → fewer next lowest n ≡ next lowest
unfolding fewer
fewer_none next lowest n none = rw none refl

pub optional_fails : (search : Search) (s : State) (t : ℕ) (class : Class) (after : ℕ) (expected : Result Outcome PatFault)
    → (s.tests + 1 ≤ search.limit) × (t ≡ s.tests + 1) → accepts_first (accepts search.pattern.now class) (drop s.index search.subject.now) ≡ false
    → BeforeItem search s (item.Repeated class Optional) after expected
    → Goes search s t after s.index s.captures.items s.pending.items expected
unfolding item_trail
optional_fails search s t class after expected made refused before =
    rw made.1 (sym (optional_off search.limit s.tests (accepts search.pattern.now class) (λ p. next_at search s.start after p s.captures.items) s.index (drop s.index search.subject.now) (left_after search s) made.0 refused) ∙ before, inl (omega arith))

pub optional_steps : (search : Search) (s : State) (t : ℕ) (class : Class) (after : ℕ) (pending : List Pending) (expected : Result Outcome PatFault)
    → (s.tests + 1 ≤ search.limit) × (t ≡ s.tests + 1) → accepts_first (accepts search.pattern.now class) (drop s.index search.subject.now) ≡ true
    → pending ≡ s.pending.items ++ Fewer after s.index s.index ∷ []
    → BeforeItem search s (item.Repeated class Optional) after expected
    → Goes search s t after (s.index + 1) s.captures.items pending expected
unfolding item_trail
optional_steps search s t class after pending expected made taken pushed before =
    let next = λ (p : ℕ). next_at search s.start after p s.captures.items in
    let below = λ (older : List Capture). later_trails search s.start in
    rw (made.1, pushed, stacked_push search s.start below s.pending.items (Fewer after s.index s.index) s.captures.items, fewer_self next s.index)
    (sym (optional_on search.limit s.tests (accepts search.pattern.now class) next s.index (drop s.index search.subject.now) (left_after search s) made.0 taken) ∙ before, inl (omega arith))

pub longest_full_first : (search : Search) (s : State) (n : ℕ) (class : Class) (after : ℕ) (wrong : PatFault) (expected : Result Outcome PatFault)
    → n ≡ prefix_len (accepts search.pattern.now class) (drop s.index search.subject.now) → (wrong ≡ fault.Tests) × (search.limit < s.tests + n)
    → BeforeItem search s (item.Repeated class Longest) after expected → Err wrong ≡ expected
unfolding item_trail repeated
longest_full_first search s n class after wrong expected counted full before =
    rw full.0 (sym (longest_full search.limit s.tests (accepts search.pattern.now class) (λ p. next_at search s.start after p s.captures.items) s.index (drop s.index search.subject.now) (left_after search s) (omega (arith, full.1, counted))) ∙ before)

pub longest_full_last : (search : Search) (s : State) (n t : ℕ) (class : Class) (after : ℕ) (wrong : PatFault) (expected : Result Outcome PatFault)
    → n ≡ prefix_len (accepts search.pattern.now class) (drop s.index search.subject.now) → (s.tests + n ≤ search.limit) × (t ≡ s.tests + n) → (wrong ≡ fault.Tests) × (search.limit < t + 1)
    → BeforeItem search s (item.Repeated class Longest) after expected → Err wrong ≡ expected
unfolding item_trail repeated
longest_full_last search s n t class after wrong expected counted made full before =
    rw full.0 (sym (longest_full search.limit s.tests (accepts search.pattern.now class) (λ p. next_at search s.start after p s.captures.items) s.index (drop s.index search.subject.now) (left_after search s) (omega (arith, full.1, made.1, counted))) ∙ before)

pub longest_none : (search : Search) (s : State) (n t u : ℕ) (class : Class) (after : ℕ) (expected : Result Outcome PatFault)
    → n ≡ prefix_len (accepts search.pattern.now class) (drop s.index search.subject.now) → (s.tests + n ≤ search.limit) × (t ≡ s.tests + n) → (t + 1 ≤ search.limit) × (u ≡ t + 1) → n ≡ 0
    → BeforeItem search s (item.Repeated class Longest) after expected
    → Goes search s u after s.index s.captures.items s.pending.items expected
unfolding item_trail repeated
longest_none search s n t u class after expected counted made more none before =
    let next = λ (p : ℕ). next_at search s.start after p s.captures.items in
    let rest = left_after search s in
    let met = longest_on search.limit s.tests (accepts search.pattern.now class) next s.index (drop s.index search.subject.now) rest (omega (arith, counted, made.1, more.0)) in
    let count : u ≡ s.tests + prefix_len (accepts search.pattern.now class) (drop s.index search.subject.now) + 1 = omega (arith, counted, made.1, more.1) in
    (rw count (ap (λ m. answer search.limit (s.tests + prefix_len (accepts search.pattern.now class) (drop s.index search.subject.now) + 1) (m ++ rest)) (sym (fewer_none next s.index (prefix_len (accepts search.pattern.now class) (drop s.index search.subject.now)) (sym counted ∙ none))) ∙ sym met ∙ before), inl (omega (arith, made.1, more.0, more.1)))

pub longest_some : (search : Search) (s : State) (n t u : ℕ) (class : Class) (after : ℕ) (pending : List Pending) (expected : Result Outcome PatFault)
    → n ≡ prefix_len (accepts search.pattern.now class) (drop s.index search.subject.now) → (s.tests + n ≤ search.limit) × (t ≡ s.tests + n) → (t + 1 ≤ search.limit) × (u ≡ t + 1) → (n ≡ 0 → ⊥)
    → pending ≡ s.pending.items ++ Fewer after s.index (s.index + n - 1) ∷ []
    → BeforeItem search s (item.Repeated class Longest) after expected
    → Goes search s u after (s.index + n) s.captures.items pending expected
unfolding item_trail repeated
longest_some search s n t u class after pending expected counted made more some pushed before =
    let next = λ (p : ℕ). next_at search s.start after p s.captures.items in
    let below = λ (older : List Capture). later_trails search s.start in
    let rest = left_after search s in
    let size = prefix_len (accepts search.pattern.now class) (drop s.index search.subject.now) in
    let met = longest_on search.limit s.tests (accepts search.pattern.now class) next s.index (drop s.index search.subject.now) rest (omega (arith, counted, made.1, more.0)) in
    let count : u ≡ s.tests + size + 1 = omega (arith, counted, made.1, more.1) in
    let lower : s.index + n - 1 - s.index ≡ n - 1 = omega arith in
    let down = fewer_down next s.index n (omega (arith, some)) in
    let split : answer search.limit (s.tests + size + 1) (next (s.index + n) ++ (fewer next s.index (n - 1) ++ rest)) ≡ answer search.limit (s.tests + size + 1) (fewer next s.index size ++ rest) =
    ap (answer search.limit (s.tests + size + 1)) (sym (append_assoc (next (s.index + n)) (fewer next s.index (n - 1)) rest) ∙ ap (λ m. m ++ rest) (sym down ∙ ap (fewer next s.index) counted)) in
    (rw (count, pushed, stacked_push search s.start below s.pending.items (Fewer after s.index (s.index + n - 1)) s.captures.items, lower) (split ∙ sym met ∙ before), inl (omega (arith, made.1, more.0, more.1)))

pub some_fails : (search : Search) (s : State) (t : ℕ) (class : Class) (after : ℕ) (expected : Result Outcome PatFault)
    → (s.tests + 1 ≤ search.limit) × (t ≡ s.tests + 1) → accepts_first (accepts search.pattern.now class) (drop s.index search.subject.now) ≡ false
    → BeforeItem search s (item.Repeated class LongestOfSome) after expected
    → AfterStep search s (record s { tests = t }) expected (Ok Back)
unfolding item_trail
some_fails search s t class after expected made refused before =
    rw made.1 (sym (some_back search.limit s.tests (accepts search.pattern.now class) (λ p. next_at search s.start after p s.captures.items) s.index (drop s.index search.subject.now) (left_after search s) made.0 refused) ∙ before, omega arith)

-- the first byte of '+' is taken; what follows is as with '*'
pub some_then_any : (search : Search) (s : State) (t : ℕ) (class : Class) (after : ℕ) (expected : Result Outcome PatFault)
    → (s.tests + 1 ≤ search.limit) × (t ≡ s.tests + 1) → accepts_first (accepts search.pattern.now class) (drop s.index search.subject.now) ≡ true
    → BeforeItem search s (item.Repeated class LongestOfSome) after expected
    → BeforeItem search (record s { tests = t; index = s.index + 1 }) (item.Repeated class Longest) after expected
unfolding item_trail repeated
some_then_any search s t class after expected made taken before =
    rw (made.1, ← drop-drop 1 s.index search.subject.now) (sym (some_on search.limit s.tests (accepts search.pattern.now class) (λ p. next_at search s.start after p s.captures.items) s.index (drop s.index search.subject.now) (left_after search s) made.0 taken) ∙ before)

-- a step from a later index is one from an earlier index
pub steps_later : (search : Search) (old mid new : State) (expected : Result Outcome PatFault) (result : Result Step PatFault)
    → search.limit - mid.tests < search.limit - old.tests → AfterStep search mid new expected result → AfterStep search old new expected result
steps_later search old mid new expected (Ok On) less steps =
    (steps.0, inl (elim steps.1 [ inl nearer ↦ omega (arith, less, nearer) | inr further ↦ omega (arith, less, further.0) ]))
steps_later search old mid new expected (Ok Back) less steps = (steps.0, omega (arith, less, steps.1))
steps_later search old mid new expected (Ok (Whole found)) less steps = steps
steps_later search old mid new expected (Err wrong) less steps = steps

pub shortest_steps : (search : Search) (s : State) (class : Class) (after : ℕ) (pending : List Pending) (expected : Result Outcome PatFault)
    → s.at < after → s.at < length search.pattern.now → pending ≡ s.pending.items ++ More class after s.index ∷ []
    → BeforeItem search s (item.Repeated class Shortest) after expected
    → Goes search s s.tests after s.index s.captures.items pending expected
unfolding item_trail repeated
shortest_steps search s class after pending expected further within pushed before =
    let next = λ (p : ℕ). next_at search s.start after p s.captures.items in
    let below = λ (older : List Capture). later_trails search s.start in
    let text = drop s.index search.subject.now in
    let more = one_more_byte (accepts search.pattern.now class) next s.index text in
    let rest = left_after search s in (
      rw (pushed, stacked_push search s.start below s.pending.items (More class after s.index) s.captures.items)
          (ap (answer search.limit s.tests) (sym (append_assoc (next s.index) more rest) ∙ ap (λ m. m ++ rest) (sym (shortest_is (accepts search.pattern.now class) next s.index text))) ∙ before),
      inr (refl, further, within),
    )

pub more_full : (search : Search) (s : State) (class : Class) (after index : ℕ) (wrong : PatFault) (expected : Result Outcome PatFault)
    → (wrong ≡ fault.Tests) × (search.limit < s.tests + 1)
    → Before search s (one_more_byte (accepts search.pattern.now class) (λ p. next_at search s.start after p s.captures.items) index (drop index search.subject.now)) expected
    → Err wrong ≡ expected
more_full search s class after index wrong expected full before = rw full.0 (sym (one_too_many search.limit s.tests _ full.1) ∙ before)

pub more_fails : (search : Search) (s : State) (t : ℕ) (class : Class) (after index : ℕ) (expected : Result Outcome PatFault)
    → (s.tests + 1 ≤ search.limit) × (t ≡ s.tests + 1) → accepts_first (accepts search.pattern.now class) (drop index search.subject.now) ≡ false
    → Before search s (one_more_byte (accepts search.pattern.now class) (λ p. next_at search s.start after p s.captures.items) index (drop index search.subject.now)) expected
    → AfterTry search s (record s { tests = t }) expected (Ok false)
more_fails search s t class after index expected made refused before =
    rw made.1 (sym (more_back search.limit s.tests (accepts search.pattern.now class) (λ p. next_at search s.start after p s.captures.items) index (drop index search.subject.now) (left_after search s) made.0 refused) ∙ before, omega arith, refl)

pub more_steps : (search : Search) (s : State) (t : ℕ) (class : Class) (after index : ℕ) (pending : List Pending) (expected : Result Outcome PatFault)
    → (s.tests + 1 ≤ search.limit) × (t ≡ s.tests + 1) → accepts_first (accepts search.pattern.now class) (drop index search.subject.now) ≡ true
    → pending ≡ s.pending.items ++ More class after (index + 1) ∷ []
    → Before search s (one_more_byte (accepts search.pattern.now class) (λ p. next_at search s.start after p s.captures.items) index (drop index search.subject.now)) expected
    → (answer search.limit t (next_at search s.start after (index + 1) s.captures.items ++ stacked search s.start (λ older. later_trails search s.start) pending s.captures.items) ≡ expected)
    × (s.tests ≤ t)
more_steps search s t class after index pending expected made taken pushed before =
    let next = λ (p : ℕ). next_at search s.start after p s.captures.items in
    let below = λ (older : List Capture). later_trails search s.start in
    rw (made.1, pushed, stacked_push search s.start below s.pending.items (More class after (index + 1)) s.captures.items, ← drop-drop 1 index search.subject.now)
    (sym (more_on search.limit s.tests (accepts search.pattern.now class) next index (drop index search.subject.now) (left_after search s) made.0 taken) ∙ before, omega arith)

pub fewer_last : (search : Search) (s : State) (after lowest index : ℕ) (expected : Result Outcome PatFault)
    → index ≤ lowest
    → Before search s (fewer (λ p. next_at search s.start after p s.captures.items) lowest (index - lowest)) expected
    → answer search.limit s.tests (next_at search s.start after lowest s.captures.items ++ left_after search s) ≡ expected
fewer_last search s after lowest index expected least before =
    let next = λ (p : ℕ). next_at search s.start after p s.captures.items in
    let none : index - lowest ≡ 0 = omega arith in
    ap (λ m. answer search.limit s.tests (m ++ left_after search s)) (sym (fewer_none next lowest (index - lowest) none)) ∙ before

pub fewer_steps : (search : Search) (s : State) (after lowest index : ℕ) (pending : List Pending) (expected : Result Outcome PatFault)
    → lowest < index → pending ≡ s.pending.items ++ Fewer after lowest (index - 1) ∷ []
    → Before search s (fewer (λ p. next_at search s.start after p s.captures.items) lowest (index - lowest)) expected
    → answer search.limit s.tests (next_at search s.start after index s.captures.items ++ stacked search s.start (λ older. later_trails search s.start) pending s.captures.items) ≡ expected
fewer_steps search s after lowest index pending expected some pushed before =
    let next = λ (p : ℕ). next_at search s.start after p s.captures.items in
    let below = λ (older : List Capture). later_trails search s.start in
    let rest = left_after search s in
    let down = fewer_down next lowest (index - lowest) (omega arith) in
    let top : lowest + (index - lowest) ≡ index = omega arith in
    let lower : index - lowest - 1 ≡ index - 1 - lowest = omega arith in
    let split : fewer next lowest (index - lowest) ≡ next index ++ fewer next lowest (index - 1 - lowest) = down ∙ ap (λ p. next p ++ fewer next lowest (index - lowest - 1)) top ∙ ap (λ n. next index ++ fewer next lowest n) lower in
    rw (pushed, stacked_push search s.start below s.pending.items (Fewer after lowest (index - 1)) s.captures.items)
    (ap (answer search.limit s.tests) (sym (append_assoc (next index) (fewer next lowest (index - 1 - lowest)) rest) ∙ ap (λ m. m ++ rest) (sym split)) ∙ before)
