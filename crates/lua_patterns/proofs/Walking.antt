-- From item to item, back to open choices, and on to later indices.
use Rattle.std.proofs.Common.{◌≡◌, ◌⊎◌, ℕ, zero, suc, ◌+◌, ◌-◌, ◌*◌, ◌<◌, ◌≤◌, Bool, true, false, List, [], ◌∷◌, ◌++◌, drop, length, Option, None, Result, Ok, Err, refl, sym, ◌∙◌, ap, subst, arith, inl, inr, length-drop}
use Rattle.std.proofs.lemmas.List.{drop-drop, drop_all}
use Rattle.lua_patterns.specs.declared.answers.PatFault.{PatFault}
use Rattle.lua_patterns.specs.declared.answers.PatFault.TheVariants as fault
use Rattle.lua_patterns.specs.declared.items.Item.{Item}
use Rattle.lua_patterns.specs.declared.items.Item.TheVariants as item
use Rattle.lua_patterns.specs.declared.items.SizedItem.{SizedItem}
use Rattle.lua_patterns.specs.declared.captures.Capture.{Capture}
use Rattle.lua_patterns.specs.declared.captures.Capture.TheVariants as capture
use Rattle.lua_patterns.specs.declared.captures.Cap.TheVariants as cap
use Rattle.lua_patterns.specs.declared.matcher.Pending.{Pending}
use Rattle.lua_patterns.specs.declared.matcher.Search.{Search}
use Rattle.lua_patterns.specs.declared.matcher.State.{State}
use Rattle.lua_patterns.specs.Items.{item_at, items_after, items_from}
use Rattle.lua_patterns.specs.Trails.{Event, Test, advanced, balanced_len, captured, whole, item_trail, trail}
use Rattle.lua_patterns.specs.Searches.{trails, trail_at, answer, Outcome}
use Rattle.lua_patterns.specs.Matching.{next_at, left_after, later_from, later_trails, trails_after, stacked, pending_trail, undone, ahead, Before, BeforeItem, Nears}
use Rattle.lua_patterns.proofs.Answering.{wrong_met, nothing_met}
use Rattle.lua_patterns.proofs.Stack.{stacked_push, stacked_none}
use Rattle.lua_patterns.proofs.Reading.{drop_among}
use Rattle.std.proofs.Common.{append-nil, add-one, drop-cons}
use Rattle.std.proofs.Math.Nat.{mul-le-mul_right}

items_skip : (k at : ℕ) (text : List ℕ) → items_after k at text ≡ items_after 0 (at + k) (drop k text)
unfolding items_after
items_skip zero at text = let none : at ≡ at + zero = omega arith in ap (λ p. items_after 0 p text) none
items_skip (suc k) at [] = refl
items_skip (suc k) at (c ∷ cs) = let same : at + 1 + k ≡ at + suc k = omega arith in items_skip k (at + 1) cs ∙ ap (λ p. items_after 0 p (drop k cs)) same

-- the first item, and those after it
items_first : (at : ℕ) (text : List ℕ) → 0 < length text → 0 < (item_at at text).size
    → items_after 0 at text ≡ (item_at at text).item ∷ items_after 0 (at + (item_at at text).size) (drop (item_at at text).size text)
unfolding items_after
items_first at [] some size = absurd (omega arith)
items_first at (c ∷ cs) some size =
    let n = (item_at at (c ∷ cs)).size in
    let index : at + 1 + (n - 1) ≡ at + n = omega (arith, size) in
    ap (λ more. (item_at at (c ∷ cs)).item ∷ more)
    (items_skip (n - 1) (at + 1) cs ∙ ap (λ p. items_after 0 p (drop (n - 1) cs)) index ∙ ap (items_after 0 (at + n)) (drop_among n c cs size))

pub items_step : (pattern : List ℕ) (at : ℕ) (found : SizedItem) → at < length pattern → found ≡ item_at at (drop at pattern) → 0 < found.size
    → items_from pattern at ≡ found.item ∷ items_from pattern (at + found.size)
items_step pattern at found within is size =
    let some : 0 < length (drop at pattern) = omega (arith, length-drop at pattern) in
    let sized : 0 < (item_at at (drop at pattern)).size = subst (λ (f : SizedItem). 0 < f.size) is size in
    rw is (items_first at (drop at pattern) some sized ∙ ap (λ text. (item_at at (drop at pattern)).item ∷ items_after 0 (at + (item_at at (drop at pattern)).size) text) (drop-drop (item_at at (drop at pattern)).size at pattern))

items_end : (pattern : List ℕ) (at : ℕ) → length pattern ≤ at → items_from pattern at ≡ []
unfolding items_after
items_end pattern at past = rw (drop_all at pattern past) refl

-- at an item
pub item_into : (search : Search) (s : State) (found : SizedItem) (one : Item) (expected : Result Outcome PatFault)
    → s.at < length search.pattern.now → found ≡ item_at s.at (drop s.at search.pattern.now) → 0 < found.size → found.item ≡ one
    → Before search s (ahead search s) expected
    → BeforeItem search s one (s.at + found.size) expected
unfolding trail
item_into search s found one expected within is size one_is before =
    rw (← one_is) (rw (items_step search.pattern.now s.at found within is size) at before)

-- at the pattern's end
pub end_into : (search : Search) (s : State) (expected : Result Outcome PatFault)
    → length search.pattern.now ≤ s.at → Before search s (ahead search s) expected
    → Before search s (whole s.start s.index s.captures.items) expected
unfolding trail
end_into search s expected past before = rw (items_end search.pattern.now s.at past) at before

-- what single items mean
pub open_into : (search : Search) (s : State) (at after : ℕ) (expected : Result Outcome PatFault)
    → BeforeItem search s (item.Open at) after expected
    → Before search s (captured (capture.Open s.index at) s.captures.items (next_at search s.start after s.index)) expected
unfolding item_trail
open_into search s at after expected before = before

pub position_into : (search : Search) (s : State) (after : ℕ) (expected : Result Outcome PatFault)
    → BeforeItem search s item.Position after expected
    → Before search s (captured (capture.Closed (cap.Position s.index)) s.captures.items (next_at search s.start after s.index)) expected
unfolding item_trail
position_into search s after expected before = before

pub balanced_into : (search : Search) (s : State) (opening closing after : ℕ) (text : List ℕ) (len : Option ℕ) (expected : Result Outcome PatFault)
    → text ≡ drop s.index search.subject.now → len ≡ balanced_len opening closing text
    → BeforeItem search s (item.Balanced opening closing) after expected
    → Before search s (Test ∷ advanced s.index len (λ p. next_at search s.start after p s.captures.items)) expected
unfolding item_trail
balanced_into search s opening closing after text len expected here sized before = rw (sized ∙ ap (balanced_len opening closing) here) before

pub wrong_into : (search : Search) (s : State) (at after : ℕ) (expected : Result Outcome PatFault)
    → BeforeItem search s (item.Wrong at) after expected → Err (fault.Malformed at s.tests) ≡ expected
unfolding item_trail
wrong_into search s at after expected before = sym (wrong_met search.limit s.tests at (left_after search s)) ∙ before

pub trails_first : (at : ℕ → List Event) (index : ℕ) (text : List ℕ) → trails at index text ≡ at index ++ trails_after at index text
unfolding trails
trails_first at index [] = sym (append-nil (at index))
trails_first at index (c ∷ cs) = refl

after_next : (at : ℕ → List Event) (subject : List ℕ) (index : ℕ) → index < length subject
    → trails_after at index (drop index subject) ≡ at (index + 1) ++ trails_after at (index + 1) (drop (index + 1) subject)
after_next at subject index within =
    rw (drop-cons subject index 0) (ap (trails at (index + 1)) (ap (λ k. drop k subject) (sym (add-one index))) ∙ trails_first at (index + 1) (drop (index + 1) subject))

-- there are no later indices, or a next one
later_none : (subject pattern : List ℕ) (anchored : Bool) (start : ℕ) → (anchored ≡ true) ⊎ (length subject ≤ start)
    → later_from subject pattern anchored start ≡ []
later_none subject pattern true start last = refl
later_none subject pattern false start (inl e) = cc
later_none subject pattern false start (inr last) = rw (drop_all start subject last) refl

later_next : (subject pattern : List ℕ) (anchored : Bool) (start : ℕ) → anchored ≡ false → start < length subject
    → later_from subject pattern anchored start ≡ trail_at subject pattern 0 (start + 1) ++ later_from subject pattern anchored (start + 1)
later_next subject pattern anchored start free within = rw free (after_next (trail_at subject pattern 0) subject start within)

pub no_later : (search : Search) (s : State) (expected : Result Outcome PatFault)
    → s.pending.items ≡ [] → (search.anchored ≡ true) ⊎ (length search.subject.now ≤ s.start)
    → Before search s [] expected → Ok (record { tests = s.tests; found = None }) ≡ expected
no_later search s expected empty last before =
    let below = λ (older : List Capture). later_trails search s.start in
    let none = stacked_none search s.start below s.captures.items ∙ later_none search.subject.now search.pattern.now search.anchored s.start last in
    sym (nothing_met search.limit s.tests) ∙ ap (answer search.limit s.tests) (sym none) ∙ (rw empty at before)

pub next_later : (search : Search) (s : State) (captures : List Capture) (expected : Result Outcome PatFault)
    → s.pending.items ≡ [] → search.anchored ≡ false → s.start < length search.subject.now → captures ≡ []
    → Before search s [] expected
    → answer search.limit s.tests (next_at search (s.start + 1) 0 (s.start + 1) captures ++ stacked search (s.start + 1) (λ older. later_trails search (s.start + 1)) s.pending.items captures) ≡ expected
next_later search s captures expected empty free within cleared before =
    let later = later_next search.subject.now search.pattern.now search.anchored s.start free within in
    let was = rw (empty, stacked_none search s.start (λ older. later_trails search s.start) s.captures.items) at before in
    rw (empty, cleared, stacked_none search (s.start + 1) (λ older. later_trails search (s.start + 1)) []) (ap (answer search.limit s.tests) (sym later) ∙ was)

-- an open choice is taken from the stack
pub popped : (search : Search) (s : State) (choice : Pending) (choices : List Pending) (expected : Result Outcome PatFault)
    → s.pending.items ≡ choices ++ choice ∷ [] → Before search s [] expected
    → answer search.limit s.tests (pending_trail search s.start choice s.captures.items
    ++ stacked search s.start (λ older. later_trails search s.start) choices (undone choice s.captures.items)) ≡ expected
popped search s choice choices expected pushed before =
    rw (pushed, stacked_push search s.start (λ older. later_trails search s.start) choices choice s.captures.items) at before

-- where a step leads on, less is left to be done
pub left_falls : (search : Search) (size : ℕ) (old new : State) → size ≡ length search.pattern.now → Nears search old new
    → (search.limit - new.tests) * (size + 2) + (size + 1 - new.at) < (search.limit - old.tests) * (size + 2) + (size + 1 - old.at)
left_falls search size old new is (inl less) =
    let more : (search.limit - new.tests + 1) * (size + 2) ≤ (search.limit - old.tests) * (size + 2) = mul-le-mul_right (size + 2) (omega (arith, less)) in
    omega (arith, more)
left_falls search size old new is (inr further) = rw further.0 (omega (arith, is, further.1, further.2))
