-- A class that is taken once, or as often as the byte after it says: what is met first, and what then comes after.
use Rattle.std.proofs.Common.{◌≡◌, ◌≢◌, ℕ, zero, suc, ◌+◌, ◌<◌, ◌≤◌, Bool, true, false, cond, List, [], ◌∷◌, ◌++◌, drop, replicate, Err, refl, ◌∙◌, ap, arith, append_assoc}
use Rattle.std.specs.List.{prefix_len}
use Rattle.lua_patterns.specs.declared.answers.PatFault.TheVariants as fault
use Rattle.lua_patterns.specs.declared.items.Repeat.{Repeat}
use Rattle.lua_patterns.specs.declared.items.Repeat.TheVariants.{Once, Optional, Longest, LongestOfSome, Shortest}
use Rattle.lua_patterns.specs.Trails.{Event, Test, accepts_first, longest, shortest, repeated}
use Rattle.lua_patterns.specs.Searches.{answer}
use Rattle.lua_patterns.specs.Matching.{fewer, one_more_byte}
use Rattle.lua_patterns.proofs.Answering.{one_test, one_too_many, many_tests, many_too_many}

fewer_shift : (next : ℕ → List Event) (index n : ℕ) → fewer next (index + 1) n ++ next index ≡ fewer next index (suc n)
unfolding fewer
fewer_shift next index zero = let one : index + 1 ≡ index + suc zero = omega arith in ap (λ k. next k ++ next index) one
fewer_shift next index (suc n) =
    let same : index + 1 + suc n ≡ index + suc (suc n) = omega arith in
    append_assoc (next (index + 1 + suc n)) (fewer next (index + 1) n) (next index)
    ∙ ap (λ more. next (index + 1 + suc n) ++ more) (fewer_shift next index n)
    ∙ ap (λ k. next k ++ fewer next index (suc n)) same

longest_more : (next : ℕ → List Event) (index n : ℕ)
    → (replicate n Test ++ Test ∷ fewer next (index + 1) n) ++ next index ≡ replicate n Test ++ Test ∷ fewer next index (suc n)
longest_more next index n =
    append_assoc (replicate n Test) (Test ∷ fewer next (index + 1) n) (next index)
    ∙ ap (λ more. replicate n Test ++ Test ∷ more) (fewer_shift next index n)

-- all the tests of '*' come first, then what follows, from the last index down
pub longest_is : (accepted : ℕ → Bool) (next : ℕ → List Event) (index : ℕ) (text : List ℕ)
    → longest accepted next index text ≡ replicate (prefix_len accepted text) Test ++ Test ∷ fewer next index (prefix_len accepted text)
unfolding longest fewer
longest_is accepted next index [] = refl
longest_is accepted next index (c ∷ cs) =
    let n = prefix_len accepted cs in
    let one : 1 + n ≡ suc n = omega arith in
    elim (accepted c) as (λ b. Test ∷ cond b (longest accepted next (index + 1) cs ++ next index) (next index) ≡ replicate (cond b (1 + n) 0) Test ++ Test ∷ fewer next index (cond b (1 + n) 0)) [
      | true ↦ rw (one, longest_is accepted next (index + 1) cs) (ap (λ more. Test ∷ more) (longest_more next index n))
      | false ↦ refl
    ]

pub shortest_is : (accepted : ℕ → Bool) (next : ℕ → List Event) (index : ℕ) (text : List ℕ)
    → shortest accepted next index text ≡ next index ++ one_more_byte accepted next index text
unfolding shortest
shortest_is accepted next index [] = refl
shortest_is accepted next index (c ∷ cs) = refl

pub once_on : (limit t : ℕ) (accepted : ℕ → Bool) (next : ℕ → List Event) (index : ℕ) (text : List ℕ) (rest : List Event)
    → t + 1 ≤ limit → accepts_first accepted text ≡ true
    → answer limit t (repeated accepted next index text Once ++ rest) ≡ answer limit (t + 1) (next (index + 1) ++ rest)
unfolding repeated
once_on limit t accepted next index text rest room taken = rw taken (one_test limit t (next (index + 1) ++ rest) room)

pub once_back : (limit t : ℕ) (accepted : ℕ → Bool) (next : ℕ → List Event) (index : ℕ) (text : List ℕ) (rest : List Event)
    → t + 1 ≤ limit → accepts_first accepted text ≡ false
    → answer limit t (repeated accepted next index text Once ++ rest) ≡ answer limit (t + 1) rest
unfolding repeated
once_back limit t accepted next index text rest room refused = rw refused (one_test limit t rest room)

pub optional_on : (limit t : ℕ) (accepted : ℕ → Bool) (next : ℕ → List Event) (index : ℕ) (text : List ℕ) (rest : List Event)
    → t + 1 ≤ limit → accepts_first accepted text ≡ true
    → answer limit t (repeated accepted next index text Optional ++ rest) ≡ answer limit (t + 1) (next (index + 1) ++ (next index ++ rest))
unfolding repeated
optional_on limit t accepted next index text rest room taken =
    rw taken (one_test limit t ((next (index + 1) ++ next index) ++ rest) room
    ∙ ap (answer limit (t + 1)) (append_assoc (next (index + 1)) (next index) rest))

pub optional_off : (limit t : ℕ) (accepted : ℕ → Bool) (next : ℕ → List Event) (index : ℕ) (text : List ℕ) (rest : List Event)
    → t + 1 ≤ limit → accepts_first accepted text ≡ false
    → answer limit t (repeated accepted next index text Optional ++ rest) ≡ answer limit (t + 1) (next index ++ rest)
unfolding repeated
optional_off limit t accepted next index text rest room refused = rw refused (one_test limit t (next index ++ rest) room)

pub longest_on : (limit t : ℕ) (accepted : ℕ → Bool) (next : ℕ → List Event) (index : ℕ) (text : List ℕ) (rest : List Event)
    → t + prefix_len accepted text + 1 ≤ limit
    → answer limit t (longest accepted next index text ++ rest)
    ≡ answer limit (t + prefix_len accepted text + 1) (fewer next index (prefix_len accepted text) ++ rest)
longest_on limit t accepted next index text rest room =
    let n = prefix_len accepted text in
    rw (longest_is accepted next index text)
    (ap (answer limit t) (append_assoc (replicate n Test) (Test ∷ fewer next index n) rest)
    ∙ many_tests limit t n (Test ∷ (fewer next index n ++ rest)) (omega arith)
    ∙ one_test limit (t + n) (fewer next index n ++ rest) room)

pub longest_full : (limit t : ℕ) (accepted : ℕ → Bool) (next : ℕ → List Event) (index : ℕ) (text : List ℕ) (rest : List Event)
    → limit < t + prefix_len accepted text + 1
    → answer limit t (longest accepted next index text ++ rest) ≡ Err fault.Tests
longest_full limit t accepted next index text rest full =
    let n = prefix_len accepted text in
    rw (longest_is accepted next index text)
    (ap (answer limit t) (append_assoc (replicate n Test) (Test ∷ fewer next index n) rest)
    ∙ many_too_many limit t n (fewer next index n ++ rest) full)

pub some_on : (limit t : ℕ) (accepted : ℕ → Bool) (next : ℕ → List Event) (index : ℕ) (text : List ℕ) (rest : List Event)
    → t + 1 ≤ limit → accepts_first accepted text ≡ true
    → answer limit t (repeated accepted next index text LongestOfSome ++ rest) ≡ answer limit (t + 1) (longest accepted next (index + 1) (drop 1 text) ++ rest)
unfolding repeated
some_on limit t accepted next index text rest room taken = rw taken (one_test limit t (longest accepted next (index + 1) (drop 1 text) ++ rest) room)

pub some_back : (limit t : ℕ) (accepted : ℕ → Bool) (next : ℕ → List Event) (index : ℕ) (text : List ℕ) (rest : List Event)
    → t + 1 ≤ limit → accepts_first accepted text ≡ false
    → answer limit t (repeated accepted next index text LongestOfSome ++ rest) ≡ answer limit (t + 1) rest
unfolding repeated
some_back limit t accepted next index text rest room refused = rw refused (one_test limit t rest room)

-- the first test of a class that is tried at once is one too many
pub first_full : (limit t : ℕ) (accepted : ℕ → Bool) (next : ℕ → List Event) (index : ℕ) (text : List ℕ) (rest : List Event) (repeat : Repeat)
    → limit < t + 1 → repeat ≢ Longest → repeat ≢ Shortest
    → answer limit t (repeated accepted next index text repeat ++ rest) ≡ Err fault.Tests
unfolding repeated
first_full limit t accepted next index text rest Once full a b = one_too_many limit t _ full
first_full limit t accepted next index text rest Optional full a b = one_too_many limit t _ full
first_full limit t accepted next index text rest Longest full a b = absurd (a refl)
first_full limit t accepted next index text rest LongestOfSome full a b = one_too_many limit t _ full
first_full limit t accepted next index text rest Shortest full a b = absurd (b refl)

-- one byte more is tried
pub more_on : (limit t : ℕ) (accepted : ℕ → Bool) (next : ℕ → List Event) (index : ℕ) (text : List ℕ) (rest : List Event)
    → t + 1 ≤ limit → accepts_first accepted text ≡ true
    → answer limit t (one_more_byte accepted next index text ++ rest)
    ≡ answer limit (t + 1) (next (index + 1) ++ (one_more_byte accepted next (index + 1) (drop 1 text) ++ rest))
more_on limit t accepted next index text rest room taken =
    rw (taken, shortest_is accepted next (index + 1) (drop 1 text))
    (one_test limit t ((next (index + 1) ++ one_more_byte accepted next (index + 1) (drop 1 text)) ++ rest) room
    ∙ ap (answer limit (t + 1)) (append_assoc (next (index + 1)) (one_more_byte accepted next (index + 1) (drop 1 text)) rest))

pub more_back : (limit t : ℕ) (accepted : ℕ → Bool) (next : ℕ → List Event) (index : ℕ) (text : List ℕ) (rest : List Event)
    → t + 1 ≤ limit → accepts_first accepted text ≡ false
    → answer limit t (one_more_byte accepted next index text ++ rest) ≡ answer limit (t + 1) rest
more_back limit t accepted next index text rest room refused = rw refused (one_test limit t rest room)
