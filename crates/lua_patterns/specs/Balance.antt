-- Where '%b' matches in a subject, kept for one opening and one closing byte.
use Rattle.std.specs.Prelude.{◌≡◌, ◌≢◌, ℕ, ◌+◌, ◌-◌, ◌<◌, ◌≤◌, ◌^◌, List, ◌∷◌, drop, length, slice_index_or, Some, None}
use Rattle.lua_patterns.specs.declared.balance.Pair.{Pair}
use Rattle.lua_patterns.specs.Trails.{closing_len, balanced_len}

-- the closing bytes of a text that no opening byte before them has taken, the first one last: the n-th from the end closes
-- an opening byte before the text when n others are open. Each stands for the length of the suffix that it begins
pub record AreWaiting (opening closing : ℕ) (text ends : List ℕ) : Type 0 where
  pub within : (i : ℕ) → i < length ends → slice_index_or ends i 0 ≤ length text
  pub answered : (n : ℕ) → n < length ends → closing_len opening closing n text ≡ Some (length text - slice_index_or ends (length ends - n - 1) 0 + 1)
  pub unanswered : (n : ℕ) → length ends ≤ n → closing_len opening closing n text ≡ None

-- the last so many bytes of a text
abbrev pub suffix_of : List ℕ → ℕ → List ℕ
suffix_of text len = drop (length text - len) text

-- a length is none of these
abbrev pub IsNoneOf : List ℕ → ℕ → Type 0
IsNoneOf suffixes k = (i : ℕ) → i < length suffixes → slice_index_or suffixes i 0 ≢ k

-- the suffixes of a text at which '%b' takes bytes, by their lengths, from the shortest on, and how many it takes; at no other
-- it takes any
pub record AreMatches (opening closing : ℕ) (text suffixes lens : List ℕ) : Type 0 where
  pub both : length lens ≡ length suffixes
  pub rising : (i j : ℕ) → i ≤ j → j < length suffixes → slice_index_or suffixes i 0 ≤ slice_index_or suffixes j 0
  pub within : (i : ℕ) → i < length suffixes → slice_index_or suffixes i 0 ≤ length text
  pub taken : (i : ℕ) → i < length suffixes → balanced_len opening closing (suffix_of text (slice_index_or suffixes i 0)) ≡ Some (slice_index_or lens i 0)
  pub elsewhere : (k : ℕ) → k ≤ length text → IsNoneOf suffixes k → balanced_len opening closing (suffix_of text k) ≡ None

-- a pair is right about a text
abbrev pub IsRightOf : List ℕ → Pair → Type 0
IsRightOf text pair = AreMatches pair.opening pair.closing text pair.suffixes.items pair.lens.items

-- it is that of these bytes, and right
abbrev pub IsRight : ℕ → ℕ → List ℕ → Pair → Type 0
IsRight opening closing text pair = (pair.opening ≡ opening) × (pair.closing ≡ closing) × IsRightOf text pair

-- each pair is right about the subject
abbrev pub AreRight : List ℕ → List Pair → Type 0
AreRight subject pairs = (i : ℕ) (d : Pair) → i < length pairs → IsRightOf subject (slice_index_or pairs i d)

-- one byte more in front of a text, which has so many bytes with it: what waits is known again
abbrev pub Waits : ℕ → ℕ → ℕ → ℕ → List ℕ → List ℕ → Type 0
Waits opening closing byte suffix old new =
    (text : List ℕ) → suffix ≡ length text + 1 → AreWaiting opening closing text old → AreWaiting opening closing (byte ∷ text) new

-- so is a pair right about the text again
abbrev pub Reaches : ℕ → ℕ → List ℕ → Pair → Pair → Type 0
Reaches byte suffix ends old new =
    (text : List ℕ) → suffix ≡ length text + 1 → length text < 2 ^ 63 → AreWaiting old.opening old.closing text ends
    → IsRightOf text old → IsRightOf (byte ∷ text) new
