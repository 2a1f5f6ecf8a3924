-- A table of calls of plain dictionaries, with the answers that ngx.shared.DICT gives. Each was worked out by hand.
use Rattle.std.specs.Prelude.{◌≡◌, ℕ, zero, suc, pos, negsuc, true, false, List, [], ◌∷◌, ◌++◌, drop, replicate, Some, None, codes}
use Rattle.resty_base.specs.declared.dictionary.DictValue.TheVariants.{Text, Number, Truth}
use Rattle.resty_base.specs.declared.dictionary.DictCall.{DictCall}
use Rattle.resty_base.specs.declared.dictionary.DictCall.TheVariants.{Get, Store, Delete, Incr, FlushAll, FlushExpired, Keys}
use Rattle.resty_base.specs.declared.dictionary.DictAnswer.{DictAnswer}
use Rattle.resty_base.specs.declared.dictionary.DictAnswer.TheVariants as answer
use Rattle.resty_base.specs.declared.dictionary.How.TheVariants.{Set, Add, Replace}
use Rattle.shared_rules.specs.declared.items.Item.{Item}
use Rattle.shared_rules.specs.Dictionary.{dict}

-- the answers of calls, each at its moment, one after another
abbrev pub answers : ℕ → List (ℕ × DictCall) → List Item → List DictAnswer
answers size [] items = []
answers size (c ∷ cs) items = (dict size c.1 c.0 items).0 ∷ answers size cs (dict size c.1 c.0 items).1

-- a text without a time to live and flags
abbrev pub set : List ℕ → List ℕ → DictCall
set key text = Store Set key (Text text) 0 0

-- 132 bytes hold two items of one byte each in key and value
abbrev pub two_fit : List (ℕ × DictCall)
two_fit =
    (0, set (codes "a") (codes "1")) ∷ (0, Store Add (codes "a") (Text (codes "2")) 0 0) ∷ (0, Store Replace (codes "b") (Text (codes "2")) 0 0)
    ∷ (0, Incr (codes "a") (pos 1) None 0) ∷ (0, Incr (codes "n") (pos 2) None 0) ∷ (0, Incr (codes "n") (pos 2) (Some (pos 5)) 0)
    ∷ (0, Keys 0) ∷ (0, FlushAll) ∷ (0, Get (codes "n")) ∷ (0, FlushExpired 0) ∷ []

abbrev pub two_fit_answers : List DictAnswer
two_fit_answers =
    answer.Done false ∷ answer.Exists ∷ answer.Missing ∷ answer.NotNumber ∷ answer.Missing ∷ answer.Number (pos 7) true
    ∷ answer.Names (codes "n" ∷ []) ∷ answer.Done false ∷ answer.Nothing ∷ answer.Count 1 ∷ []

-- times to live, flags, numbers and their range, bytes that are zero, and what expires
abbrev pub times_and_numbers : List (ℕ × DictCall)
times_and_numbers =
    (0, Store Set (codes "k") (Text (codes "v")) 1_000 7) ∷ (999, Get (codes "k")) ∷ (1_000, Get (codes "k"))
    ∷ (1_000, Store Add (codes "k") (Text (codes "w")) 0 0) ∷ (1_000, Store Replace (codes "k") (Number (pos 5)) 0 3)
    ∷ (1_000, Incr (codes "k") (pos 10) None 0) ∷ (1_000, Get (codes "k")) ∷ (1_000, Incr (codes "k") (pos 99_999_999_999_985) None 0)
    ∷ (1_000, Incr (codes "k") (pos 99_999_999_999_984) None 0) ∷ (1_000, Incr (codes "k") (negsuc 0) None 0)
    ∷ (1_000, Store Set (codes "t") (Truth true) 5 0) ∷ (1_004, Get (codes "t")) ∷ (1_005, Get (codes "t"))
    ∷ (1_005, Delete (codes "k")) ∷ (1_005, Get (codes "k")) ∷ (1_005, Keys 0) ∷ (1_005, FlushExpired 0)
    ∷ (1_005, Incr (codes "n") (negsuc 4) (Some (negsuc 99_999_999_999_993)) 0) ∷ (1_005, Incr (codes "n") (negsuc 0) None 0)
    ∷ (1_005, Incr (codes "m") (pos 1) (Some (pos 99_999_999_999_999)) 0) ∷ (1_005, Get (codes "m"))
    ∷ (1_005, set [] []) ∷ (1_005, Get []) ∷ (1_005, set (0 ∷ []) (0 ∷ 0 ∷ [])) ∷ (1_005, Get (0 ∷ [])) ∷ (1_005, Keys 0) ∷ (1_005, Keys 2)
    ∷ (1_005, Store Set (codes "c") (Number (pos 1)) 10 2) ∷ (1_010, Incr (codes "c") (pos 1) (Some (pos 5)) 100) ∷ (1_014, Get (codes "c"))
    ∷ (1_015, Get (codes "c")) ∷ (1_015, Keys 0) ∷ (1_020, FlushAll) ∷ (1_020, Get (codes "n")) ∷ (1_020, Keys 0)
    ∷ (1_020, FlushExpired 3) ∷ (1_020, FlushExpired 0) ∷ (1_020, FlushExpired 0)
    ∷ (99_999_999_999_999, Store Set (codes "z") (Truth false) 99_999_999_999_999 0) ∷ (99_999_999_999_999, Get (codes "z")) ∷ []

abbrev pub times_and_numbers_answers : List DictAnswer
times_and_numbers_answers =
    answer.Done false ∷ answer.Found (Text (codes "v")) 7 ∷ answer.Nothing
    ∷ answer.Done false ∷ answer.Done false
    ∷ answer.Number (pos 15) false ∷ answer.Found (Number (pos 15)) 3 ∷ answer.OutOfRange
    ∷ answer.Number (pos 99_999_999_999_999) false ∷ answer.Number (pos 99_999_999_999_998) false
    ∷ answer.Done false ∷ answer.Found (Truth true) 0 ∷ answer.Nothing
    ∷ answer.Done false ∷ answer.Nothing ∷ answer.Names [] ∷ answer.Count 1
    ∷ answer.Number (negsuc 99_999_999_999_998) false ∷ answer.OutOfRange
    ∷ answer.OutOfRange ∷ answer.Nothing
    ∷ answer.Done false ∷ answer.Found (Text []) 0 ∷ answer.Done false ∷ answer.Found (Text (0 ∷ 0 ∷ [])) 0
    ∷ answer.Names ((0 ∷ []) ∷ [] ∷ codes "n" ∷ []) ∷ answer.Names ((0 ∷ []) ∷ [] ∷ [])
    ∷ answer.Done false ∷ answer.Number (pos 2) false ∷ answer.Found (Number (pos 2)) 2
    ∷ answer.Nothing ∷ answer.Names ((0 ∷ []) ∷ [] ∷ codes "n" ∷ []) ∷ answer.Done false ∷ answer.Nothing ∷ answer.Names []
    ∷ answer.Count 3 ∷ answer.Count 1 ∷ answer.Count 0
    ∷ answer.Done false ∷ answer.Found (Truth false) 0 ∷ []

-- the last item goes though another one has expired; the other is taken out later
abbrev pub live_last : List (ℕ × DictCall)
live_last =
    (0, set (codes "a") (codes "1")) ∷ (0, Store Set (codes "b") (Text (codes "2")) 1_000 0) ∷ (1_000, set (codes "c") (codes "3"))
    ∷ (1_000, Get (codes "a")) ∷ (1_000, Get (codes "b")) ∷ (1_000, FlushExpired 0) ∷ (1_000, Keys 0) ∷ []

abbrev pub live_last_answers : List DictAnswer
live_last_answers =
    answer.Done false ∷ answer.Done false ∷ answer.Done true ∷ answer.Nothing ∷ answer.Nothing ∷ answer.Count 1 ∷ answer.Names (codes "c" ∷ []) ∷ []

-- an item that never fits has others evicted, and takes the old one of its key with it
abbrev pub too_large : List (ℕ × DictCall)
too_large =
    (0, set (codes "a") (codes "1")) ∷ (0, set (codes "b") (replicate 100 120)) ∷ (0, Get (codes "a")) ∷ (0, set (codes "b") (codes "2"))
    ∷ (0, set (codes "b") (replicate 68 120)) ∷ (0, Get (codes "b")) ∷ []

abbrev pub too_large_answers : List DictAnswer
too_large_answers = answer.Done false ∷ answer.NoMemory true ∷ answer.Nothing ∷ answer.Done false ∷ answer.NoMemory false ∷ answer.Nothing ∷ []

-- so many items of 66 bytes, of the keys 0, 1, 2, ..
abbrev pub fill : ℕ → List (ℕ × DictCall)
fill zero = []
fill (suc n) = fill n ++ (0, Store Set (n ∷ []) (Truth true) 0 0) ∷ []

-- what a dictionary of 31 such items answers an item of so many bytes, and which keys it has then
abbrev pub crowded : ℕ → List DictAnswer
crowded bytes = drop 31 (answers 2_046 (fill 31 ++ (0, set (codes "x") (replicate bytes 120)) ∷ (0, Keys 0) ∷ []) [])

-- the table
pub record IsTable : Type 0 where
  pub two : answers 132 two_fit [] ≡ two_fit_answers
  pub times : answers 1_000 times_and_numbers [] ≡ times_and_numbers_answers
  pub last : answers 132 live_last [] ≡ live_last_answers
  pub large : answers 132 too_large [] ≡ too_large_answers
  pub evicts_29 : crowded 1_849 ≡ answer.Done true ∷ answer.Names (codes "x" ∷ (30 ∷ []) ∷ (29 ∷ []) ∷ []) ∷ []
  pub evicts_30 : crowded 1_915 ≡ answer.Done true ∷ answer.Names (codes "x" ∷ (30 ∷ []) ∷ []) ∷ []
  pub evicts_no_31 : crowded 1_981 ≡ answer.NoMemory true ∷ answer.Names ((30 ∷ []) ∷ []) ∷ []
