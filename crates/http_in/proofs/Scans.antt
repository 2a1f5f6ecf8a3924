-- The scanner ends where the head does, and where a head ends stays whatever follows.
use Rattle.std.specs.Prelude.{Bool, true, false, ◌==◌, ◌||◌, ◌&&◌, Option, Some, None, option_map, is_some, suc, if◌then◌else◌}
use Rattle.std.proofs.Common.{◌≡◌, ℕ, ◌<◌, ◌≤◌, List, [], ◌∷◌, ◌++◌, ◌+◌, length, take, drop, refl, sym, ap, ◌∙◌, arith}
use Rattle.std.specs.Bool.{then_some}
use Rattle.std.proofs.lemmas.List.{take-append-drop, length-take-le, drop_all}
use Rattle.http_in.specs.declared.scan.HeadScan.{HeadScan}
use Rattle.http_in.specs.declared.scan.HeadScan.TheVariants.{Empty, EmptyReturn, Line, LineEnd, LineEndReturn, Whole}
use Rattle.http_in.specs.Ends.{begins_empty_line, begins_feed, empty_line_size, end_within, head_end}
use Rattle.http_in.specs.Scanning.{after_byte, after_bytes, scan_of, has_ended}

-- how many more bytes there are up to the end
abbrev pub end_from : HeadScan → List ℕ → Option ℕ
end_from scan [] = if has_ended scan then Some 0 else None
end_from scan (b ∷ bs) = if has_ended scan then Some 0 else option_map suc (end_from (after_byte scan b) bs)

pub end_from-whole : (bs : List ℕ) → end_from Whole bs ≡ Some 0
end_from-whole [] = refl
end_from-whole (b ∷ bs) = refl

-- the bytes that the scanner's state stands for, then these, have their end here
abbrev stands : HeadScan → List ℕ → Option ℕ
stands Empty bs = head_end bs
stands EmptyReturn bs = head_end (13 ∷ bs)
stands Line bs = end_within bs
stands LineEnd bs = end_within (10 ∷ bs)
stands LineEndReturn bs = end_within (10 ∷ 13 ∷ bs)
stands Whole bs = Some 0

-- counted from before the bytes that the state stands for
abbrev shifted : HeadScan → Option ℕ → Option ℕ
shifted Empty o = o
shifted EmptyReturn o = option_map suc o
shifted Line o = o
shifted LineEnd o = option_map suc o
shifted LineEndReturn o = option_map suc (option_map suc o)
shifted Whole o = o

abbrev Agree : HeadScan → List ℕ → Type 0
Agree scan bs = stands scan bs ≡ shifted scan (end_from scan bs)

-- one byte after the other
step : (scan : HeadScan) (b : ℕ) (bs : List ℕ) → Agree (after_byte scan b) bs → Agree scan (b ∷ bs)
step Empty b bs = test (b == 10) (b == 13)
  where
    test : (f r : Bool) → Agree (if f then Empty else (if r then EmptyReturn else Line)) bs
        → (if f || (r && begins_feed bs) then option_map suc (head_end bs) else (if f && begins_empty_line bs then Some (1 + empty_line_size bs) else option_map suc (end_within bs)))
        ≡ option_map suc (end_from (if f then Empty else (if r then EmptyReturn else Line)) bs)
    test true r h = ap (option_map suc) h
    test false true h = h
    test false false h = ap (option_map suc) h
step EmptyReturn b bs = test (b == 10) (b == 13)
  where
    test : (f r : Bool) → Agree (if f then Empty else Line) bs
        → (if f then option_map suc (if f || (r && begins_feed bs) then option_map suc (head_end bs) else (if f && begins_empty_line bs then Some (1 + empty_line_size bs) else option_map suc (end_within bs)))
        else option_map suc (if f && begins_empty_line bs then Some (1 + empty_line_size bs) else option_map suc (end_within bs)))
        ≡ option_map suc (option_map suc (end_from (if f then Empty else Line) bs))
    test true r h = ap (λ o. option_map suc (option_map suc o)) h
    test false r h = ap (λ o. option_map suc (option_map suc o)) h
step Line b bs = test (b == 10)
  where
    test : (f : Bool) → Agree (if f then LineEnd else Line) bs
        → (if f && begins_empty_line bs then Some (1 + empty_line_size bs) else option_map suc (end_within bs)) ≡ option_map suc (end_from (if f then LineEnd else Line) bs)
    test true h = h
    test false h = ap (option_map suc) h
step LineEnd b bs = test (b == 10) (b == 13)
  where
    test : (f r : Bool) → Agree (if f then Whole else (if r then LineEndReturn else Line)) bs
        → (if f || (r && begins_feed bs) then Some (1 + (if f then 1 else 2)) else option_map suc (if f && begins_empty_line bs then Some (1 + empty_line_size bs) else option_map suc (end_within bs)))
        ≡ option_map suc (option_map suc (end_from (if f then Whole else (if r then LineEndReturn else Line)) bs))
    test true r h = ap (λ o. option_map suc (option_map suc o)) (sym (end_from-whole bs))
    test false true h = h
    test false false h = ap (λ o. option_map suc (option_map suc o)) h
step LineEndReturn b bs = test (b == 10)
  where
    test : (f : Bool) → Agree (if f then Whole else Line) bs
        → (if f then Some 3 else option_map suc (option_map suc (if f && begins_empty_line bs then Some (1 + empty_line_size bs) else option_map suc (end_within bs))))
        ≡ option_map suc (option_map suc (option_map suc (end_from (if f then Whole else Line) bs)))
    test true h = ap (λ o. option_map suc (option_map suc (option_map suc o))) (sym (end_from-whole bs))
    test false h = ap (λ o. option_map suc (option_map suc (option_map suc o))) h
step Whole b bs = λ h. refl

agree : (scan : HeadScan) (bs : List ℕ) → Agree scan bs
agree Empty [] = refl
agree EmptyReturn [] = refl
agree Line [] = refl
agree LineEnd [] = refl
agree LineEndReturn [] = refl
agree Whole [] = refl
agree scan (b ∷ bs) = step scan b bs (agree (after_byte scan b) bs)

pub head_end-is : (bs : List ℕ) → head_end bs ≡ end_from Empty bs
head_end-is bs = agree Empty bs

-- nothing is read after the end
pub after_bytes-ended : (scan : HeadScan) (bs : List ℕ) → has_ended scan ≡ true → after_bytes scan bs ≡ scan
after_bytes-ended scan [] e = refl
after_bytes-ended Empty (b ∷ bs) e = absurd (let f : false ≡ true = e in cc)
after_bytes-ended EmptyReturn (b ∷ bs) e = absurd (let f : false ≡ true = e in cc)
after_bytes-ended Line (b ∷ bs) e = absurd (let f : false ≡ true = e in cc)
after_bytes-ended LineEnd (b ∷ bs) e = absurd (let f : false ≡ true = e in cc)
after_bytes-ended LineEndReturn (b ∷ bs) e = absurd (let f : false ≡ true = e in cc)
after_bytes-ended Whole (b ∷ bs) e = after_bytes-ended Whole bs refl

pub after_bytes-append : (scan : HeadScan) (xs ys : List ℕ) → after_bytes scan (xs ++ ys) ≡ after_bytes (after_bytes scan xs) ys
after_bytes-append scan [] ys = refl
after_bytes-append scan (x ∷ xs) ys = after_bytes-append (after_byte scan x) xs ys

-- the end counted from a place further on
abbrev pub later : ℕ → Option ℕ → Option ℕ
later k o = option_map (λ n. k + n) o

pub later-none : (o : Option ℕ) → o ≡ later 0 o
later-none None = refl
later-none (Some n) = ap Some (omega arith)

pub later-more : (k : ℕ) (o : Option ℕ) → option_map suc (later k o) ≡ later (suc k) o
later-more k None = refl
later-more k (Some n) = ap Some (omega arith)

pub later-suc : (k : ℕ) (o : Option ℕ) → later k (option_map suc o) ≡ later (k + 1) o
later-suc k None = refl
later-suc k (Some n) = ap Some (omega arith)

-- an option whose successor is there, or isn't
suc-none : (o : Option ℕ) → option_map suc o ≡ None → o ≡ None
suc-none None e = refl
suc-none (Some n) e = absurd (cc)

suc-some : (o : Option ℕ) (n : ℕ) → option_map suc o ≡ Some n → (m : ℕ) × ((o ≡ Some m) × (n ≡ suc m))
suc-some None n e = absurd (cc)
suc-some (Some m) n e = (m, (refl, cc))

-- the end isn't among the first bytes
pub end_from-append_none : (scan : HeadScan) (xs ys : List ℕ) → end_from scan xs ≡ None → end_from scan (xs ++ ys) ≡ later (length xs) (end_from (after_bytes scan xs) ys)
end_from-append_none scan [] ys e = later-none (end_from scan ys)
end_from-append_none scan (x ∷ xs) ys e = test (has_ended scan) (end_from-append_none (after_byte scan x) xs ys) e
  where
    test : (h : Bool) → (end_from (after_byte scan x) xs ≡ None → end_from (after_byte scan x) (xs ++ ys) ≡ later (length xs) (end_from (after_bytes (after_byte scan x) xs) ys))
        → (if h then Some 0 else option_map suc (end_from (after_byte scan x) xs)) ≡ None
        → (if h then Some 0 else option_map suc (end_from (after_byte scan x) (xs ++ ys))) ≡ later (suc (length xs)) (end_from (after_bytes (after_byte scan x) xs) ys)
    test true ih n = absurd (let w : Some 0 ≡ None = n in cc)
    test false ih n = ap (option_map suc) (ih (suc-none _ n)) ∙ later-more (length xs) _

-- the end is among the first bytes
pub end_from-append_some : (scan : HeadScan) (xs ys : List ℕ) (n : ℕ) → end_from scan xs ≡ Some n → end_from scan (xs ++ ys) ≡ Some n
end_from-append_some scan [] ys n e = test scan e
  where
    test : (s : HeadScan) → (if has_ended s then Some 0 else None) ≡ Some n → end_from s ys ≡ Some n
    test Empty w = absurd (let f : None ≡ Some n = w in cc)
    test EmptyReturn w = absurd (let f : None ≡ Some n = w in cc)
    test Line w = absurd (let f : None ≡ Some n = w in cc)
    test LineEnd w = absurd (let f : None ≡ Some n = w in cc)
    test LineEndReturn w = absurd (let f : None ≡ Some n = w in cc)
    test Whole w = end_from-whole ys ∙ w
end_from-append_some scan (x ∷ xs) ys n e = test (has_ended scan) (end_from-append_some (after_byte scan x) xs ys) e
  where
    test : (h : Bool) → ((m : ℕ) → end_from (after_byte scan x) xs ≡ Some m → end_from (after_byte scan x) (xs ++ ys) ≡ Some m)
        → (if h then Some 0 else option_map suc (end_from (after_byte scan x) xs)) ≡ Some n
        → (if h then Some 0 else option_map suc (end_from (after_byte scan x) (xs ++ ys))) ≡ Some n
    test true ih w = w
    test false ih w = let found = suc-some _ n w in ap (option_map suc) (ih found.0 found.1.0) ∙ ap Some (sym found.1.1)

pub end_from-bound : (scan : HeadScan) (xs : List ℕ) (n : ℕ) → end_from scan xs ≡ Some n → n ≤ length xs
end_from-bound scan [] n e = test (has_ended scan) e
  where
    test : (h : Bool) → (if h then Some 0 else None) ≡ Some n → n ≤ 0
    test true w = let z : 0 ≡ n = cc in omega (arith, z)
    test false w = absurd (let f : None ≡ Some n = w in cc)
end_from-bound scan (x ∷ xs) n e = test (has_ended scan) (end_from-bound (after_byte scan x) xs) e
  where
    test : (h : Bool) → ((m : ℕ) → end_from (after_byte scan x) xs ≡ Some m → m ≤ length xs)
        → (if h then Some 0 else option_map suc (end_from (after_byte scan x) xs)) ≡ Some n → n ≤ suc (length xs)
    test true ih w = let z : 0 ≡ n = cc in omega (arith, z)
    test false ih w = let found = suc-some _ n w in omega (arith, ih found.0 found.1.0, found.1.1)

-- no end in the bytes: the scanner hasn't ended
pub not_ended : (scan : HeadScan) (xs : List ℕ) → end_from scan xs ≡ None → has_ended (after_bytes scan xs) ≡ false
not_ended Empty [] e = refl
not_ended EmptyReturn [] e = refl
not_ended Line [] e = refl
not_ended LineEnd [] e = refl
not_ended LineEndReturn [] e = refl
not_ended Whole [] e = absurd (let w : Some 0 ≡ None = e in cc)
not_ended scan (x ∷ xs) e = not_ended (after_byte scan x) xs (test (has_ended scan) e)
  where
    test : (h : Bool) → (if h then Some 0 else option_map suc (end_from (after_byte scan x) xs)) ≡ None → end_from (after_byte scan x) xs ≡ None
    test true w = absurd (let f : Some 0 ≡ None = w in cc)
    test false w = suc-none _ w

not_yet : (h : Bool) (o r : Option ℕ) → h ≡ false → (if h then Some 0 else o) ≡ r → o ≡ r
not_yet true o r h e = absurd (let f : true ≡ false = h in cc)
not_yet false o r h e = e

ended_none : (h : Bool) (m : ℕ) → h ≡ false → (if h then Some 0 else None) ≡ Some m → ⊥
ended_none true m h e = let f : true ≡ false = h in cc
ended_none false m h e = let f : None ≡ Some m = e in cc

pub end_is_later : (scan : HeadScan) (ys : List ℕ) (m : ℕ) → has_ended scan ≡ false → end_from scan ys ≡ Some m → 0 < m
end_is_later scan [] m h e = absurd (ended_none (has_ended scan) m h e)
end_is_later scan (y ∷ ys) m h e =
    let found = suc-some (end_from (after_byte scan y) ys) m (not_yet (has_ended scan) (option_map suc (end_from (after_byte scan y) ys)) (Some m) h e) in omega (arith, found.1.1)

-- the scanner has ended where the end is among the bytes
pub has_ended-is : (scan : HeadScan) (bs : List ℕ) → has_ended (after_bytes scan bs) ≡ is_some (end_from scan bs)
has_ended-is Empty [] = refl
has_ended-is EmptyReturn [] = refl
has_ended-is Line [] = refl
has_ended-is LineEnd [] = refl
has_ended-is LineEndReturn [] = refl
has_ended-is Whole [] = refl
has_ended-is scan (b ∷ bs) = test (has_ended scan) refl (has_ended-is (after_byte scan b) bs)
  where
    next : (o : Option ℕ) → is_some o ≡ is_some (option_map suc o)
    next None = refl
    next (Some n) = refl

    test : (h : Bool) → has_ended scan ≡ h → has_ended (after_bytes (after_byte scan b) bs) ≡ is_some (end_from (after_byte scan b) bs)
        → has_ended (after_bytes (after_byte scan b) bs) ≡ is_some (if h then Some 0 else option_map suc (end_from (after_byte scan b) bs))
    test true is ih = ap has_ended (after_bytes-ended scan (b ∷ bs) is) ∙ is
    test false is ih = ih ∙ next (end_from (after_byte scan b) bs)

-- ---- where heads end

pub scan_of-ended : (bs : List ℕ) → has_ended (scan_of bs) ≡ is_some (head_end bs)
scan_of-ended bs = has_ended-is Empty bs ∙ ap is_some (sym (head_end-is bs))

pub head_end-append_some : (xs ys : List ℕ) (n : ℕ) → head_end xs ≡ Some n → head_end (xs ++ ys) ≡ Some n
head_end-append_some xs ys n e = head_end-is (xs ++ ys) ∙ end_from-append_some Empty xs ys n (sym (head_end-is xs) ∙ e)

pub head_end-append_none : (xs ys : List ℕ) → head_end xs ≡ None → head_end (xs ++ ys) ≡ later (length xs) (end_from (scan_of xs) ys)
head_end-append_none xs ys e = head_end-is (xs ++ ys) ∙ end_from-append_none Empty xs ys (sym (head_end-is xs) ∙ e)

pub head_end-bound : (xs : List ℕ) (n : ℕ) → head_end xs ≡ Some n → n ≤ length xs
head_end-bound xs n e = end_from-bound Empty xs n (sym (head_end-is xs) ∙ e)

pub head_end-later : (xs ys : List ℕ) (n : ℕ) → head_end xs ≡ None → head_end (xs ++ ys) ≡ Some n → length xs < n
head_end-later xs ys n e f = from (end_from (scan_of xs) ys) refl (sym (head_end-append_none xs ys e) ∙ f)
  where
    from : (o : Option ℕ) → end_from (scan_of xs) ys ≡ o → later (length xs) o ≡ Some n → length xs < n
    from None is w = absurd (let z : None ≡ Some n = w in cc)
    from (Some m) is w =
        let z : length xs + m ≡ n = cc in
        omega (arith, z, end_is_later (scan_of xs) ys m (not_ended Empty xs (sym (head_end-is xs) ∙ e)) is)

-- a head by itself ends at the same place
pub head_end-take : (xs : List ℕ) (n : ℕ) → head_end xs ≡ Some n → head_end (take n xs) ≡ Some n
head_end-take xs n e = from (head_end (take n xs)) refl
  where
    again : head_end (take n xs ++ drop n xs) ≡ Some n
    again = ap head_end (take-append-drop n xs) ∙ e

    from : (o : Option ℕ) → head_end (take n xs) ≡ o → o ≡ Some n
    from None f = absurd (omega (arith, head_end-later (take n xs) (drop n xs) n f again, length-take-le n xs (head_end-bound xs n e)))
    from (Some m) f = sym (head_end-append_some (take n xs) (drop n xs) m f) ∙ again

-- ---- what reading a piece says

pub joined-found : (scan : HeadScan) (taken piece : List ℕ) (o : Option ℕ) → scan ≡ scan_of taken → head_end taken ≡ None → o ≡ end_from scan piece
    → head_end (taken ++ piece) ≡ later (length taken) o
joined-found scan taken piece o e none is = head_end-append_none taken piece none ∙ ap (later (length taken)) (ap (λ s. end_from s piece) (sym e) ∙ sym is)

pub ended-moved : (scan : HeadScan) (rest : List ℕ) (all : HeadScan) → after_bytes scan rest ≡ all → has_ended scan ≡ true → scan ≡ all
ended-moved scan rest all moved h = sym (after_bytes-ended scan rest h) ∙ moved

pub end_from-ended : (scan : HeadScan) (rest : List ℕ) → has_ended scan ≡ true → end_from scan rest ≡ Some 0
end_from-ended scan [] h = rw h refl
end_from-ended scan (b ∷ bs) h = rw h refl

pub ended-found : (i : ℕ) (scan : HeadScan) (rest : List ℕ) (all : Option ℕ) → later i (end_from scan rest) ≡ all → has_ended scan ≡ true → Some i ≡ all
ended-found i scan rest all found h = ap Some (omega arith) ∙ ap (later i) (sym (end_from-ended scan rest h)) ∙ found

pub over-moved : (i : ℕ) (scan : HeadScan) (piece : List ℕ) (all : HeadScan) → length piece ≤ i → after_bytes scan (drop i piece) ≡ all → scan ≡ all
over-moved i scan piece all past moved = ap (after_bytes scan) (sym (drop_all i piece past)) ∙ moved

pub over-found : (i : ℕ) (scan : HeadScan) (piece : List ℕ) (all r : Option ℕ) → length piece ≤ i → i ≤ length piece → later i (end_from scan (drop i piece)) ≡ all
    → r ≡ then_some (has_ended scan) (length piece) → r ≡ all
over-found i scan piece all r past within found is = is ∙ from (has_ended scan) ∙ sym (ap (λ (t : List ℕ). later i (end_from scan t)) (drop_all i piece past)) ∙ found
  where
    from : (h : Bool) → then_some h (length piece) ≡ later i (if h then Some 0 else None)
    from true = ap Some (omega arith)
    from false = refl
