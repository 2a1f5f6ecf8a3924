-- Where '%b' matches, from the suffixes of a text.
use Rattle.std.proofs.Common.{◌≡◌, ℕ, zero, suc, ◌+◌, ◌-◌, ◌<◌, ◌≤◌, min, true, false, List, [], ◌∷◌, ◌++◌, length, get_or, drop, Option, Some, None, refl, sym, ◌∙◌, ap, arith, subst, Ok, Err, nat_cmp, drop-cons, eq-eqb, ◌⊎◌, inl, inr, ◌^◌, length-drop}
use Rattle.std.specs.Prelude.{◌==◌, if◌then◌else◌}
use Rattle.std.proofs.lemmas.Bool.{ne_eqb, cases_lt}
use Rattle.std.proofs.lemmas.List.{drop_all, length-append}
use Rattle.std.proofs.lemmas.Option.{slice_get-get_or, slice_get_within, get_or_from_slice_get}
use Rattle.std.proofs.lemmas.List.Sorted.{searched}
use Rattle.std.specs.List.{slice_get}
use Rattle.std.specs.List.Sorted.{IsBinarySearchResult}
use Rattle.std.specs.Option.{MatchOption}
use Rattle.std.proofs.Math.ListN.{get_or-append}
use Rattle.std.proofs.Math.Seq.{get_or-append_seam}
use Rattle.lua_patterns.specs.Trails.{closing_len, balanced_len, one_more}
use Rattle.lua_patterns.specs.declared.balance.Pair.{Pair}
use Rattle.lua_patterns.specs.Balance.{AreWaiting, AreMatches, IsRightOf, AreRight}

within_more : (found : Option ℕ) (n l : ℕ) → one_more found ≡ Some n → ((m : ℕ) → found ≡ Some m → m ≤ l) → n ≤ suc l
within_more None n l is known = cc
within_more (Some m) n l is known =
    let same : m + 1 ≡ n = cc in omega (arith, same, known m refl)

-- no length passes the text's
pub closing_within : (o c d : ℕ) (text : List ℕ) (n : ℕ) → closing_len o c d text ≡ Some n → n ≤ length text
unfolding closing_len
closing_within o c d [] n is = cc
closing_within o c zero (x ∷ xs) n is =
    (elim (x == c) as (λ t. (if t then Some 1 else one_more (closing_len o c (if x == o then 1 else 0) xs)) ≡ Some n → n ≤ length (x ∷ xs)) [
      | true ↦ (λ one. let same : 1 ≡ n = cc in omega (arith, same))
      | false ↦ (λ more. within_more (closing_len o c (if x == o then 1 else 0) xs) n (length xs) more (closing_within o c (if x == o then 1 else 0) xs))
    ]) is
closing_within o c (suc d) (x ∷ xs) n is =
    within_more (closing_len o c (if x == c then d else if x == o then suc (suc d) else suc d) xs) n (length xs) is
    (closing_within o c (if x == c then d else if x == o then suc (suc d) else suc d) xs)

-- a byte in front of a text
closes_first : (o c x : ℕ) (text : List ℕ) → x ≡ c → closing_len o c 0 (x ∷ text) ≡ Some 1
unfolding closing_len
closes_first o c x text is = rw (eq-eqb x c is) refl

closes_later : (o c x n : ℕ) (text : List ℕ) → x ≡ c → closing_len o c (suc n) (x ∷ text) ≡ one_more (closing_len o c n text)
unfolding closing_len
closes_later o c x n text is = rw (eq-eqb x c is) refl

opens : (o c x n : ℕ) (text : List ℕ) → (x ≡ c → ⊥) → x ≡ o → closing_len o c n (x ∷ text) ≡ one_more (closing_len o c (suc n) text)
unfolding closing_len
opens o c x zero text other is = rw (ne_eqb x c other, eq-eqb x o is) refl
opens o c x (suc n) text other is = rw (ne_eqb x c other, eq-eqb x o is) refl

passes : (o c x n : ℕ) (text : List ℕ) → (x ≡ c → ⊥) → (x ≡ o → ⊥) → closing_len o c n (x ∷ text) ≡ one_more (closing_len o c n text)
unfolding closing_len
passes o c x zero text other another = rw (ne_eqb x c other, ne_eqb x o another) refl
passes o c x (suc n) text other another = rw (ne_eqb x c other, ne_eqb x o another) refl

-- what stands last, and what stood before it
at_seam : (xs : List ℕ) (y i : ℕ) → i ≡ length xs → get_or (xs ++ y ∷ []) i 0 ≡ y
at_seam xs y i is = ap (λ k. get_or (xs ++ y ∷ []) k 0) is ∙ get_or-append_seam xs y [] 0

before_seam : (xs : List ℕ) (y i j : ℕ) → i ≡ j → j < length xs → get_or (xs ++ y ∷ []) i 0 ≡ get_or xs j 0
before_seam xs y i j is within = ap (λ k. get_or (xs ++ y ∷ []) k 0) is ∙ get_or-append xs (y ∷ []) 0 j within

-- a closing byte waits
pushed_within : (s l : ℕ) (ends : List ℕ) → s ≤ suc l → ((i : ℕ) → i < length ends → get_or ends i 0 ≤ l)
    → (i : ℕ) → i < length (ends ++ s ∷ []) → (i < length ends) ⊎ (length ends ≤ i) → get_or (ends ++ s ∷ []) i 0 ≤ suc l
pushed_within s l ends most within i less (inl inner) = omega (arith, before_seam ends s i i refl inner, within i inner)
pushed_within s l ends most within i less (inr last) =
    let at : i ≡ length ends = omega (arith, less, last, length-append ends (s ∷ [])) in omega (arith, at_seam ends s i at, most)

closes_answered : (o c x s : ℕ) (text ends : List ℕ) → s ≡ length text + 1 → x ≡ c → AreWaiting o c text ends
    → (n : ℕ) → n < length (ends ++ s ∷ []) → closing_len o c n (x ∷ text) ≡ Some (length (x ∷ text) - get_or (ends ++ s ∷ []) (length (ends ++ s ∷ []) - n - 1) 0 + 1)
closes_answered o c x s text ends size is are zero less =
    let last : length (ends ++ s ∷ []) - zero - 1 ≡ length ends = omega (arith, length-append ends (s ∷ [])) in
    closes_first o c x text is ∙ ap Some (omega (arith, size, at_seam ends s (length (ends ++ s ∷ []) - zero - 1) last))
closes_answered o c x s text ends size is are (suc n) less =
    let index : length (ends ++ s ∷ []) - suc n - 1 ≡ length ends - n - 1 = omega (arith, length-append ends (s ∷ [])) in
    let inner : n < length ends = omega (arith, length-append ends (s ∷ []), less) in
    let first : length ends - n - 1 < length ends = omega (arith, inner) in
    closes_later o c x n text is ∙ ap one_more (are.answered n inner)
    ∙ ap Some (omega (arith, are.within (length ends - n - 1) first, before_seam ends s (length (ends ++ s ∷ []) - suc n - 1) (length ends - n - 1) index first))

closes_unanswered : (o c x s : ℕ) (text ends : List ℕ) → x ≡ c → AreWaiting o c text ends
    → (n : ℕ) → length (ends ++ s ∷ []) ≤ n → closing_len o c n (x ∷ text) ≡ None
closes_unanswered o c x s text ends is are zero most = absurd (omega (arith, length-append ends (s ∷ []), most))
closes_unanswered o c x s text ends is are (suc n) most =
    closes_later o c x n text is ∙ ap one_more (are.unanswered n (omega (arith, length-append ends (s ∷ []), most)))

pub wait_closes : (o c x s : ℕ) (text ends new : List ℕ) → s ≡ length text + 1 → x ≡ c → new ≡ ends ++ s ∷ [] → AreWaiting o c text ends → AreWaiting o c (x ∷ text) new
wait_closes o c x s text ends new size is put are = rw put (record {
  within = λ i less. pushed_within s (length text) ends (omega (arith, size)) are.within i less (cases_lt i (length ends));
  answered = closes_answered o c x s text ends size is are;
  unanswered = closes_unanswered o c x s text ends is are;
})

pub popped_len : (taken : Option ℕ) (before after : ℕ) → MatchOption taken ((before ≡ 0) × (after ≡ 0)) (λ _. after + 1 ≡ before) → after ≡ before - 1
popped_len None before after both = omega (arith, both.0, both.1)
popped_len (Some e) before after fewer = omega (arith, fewer)

-- an opening byte takes the one that waits nearest
pub wait_opens : (o c x : ℕ) (text ends new rest : List ℕ) → (x ≡ c → ⊥) → x ≡ o → ends ≡ new ++ rest → length new ≡ length ends - 1
    → AreWaiting o c text ends → AreWaiting o c (x ∷ text) new
wait_opens o c x text ends new rest other is parts shorter are =
    let same : (i : ℕ) → i < length new → get_or new i 0 ≡ get_or ends i 0 = λ i less. sym (ap (λ l. get_or l i 0) parts ∙ get_or-append new rest 0 i less) in
    record {
      within = λ i less. omega (arith, same i less, are.within i (omega (arith, less, shorter)));
      answered = λ n less.
          let inner : suc n < length ends = omega (arith, less, shorter) in
          let index : length ends - suc n - 1 ≡ length new - n - 1 = omega (arith, shorter) in
          let first : length new - n - 1 < length new = omega (arith, less) in
          let found : get_or ends (length ends - suc n - 1) 0 ≡ get_or new (length new - n - 1) 0 = ap (λ k. get_or ends k 0) index ∙ sym (same (length new - n - 1) first) in
          let below : get_or ends (length ends - suc n - 1) 0 ≤ length text = are.within (length ends - suc n - 1) (omega (arith, inner)) in
          opens o c x n text other is ∙ ap one_more (are.answered (suc n) inner) ∙ ap Some (omega (arith, found, below));
      unanswered = λ n most. opens o c x n text other is ∙ ap one_more (are.unanswered (suc n) (omega (arith, shorter, most)));
    }

-- any other byte leaves them as they are
pub wait_passes : (o c x : ℕ) (text ends : List ℕ) → (x ≡ c → ⊥) → (x ≡ o → ⊥) → AreWaiting o c text ends → AreWaiting o c (x ∷ text) ends
wait_passes o c x text ends other another are = record {
  within = λ i less. omega (arith, are.within i less);
  answered = λ n less.
      let below : get_or ends (length ends - n - 1) 0 ≤ length text = are.within (length ends - n - 1) (omega (arith, less)) in
      passes o c x n text other another ∙ ap one_more (are.answered n less) ∙ ap Some (omega (arith, below));
  unanswered = λ n most. passes o c x n text other another ∙ ap one_more (are.unanswered n most);
}

-- nothing waits in an empty text
pub wait_none : (o c : ℕ) (text ends : List ℕ) → length text ≡ 0 → ends ≡ [] → AreWaiting o c text ends
unfolding closing_len
wait_none o c [] ends empty none = rw none (record { within = λ i less. absurd (omega (arith, less)); answered = λ n less. absurd (omega (arith, less)); unanswered = λ n most. refl })
wait_none o c (x ∷ xs) ends empty none = absurd (omega (arith, empty))

-- what stands after a byte more
drop_front : (x k : ℕ) (text : List ℕ) → k ≤ length text → drop (length (x ∷ text) - k) (x ∷ text) ≡ drop (length text - k) text
drop_front x k text within =
    let index : length (x ∷ text) - k ≡ suc (length text - k) = omega (arith, within) in rw index refl

whole_front : (x k : ℕ) (text : List ℕ) → k ≡ suc (length text) → drop (length (x ∷ text) - k) (x ∷ text) ≡ x ∷ text
whole_front x k text is =
    let index : length (x ∷ text) - k ≡ 0 = omega (arith, is) in rw index refl

-- where nothing matches at the front
front_elsewhere : (o c x : ℕ) (text suffixes lens : List ℕ) → balanced_len o c (x ∷ text) ≡ None → AreMatches o c text suffixes lens
    → (k : ℕ) → k ≤ length (x ∷ text) → ((i : ℕ) → i < length suffixes → get_or suffixes i 0 ≡ k → ⊥) → (k < suc (length text)) ⊎ (suc (length text) ≤ k)
    → balanced_len o c (drop (length (x ∷ text) - k) (x ∷ text)) ≡ None
front_elsewhere o c x text suffixes lens none are k within other (inl inner) =
    ap (balanced_len o c) (drop_front x k text (omega (arith, inner))) ∙ are.elsewhere k (omega (arith, inner)) other
front_elsewhere o c x text suffixes lens none are k within other (inr most) =
    ap (balanced_len o c) (whole_front x k text (omega (arith, within, most))) ∙ none

pub reach_none : (o c x : ℕ) (text suffixes lens : List ℕ) → balanced_len o c (x ∷ text) ≡ None → AreMatches o c text suffixes lens → AreMatches o c (x ∷ text) suffixes lens
reach_none o c x text suffixes lens none are = record {
  both = are.both;
  rising = are.rising;
  within = λ i less. omega (arith, are.within i less);
  taken = λ i less. ap (balanced_len o c) (drop_front x (get_or suffixes i 0) text (are.within i less)) ∙ are.taken i less;
  elsewhere = λ k within other. front_elsewhere o c x text suffixes lens none are k within other (cases_lt k (suc (length text)));
}

-- the one that waits nearest
pub last_none : (ends : List ℕ) → slice_get ends (length ends - 1) ≡ None → length ends ≡ 0
last_none [] none = refl
last_none (x ∷ xs) none =
    let some = slice_get-get_or (x ∷ xs) (length (x ∷ xs) - 1) 0 (omega arith) in cc

pub last_some : (ends : List ℕ) (e : ℕ) → slice_get ends (length ends - 1) ≡ Some e → (0 < length ends) × (get_or ends (length ends - 1) 0 ≡ e)
last_some ends e found = (omega (arith, slice_get_within ends (length ends - 1) e found), get_or_from_slice_get ends (length ends - 1) e 0 found)

-- one match more, at the front
module _ (o c x r s : ℕ) (text suffixes lens : List ℕ) (size : s ≡ length text + 1) (takes : balanced_len o c (x ∷ text) ≡ Some r) (are : AreMatches o c text suffixes lens) where
  more_within : (i : ℕ) → i < length (suffixes ++ s ∷ []) → (i < length suffixes) ⊎ (length suffixes ≤ i) → get_or (suffixes ++ s ∷ []) i 0 ≤ length (x ∷ text)
  more_within i less (inl inner) = omega (arith, before_seam suffixes s i i refl inner, are.within i inner)
  more_within i less (inr most) =
      let last : i ≡ length suffixes = omega (arith, less, most, length-append suffixes (s ∷ [])) in omega (arith, at_seam suffixes s i last, size)

  more_rising : (i j : ℕ) → i ≤ j → j < length (suffixes ++ s ∷ []) → (i < length suffixes) ⊎ (length suffixes ≤ i) → (j < length suffixes) ⊎ (length suffixes ≤ j)
      → get_or (suffixes ++ s ∷ []) i 0 ≤ get_or (suffixes ++ s ∷ []) j 0
  more_rising i j up less (inl one) (inl other) =
      omega (arith, before_seam suffixes s i i refl one, before_seam suffixes s j j refl other, are.rising i j up other)
  more_rising i j up less (inl one) (inr most) =
      let last : j ≡ length suffixes = omega (arith, less, most, length-append suffixes (s ∷ [])) in
      omega (arith, before_seam suffixes s i i refl one, at_seam suffixes s j last, are.within i one, size)
  more_rising i j up less (inr first) (inl other) = absurd (omega (arith, up, first, other))
  more_rising i j up less (inr first) (inr most) =
      let same : i ≡ length suffixes = omega (arith, up, less, first, length-append suffixes (s ∷ [])) in
      let last : j ≡ length suffixes = omega (arith, less, most, length-append suffixes (s ∷ [])) in
      omega (arith, at_seam suffixes s i same, at_seam suffixes s j last)

  more_taken : (i : ℕ) → i < length (suffixes ++ s ∷ []) → (i < length suffixes) ⊎ (length suffixes ≤ i)
      → balanced_len o c (drop (length (x ∷ text) - get_or (suffixes ++ s ∷ []) i 0) (x ∷ text)) ≡ Some (get_or (lens ++ r ∷ []) i 0)
  more_taken i less (inl inner) =
      let index = before_seam suffixes s i i refl inner in
      let len = before_seam lens r i i refl (omega (arith, are.both, inner)) in
      ap (λ k. balanced_len o c (drop (length (x ∷ text) - k) (x ∷ text))) index ∙ ap (balanced_len o c) (drop_front x (get_or suffixes i 0) text (are.within i inner))
      ∙ are.taken i inner ∙ ap Some (sym len)
  more_taken i less (inr most) =
      let last : i ≡ length suffixes = omega (arith, less, most, length-append suffixes (s ∷ [])) in
      let beside : i ≡ length lens = omega (arith, last, are.both) in
      let whole : s ≡ suc (length text) = omega (arith, size) in
      ap (λ k. balanced_len o c (drop (length (x ∷ text) - k) (x ∷ text))) (at_seam suffixes s i last) ∙ ap (balanced_len o c) (whole_front x s text whole)
      ∙ takes ∙ ap Some (sym (at_seam lens r i beside))

  more_elsewhere : (k : ℕ) → k ≤ length (x ∷ text) → ((i : ℕ) → i < length (suffixes ++ s ∷ []) → get_or (suffixes ++ s ∷ []) i 0 ≡ k → ⊥) → (k < suc (length text)) ⊎ (suc (length text) ≤ k)
      → balanced_len o c (drop (length (x ∷ text) - k) (x ∷ text)) ≡ None
  more_elsewhere k within other (inl inner) =
      ap (balanced_len o c) (drop_front x k text (omega (arith, inner)))
      ∙ are.elsewhere k (omega (arith, inner)) (λ i less is. other i (omega (arith, less, length-append suffixes (s ∷ []))) (before_seam suffixes s i i refl less ∙ is))
  more_elsewhere k within other (inr most) =
      let whole : s ≡ k = omega (arith, size, within, most) in
      absurd (other (length suffixes) (omega (arith, length-append suffixes (s ∷ []))) (at_seam suffixes s (length suffixes) refl ∙ whole))

  more : AreMatches o c (x ∷ text) (suffixes ++ s ∷ []) (lens ++ r ∷ [])
  more = record {
    both = omega (arith, are.both, length-append suffixes (s ∷ []), length-append lens (r ∷ []));
    rising = λ i j up less. more_rising i j up less (cases_lt i (length suffixes)) (cases_lt j (length suffixes));
    within = λ i less. more_within i less (cases_lt i (length suffixes));
    taken = λ i less. more_taken i less (cases_lt i (length suffixes));
    elsewhere = λ k within other. more_elsewhere k within other (cases_lt k (suc (length text)));
  }

-- what '%b' takes at a byte in front
takes_first : (o c x : ℕ) (text : List ℕ) → x ≡ o → balanced_len o c (x ∷ text) ≡ one_more (closing_len o c 0 text)
takes_first o c x text is = rw (eq-eqb x o is) refl

pub takes_none : (o c x : ℕ) (text ends : List ℕ) → x ≡ o → length ends ≡ 0 → AreWaiting o c text ends → balanced_len o c (x ∷ text) ≡ None
takes_none o c x text ends is none are = takes_first o c x text is ∙ ap one_more (are.unanswered 0 (omega (arith, none)))

pub takes_other : (o c x : ℕ) (text : List ℕ) → (x ≡ o → ⊥) → balanced_len o c (x ∷ text) ≡ None
takes_other o c x text other = rw (ne_eqb x o other) refl

pub reach_more : (o c x s e q r : ℕ) (text ends suffixes lens new beside : List ℕ) → s ≡ length text + 1 → length text < 2 ^ 63 → x ≡ o → 0 < length ends → get_or ends (length ends - 1) 0 ≡ e
    → q ≡ s - e → r ≡ min (q + 1) 18446744073709551615 → new ≡ suffixes ++ s ∷ [] → beside ≡ lens ++ r ∷ []
    → AreWaiting o c text ends → AreMatches o c text suffixes lens → AreMatches o c (x ∷ text) new beside
reach_more o c x s e q r text ends suffixes lens new beside size small is some last less sum put put_beside waiting are =
    let index : length ends - 0 - 1 ≡ length ends - 1 = omega arith in
    let end : get_or ends (length ends - 0 - 1) 0 ≡ e = ap (λ k. get_or ends k 0) index ∙ last in
    let below : get_or ends (length ends - 0 - 1) 0 ≤ length text = waiting.within (length ends - 0 - 1) (omega (arith, some)) in
    let takes : balanced_len o c (x ∷ text) ≡ Some r = takes_first o c x text is ∙ ap one_more (waiting.answered 0 some) ∙ ap Some (omega (arith, size, small, end, below, less, sum)) in
    rw (put, put_beside) (more o c x r s text suffixes lens size takes are)

-- nothing matches in an empty text
pub reach_empty : (o c : ℕ) (text suffixes lens : List ℕ) → length text ≡ 0 → suffixes ≡ [] → lens ≡ [] → AreMatches o c text suffixes lens
reach_empty o c [] suffixes lens empty none none_beside = rw (none, none_beside) (record {
  both = refl;
  rising = λ i j up less. absurd (omega (arith, less));
  within = λ i less. absurd (omega (arith, less));
  taken = λ i less. absurd (omega (arith, less));
  elsewhere = λ k within other. (let zero_only : k ≡ 0 = omega (arith, within) in rw zero_only refl);
})
reach_empty o c (x ∷ xs) suffixes lens empty none none_beside = absurd (omega (arith, empty))

-- one step towards the front of a subject
pub front_of : (subject : List ℕ) (left : ℕ) → 0 < left → left ≤ length subject → drop (left - 1) subject ≡ get_or subject (left - 1) 0 ∷ drop left subject
front_of subject left some within =
    let next : suc (left - 1) ≡ left = omega (arith, some) in
    let first : left - 1 < length subject = omega (arith, some, within) in
    drop-cons subject (left - 1) 0 first ∙ ap (λ k. get_or subject (left - 1) 0 ∷ drop k subject) next

-- no length passes the text's
balanced_within : (o c : ℕ) (text : List ℕ) (n : ℕ) → balanced_len o c text ≡ Some n → n ≤ length text
balanced_within o c [] n is = cc
balanced_within o c (x ∷ xs) n is =
    (elim (x == o) as (λ t. (if t then one_more (closing_len o c 0 xs) else None) ≡ Some n → n ≤ length (x ∷ xs)) [
      | true ↦ (λ more. within_more (closing_len o c 0 xs) n (length xs) more (closing_within o c 0 xs))
      | false ↦ (λ none. cc)
    ]) is

-- what a search among the suffixes says
pub search_found : (looked suffixes : List ℕ) (s at : ℕ) → looked ≡ suffixes → IsBinarySearchResult (λ y. nat_cmp y s) looked (Ok at)
    → ((i j : ℕ) → i ≤ j → j < length suffixes → get_or suffixes i 0 ≤ get_or suffixes j 0) → (at < length suffixes) × (get_or suffixes at 0 ≡ s)
search_found looked suffixes s at same answer up = searched suffixes s (Ok at) (subst (λ l. IsBinarySearchResult (λ y. nat_cmp y s) l (Ok at)) same answer) up

pub search_missed : (looked suffixes : List ℕ) (s at : ℕ) → looked ≡ suffixes → IsBinarySearchResult (λ y. nat_cmp y s) looked (Err at)
    → ((i j : ℕ) → i ≤ j → j < length suffixes → get_or suffixes i 0 ≤ get_or suffixes j 0)
    → ((k : ℕ) → k < at → get_or suffixes k 0 < s) × ((k : ℕ) → at ≤ k → k < length suffixes → s < get_or suffixes k 0)
search_missed looked suffixes s at same answer up =
    let all = searched suffixes s (Err at) (subst (λ l. IsBinarySearchResult (λ y. nat_cmp y s) l (Err at)) same answer) up in (all.1, all.2)

-- what is known of an index
index_of : (subject : List ℕ) (index s : ℕ) → s ≡ length subject - index → index ≤ length subject → length subject - s ≡ index
index_of subject index s is within = omega (arith, is, within)

pub known_some : (o c index s at : ℕ) (subject suffixes lens : List ℕ) → AreMatches o c subject suffixes lens → s ≡ length subject - index → index ≤ length subject
    → at < length suffixes → get_or suffixes at 0 ≡ s → Some (get_or lens at 0) ≡ balanced_len o c (drop index subject)
known_some o c index s at subject suffixes lens are is within inside same =
    sym (ap (λ k. balanced_len o c (drop k subject)) (sym (ap (λ k. length subject - k) same ∙ index_of subject index s is within)) ∙ are.taken at inside)

pub known_within : (o c index s at : ℕ) (subject suffixes lens : List ℕ) → AreMatches o c subject suffixes lens → s ≡ length subject - index → index ≤ length subject
    → length subject < 2 ^ 64 → at < length suffixes → get_or suffixes at 0 ≡ s → index + get_or lens at 0 < 2 ^ 64
known_within o c index s at subject suffixes lens are is within small inside same =
    let least = balanced_within o c (drop index subject) (get_or lens at 0) (sym (known_some o c index s at subject suffixes lens are is within inside same)) in
    omega (arith, least, length-drop index subject, within, small)

pub known_none : (o c index s at : ℕ) (subject suffixes lens : List ℕ) → AreMatches o c subject suffixes lens → s ≡ length subject - index → index ≤ length subject
    → ((k : ℕ) → k < at → get_or suffixes k 0 < s) → ((k : ℕ) → at ≤ k → k < length suffixes → s < get_or suffixes k 0) → None ≡ balanced_len o c (drop index subject)
known_none o c index s at subject suffixes lens are is within before after =
    sym (ap (λ k. balanced_len o c (drop k subject)) (sym (index_of subject index s is within))
    ∙ are.elsewhere s (omega (arith, is)) (λ i less same. apart i less same (cases_lt i at)))
  where
    apart : (i : ℕ) → i < length suffixes → get_or suffixes i 0 ≡ s → (i < at) ⊎ (at ≤ i) → ⊥
    apart i less same (inl first) = omega (arith, same, before i first)
    apart i less same (inr last) = omega (arith, same, after i last less)

pub known_beyond : (o c : ℕ) (subject : List ℕ) (index : ℕ) → length subject < index → None ≡ balanced_len o c (drop index subject)
known_beyond o c subject index after = rw (drop_all index subject (omega (arith, after))) refl

-- nothing is kept yet
pub no_pairs : (subject : List ℕ) (pairs : List Pair) → pairs ≡ [] → AreRight subject pairs
no_pairs subject pairs none = λ i d within. absurd (omega (arith, ap length none, within))

-- one pair more
more_right_at : (subject : List ℕ) (pairs : List Pair) (pair : Pair) → AreRight subject pairs → IsRightOf subject pair
    → (i : ℕ) (d : Pair) → i < length (pairs ++ pair ∷ []) → (i < length pairs) ⊎ (length pairs ≤ i) → IsRightOf subject (get_or (pairs ++ pair ∷ []) i d)
more_right_at subject pairs pair are is i d less (inl inner) = subst (IsRightOf subject) (sym (get_or-append pairs (pair ∷ []) d i inner)) (are i d inner)
more_right_at subject pairs pair are is i d less (inr most) =
    let last : i ≡ length pairs = omega (arith, less, most, length-append pairs (pair ∷ [])) in
    subst (IsRightOf subject) (sym (ap (λ k. get_or (pairs ++ pair ∷ []) k d) last ∙ get_or-append_seam pairs pair [] d)) is

pub more_right : (subject : List ℕ) (pairs new : List Pair) (pair : Pair) → new ≡ pairs ++ pair ∷ [] → AreRight subject pairs → IsRightOf subject pair → AreRight subject new
more_right subject pairs new pair put are is = rw put (λ i d less. more_right_at subject pairs pair are is i d less (cases_lt i (length pairs)))
