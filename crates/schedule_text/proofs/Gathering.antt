-- How far the gathering of a history's events has come.
use Rattle.std.proofs.Common.{◌≡◌, ℕ, suc, ◌+◌, ◌<◌, ◌≤◌, Bool, false, get_or, List, [], ◌∷◌, length, take, reverse, refl, sym, ap, ◌∙◌, arith}
use Rattle.std.proofs.Math.Seq.{take-suc}
use Rattle.std.proofs.lemmas.List.{reverse-append, reverse-reverse, take_all}
use Rattle.resty_world.specs.declared.entry.Entry.{Entry}
use Rattle.resty_world.specs.declared.schedule_line.SchedLine.{SchedLine}
use Rattle.schedule_text.specs.Events.{given_lines, has_stopped, lines_after, present_after, present_in, stopped_after}

-- what was gathered of these entries, the newest first
pub record Gathered (history : List Entry) (lines : List SchedLine) (present : ℕ) (stopped : Bool) : Type 0 where
  pub lines_are : lines ≡ given_lines history
  pub present_is : present ≡ present_in history
  pub stopped_is : stopped ≡ has_stopped history

pub gathered-more : (history : List Entry) (e : Entry) (lines more : List SchedLine) (present now : ℕ) (stopped ended : Bool) → Gathered history lines present stopped
    → more ≡ lines_after e present lines → now ≡ present_after e present → ended ≡ stopped_after e stopped → Gathered (e ∷ history) more now ended
gathered-more history e lines more present now stopped ended before is_lines is_now is_ended = record {
  lines_are = is_lines ∙ ap (λ p. lines_after e p lines) before.present_is ∙ ap (lines_after e (present_in history)) before.lines_are;
  present_is = is_now ∙ ap (present_after e) before.present_is;
  stopped_is = is_ended ∙ ap (stopped_after e) before.stopped_is;
}

pub gathered-start : (lines : List SchedLine) → lines ≡ [] → Gathered (reverse (take 0 [])) lines 0 false
gathered-start lines none = record { lines_are = none; present_is = refl; stopped_is = refl }

-- the entries up to an index, the newest first, with one more
pub one-more : (xs : List Entry) (i : ℕ) (e : Entry) → i < length xs → e ≡ get_or xs i e → reverse (take (i + 1) xs) ≡ e ∷ reverse (take i xs)
one-more xs i e within is =
    ap reverse (ap (λ n. take n xs) (let s : i + 1 ≡ suc i = omega arith in s) ∙ take-suc xs i e within) ∙ reverse-append (take i xs) (get_or xs i e ∷ [])
    ∙ ap (λ x. x ∷ reverse (take i xs)) (sym is)

-- all of them
pub all-gathered : (history : List Entry) (i : ℕ) → length (reverse history) ≤ i → reverse (take i (reverse history)) ≡ history
all-gathered history i over = ap reverse (take_all i (reverse history) over) ∙ reverse-reverse history
