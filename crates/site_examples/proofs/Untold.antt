-- The history that leaves out the request does not tell the schedule.
use Rattle.std.proofs.Common.{◌≡◌, ℕ, List, [], ◌∷◌, ◌++◌, if◌then◌else◌, refl, ap, subst, ◌∙◌}
use Rattle.resty_base.specs.declared.names.Id.TheVariants as id
use Rattle.resty_world.specs.declared.event.Event.TheVariants as event
use Rattle.resty_world.specs.declared.entry.Entry.{Entry}
use Rattle.resty_world.specs.declared.entry.Entry.TheVariants as entry
use Rattle.resty_world.specs.declared.schedule_line.SchedLine.{SchedLine}
use Rattle.resty_world.specs.declared.schedule_line.SchedLine.TheVariants as line
use Rattle.schedule.specs.Steps.{Step, Passed, Answered, Listened, AskedAtBadLine, AskedAtEnd, AreSteps, IsAnswer, is_skipped, given_by, history_of, lines_of}
use Rattle.schedule.specs.Told.{IsTold}
use Rattle.resty_base.specs.BoolLaws.{clash, by_test}
use Rattle.site_examples.specs.Exchange.{at_second_1, arrives, asks, lines}
use Rattle.site_examples.specs.Spoiled.{not_asked}

-- lists that end in one element are equal part by part
some-last : (xs : List SchedLine) (x : SchedLine) → xs ++ x ∷ [] ≡ [] → ⊥
some-last [] x e = let f : x ∷ [] ≡ [] = e in cc
some-last (y ∷ xs) x e = let f : y ∷ (xs ++ x ∷ []) ≡ [] = e in cc

last-same : (xs ys : List SchedLine) (x y : SchedLine) → xs ++ x ∷ [] ≡ ys ++ y ∷ [] → (xs ≡ ys) × (x ≡ y)
last-same [] [] x y e = let f : x ∷ [] ≡ y ∷ [] = e in (refl, cc)
last-same [] (b ∷ ys) x y e =
    let f : x ∷ [] ≡ b ∷ (ys ++ y ∷ []) = e in
    let tail : ys ++ y ∷ [] ≡ [] = cc in
    absurd (some-last ys y tail)
last-same (a ∷ xs) [] x y e =
    let f : a ∷ (xs ++ x ∷ []) ≡ y ∷ [] = e in
    let tail : xs ++ x ∷ [] ≡ [] = cc in
    absurd (some-last xs x tail)
last-same (a ∷ xs) (b ∷ ys) x y e =
    let f : a ∷ (xs ++ x ∷ []) ≡ b ∷ (ys ++ y ∷ []) = e in
    let head : a ≡ b = cc in
    let tail : xs ++ x ∷ [] ≡ ys ++ y ∷ [] = cc in
    let rest = last-same xs ys x y tail in
    (ap (λ l. l ∷ xs) head ∙ ap (λ ls. b ∷ ls) rest.0, rest.1)

-- before the request, and with it
abbrev before : List SchedLine
before = line.Given at_second_1 ∷ line.Given arrives ∷ []

abbrev up_to_request : List SchedLine
up_to_request = line.Given at_second_1 ∷ line.Given arrives ∷ line.Given asks ∷ []

abbrev arrived : List Entry
arrived = entry.Given arrives ∷ entry.Given at_second_1 ∷ []

-- the client has arrived and its connection is open: the request is given
request-given : (h : List Entry) → given_by h (line.Given asks) ++ h ≡ arrived → ⊥
request-given h made = by_test (is_skipped h (line.Given asks))
    (λ on.
    let same : h ≡ arrived = subst (λ c. (if c then [] else entry.Given asks ∷ []) ++ h ≡ arrived) on made in
    clash on (ap (λ g. is_skipped g (line.Given asks)) same))
    (λ off.
    let same : entry.Given asks ∷ h ≡ entry.Given arrives ∷ entry.Given at_second_1 ∷ [] = subst (λ c. (if c then [] else entry.Given asks ∷ []) ++ h ≡ arrived) off made in
    cc)

asked-open : (schedule : List SchedLine) (steps : List Step) → AreSteps schedule steps → lines_of steps ≡ up_to_request → history_of steps ≡ arrived → ⊥
asked-open schedule [] right passed made = cc
asked-open schedule (Passed l ∷ steps) right passed made =
    let parts = last-same (lines_of steps) before l (line.Given asks) passed in
    request-given (history_of steps) (subst (λ k. given_by (history_of steps) k ++ history_of steps ≡ arrived) parts.1 made)
asked-open schedule (Answered e n ∷ steps) right passed made =
    let lists : e ∷ history_of steps ≡ entry.Given arrives ∷ entry.Given at_second_1 ∷ [] = made in
    let same : e ≡ entry.Given arrives = cc in
    subst (λ g. IsAnswer steps g n) same right.1.1
asked-open schedule (Listened port failed ∷ steps) right passed made = asked-open schedule steps right.0 passed made
asked-open schedule (AskedAtBadLine ∷ steps) right passed made = asked-open schedule steps right.0 passed made
asked-open schedule (AskedAtEnd ∷ steps) right passed made = asked-open schedule steps right.0 passed made

-- Stop comes after the request
stopped : (schedule : List SchedLine) (steps : List Step) → AreSteps schedule steps → lines_of steps ≡ lines → history_of steps ≡ entry.Given event.Stop ∷ arrived → ⊥
stopped schedule [] right passed made = cc
stopped schedule (Passed l ∷ steps) right passed made =
    let parts = last-same (lines_of steps) up_to_request l (line.Given event.Stop) passed in
    let lists : entry.Given event.Stop ∷ history_of steps ≡ entry.Given event.Stop ∷ arrived = subst (λ k. given_by (history_of steps) k ++ history_of steps ≡ entry.Given event.Stop ∷ arrived) parts.1 made in
    let tail : history_of steps ≡ arrived = cc in
    asked-open schedule steps right.0 parts.0 tail
stopped schedule (Answered e n ∷ steps) right passed made =
    let lists : e ∷ history_of steps ≡ entry.Given event.Stop ∷ arrived = made in
    let same : e ≡ entry.Given event.Stop = cc in
    subst (λ g. IsAnswer steps g n) same right.1.1
stopped schedule (Listened port failed ∷ steps) right passed made = stopped schedule steps right.0 passed made
stopped schedule (AskedAtBadLine ∷ steps) right passed made = stopped schedule steps right.0 passed made
stopped schedule (AskedAtEnd ∷ steps) right passed made = stopped schedule steps right.0 passed made

-- the connection is closed last, which is no event
closed : (schedule : List SchedLine) (steps : List Step) → AreSteps schedule steps → lines_of steps ≡ lines → history_of steps ≡ not_asked → ⊥
closed schedule [] right passed made = cc
closed schedule (Passed l ∷ steps) right passed made =
    let parts = last-same (lines_of steps) up_to_request l (line.Given event.Stop) passed in
    let lists : entry.Given event.Stop ∷ history_of steps ≡ entry.Close (id.Conn 1) ∷ entry.Given event.Stop ∷ arrived = subst (λ k. given_by (history_of steps) k ++ history_of steps ≡ not_asked) parts.1 made in
    cc
closed schedule (Answered e n ∷ steps) right passed made =
    let lists : e ∷ history_of steps ≡ entry.Close (id.Conn 1) ∷ entry.Given event.Stop ∷ arrived = made in
    let tail : history_of steps ≡ entry.Given event.Stop ∷ arrived = cc in
    stopped schedule steps right.0 passed tail
closed schedule (Listened port failed ∷ steps) right passed made = closed schedule steps right.0 passed made
closed schedule (AskedAtBadLine ∷ steps) right passed made = closed schedule steps right.0 passed made
closed schedule (AskedAtEnd ∷ steps) right passed made = closed schedule steps right.0 passed made

pub untold : (offered : List ℕ) → IsTold lines not_asked offered → ⊥
untold offered told = closed (lines ++ told.after) told.steps told.steps_right told.steps_lines told.steps_history
