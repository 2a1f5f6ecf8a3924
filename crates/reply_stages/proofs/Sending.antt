-- What is sent of a reply, part by part.
use Rattle.std.proofs.Common.{◌≡◌, ℕ, ◌+◌, ◌<◌, List, [], ◌∷◌, length, take, get_or, Result, Ok, Err, IfOk, ap, ◌∙◌, append-nil, length-append}
use Rattle.std.specs.List.{concat}
use Rattle.std.proofs.lemmas.List.{take_more}
use Rattle.std.proofs.lemmas.List.Folds.{concat-append}
use Rattle.http_reply.specs.declared.heads.ReplyHead.{ReplyHead}
use Rattle.conf.specs.declared.routes.Route.{Route}
use Rattle.reply_stages.specs.declared.replies.Sent.{Sent}

-- what holds of an answer holds of one that is the same
pub if_same : {A E : Type 0} (r : Result A E) (x y : A) → x ≡ y → IfOk r (λ s. s ≡ x) → IfOk r (λ s. s ≡ y)
if_same (Ok s) x y e h = h ∙ e
if_same (Err e) x y same h = tt

-- the body and its length
pub own_is : {E : Type 0} (r : Result Sent E) (f : ℕ → List ℕ → Sent) (count : ℕ) (body own : List ℕ) → body ≡ own → count ≡ length body
    → IfOk r (λ s. s ≡ f count body) → IfOk r (λ s. s ≡ f (length own) own)
own_is r f count body own same counted h =
    if_same r (f count body) (f (length own) own) (ap (λ n. f n body) (counted ∙ ap length same) ∙ ap (f (length own)) same) h

-- the route for the same host and path
pub route_is : (f : List ℕ → List ℕ → Route) (route : Route) (host named path asked : List ℕ) → route ≡ f host path → host ≡ named → path ≡ asked → route ≡ f named asked
route_is f route host named path asked is same at = is ∙ ap (λ h. f h path) same ∙ ap (f named) at

-- the head, the body and its length
pub refused_is : {E : Type 0} (r : Result (List ℕ) E) (f : ReplyHead → ℕ → List ℕ → List ℕ) (head built : ReplyHead) (count : ℕ) (body own : List ℕ) → head ≡ built → body ≡ own
    → count ≡ length body → IfOk r (λ s. s ≡ f head count body) → IfOk r (λ s. s ≡ f built (length own) own)
refused_is r f head built count body own made same counted h =
    if_same r (f head count body) (f built (length own) own)
    (ap (λ x. f x count body) made ∙ ap (λ n. f built n body) (counted ∙ ap length same) ∙ ap (f built (length own)) same) h

-- one piece more
pub length-more : (pieces : List (List ℕ)) (i : ℕ) (d : List ℕ) → i < length pieces
    → length (concat (take (i + 1) pieces)) ≡ length (concat (take i pieces)) + length (get_or pieces i d)
length-more pieces i d inside =
    ap (λ xs. length (concat xs)) (take_more pieces i d inside) ∙ ap length (concat-append (take i pieces) (get_or pieces i d ∷ []))
    ∙ length-append (concat (take i pieces)) (concat (get_or pieces i d ∷ []))
    ∙ ap (λ n. length (concat (take i pieces)) + n) (ap length (append-nil (get_or pieces i d)))
