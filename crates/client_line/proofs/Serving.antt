-- The requests that come of pieces are those of the bytes joined, and there is one list of them.
use Rattle.std.specs.Prelude.{Option, Some, None}
use Rattle.std.specs.List.{concat}
use Rattle.std.proofs.Common.{◌≡◌, ◌≢◌, ℕ, inl, inr, List, [], ◌∷◌, ◌++◌, drop, refl, sym, ap, subst, ◌∙◌, append-nil}
use Rattle.uri_args.specs.declared.targets.Target.{Target}
use Rattle.http_in.specs.declared.heads.Head as heads
use Rattle.http_in.specs.Ends.{head_end}
use Rattle.http_in.proofs.Answers.{one-answer}
use Rattle.http_bodies.specs.declared.states.BodyState.{BodyState}
use Rattle.http_bodies.specs.declared.states.BodyState.TheVariants as state
use Rattle.http_bodies.specs.Bodies.{begun_state}
use Rattle.http_bodies.specs.Skips.{no_limit}
use Rattle.client_line.specs.declared.requests.LineOut.{LineOut}
use Rattle.client_line.specs.declared.requests.LineOut.TheVariants as out
use Rattle.client_line.specs.Requests.{answer_to, IsOf}
use Rattle.client_line.specs.Records.{At, Came, Head, Present, Dropping, Over}
use Rattle.client_line.specs.Lines.{came_at, after_body, drops, settled, answer_dropping, after_head, LeadsAt, IsFed, done}
use Rattle.client_line.specs.Messages.{Request, body_state, body_length, HasHead, AreRequests}
use Rattle.client_line.specs.Serving.{IsNoRequest, Serves}
use Rattle.client_line.specs.Readings.{ReadsAt, ReadsCame, ReadsOn, IsPresent}
use Rattle.client_line.proofs.Feeds.{drops-on, joined, stays, ends, after-on}

-- ---- an answer that is no request

-- the last one
ends-so : (at : At) (held : List ℕ) (answer : LineOut) (after : Came) → LeadsAt at held answer after → IsNoRequest answer → ReadsAt at held [] answer
ends-so Head held answer after led plain =
    elim plain [
      | inl w ↦ subst (λ (a : LineOut). AreRequests held [] a) (sym w) (AreRequests.waits (subst (λ (a : LineOut). IsOf held a) w led.0))
      | inr w ↦ subst (λ (a : LineOut). AreRequests held [] a) (sym w.1) (AreRequests.refused (subst (λ (a : LineOut). IsOf held a) w.1 led.0))
    ]
ends-so (Present body kind skips) held answer after led plain = (refl, led.0)
ends-so (Dropping far) held answer after led plain = (refl, led.0)
ends-so (Over code) held answer after led plain = (refl, led.0)

-- with more bytes
head-goes-on : (held ys : List ℕ) (requests : List Request) (between answer : LineOut) (after : Came) → LeadsAt Head held between after → IsNoRequest between
    → ReadsOn after ys requests answer → AreRequests (held ++ ys) requests answer
head-goes-on held ys requests out.Waiting answer after led plain more = subst (λ (k : Came). ReadsOn k ys requests answer) led.1 more
head-goes-on held ys requests out.Memory answer after led plain more = subst (λ (k : Came). ReadsOn k ys requests answer) led.1 more
head-goes-on held ys requests (out.Refused code) answer after led plain more =
    let over : (requests ≡ []) × (answer ≡ out.Refused code) = subst (λ (k : Came). ReadsOn k ys requests answer) led.1 more in
    let is : IsOf (held ++ ys) (out.Refused code) = stays held ys (out.Refused code) (λ e. let f : out.Refused code ≡ out.Waiting = e in cc) led.0 in
    subst (λ (r : List Request). AreRequests (held ++ ys) r answer) (sym over.0) (subst (λ (a : LineOut). AreRequests (held ++ ys) [] a) (sym over.1) (AreRequests.refused is))
head-goes-on held ys requests (out.Request head target) answer after led plain more =
    absurd (elim plain [
      | inl w ↦ let f : out.Request head target ≡ out.Waiting = w in cc
      | inr w ↦ let f : out.Request head target ≡ out.Refused w.0 = w.1 in cc
    ])

goes-on : (at : At) (held ys : List ℕ) (requests : List Request) (between answer : LineOut) (after : Came) → LeadsAt at held between after → IsNoRequest between
    → ReadsOn after ys requests answer → ReadsOn (came_at at held) ys requests answer
goes-on Head held ys requests between answer after led plain more = head-goes-on held ys requests between answer after led plain more
goes-on (Present body kind skips) held ys requests between answer after led plain more = subst (λ (k : Came). ReadsOn k ys requests answer) led.1 more
goes-on (Dropping far) held ys requests between answer after led plain more = subst (λ (k : Came). ReadsOn k ys requests answer) led.1 more
goes-on (Over code) held ys requests between answer after led plain more = subst (λ (k : Came). ReadsOn k ys requests answer) led.1 more

-- ---- a request

-- with its body, and what is read after it
body-read : (all bytes : List ℕ) (request : Request) (requests : List Request) (answer : LineOut) → HasHead all request bytes
    → ReadsCame (drops (begun_state request.head.body no_limit) bytes) requests answer → AreRequests all (request ∷ requests) answer
body-read all bytes request requests answer is = from (body_state request bytes) refl
  where
    open-body : (s : BodyState) → body_state request bytes ≡ s → s ≢ state.Whole → (requests ≡ []) × (answer ≡ answer_dropping s) → AreRequests all (request ∷ requests) answer
    open-body s e not read =
        let begun : AreRequests all (request ∷ []) (answer_dropping (body_state request bytes)) = AreRequests.begun is (λ w. not (sym e ∙ w)) in
        let answered : AreRequests all (request ∷ []) answer = subst (λ (a : LineOut). AreRequests all (request ∷ []) a) (ap answer_dropping e ∙ sym read.1) begun in
        subst (λ (r : List Request). AreRequests all (request ∷ r) answer) (sym read.0) answered

    from : (s : BodyState) → body_state request bytes ≡ s → ReadsCame (after_body s (drop (body_length request bytes) bytes)) requests answer → AreRequests all (request ∷ requests) answer
    from (state.Data more of) e read = open-body (state.Data more of) e (λ f. let g : state.Data more of ≡ state.Whole = f in cc) read
    from (state.Digits size n) e read = open-body (state.Digits size n) e (λ f. let g : state.Digits size n ≡ state.Whole = f in cc) read
    from (state.Blanks size n) e read = open-body (state.Blanks size n) e (λ f. let g : state.Blanks size n ≡ state.Whole = f in cc) read
    from (state.Extension size n) e read = open-body (state.Extension size n) e (λ f. let g : state.Extension size n ≡ state.Whole = f in cc) read
    from (state.Return size n) e read = open-body (state.Return size n) e (λ f. let g : state.Return size n ≡ state.Whole = f in cc) read
    from state.DataEnd e read = open-body state.DataEnd e (λ f. let g : state.DataEnd ≡ state.Whole = f in cc) read
    from state.DataReturn e read = open-body state.DataReturn e (λ f. let g : state.DataReturn ≡ state.Whole = f in cc) read
    from (state.Trailers n) e read = open-body (state.Trailers n) e (λ f. let g : state.Trailers n ≡ state.Whole = f in cc) read
    from (state.TrailersReturn n) e read = open-body (state.TrailersReturn n) e (λ f. let g : state.TrailersReturn n ≡ state.Whole = f in cc) read
    from (state.TrailersLine n) e read = open-body (state.TrailersLine n) e (λ f. let g : state.TrailersLine n ≡ state.Whole = f in cc) read
    from state.Whole e read = AreRequests.message is e read
    from (state.Refused code) e read = open-body (state.Refused code) e (λ f. let g : state.Refused code ≡ state.Whole = f in cc) read

-- a body that is dropped asks for nothing
asks-nothing : (far : BodyState) (head : heads.Head) (target : Target) → out.Request head target ≡ answer_dropping far → ⊥
asks-nothing (state.Data more of) head target e = let f : out.Request head target ≡ out.Waiting = e in cc
asks-nothing (state.Digits size n) head target e = let f : out.Request head target ≡ out.Waiting = e in cc
asks-nothing (state.Blanks size n) head target e = let f : out.Request head target ≡ out.Waiting = e in cc
asks-nothing (state.Extension size n) head target e = let f : out.Request head target ≡ out.Waiting = e in cc
asks-nothing (state.Return size n) head target e = let f : out.Request head target ≡ out.Waiting = e in cc
asks-nothing state.DataEnd head target e = let f : out.Request head target ≡ out.Waiting = e in cc
asks-nothing state.DataReturn head target e = let f : out.Request head target ≡ out.Waiting = e in cc
asks-nothing (state.Trailers n) head target e = let f : out.Request head target ≡ out.Waiting = e in cc
asks-nothing (state.TrailersReturn n) head target e = let f : out.Request head target ≡ out.Waiting = e in cc
asks-nothing (state.TrailersLine n) head target e = let f : out.Request head target ≡ out.Waiting = e in cc
asks-nothing state.Whole head target e = let f : out.Request head target ≡ out.Waiting = e in cc
asks-nothing (state.Refused code) head target e = let f : out.Request head target ≡ out.Refused 400 = e in cc

asks-on : (at : At) (held ys : List ℕ) (head : heads.Head) (target : Target) (requests : List Request) (answer : LineOut) (after : Came)
    → LeadsAt at held (out.Request head target) after → ReadsOn (done after) ys requests answer
    → ReadsOn (came_at at held) ys (record { head = head; target = target } ∷ requests) answer
asks-on Head held ys head target requests answer after led more =
    let start = begun_state head.body no_limit in
    let tail = after_head (head_end held) held in
    let not : out.Request head target ≢ out.Waiting = (λ e. let f : out.Request head target ≡ out.Waiting = e in cc) in
    let whole = ends held (out.Request head target) not (λ code e. let f : out.Request head target ≡ out.Refused code = e in cc) led.0 in
    let read : ReadsOn (drops start tail) ys requests answer = subst (λ (k : Came). ReadsOn (done k) ys requests answer) led.1 more in
    let dropped : ReadsCame (drops start (tail ++ ys)) requests answer = subst (λ (k : Came). ReadsCame k requests answer) (sym (drops-on start tail ys)) read in
    let is : HasHead (held ++ ys) (record { head = head; target = target }) (tail ++ ys) =
    record { asks = stays held ys (out.Request head target) not led.0; follows = after-on held ys whole.0 whole.1 } in
    body-read (held ++ ys) (tail ++ ys) (record { head = head; target = target }) requests answer is dropped
asks-on (Present body kind skips) held ys head target requests answer after led more = absurd (let f : out.Request head target ≡ out.Waiting = led.0 in cc)
asks-on (Dropping far) held ys head target requests answer after led more = absurd (asks-nothing far head target led.0)
asks-on (Over code) held ys head target requests answer after led more = absurd (let f : out.Request head target ≡ out.Refused code = led.0 in cc)

-- ---- a piece

-- that is answered with no request
pub waits-on : (came after : Came) (piece ys : List ℕ) (requests : List Request) (between answer : LineOut) → IsFed came piece between after → IsNoRequest between
    → ReadsOn after ys requests answer → ReadsOn came (piece ++ ys) requests answer
waits-on came after piece ys requests between answer fed plain more =
    let s = settled came.at (came.held ++ piece) in
    subst (λ (k : Came). ReadsCame k requests answer) (joined came piece ys) (goes-on s.at s.held ys requests between answer after fed plain more)

-- that is answered with a request
pub requests-on : (came after : Came) (piece ys : List ℕ) (head : heads.Head) (target : Target) (requests : List Request) (answer : LineOut)
    → IsFed came piece (out.Request head target) after → ReadsOn (done after) ys requests answer
    → ReadsOn came (piece ++ ys) (record { head = head; target = target } ∷ requests) answer
requests-on came after piece ys head target requests answer fed more =
    let s = settled came.at (came.held ++ piece) in
    subst (λ (k : Came). ReadsCame k (record { head = head; target = target } ∷ requests) answer) (joined came piece ys)
    (asks-on s.at s.held ys head target requests answer after fed more)

-- while a request is present
present-on : (at : At) (held piece ys : List ℕ) (requests : List Request) (between answer : LineOut) (after : Came) → IsPresent at
    → IsFed (came_at at held) piece between after → ReadsOn (done after) ys requests answer → ReadsOn (done (came_at at held)) (piece ++ ys) requests answer
present-on (Present body kind skips) held piece ys requests between answer after is fed more =
    let read : ReadsOn (drops skips (held ++ piece)) ys requests answer = subst (λ (k : Came). ReadsOn (done k) ys requests answer) fed.1 more in
    let cut : ReadsOn (settled (drops skips held).at ((drops skips held).held ++ piece)) ys requests answer =
    subst (λ (k : Came). ReadsOn k ys requests answer) (drops-on skips held piece) read in
    subst (λ (k : Came). ReadsCame k requests answer) (joined (drops skips held) piece ys) cut
present-on Head held piece ys requests between answer after is fed more = absurd is
present-on (Dropping far) held piece ys requests between answer after is fed more = absurd is
present-on (Over code) held piece ys requests between answer after is fed more = absurd is

pub holds-on : (came after : Came) (piece ys : List ℕ) (requests : List Request) (between answer : LineOut) → IsPresent came.at → IsFed came piece between after
    → ReadsOn (done after) ys requests answer → ReadsOn (done came) (piece ++ ys) requests answer
holds-on came after piece ys requests between answer is fed more = present-on came.at came.held piece ys requests between answer after is fed more

-- ---- pieces

pub serves : (came : Came) (pieces : List (List ℕ)) (requests : List Request) (answer : LineOut) → Serves came pieces requests answer
    → ReadsOn came (concat pieces) requests answer
serves came pieces requests answer (Serves.last {piece} after fed plain) =
    let s = settled came.at (came.held ++ piece) in
    subst (λ (b : List ℕ). ReadsOn came b [] answer) (sym (append-nil piece)) (ends-so s.at s.held answer after fed plain)
serves came pieces requests answer (Serves.more {piece} {pieces = others} between after fed plain rest) =
    waits-on came after piece (concat others) requests between answer fed plain (serves after others requests answer rest)
serves came pieces requests answer (Serves.asks {piece} {pieces = others} {head} {target} {requests = later} after fed rest) =
    requests-on came after piece (concat others) head target later answer fed (serves (done after) ([] ∷ others) later answer rest)

-- ---- one list of requests

one-is : (bytes : List ℕ) (x y : LineOut) → IsOf bytes x → IsOf bytes y → x ≡ y
one-is bytes x y a b = a.2 ∙ ap answer_to (one-answer bytes a.0 b.0 a.1 b.1) ∙ sym b.2

abbrev asked_in : LineOut → Option Request
asked_in (out.Request head target) = Some (record { head = head; target = target })
asked_in answer = None

same-head : (bytes : List ℕ) (r s : Request) (a b : List ℕ) → HasHead bytes r a → HasHead bytes s b → (r ≡ s) × (a ≡ b)
same-head bytes r s a b x y =
    let asked : Some r ≡ Some s = ap asked_in (one-is bytes (out.Request r.head r.target) (out.Request s.head s.target) x.asks y.asks) in
    ((let f : r ≡ s = cc in f), x.follows ∙ sym y.follows)

no-head : (bytes after : List ℕ) (request : Request) (answer : LineOut) → IsNoRequest answer → IsOf bytes answer → HasHead bytes request after → ⊥
no-head bytes after request answer plain is x =
    let e : out.Request request.head request.target ≡ answer = one-is bytes (out.Request request.head request.target) answer x.asks is in
    elim plain [
      | inl w ↦ let f : out.Request request.head request.target ≡ out.Waiting = e ∙ w in cc
      | inr w ↦ let f : out.Request request.head request.target ≡ out.Refused w.0 = e ∙ w.1 in cc
    ]

-- where the bytes have no request
none-asked : (bytes : List ℕ) (x : LineOut) (ys : List Request) (y : LineOut) → IsNoRequest x → IsOf bytes x → AreRequests bytes ys y → ([] ≡ ys) × (x ≡ y)
none-asked bytes x ys y plain is (AreRequests.waits other) = (refl, one-is bytes x out.Waiting is other)
none-asked bytes x ys y plain is (AreRequests.refused {code} other) = (refl, one-is bytes x (out.Refused code) is other)
none-asked bytes x ys y plain is (AreRequests.begun {after} {request} other not) = absurd (no-head bytes after request x plain is other)
none-asked bytes x ys y plain is (AreRequests.message {after} {request} other whole rest) = absurd (no-head bytes after request x plain is other)

-- where a body isn't whole
one-begun : (bytes after : List ℕ) (request : Request) (ys : List Request) (y : LineOut) → HasHead bytes request after → body_state request after ≢ state.Whole
    → AreRequests bytes ys y → (request ∷ [] ≡ ys) × (answer_dropping (body_state request after) ≡ y)
one-begun bytes after request ys y is not (AreRequests.waits other) = absurd (no-head bytes after request out.Waiting (inl refl) other is)
one-begun bytes after request ys y is not (AreRequests.refused {code} other) = absurd (no-head bytes after request (out.Refused code) (inr (code, refl)) other is)
one-begun bytes after request ys y is not (AreRequests.begun {after = behind} {request = asked} other unfinished) =
    let same = same-head bytes request asked after behind is other in
    (ap (λ (r : Request). r ∷ []) same.0, ap (λ (r : Request). answer_dropping (body_state r after)) same.0 ∙ ap (λ (b : List ℕ). answer_dropping (body_state asked b)) same.1)
one-begun bytes after request ys y is not (AreRequests.message {after = behind} {request = asked} other whole rest) =
    let same = same-head bytes request asked after behind is other in
    absurd (not (ap (λ (r : Request). body_state r after) same.0 ∙ ap (λ (b : List ℕ). body_state asked b) same.1 ∙ whole))

-- after a whole message, by what follows it
one-message : (bytes after : List ℕ) (request : Request) (requests ys : List Request) (x y : LineOut) → HasHead bytes request after
    → body_state request after ≡ state.Whole
    → ((zs : List Request) (z : LineOut) → AreRequests (drop (body_length request after) after) zs z → (requests ≡ zs) × (x ≡ z))
    → AreRequests bytes ys y → (request ∷ requests ≡ ys) × (x ≡ y)
one-message bytes after request requests ys x y is whole later (AreRequests.waits other) = absurd (no-head bytes after request out.Waiting (inl refl) other is)
one-message bytes after request requests ys x y is whole later (AreRequests.refused {code} other) =
    absurd (no-head bytes after request (out.Refused code) (inr (code, refl)) other is)
one-message bytes after request requests ys x y is whole later (AreRequests.begun {after = behind} {request = asked} other unfinished) =
    let same = same-head bytes request asked after behind is other in
    absurd (unfinished (sym (ap (λ (r : Request). body_state r after) same.0 ∙ ap (λ (b : List ℕ). body_state asked b) same.1) ∙ whole))
one-message bytes after request requests ys x y is whole later (AreRequests.message {after = behind} {request = asked} {requests = others} other ends rest) =
    let same = same-head bytes request asked after behind is other in
    let rests : drop (body_length asked behind) behind ≡ drop (body_length request after) after =
    sym (ap (λ (r : Request). drop (body_length r after) after) same.0 ∙ ap (λ (b : List ℕ). drop (body_length asked b) b) same.1) in
    let one = later others y (subst (λ (b : List ℕ). AreRequests b others y) rests rest) in
    (ap (λ (r : Request). r ∷ requests) same.0 ∙ ap (λ (rs : List Request). asked ∷ rs) one.0, one.1)

pub one-reading : (bytes : List ℕ) (xs ys : List Request) (x y : LineOut) → AreRequests bytes xs x → AreRequests bytes ys y → (xs ≡ ys) × (x ≡ y)
one-reading bytes xs ys x y (AreRequests.waits is) other = none-asked bytes out.Waiting ys y (inl refl) is other
one-reading bytes xs ys x y (AreRequests.refused {code} is) other = none-asked bytes (out.Refused code) ys y (inr (code, refl)) is other
one-reading bytes xs ys x y (AreRequests.begun {after} {request} is not) other = one-begun bytes after request ys y is not other
one-reading bytes xs ys x y (AreRequests.message {after} {request} {requests} is whole rest) other =
    one-message bytes after request requests ys x y is whole (λ zs z more. one-reading (drop (body_length request after) after) requests zs x z rest more) other
