-- What a client asked is a beginning of what its bytes ask, whatever comes after them.
use Rattle.std.proofs.Common.{◌≡◌, ℕ, Bool, true, false, List, [], ◌∷◌, ◌++◌, Option, Some, None, refl, sym, ap, ◌∙◌, subst, append-nil, append_assoc}
use Rattle.uri_args.specs.declared.targets.Target.{Target}
use Rattle.http_in.specs.declared.heads.Head.{Head}
use Rattle.http_in.specs.declared.heads.HeadRead.{HeadRead}
use Rattle.http_in.specs.declared.heads.HeadRead.TheVariants as read
use Rattle.http_in.specs.Heads.{Reads}
use Rattle.http_bodies.specs.declared.states.BodyState.{BodyState}
use Rattle.http_bodies.specs.declared.states.BodyState.TheVariants as state
use Rattle.client_line.specs.declared.requests.LineOut.{LineOut}
use Rattle.client_line.specs.declared.requests.LineOut.TheVariants as out
use Rattle.client_line.specs.Requests.{request_to, target_for, answer_to}
use Rattle.client_line.specs.Records.{At, Came}
use Rattle.client_line.specs.Records as line
use Rattle.client_line.specs.Lines.{came_at, settled, answer_dropping, after_asked, asked_at, LeadsAt, IsFed, done}
use Rattle.client_line.specs.Messages.{Request, AreRequests}
use Rattle.client_line.specs.Serving.{IsNoRequest}
use Rattle.client_line.specs.Readings.{ReadsAt, ReadsOn, IsPresent}
use Rattle.client_line.proofs.Serving.{waits-on, requests-on, holds-on, one-reading}
use Rattle.client_line.specs.HeadLaws.{read-says}
use Rattle.client_line.specs.HeadAnswers.{head_read}
use Rattle.client_line.specs.MessageAnswers.{requests, last_answer}
use Rattle.client_line.specs.MessageLaws.{list-of}
use Rattle.client_line.specs.Feeding.{led, fed}
use Rattle.client_line.proofs.FeedAnswers.{reads, is-fed}
use Rattle.strand_contract.specs.Alone.{IsPrefixOf}
use Rattle.connection_plan.specs.Asked.{asked_by, asked_in}
use Rattle.connection_plan.specs.InStep.{IsInStep}
use Rattle.connection_plan.proofs.Bodies.{asking-leaves}

-- the bytes ask these, and then these requests and what is refused after them
abbrev AskAlso : List ℕ → List LineOut → List Request → LineOut → Type 0
AskAlso bytes asked rs answer = (all : List Request) × AreRequests bytes all answer × (asked_by all answer ≡ asked ++ asked_by rs answer)

-- so many bytes came in all, with these at last; what a line is still to read, with these and what comes later, was not asked yet, and all else was
abbrev pub Follows : Came → List ℕ → List ℕ → List LineOut → Type 0
Follows came piece all asked =
    (later : List ℕ) (rs : List Request) (answer : LineOut) → ReadsOn came (piece ++ later) rs answer → AskAlso (all ++ later) asked rs answer

-- whatever comes later
abbrev pub Begins : List ℕ → List LineOut → Type 0
Begins all asked =
    (later : List ℕ) → (rs : List Request) × ((answer : LineOut) × (AreRequests (all ++ later) rs answer × IsPrefixOf asked (asked_by rs answer)))

-- ---- a line has something to read

some-reading : (at : At) (held : List ℕ) → (rs : List Request) × ((answer : LineOut) × ReadsAt at held rs answer)
some-reading line.Head held = let l = list-of held in (l.requests, (l.answer, l.are))
some-reading (line.Present body kind skips) held = ([], (out.Waiting, (refl, refl)))
some-reading (line.Dropping far) held = ([], (answer_dropping far, (refl, refl)))
some-reading (line.Over code) held = ([], (out.Refused code, (refl, refl)))

pub begins : (came : Came) (all : List ℕ) (asked : List LineOut) → Follows came [] all asked → Begins all asked
begins came all asked h later =
    let s = settled came.at (came.held ++ later) in
    let some = some-reading s.at s.held in
    let also : AskAlso (all ++ later) asked some.0 some.1.0 = h later some.0 some.1.0 some.1.1 in
    (also.0, (some.1.0, (also.1, (asked_by some.0 some.1.0, sym also.2))))

-- ---- more comes

pub followed : (came : Came) (bytes piece : List ℕ) (asked : List LineOut) → Follows came [] bytes asked → Follows came piece (bytes ++ piece) asked
followed came bytes piece asked h later rs answer x =
    subst (λ (b : List ℕ). AskAlso b asked rs answer) (sym (append_assoc bytes piece later)) (h (piece ++ later) rs answer x)

pub begins-on : (bytes piece : List ℕ) (asked : List LineOut) → Begins bytes asked → Begins (bytes ++ piece) asked
begins-on bytes piece asked h later =
    let x = h (piece ++ later) in
    (x.0, (x.1.0, (subst (λ (b : List ℕ). AreRequests b x.0 x.1.0) (sym (append_assoc bytes piece later)) x.1.1.0, x.1.1.1)))

pub waited : (came after : Came) (piece all : List ℕ) (between : LineOut) (asked : List LineOut) → IsFed came piece between after → IsNoRequest between
    → Follows came piece all asked → Follows after [] all asked
waited came after piece all between asked is plain h later rs answer x = h later rs answer (waits-on came after piece later rs between answer is plain x)

pub requested : (came after : Came) (piece all : List ℕ) (head : Head) (target : Target) (asked : List LineOut)
    → IsFed came piece (out.Request head target) after
    → Follows came piece all asked → Follows (done after) [] all (asked ++ out.Request head target ∷ [])
requested came after piece all head target asked is h later rs answer x =
    let also : AskAlso (all ++ later) asked (record { head = head; target = target } ∷ rs) answer =
    h later (record { head = head; target = target } ∷ rs) answer (requests-on came after piece later head target rs answer is x) in
    (also.0, also.1, also.2 ∙ sym (append_assoc asked (out.Request head target ∷ []) (asked_by rs answer)))

pub held-on : (came : Came) (bytes piece : List ℕ) (asked : List LineOut) → IsPresent came.at → Follows (done came) [] bytes asked
    → Follows (done (fed came piece).after) [] (bytes ++ piece) asked
held-on came bytes piece asked is h later rs answer x =
    followed (done came) bytes piece asked h later rs answer
    (holds-on came (fed came piece).after piece later rs (fed came piece).answer answer is (is-fed came piece) x)

pub asked-on : (came : Came) (max : ℕ) (bytes : List ℕ) (asked : List LineOut) → IsInStep came.at → Follows (done came) [] bytes asked
    → Follows (done (after_asked came max)) [] bytes asked
asked-on came max bytes asked x h = subst (λ (k : Came). Follows k [] bytes asked) (sym (asking-leaves came.at came.held max x)) h

-- ---- a refusal

abbrev status_of : At → ℕ
status_of (line.Over code) = code
status_of at = 0

over-by : (at : At) (held : List ℕ) (status code : ℕ) (after : Came) → LeadsAt at held (out.Refused code) after → after.at ≡ line.Over status → status ≡ code
over-by line.Head held status code after h e = ap status_of (sym e ∙ ap (λ (k : Came). k.at) h.1)
over-by (line.Present body kind skips) held status code after h e = absurd (let f : out.Refused code ≡ out.Waiting = h.0 in cc)
over-by (line.Dropping far) held status code after h e = absurd (let f : line.Over status ≡ line.Dropping far = sym e ∙ ap (λ (k : Came). k.at) h.1 in cc)
over-by (line.Over was) held status code after h e =
    let same : code ≡ was = (let f : out.Refused code ≡ out.Refused was = h.0 in cc) in
    ap status_of (sym e ∙ ap (λ (k : Came). k.at) h.1) ∙ sym same

pub refused : (came after : Came) (piece all : List ℕ) (status code : ℕ) (asked : List LineOut) → IsFed came piece (out.Refused code) after
    → after.at ≡ line.Over status → Follows after [] all asked → Begins all (asked ++ out.Refused code ∷ [])
refused came after piece all status code asked is e h later =
    let s = settled came.at (came.held ++ piece) in
    let same : status ≡ code = over-by s.at s.held status code after is e in
    let none : ReadsOn after later [] (out.Refused status) =
    subst (λ (at : At). ReadsOn (came_at at after.held) later [] (out.Refused status)) (sym e) (refl, refl) in
    let also : AskAlso (all ++ later) asked [] (out.Refused code) =
    subst (λ (n : ℕ). AskAlso (all ++ later) asked [] (out.Refused n)) same (h later [] (out.Refused status) none) in
    (also.0, (out.Refused code, (also.1, ([], append-nil (asked ++ out.Refused code ∷ []) ∙ sym also.2))))

-- ---- a piece

-- a line never answers that memory is out
request-is : (head : Head) (target : Option Target) → request_to head target ≡ out.Memory → ⊥
request-is head None e = let f : out.Refused 400 ≡ out.Memory = e in cc
request-is head (Some target) e = let f : out.Request head target ≡ out.Memory = e in cc

read-answers : (bytes : List ℕ) (r : HeadRead) → Reads bytes r → answer_to r ≡ out.Memory → ⊥
read-answers bytes (read.Whole head n) h e = request-is head (target_for head) e
read-answers bytes read.More h e = let f : out.Waiting ≡ out.Memory = e in cc
read-answers bytes (read.Refused code) h e = let f : out.Refused code ≡ out.Memory = e in cc
read-answers bytes read.Memory h e = read-says bytes read.Memory h refl

-- what a body that is dropped is answered with
abbrev pub asks_more : LineOut → Bool
asks_more (out.Request head target) = true
asks_more out.Memory = true
asks_more answer = false

pub dropping-answers : (far : BodyState) → asks_more (answer_dropping far) ≡ false
dropping-answers (state.Refused code) = refl
dropping-answers far = refl

has-room : (at : At) (bytes : List ℕ) → (led at bytes).answer ≡ out.Memory → ⊥
has-room line.Head bytes e = read-answers bytes (head_read bytes) (reads bytes) e
has-room (line.Present body kind skips) bytes e = let f : out.Waiting ≡ out.Memory = e in cc
has-room (line.Dropping far) bytes e = let f : true ≡ false = ap asks_more (sym e) ∙ dropping-answers far in cc
has-room (line.Over code) bytes e = let f : out.Refused code ≡ out.Memory = e in cc

pub fed-has-room : (came : Came) (piece : List ℕ) → (fed came piece).answer ≡ out.Memory → ⊥
fed-has-room came piece e = let s = settled came.at (came.held ++ piece) in has-room s.at s.held e

-- a request that comes is present
comes-present : (at : At) (held : List ℕ) (head : Head) (target : Target) (after : Came) → LeadsAt at held (out.Request head target) after → IsPresent after.at
comes-present line.Head held head target after h = subst (λ (k : Came). IsPresent k.at) (sym h.1) tt
comes-present (line.Present body kind skips) held head target after h = absurd (let f : out.Request head target ≡ out.Waiting = h.0 in cc)
comes-present (line.Dropping far) held head target after h = absurd (let f : true ≡ false = ap asks_more h.0 ∙ dropping-answers far in cc)
comes-present (line.Over code) held head target after h = absurd (let f : out.Request head target ≡ out.Refused code = h.0 in cc)

pub fed-present : (came after : Came) (piece : List ℕ) (head : Head) (target : Target) → IsFed came piece (out.Request head target) after → IsPresent after.at
fed-present came after piece head target is = let s = settled came.at (came.held ++ piece) in comes-present s.at s.held head target after is

pub stays-present : (at : At) (held piece : List ℕ) → IsPresent at → IsPresent (fed (came_at at held) piece).after.at
stays-present (line.Present body kind skips) held piece is = tt
stays-present line.Head held piece is = absurd is
stays-present (line.Dropping far) held piece is = absurd is
stays-present (line.Over code) held piece is = absurd is

pub asked-present : (at : At) (held : List ℕ) (max : ℕ) → IsPresent at → IsPresent (asked_at at held max).at
asked-present (line.Present body kind skips) held max is = tt
asked-present line.Head held max is = absurd is
asked-present (line.Dropping far) held max is = absurd is
asked-present (line.Over code) held max is = absurd is

-- ---- all bytes that came

are-requests : (bytes : List ℕ) → AreRequests bytes (requests bytes) (last_answer bytes)
unfolding requests last_answer
are-requests bytes = (list-of bytes).are

pub begins-so : (bytes : List ℕ) (asked : List LineOut) → Begins bytes asked → IsPrefixOf asked (asked_in bytes)
begins-so bytes asked h =
    let x = h [] in
    let are : AreRequests bytes x.0 x.1.0 = subst (λ (b : List ℕ). AreRequests b x.0 x.1.0) (append-nil bytes) x.1.1.0 in
    let same = one-reading bytes x.0 (requests bytes) x.1.0 (last_answer bytes) are (are-requests bytes) in
    (x.1.1.1.0, x.1.1.1.1 ∙ ap (λ (rs : List Request). asked_by rs x.1.0) same.0 ∙ ap (λ (a : LineOut). asked_by (requests bytes) a) same.1)

-- where the bytes that are held ask nothing, all that the bytes ask was asked
pub asks-all : (came : Came) (bytes : List ℕ) (asked : List LineOut) → Follows came [] bytes asked → ReadsOn came [] [] out.Waiting → asked ≡ asked_in bytes
asks-all came bytes asked h none =
    let x : AskAlso (bytes ++ []) asked [] out.Waiting = h [] [] out.Waiting none in
    let are : AreRequests bytes x.0 out.Waiting = subst (λ (b : List ℕ). AreRequests b x.0 out.Waiting) (append-nil bytes) x.1 in
    let same = one-reading bytes x.0 (requests bytes) out.Waiting (last_answer bytes) are (are-requests bytes) in
    sym (append-nil asked) ∙ sym x.2 ∙ ap (λ (rs : List Request). asked_by rs out.Waiting) same.0 ∙ ap (λ (a : LineOut). asked_by (requests bytes) a) same.1
