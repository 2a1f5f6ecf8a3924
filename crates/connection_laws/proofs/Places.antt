-- Where a request's own body stands stays so, whatever comes later.
use Rattle.std.proofs.Common.{◌≡◌, ℕ, ◌+◌, suc, Bool, true, false, List, [], ◌∷◌, ◌++◌, take, drop, Some, None, if◌then◌else◌, refl, sym, ap, ◌∙◌, subst, append_assoc, take-append-drop, arith}
use Rattle.std.proofs.lemmas.List.{drop-append-le}
use Rattle.std.proofs.Math.Seq.{drop-append-add}
use Rattle.uri_args.specs.declared.targets.Target.{Target}
use Rattle.http_in.specs.declared.heads.Head as heads
use Rattle.http_in.specs.declared.framing.BodyKind.{BodyKind}
use Rattle.http_in.specs.Ends.{head_end}
use Rattle.http_bodies.specs.declared.bodies.BodyRead.TheVariants as read
use Rattle.http_bodies.specs.declared.states.BodyState.{BodyState}
use Rattle.http_bodies.specs.declared.states.BodyState.TheVariants as state
use Rattle.http_bodies.specs.Records.{Body}
use Rattle.http_bodies.specs.States.{is_settled}
use Rattle.http_bodies.specs.Bodies.{begun, begun_state, after_one, after_bytes, used, answer_at}
use Rattle.http_bodies.specs.Skips.{no_limit, skipped, skip_count}
use Rattle.http_bodies.proofs.Skipping.{settled-stays, settled-counts, counts-append, counts-within, counts-all}
use Rattle.http_bodies.proofs.Pieces as pieces
use Rattle.client_line.specs.declared.requests.LineOut.{LineOut}
use Rattle.client_line.specs.declared.requests.LineOut.TheVariants as out
use Rattle.client_line.specs.Records.{At, Came}
use Rattle.client_line.specs.Records as line
use Rattle.client_line.specs.Lines.{came_at, after_body, drops, settled, after_head, count_by, taken_count, after_asked, asked_at, answer_in, content, done, after_answer, LeadsAt, IsFed}
use Rattle.client_line.proofs.Feeds.{drops-on, ends, after-on}
use Rattle.client_line.specs.Feeding.{fed}
use Rattle.connection_plan.specs.Clients.{Exchange, exchange}
use Rattle.connection_plan.specs.InStep.{IsInStep}
use Rattle.connection_plan.proofs.Bodies.{asking-leaves}
use Rattle.connection_plan.proofs.Readings.{asks_more, dropping-answers}
use Rattle.connection_laws.specs.Bodies.{after_the_head, after_message, left_after, IsOwnBody, IsOwnFault}

-- after a fault nothing is read
abbrev is_refused : BodyState → Bool
is_refused (state.Refused code) = true
is_refused far = false

abbrev pub is_lost : At → Bool
is_lost (line.Over code) = true
is_lost (line.Dropping far) = is_refused far
is_lost (line.Present body kind skips) = is_refused skips
is_lost line.Head = false

-- what a line reads of these bytes as the next message
abbrev rest : At → List ℕ → List ℕ
rest (line.Dropping far) bytes = drop (skip_count far bytes) bytes
rest (line.Present body kind skips) bytes = drop (skip_count skips bytes) bytes
rest at bytes = bytes

-- Whatever comes later, a line reads next what follows the messages of these exchanges.
abbrev pub Placed : List ℕ → List Exchange → Came → Type 0
Placed all es came = is_lost came.at ≡ false → (later : List ℕ) → left_after es (all ++ later) ≡ rest came.at (came.held ++ later)

-- ---- a body that is dropped

lost-drops : (far : BodyState) (bytes : List ℕ) → is_lost (drops far bytes).at ≡ false → is_refused far ≡ false
lost-drops (state.Refused code) bytes h =
    let e : skipped (state.Refused code) bytes ≡ state.Refused code = settled-stays (state.Refused code) bytes refl in
    absurd (let f : true ≡ false = sym (ap (λ s. is_lost (after_body s (drop (skip_count (state.Refused code) bytes) bytes)).at) e) ∙ h in cc)
lost-drops (state.Data more of) bytes h = refl
lost-drops (state.Digits size n) bytes h = refl
lost-drops (state.Blanks size n) bytes h = refl
lost-drops (state.Extension size n) bytes h = refl
lost-drops (state.Return size n) bytes h = refl
lost-drops state.DataEnd bytes h = refl
lost-drops state.DataReturn bytes h = refl
lost-drops (state.Trailers n) bytes h = refl
lost-drops (state.TrailersReturn n) bytes h = refl
lost-drops (state.TrailersLine n) bytes h = refl
lost-drops state.Whole bytes h = refl

dropped-rest : (far : BodyState) (bytes later : List ℕ) → is_lost (drops far bytes).at ≡ false
    → drop (skip_count far (bytes ++ later)) (bytes ++ later) ≡ rest (drops far bytes).at ((drops far bytes).held ++ later)
dropped-rest far bytes later h = ap (λ n. drop n (bytes ++ later)) (counts-append far bytes later) ∙ from (skipped far bytes) refl h
  where
    unsettled : (s : BodyState) → skipped far bytes ≡ s → is_settled s ≡ false
        → drop (skip_count far bytes + skip_count (skipped far bytes) later) (bytes ++ later) ≡ drop (skip_count s later) later
    unsettled s e h =
        ap (λ n. drop (n + skip_count (skipped far bytes) later) (bytes ++ later)) (counts-all far bytes (ap is_settled e ∙ h))
        ∙ drop-append-add bytes later (skip_count (skipped far bytes) later) ∙ ap (λ (t : BodyState). drop (skip_count t later) later) e

    from : (s : BodyState) → skipped far bytes ≡ s → is_lost (after_body s (drop (skip_count far bytes) bytes)).at ≡ false
        → drop (skip_count far bytes + skip_count (skipped far bytes) later) (bytes ++ later)
        ≡ rest (after_body s (drop (skip_count far bytes) bytes)).at ((after_body s (drop (skip_count far bytes) bytes)).held ++ later)
    from (state.Data more of) e h = unsettled (state.Data more of) e refl
    from (state.Digits size n) e h = unsettled (state.Digits size n) e refl
    from (state.Blanks size n) e h = unsettled (state.Blanks size n) e refl
    from (state.Extension size n) e h = unsettled (state.Extension size n) e refl
    from (state.Return size n) e h = unsettled (state.Return size n) e refl
    from state.DataEnd e h = unsettled state.DataEnd e refl
    from state.DataReturn e h = unsettled state.DataReturn e refl
    from (state.Trailers n) e h = unsettled (state.Trailers n) e refl
    from (state.TrailersReturn n) e h = unsettled (state.TrailersReturn n) e refl
    from (state.TrailersLine n) e h = unsettled (state.TrailersLine n) e refl
    from state.Whole e h =
        let none : skip_count (skipped far bytes) later ≡ 0 = settled-counts (skipped far bytes) later (ap is_settled e) in
        let count : skip_count far bytes + skip_count (skipped far bytes) later ≡ skip_count far bytes = omega (arith, none) in
        ap (λ n. drop n (bytes ++ later)) count ∙ drop-append-le (skip_count far bytes) bytes later (counts-within far bytes)
    from (state.Refused code) e h = absurd (let f : true ≡ false = h in cc)

-- ---- pieces

-- a piece that is settled
pub settled-placed : (all piece : List ℕ) (es : List Exchange) (came : Came) → Placed all es came → Placed (all ++ piece) es (settled came.at (came.held ++ piece))
settled-placed all piece es came h = by came.at h
  where
    on : (at : At) → (is_lost at ≡ false → (later : List ℕ) → left_after es (all ++ later) ≡ rest at (came.held ++ later)) → is_lost at ≡ false → (later : List ℕ)
        → left_after es ((all ++ piece) ++ later) ≡ rest at ((came.held ++ piece) ++ later)
    on at h l later =
        ap (left_after es) (append_assoc all piece later) ∙ h l (piece ++ later) ∙ ap (rest at) (sym (append_assoc came.held piece later))

    by : (at : At) → (is_lost at ≡ false → (later : List ℕ) → left_after es (all ++ later) ≡ rest at (came.held ++ later))
        → is_lost (settled at (came.held ++ piece)).at ≡ false → (later : List ℕ)
        → left_after es ((all ++ piece) ++ later) ≡ rest (settled at (came.held ++ piece)).at ((settled at (came.held ++ piece)).held ++ later)
    by line.Head h = on line.Head h
    by (line.Present body kind skips) h = on (line.Present body kind skips) h
    by (line.Dropping far) h = λ l later. on (line.Dropping far) h (lost-drops far (came.held ++ piece) l) later ∙ dropped-rest far (came.held ++ piece) later l
    by (line.Over code) h = λ l later. absurd (let f : true ≡ false = l in cc)

-- the request that is present ends
done-placed : (all : List ℕ) (es : List Exchange) (skips : BodyState) (held : List ℕ)
    → (is_refused skips ≡ false → (later : List ℕ) → left_after es (all ++ later) ≡ drop (skip_count skips (held ++ later)) (held ++ later)) → Placed all es (drops skips held)
done-placed all es skips held h l later = h (lost-drops skips held l) later ∙ dropped-rest skips held later l

-- a head whose request came
pub begun-placed : (all : List ℕ) (es : List Exchange) (came after : Came) (piece : List ℕ) (head : heads.Head) (target : Target) (reply : List ℕ) → IsFed came piece (out.Request head target) after
    → Placed all es (settled came.at (came.held ++ piece)) → Placed all (exchange (out.Request head target) reply ∷ es) (done after)
begun-placed all es came after piece head target reply is h = let s = settled came.at (came.held ++ piece) in by s.at s.held is h
  where
    by : (at : At) (held : List ℕ) → LeadsAt at held (out.Request head target) after → Placed all es (came_at at held) → Placed all (exchange (out.Request head target) reply ∷ es) (done after)
    by line.Head held led h =
        let end = ends held (out.Request head target) (λ e. let f : out.Request head target ≡ out.Waiting = e in cc) (λ code e. let f : out.Request head target ≡ out.Refused code = e in cc) led.0 in
        subst (λ (k : Came). Placed all (exchange (out.Request head target) reply ∷ es) (done k)) (sym led.1)
        (done-placed all (exchange (out.Request head target) reply ∷ es) (begun_state head.body no_limit) (after_head (head_end held) held)
        (λ l later. ap (after_message (out.Request head target)) (h refl later)
        ∙ ap (λ (bs : List ℕ). drop (skip_count (begun_state head.body no_limit) bs) bs) (sym (after-on held later end.0 end.1))))
    by (line.Present body kind skips) held led h = absurd (let f : out.Request head target ≡ out.Waiting = led.0 in cc)
    by (line.Dropping far) held led h = absurd (let f : true ≡ false = ap asks_more led.0 ∙ dropping-answers far in cc)
    by (line.Over code) held led h = absurd (let f : out.Request head target ≡ out.Refused code = led.0 in cc)

-- ---- the body of the request that is present

-- as many bytes as belong to a body lead as far as all
used-lead : (y : Body) (bytes : List ℕ) → after_bytes y (take (used y bytes) bytes) ≡ after_bytes y bytes
used-lead y [] = refl
used-lead y (b ∷ bytes) = by (used-lead (after_one y b) bytes) (is_settled y.state) refl
  where
    by : after_bytes (after_one y b) (take (used (after_one y b) bytes) bytes) ≡ after_bytes (after_one y b) bytes → (c : Bool) → is_settled y.state ≡ c
        → after_bytes y (take (if c then 0 else suc (used (after_one y b) bytes)) (b ∷ bytes)) ≡ after_bytes (after_one y b) bytes
    by h true e = sym (pieces.settled-stays y.max y.state y.content (b ∷ bytes) e)
    by h false e = h

refused-settled : (far : BodyState) → is_refused far ≡ true → is_settled far ≡ true
refused-settled (state.Refused code) h = refl
refused-settled (state.Data more of) h = absurd (let e : false ≡ true = h in cc)
refused-settled (state.Digits size n) h = absurd (let e : false ≡ true = h in cc)
refused-settled (state.Blanks size n) h = absurd (let e : false ≡ true = h in cc)
refused-settled (state.Extension size n) h = absurd (let e : false ≡ true = h in cc)
refused-settled (state.Return size n) h = absurd (let e : false ≡ true = h in cc)
refused-settled state.DataEnd h = absurd (let e : false ≡ true = h in cc)
refused-settled state.DataReturn h = absurd (let e : false ≡ true = h in cc)
refused-settled (state.Trailers n) h = absurd (let e : false ≡ true = h in cc)
refused-settled (state.TrailersReturn n) h = absurd (let e : false ≡ true = h in cc)
refused-settled (state.TrailersLine n) h = absurd (let e : false ≡ true = h in cc)
refused-settled state.Whole h = absurd (let e : false ≡ true = h in cc)

-- a body that isn't refused later isn't now
not-refused : (y : Body) (bytes : List ℕ) → is_refused (after_bytes y bytes).state ≡ false → is_refused y.state ≡ false
not-refused y bytes h = by (is_refused y.state) refl
  where
    by : (c : Bool) → is_refused y.state ≡ c → c ≡ false
    by true e =
        let same = pieces.settled-stays y.max y.state y.content bytes (refused-settled y.state e) in
        absurd (let f : true ≡ false = sym e ∙ sym (ap (λ (x : Body). is_refused x.state) same) ∙ h in cc)
    by false e = refl

count-of : (far : BodyState) (n : ℕ) → is_refused far ≡ false → count_by far n ≡ n
count-of (state.Refused code) n h = absurd (let e : true ≡ false = h in cc)
count-of far n h = refl

-- so far it was read of the bytes after the head, and the line holds the next of them
pub record IsReadOf (all : List ℕ) (older : List Exchange) (kind : BodyKind) (y : Body) (held : List ℕ) : Type 0 where
  pub max : ℕ
  pub read : List ℕ
  pub is : y ≡ after_bytes (begun kind max) read
  pub follows : (later : List ℕ) → after_the_head (left_after older (all ++ later)) ≡ read ++ (held ++ later)

-- it is refused, whatever comes later
abbrev pub IsFault : List ℕ → List Exchange → BodyKind → ℕ → Type 0
IsFault all older kind code = (max : ℕ) × ((later : List ℕ) → (after_bytes (begun kind max) (after_the_head (left_after older (all ++ later)))).state ≡ state.Refused code)

pub record IsSoFar (all : List ℕ) (older : List Exchange) (kind : BodyKind) (y : Body) (held : List ℕ) : Type 0 where
  pub goes_on : is_refused y.state ≡ false → IsReadOf all older kind y held
  pub fault : (code : ℕ) → y.state ≡ state.Refused code → IsFault all older kind code

abbrev pub BodyIn : List ℕ → List Exchange → BodyKind → At → List ℕ → Type 0
BodyIn all older kind (line.Present None k skips) held = (k ≡ kind) × ((later : List ℕ) → after_the_head (left_after older (all ++ later)) ≡ held ++ later)
BodyIn all older kind (line.Present (Some y) k skips) held = IsSoFar all older kind y held
BodyIn all older kind at held = ⊥

abbrev pub BodyAt : List ℕ → List Exchange → BodyKind → Came → Type 0
BodyAt all older kind came = BodyIn all older kind came.at came.held

-- more of it comes
more-follows : (all piece : List ℕ) (older : List Exchange) (front held : List ℕ) → ((later : List ℕ) → after_the_head (left_after older (all ++ later)) ≡ front ++ (held ++ later))
    → (later : List ℕ) → after_the_head (left_after older ((all ++ piece) ++ later)) ≡ front ++ ((held ++ piece) ++ later)
more-follows all piece older front held h later =
    ap (λ (bs : List ℕ). after_the_head (left_after older bs)) (append_assoc all piece later) ∙ h (piece ++ later) ∙ ap (λ (bs : List ℕ). front ++ bs) (sym (append_assoc held piece later))

pub fed-body : (all piece : List ℕ) (older : List Exchange) (kind : BodyKind) (at : At) (held : List ℕ) → BodyIn all older kind at held
    → BodyAt (all ++ piece) older kind (fed (came_at at held) piece).after
fed-body all piece older kind (line.Present None k skips) held h = (h.0, more-follows all piece older [] held h.1)
fed-body all piece older kind (line.Present (Some y) k skips) held h = record {
  goes_on = λ l. let x = h.goes_on l in record { max = x.max; read = x.read; is = x.is; follows = more-follows all piece older x.read held x.follows };
  fault = λ code e. let x = h.fault code e in (
    x.0,
    λ later. ap (λ (bs : List ℕ). (after_bytes (begun kind x.0) (after_the_head (left_after older bs))).state) (append_assoc all piece later) ∙ x.1 (piece ++ later),
  );
}
fed-body all piece older kind line.Head held h = absurd h
fed-body all piece older kind (line.Dropping far) held h = absurd h
fed-body all piece older kind (line.Over code) held h = absurd h

-- a request is present, or nothing is read any more
abbrev pub IsKept : At → Type 0
IsKept (line.Present body kind skips) = Unit {0}
IsKept (line.Over code) = Unit {0}
IsKept at = ⊥

pub body-kept : (all : List ℕ) (older : List Exchange) (kind : BodyKind) (at : At) (held : List ℕ) → BodyIn all older kind at held → IsKept at
body-kept all older kind (line.Present body k skips) held b = tt
body-kept all older kind line.Head held b = absurd b
body-kept all older kind (line.Dropping far) held b = absurd b
body-kept all older kind (line.Over code) held b = absurd b

pub fed-kept : (at : At) (held piece : List ℕ) → IsKept at → IsKept (fed (came_at at held) piece).after.at
fed-kept (line.Present body k skips) held piece is = tt
fed-kept (line.Over code) held piece is = tt
fed-kept line.Head held piece is = absurd is
fed-kept (line.Dropping far) held piece is = absurd is

pub fed-placed : (all piece : List ℕ) (es : List Exchange) (at : At) (held : List ℕ) → IsKept at → Placed all es (done (came_at at held))
    → Placed (all ++ piece) es (done (fed (came_at at held) piece).after)
fed-placed all piece es (line.Present body k skips) held is h =
    subst (λ (c : Came). Placed (all ++ piece) es c) (sym (drops-on skips held piece)) (settled-placed all piece es (drops skips held) h)
fed-placed all piece es (line.Over code) held is h = λ l later. absurd (let f : true ≡ false = l in cc)
fed-placed all piece es line.Head held is h = absurd is
fed-placed all piece es (line.Dropping far) held is h = absurd is

-- it is asked for
reads-on : (all : List ℕ) (older : List Exchange) (kind : BodyKind) (y : Body) (held : List ℕ) → (is_refused y.state ≡ false → IsReadOf all older kind y held)
    → is_refused (after_bytes y held).state ≡ false → IsReadOf all older kind (after_bytes y held) (drop (taken_count y held) held)
reads-on all older kind y held h l =
    let x = h (not-refused y held l) in
    let n = taken_count y held in
    let count : n ≡ used y held = count-of (after_bytes y held).state (used y held) l in
    let so : after_bytes y held ≡ after_bytes y (take n held) = sym (ap (λ (k : ℕ). after_bytes y (take k held)) count ∙ used-lead y held) in
    record {
      max = x.max;
      read = x.read ++ take n held;
      is = so ∙ ap (λ (z : Body). after_bytes z (take n held)) x.is ∙ pieces.after_bytes-append (begun kind x.max) x.read (take n held);
      follows = λ later. x.follows later
          ∙ ap (λ (bs : List ℕ). x.read ++ (bs ++ later)) (sym (take-append-drop n held))
          ∙ ap (λ (bs : List ℕ). x.read ++ bs) (append_assoc (take n held) (drop n held) later)
          ∙ sym (append_assoc x.read (take n held) (drop n held ++ later));
    }

-- where a body that goes on is refused by the bytes that are held
faults-on : (all : List ℕ) (older : List Exchange) (kind : BodyKind) (y : Body) (held : List ℕ) → IsReadOf all older kind y held → (code : ℕ) → (after_bytes y held).state ≡ state.Refused code
    → IsFault all older kind code
faults-on all older kind y held x code e = (
  x.max,
  λ later.
      let z = after_bytes y held in
      ap (λ (bs : List ℕ). (after_bytes (begun kind x.max) bs).state) (x.follows later)
      ∙ ap (λ (b : Body). b.state) (sym (pieces.after_bytes-append (begun kind x.max) x.read (held ++ later)) ∙ ap (λ (b : Body). after_bytes b (held ++ later)) (sym x.is)
      ∙ sym (pieces.after_bytes-append y held later) ∙ pieces.settled-stays z.max z.state z.content later (ap is_settled e))
      ∙ e,
)

fault-stays : (all : List ℕ) (older : List Exchange) (kind : BodyKind) (y : Body) (held : List ℕ) → IsSoFar all older kind y held → (code : ℕ) → (after_bytes y held).state ≡ state.Refused code
    → IsFault all older kind code
fault-stays all older kind y held h code e = by (is_refused y.state) refl
  where
    by : (c : Bool) → is_refused y.state ≡ c → IsFault all older kind code
    by true r = h.fault code (sym (ap (λ (b : Body). b.state) (pieces.settled-stays y.max y.state y.content held (refused-settled y.state r))) ∙ e)
    by false r = faults-on all older kind y held (h.goes_on r) code e

so-far-on : (all : List ℕ) (older : List Exchange) (kind : BodyKind) (y : Body) (held : List ℕ) → IsSoFar all older kind y held
    → IsSoFar all older kind (after_bytes y held) (drop (taken_count y held) held)
so-far-on all older kind y held h = record { goes_on = reads-on all older kind y held h.goes_on; fault = fault-stays all older kind y held h }

pub asked-body : (all : List ℕ) (older : List Exchange) (kind : BodyKind) (at : At) (held : List ℕ) (max : ℕ) → BodyIn all older kind at held
    → BodyAt all older kind (after_asked (came_at at held) max)
asked-body all older kind (line.Present None k skips) held max h =
    let read : IsReadOf all older kind (begun k max) held = record { max = max; read = []; is = ap (λ (x : BodyKind). begun x max) h.0; follows = h.1 } in
    so-far-on all older kind (begun k max) held (record {
      goes_on = λ l. read;
      fault = λ code e. faults-on all older kind (begun k max) held read code
          (ap (λ (b : Body). b.state) (pieces.settled-stays max (begun_state k max) [] held (ap is_settled e)) ∙ e);
    })
asked-body all older kind (line.Present (Some y) k skips) held max h = so-far-on all older kind y held h
asked-body all older kind line.Head held max h = absurd h
asked-body all older kind (line.Dropping far) held max h = absurd h
asked-body all older kind (line.Over code) held max h = absurd h

pub asked-placed : (all : List ℕ) (es : List Exchange) (came : Came) (max : ℕ) → IsInStep came.at → Placed all es (done came) → Placed all es (done (after_asked came max))
asked-placed all es came max x h = subst (λ (c : Came). Placed all es c) (sym (asking-leaves came.at came.held max x)) h

-- and it is whole
whole-at : (far : BodyState) (count n : ℕ) → answer_at far count ≡ read.Whole n → far ≡ state.Whole
whole-at state.Whole count n h = refl
whole-at (state.Refused code) count n h = absurd (let e : read.Refused code ≡ read.Whole n = h in cc)
whole-at (state.Data more of) count n h = absurd (let e : read.More ≡ read.Whole n = h in cc)
whole-at (state.Digits size k) count n h = absurd (let e : read.More ≡ read.Whole n = h in cc)
whole-at (state.Blanks size k) count n h = absurd (let e : read.More ≡ read.Whole n = h in cc)
whole-at (state.Extension size k) count n h = absurd (let e : read.More ≡ read.Whole n = h in cc)
whole-at (state.Return size k) count n h = absurd (let e : read.More ≡ read.Whole n = h in cc)
whole-at state.DataEnd count n h = absurd (let e : read.More ≡ read.Whole n = h in cc)
whole-at state.DataReturn count n h = absurd (let e : read.More ≡ read.Whole n = h in cc)
whole-at (state.Trailers k) count n h = absurd (let e : read.More ≡ read.Whole n = h in cc)
whole-at (state.TrailersReturn k) count n h = absurd (let e : read.More ≡ read.Whole n = h in cc)
whole-at (state.TrailersLine k) count n h = absurd (let e : read.More ≡ read.Whole n = h in cc)

whole-own : (all : List ℕ) (older : List Exchange) (head : heads.Head) (y : Body) (held : List ℕ) → y.state ≡ state.Whole → IsSoFar all older head.body y held
    → (later : List ℕ) → IsOwnBody (all ++ later) older head y.content
whole-own all older head y held w h later =
    let x = h.goes_on (ap is_refused w) in
    let same : after_bytes (begun head.body x.max) (after_the_head (left_after older (all ++ later))) ≡ y =
    ap (after_bytes (begun head.body x.max)) (x.follows later) ∙ sym (pieces.after_bytes-append (begun head.body x.max) x.read (held ++ later))
    ∙ ap (λ (z : Body). after_bytes z (held ++ later)) (sym x.is) ∙ pieces.settled-stays y.max y.state y.content (held ++ later) (ap is_settled w) in
    record { max = x.max; whole = ap (λ (z : Body). z.state) same ∙ w; is = sym (ap (λ (z : Body). z.content) same) }

pub told-own : (all : List ℕ) (older : List Exchange) (head : heads.Head) (at : At) (held : List ℕ) (max n : ℕ) → answer_in at held max ≡ read.Whole n
    → BodyAt all older head.body (after_asked (came_at at held) max) → (later : List ℕ) → IsOwnBody (all ++ later) older head (content (asked_at at held max).at)
told-own all older head (line.Present None k skips) held max n e h =
    let y = begun k max in whole-own all older head (after_bytes y held) (drop (taken_count y held) held) (whole-at (after_bytes y held).state (used y held) n e) h
told-own all older head (line.Present (Some y) k skips) held max n e h =
    whole-own all older head (after_bytes y held) (drop (taken_count y held) held) (whole-at (after_bytes y held).state (used y held) n e) h
told-own all older head line.Head held max n e h = absurd h
told-own all older head (line.Dropping far) held max n e h = absurd h
told-own all older head (line.Over code) held max n e h = absurd h

-- and it is refused
refused-at : (far : BodyState) (count code : ℕ) → answer_at far count ≡ read.Refused code → far ≡ state.Refused code
refused-at (state.Refused was) count code h = ap state.Refused (let e : was ≡ code = (let f : read.Refused was ≡ read.Refused code = h in cc) in e)
refused-at state.Whole count code h = absurd (let e : read.Whole count ≡ read.Refused code = h in cc)
refused-at (state.Data more of) count code h = absurd (let e : read.More ≡ read.Refused code = h in cc)
refused-at (state.Digits size k) count code h = absurd (let e : read.More ≡ read.Refused code = h in cc)
refused-at (state.Blanks size k) count code h = absurd (let e : read.More ≡ read.Refused code = h in cc)
refused-at (state.Extension size k) count code h = absurd (let e : read.More ≡ read.Refused code = h in cc)
refused-at (state.Return size k) count code h = absurd (let e : read.More ≡ read.Refused code = h in cc)
refused-at state.DataEnd count code h = absurd (let e : read.More ≡ read.Refused code = h in cc)
refused-at state.DataReturn count code h = absurd (let e : read.More ≡ read.Refused code = h in cc)
refused-at (state.Trailers k) count code h = absurd (let e : read.More ≡ read.Refused code = h in cc)
refused-at (state.TrailersReturn k) count code h = absurd (let e : read.More ≡ read.Refused code = h in cc)
refused-at (state.TrailersLine k) count code h = absurd (let e : read.More ≡ read.Refused code = h in cc)

fault-own : (all : List ℕ) (older : List Exchange) (head : heads.Head) (code : ℕ) → IsFault all older head.body code → (later : List ℕ) → IsOwnFault (all ++ later) older head code
fault-own all older head code h later = (h.0, h.1 later)

pub told-fault : (all : List ℕ) (older : List Exchange) (head : heads.Head) (at : At) (held : List ℕ) (max code : ℕ) → answer_in at held max ≡ read.Refused code
    → BodyAt all older head.body (after_asked (came_at at held) max) → (later : List ℕ) → IsOwnFault (all ++ later) older head code
told-fault all older head (line.Present None k skips) held max code e h =
    let y = begun k max in fault-own all older head code (h.fault code (refused-at (after_bytes y held).state (used y held) code e))
told-fault all older head (line.Present (Some y) k skips) held max code e h = fault-own all older head code (h.fault code (refused-at (after_bytes y held).state (used y held) code e))
told-fault all older head line.Head held max code e h = absurd h
told-fault all older head (line.Dropping far) held max code e h = absurd h
told-fault all older head (line.Over status) held max code e h = absurd h

-- the body of a request that came
pub begun-body : (all : List ℕ) (es : List Exchange) (came after : Came) (piece : List ℕ) (head : heads.Head) (target : Target) → IsFed came piece (out.Request head target) after
    → Placed all es (settled came.at (came.held ++ piece)) → BodyAt all es head.body after
begun-body all es came after piece head target is h = let s = settled came.at (came.held ++ piece) in by s.at s.held is h
  where
    by : (at : At) (held : List ℕ) → LeadsAt at held (out.Request head target) after → Placed all es (came_at at held) → BodyAt all es head.body after
    by line.Head held led h =
        let end = ends held (out.Request head target) (λ e. let f : out.Request head target ≡ out.Waiting = e in cc) (λ code e. let f : out.Request head target ≡ out.Refused code = e in cc) led.0 in
        subst (λ (k : Came). BodyAt all es head.body k) (sym led.1) (refl, λ later. ap after_the_head (h refl later) ∙ sym (after-on held later end.0 end.1))
    by (line.Present body kind skips) held led h = absurd (let f : out.Request head target ≡ out.Waiting = led.0 in cc)
    by (line.Dropping far) held led h = absurd (let f : true ≡ false = ap asks_more led.0 ∙ dropping-answers far in cc)
    by (line.Over code) held led h = absurd (let f : out.Request head target ≡ out.Refused code = led.0 in cc)

-- what is answered without a request leaves what is placed
pub waits-placed : (all : List ℕ) (es : List Exchange) (came after : Came) (piece : List ℕ) (answer : LineOut) → IsFed came piece answer after → asks_more answer ≡ false
    → Placed all es (settled came.at (came.held ++ piece)) → Placed all es after
waits-placed all es came after piece answer is plain h = let s = settled came.at (came.held ++ piece) in by s.at s.held is h
  where
    head_by : (held : List ℕ) (a : LineOut) → asks_more a ≡ false → Placed all es (came_at line.Head held) → Placed all es (after_answer a held)
    head_by held out.Waiting p h = h
    head_by held (out.Refused code) p h = λ l later. absurd (let f : true ≡ false = l in cc)
    head_by held (out.Request head target) p h = absurd (let f : true ≡ false = p in cc)
    head_by held out.Memory p h = absurd (let f : true ≡ false = p in cc)

    by : (at : At) (held : List ℕ) → LeadsAt at held answer after → Placed all es (came_at at held) → Placed all es after
    by line.Head held led h = subst (λ (k : Came). Placed all es k) (sym led.1) (head_by held answer plain h)
    by (line.Present body kind skips) held led h = subst (λ (k : Came). Placed all es k) (sym led.1) h
    by (line.Dropping far) held led h = subst (λ (k : Came). Placed all es k) (sym led.1) h
    by (line.Over code) held led h = subst (λ (k : Came). Placed all es k) (sym led.1) h
