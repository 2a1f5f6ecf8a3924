-- What follows a body is the same whether it was asked for or not.
use Rattle.std.proofs.Common.{◌≡◌, ℕ, suc, ◌+◌, ◌-◌, nat_lt, ◌==◌, Bool, true, false, List, [], ◌∷◌, ◌++◌, take, drop, length, Some, None, if◌then◌else◌, refl, sym, ap, ◌∙◌, subst, inl, inr, arith, take-append-drop}
use Rattle.std.specs.Prelude.{◌⊎◌}
use Rattle.resty_base.specs.Ascii.{line_feed}
use Rattle.http_in.specs.declared.framing.BodyKind.{BodyKind}
use Rattle.http_in.specs.declared.framing.BodyKind.TheVariants as kind
use Rattle.http_bodies.specs.declared.states.DataOf.TheVariants as part
use Rattle.http_bodies.specs.declared.states.BodyState.{BodyState}
use Rattle.http_bodies.specs.declared.states.BodyState.TheVariants as state
use Rattle.http_bodies.specs.Records.{Body}
use Rattle.http_bodies.specs.States.{line_limit, after_byte, after_size, is_settled}
use Rattle.http_bodies.specs.Bodies.{begun, begun_state, after_one, after_bytes, used}
use Rattle.http_bodies.specs.Skips.{no_limit, skipped, skip_count}
use Rattle.http_bodies.proofs.Skipping.{skipped-append, counts-append}
use Rattle.http_bodies.proofs.Skipping as skipping
use Rattle.http_bodies.proofs.Pieces.{settled-stays}
use Rattle.client_line.specs.Records.{At, Came}
use Rattle.client_line.specs.Records as line
use Rattle.client_line.specs.Lines.{after_body, drops, count_by, taken_count, settled, after_answer, reads_body, asked_at, came_at, done}
use Rattle.client_line.specs.declared.requests.LineOut.{LineOut}
use Rattle.client_line.specs.declared.requests.LineOut.TheVariants as out
use Rattle.client_line.specs.Requests.{answer_to}
use Rattle.client_line.specs.HeadAnswers.{head_read}
use Rattle.client_line.specs.Feeding.{led, fed}
use Rattle.connection_plan.specs.InStep.{IsRefused, InStep, IsInStep}

-- ---- byte by byte

-- what is too large under one of two limits is refused there
limited : (far : BodyState) (f g : Bool) → InStep (if f then state.Refused 413 else far) (if g then state.Refused 413 else far)
limited far true g = inr (inl (413, refl))
limited far false false = inl refl
limited far false true = inr (inr (413, refl))

size-steps : (room size : ℕ) → InStep (after_size room size) (after_size no_limit size)
size-steps room size = by (size == 0)
  where
    by : (c : Bool) → InStep (if c then state.Trailers 0 else (if nat_lt room size then state.Refused 413 else state.Data (size - 1) part.Chunk))
        (if c then state.Trailers 0 else (if nat_lt no_limit size then state.Refused 413 else state.Data (size - 1) part.Chunk))
    by true = inl refl
    by false = limited (state.Data (size - 1) part.Chunk) (nat_lt room size) (nat_lt no_limit size)

either-steps : (c : Bool) (x y : BodyState) → InStep x y → InStep (if c then x else state.Refused 400) (if c then y else state.Refused 400)
either-steps true x y h = h
either-steps false x y h = inl refl

byte-steps : (room : ℕ) (s : BodyState) (b : ℕ) → InStep (after_byte room s b) (after_byte no_limit s b)
byte-steps room (state.Return size n) b =
    either-steps (nat_lt n line_limit) (if b == line_feed then after_size room size else state.Refused 400) (if b == line_feed then after_size no_limit size else state.Refused 400)
    (either-steps (b == line_feed) (after_size room size) (after_size no_limit size) (size-steps room size))
byte-steps room (state.Data more of) b = inl refl
byte-steps room (state.Digits size n) b = inl refl
byte-steps room (state.Blanks size n) b = inl refl
byte-steps room (state.Extension size n) b = inl refl
byte-steps room state.DataEnd b = inl refl
byte-steps room state.DataReturn b = inl refl
byte-steps room (state.Trailers n) b = inl refl
byte-steps room (state.TrailersReturn n) b = inl refl
byte-steps room (state.TrailersLine n) b = inl refl
byte-steps room state.Whole b = inl refl
byte-steps room (state.Refused code) b = inl refl

-- ---- a whole piece

-- equally far, and as many bytes belong to it; or one of the two is refused by the bytes that are used
abbrev Steps : Body → BodyState → List ℕ → Type 0
Steps body s bs =
    (((after_bytes body bs).state ≡ skipped s bs) × (used body bs ≡ skip_count s bs))
    ⊎ (IsRefused (after_bytes body bs).state ⊎ IsRefused (skipped s (take (used body bs) bs)))

refused-stays : (body : Body) (bs : List ℕ) (code : ℕ) → body.state ≡ state.Refused code → (after_bytes body bs).state ≡ state.Refused code
refused-stays body bs code e =
    ap (λ (x : Body). x.state) (settled-stays body.max body.state body.content bs (ap is_settled e)) ∙ e

skips-refused : (s : BodyState) (bs : List ℕ) (code : ℕ) → s ≡ state.Refused code → skipped s bs ≡ state.Refused code
skips-refused s bs code e = skipping.settled-stays s bs (ap is_settled e) ∙ e

-- refused later is refused; of a body that is settled nothing is used
refused-later : (s : BodyState) (b k : ℕ) (bs : List ℕ) (c : Bool) → is_settled s ≡ c → IsRefused (skipped (after_byte no_limit s b) (take k bs))
    → IsRefused (skipped s (take (if c then 0 else suc k) (b ∷ bs)))
refused-later s b k bs true e z = (z.0, sym (skipping.settled-stays s (b ∷ take k bs) e) ∙ z.1)
refused-later s b k bs false e z = z

steps : (body : Body) (s : BodyState) (bs : List ℕ) → body.state ≡ s → Steps body s bs
steps body s [] e = inl (e, refl)
steps body s (b ∷ bs) e =
    let moved : after_byte no_limit body.state b ≡ after_byte no_limit s b = ap (λ (x : BodyState). after_byte no_limit x b) e in
    by moved (λ f. steps (after_one body b) (after_byte no_limit s b) bs (f ∙ moved)) (byte-steps (body.max - length body.content) body.state b)
  where
    later : IsRefused (skipped (after_byte no_limit s b) (take (used (after_one body b) bs) bs)) → IsRefused (skipped s (take (used body (b ∷ bs)) (b ∷ bs)))
    later z = refused-later s b (used (after_one body b) bs) bs (is_settled body.state) (ap is_settled (sym e)) z

    by : after_byte no_limit body.state b ≡ after_byte no_limit s b
        → ((after_one body b).state ≡ after_byte no_limit body.state b → Steps (after_one body b) (after_byte no_limit s b) bs)
        → InStep (after_one body b).state (after_byte no_limit body.state b) → Steps body s (b ∷ bs)
    by moved more x = elim x [
      | inl f ↦ elim (more f) [
        | inl y ↦ inl (y.0, ap (λ (n : ℕ). if is_settled body.state then 0 else suc n) y.1 ∙ ap (λ (x : BodyState). if is_settled x then 0 else suc (skip_count (after_byte no_limit s b) bs)) e)
        | inr y ↦ elim y [
          | inl z ↦ inr (inl z)
          | inr z ↦ inr (inr (later z))
        ]
      ]
      | inr f ↦ elim f [
        | inl z ↦ inr (inl (z.0, refused-stays (after_one body b) bs z.0 z.1))
        | inr z ↦ inr (inr (later (z.0, skips-refused (after_byte no_limit s b) (take (used (after_one body b) bs) bs) z.0 (sym moved ∙ z.1))))
      ]
    ]

-- ---- what follows it

counts-taken : (s : BodyState) (bs : List ℕ) → skip_count s (take (skip_count s bs) bs) ≡ skip_count s bs
counts-taken s [] = refl
counts-taken s (b ∷ bs) = by (counts-taken (after_byte no_limit s b) bs) (is_settled s) refl
  where
    by : skip_count (after_byte no_limit s b) (take (skip_count (after_byte no_limit s b) bs) bs) ≡ skip_count (after_byte no_limit s b) bs → (c : Bool) → is_settled s ≡ c
        → skip_count s (take (if c then 0 else suc (skip_count (after_byte no_limit s b) bs)) (b ∷ bs)) ≡ (if c then 0 else suc (skip_count (after_byte no_limit s b) bs))
    by h true e = refl
    by h false e = ap (λ (c : Bool). if c then 0 else suc (skip_count (after_byte no_limit s b) (take (skip_count (after_byte no_limit s b) bs) bs))) e ∙ ap suc h

none-more : (a b k : ℕ) → k ≡ a + b → a ≡ k → b ≡ 0
none-more a b k h e = omega (arith, h, e)

-- as many bytes as belong to the body may be taken first
drops-rest : (s : BodyState) (bs : List ℕ) → drops (skipped s (take (skip_count s bs) bs)) (drop (skip_count s bs) bs) ≡ drops s bs
drops-rest s bs =
    let k = skip_count s bs in
    let front = take k bs in
    let rest = drop k bs in
    let counts : k ≡ skip_count s front + skip_count (skipped s front) rest = ap (skip_count s) (sym (take-append-drop k bs)) ∙ counts-append s front rest in
    let none : skip_count (skipped s front) rest ≡ 0 = none-more (skip_count s front) (skip_count (skipped s front) rest) k counts (counts-taken s bs) in
    ap (λ (n : ℕ). after_body (skipped (skipped s front) rest) (drop n rest)) none
    ∙ ap (λ (x : BodyState). after_body x rest) (skipped-append s front rest ∙ ap (skipped s) (take-append-drop k bs))

counted : (far : BodyState) (n : ℕ) → (count_by far n ≡ n) ⊎ ((code : ℕ) × (far ≡ state.Refused code))
counted (state.Refused code) n = inr (code, refl)
counted far n = inl refl

-- in two parts it is as far as in one
in-parts : (s : BodyState) (n : ℕ) (bytes : List ℕ) → skipped (skipped s (take n bytes)) (drop n bytes) ≡ skipped s bytes
in-parts s n bytes = skipped-append s (take n bytes) (drop n bytes) ∙ ap (skipped s) (take-append-drop n bytes)

-- after a fault nothing follows, whatever was taken before
refused-rest : (s : BodyState) (n : ℕ) (bytes : List ℕ) → IsRefused (skipped s bytes) → drops (skipped s (take n bytes)) (drop n bytes) ≡ drops s bytes
refused-rest s n bytes z =
    let rest = drop n bytes in
    ap (λ (x : BodyState). after_body x (drop (skip_count (skipped s (take n bytes)) rest) rest)) (in-parts s n bytes ∙ z.1)
    ∙ sym (ap (λ (x : BodyState). after_body x (drop (skip_count s bytes) bytes)) z.1)

refused-whole : (s : BodyState) (n : ℕ) (bytes : List ℕ) → IsRefused (skipped s (take n bytes)) → IsRefused (skipped s bytes)
refused-whole s n bytes z = (z.0, sym (in-parts s n bytes) ∙ skips-refused (skipped s (take n bytes)) (drop n bytes) z.0 z.1)

-- what is taken of a body that is asked for leaves what follows it
taken-rest : (body : Body) (kind : BodyKind) (skips : BodyState) (bytes : List ℕ) → InStep body.state skips → done (reads_body body kind skips bytes) ≡ drops skips bytes
taken-rest body kind skips bytes x = elim x [
  | inl e ↦ elim (steps body skips bytes e) [
    | inl y ↦ elim (counted (after_bytes body bytes).state (used body bytes)) [
      | inl c ↦ at (skip_count skips bytes) (c ∙ y.1) ∙ drops-rest skips bytes
      | inr c ↦ at 0 (ap (λ (s : BodyState). count_by s (used body bytes)) c.1)
    ]
    | inr y ↦ elim y [
      | inl z ↦ at 0 (ap (λ (s : BodyState). count_by s (used body bytes)) z.1)
      | inr z ↦ refused-rest skips (taken_count body bytes) bytes (refused-whole skips (used body bytes) bytes z)
    ]
  ]
  | inr e ↦ elim e [
    | inl z ↦ at 0 (ap (λ (s : BodyState). count_by s (used body bytes)) (refused-stays body bytes z.0 z.1))
    | inr z ↦ refused-rest skips (taken_count body bytes) bytes (z.0, skips-refused skips bytes z.0 z.1)
  ]
]
  where
    at : (n : ℕ) → taken_count body bytes ≡ n → done (reads_body body kind skips bytes) ≡ drops (skipped skips (take n bytes)) (drop n bytes)
    at n e = ap (λ (n : ℕ). drops (skipped skips (take n bytes)) (drop n bytes)) e

begins-in-step : (kind : BodyKind) (max : ℕ) → InStep (begun_state kind max) (begun_state kind no_limit)
begins-in-step kind.Nothing max = inl refl
begins-in-step (kind.Length n) max = limited (if n == 0 then state.Whole else state.Data (n - 1) part.Body) (nat_lt max n) (nat_lt no_limit n)
begins-in-step kind.Chunked max = inl refl

pub asking-leaves : (at : At) (bytes : List ℕ) (max : ℕ) → IsInStep at → done (asked_at at bytes max) ≡ done (came_at at bytes)
asking-leaves (line.Present None kind skips) bytes max x =
    taken-rest (begun kind max) kind skips bytes (subst (λ (s : BodyState). InStep (begun_state kind max) s) (sym x) (begins-in-step kind max))
asking-leaves (line.Present (Some body) kind skips) bytes max x = taken-rest body kind skips bytes x
asking-leaves line.Head bytes max x = refl
asking-leaves (line.Dropping far) bytes max x = refl
asking-leaves (line.Over code) bytes max x = refl

-- ---- and it stays in step

taken-skips : (s : BodyState) (bs : List ℕ) → skipped s (take (skip_count s bs) bs) ≡ skipped s bs
taken-skips s [] = refl
taken-skips s (b ∷ bs) = by (taken-skips (after_byte no_limit s b) bs) (is_settled s) refl
  where
    by : skipped (after_byte no_limit s b) (take (skip_count (after_byte no_limit s b) bs) bs) ≡ skipped (after_byte no_limit s b) bs → (c : Bool) → is_settled s ≡ c
        → skipped s (take (if c then 0 else suc (skip_count (after_byte no_limit s b) bs)) (b ∷ bs)) ≡ skipped s (b ∷ bs)
    by h true e = sym (skipping.settled-stays s (b ∷ bs) e)
    by h false e = h

taken-in-step : (body : Body) (kind : BodyKind) (skips : BodyState) (bytes : List ℕ) → InStep body.state skips → IsInStep (reads_body body kind skips bytes).at
taken-in-step body kind skips bytes x = elim x [
  | inl e ↦ elim (counted (after_bytes body bytes).state (used body bytes)) [
    | inl c ↦ elim (steps body skips bytes e) [
      | inl y ↦ inl (y.0 ∙ sym (taken-skips skips bytes) ∙ ap (λ (n : ℕ). skipped skips (take n bytes)) (sym (c ∙ y.1)))
      | inr y ↦ elim y [
        | inl z ↦ inr (inl z)
        | inr z ↦ inr (inr (subst (λ (n : ℕ). IsRefused (skipped skips (take n bytes))) (sym c) z))
      ]
    ]
    | inr c ↦ inr (inl c)
  ]
  | inr e ↦ elim e [
    | inl z ↦ inr (inl (z.0, refused-stays body bytes z.0 z.1))
    | inr z ↦ inr (inr (z.0, skips-refused skips (take (taken_count body bytes) bytes) z.0 z.1))
  ]
]

pub asked-in-step : (at : At) (bytes : List ℕ) (max : ℕ) → IsInStep at → IsInStep (asked_at at bytes max).at
asked-in-step (line.Present None kind skips) bytes max x =
    taken-in-step (begun kind max) kind skips bytes (subst (λ (s : BodyState). InStep (begun_state kind max) s) (sym x) (begins-in-step kind max))
asked-in-step (line.Present (Some body) kind skips) bytes max x = taken-in-step body kind skips bytes x
asked-in-step line.Head bytes max x = tt
asked-in-step (line.Dropping far) bytes max x = tt
asked-in-step (line.Over code) bytes max x = tt

after-in-step : (s : BodyState) (rest : List ℕ) → IsInStep (after_body s rest).at
after-in-step state.Whole rest = tt
after-in-step s rest = tt

settled-in-step : (at : At) (bytes : List ℕ) → IsInStep at → IsInStep (settled at bytes).at
settled-in-step (line.Present None kind skips) bytes x = x
settled-in-step (line.Present (Some body) kind skips) bytes x = x
settled-in-step line.Head bytes x = tt
settled-in-step (line.Dropping far) bytes x = after-in-step (skipped far bytes) (drop (skip_count far bytes) bytes)
settled-in-step (line.Over code) bytes x = tt

answer-in-step : (answer : LineOut) (bytes : List ℕ) → IsInStep (after_answer answer bytes).at
answer-in-step (out.Request head target) bytes = refl
answer-in-step (out.Refused code) bytes = tt
answer-in-step out.Waiting bytes = tt
answer-in-step out.Memory bytes = tt

led-in-step : (at : At) (bytes : List ℕ) → IsInStep at → IsInStep (led at bytes).after.at
led-in-step (line.Present None kind skips) bytes x = x
led-in-step (line.Present (Some body) kind skips) bytes x = x
led-in-step line.Head bytes x = answer-in-step (answer_to (head_read bytes)) bytes
led-in-step (line.Dropping far) bytes x = tt
led-in-step (line.Over code) bytes x = tt

pub fed-in-step : (came : Came) (piece : List ℕ) → IsInStep came.at → IsInStep (fed came piece).after.at
fed-in-step came piece x =
    let c = settled came.at (came.held ++ piece) in led-in-step c.at c.held (settled-in-step came.at (came.held ++ piece) x)

pub done-in-step : (at : At) (bytes : List ℕ) → IsInStep at → IsInStep (done (came_at at bytes)).at
done-in-step (line.Present None kind skips) bytes x = after-in-step (skipped skips bytes) (drop (skip_count skips bytes) bytes)
done-in-step (line.Present (Some body) kind skips) bytes x = after-in-step (skipped skips bytes) (drop (skip_count skips bytes) bytes)
done-in-step line.Head bytes x = tt
done-in-step (line.Dropping far) bytes x = tt
done-in-step (line.Over code) bytes x = tt
