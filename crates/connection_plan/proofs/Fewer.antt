-- A request that comes takes bytes of those that are held.
use Rattle.std.proofs.Common.{◌≡◌, ℕ, ◌<◌, ◌≤◌, List, [], ◌++◌, length, true, false, sym, ap, ◌∙◌, subst, arith, append-nil, length-drop}
use Rattle.std.specs.Prelude.{◌≢◌, drop, Option, Some}
use Rattle.uri_args.specs.declared.targets.Target.{Target}
use Rattle.http_in.specs.declared.heads.Head.{Head}
use Rattle.http_in.specs.Ends.{head_end}
use Rattle.http_in.proofs.Scans.{head_end-bound}
use Rattle.http_bodies.specs.declared.states.BodyState.{BodyState}
use Rattle.http_bodies.specs.declared.states.BodyState.TheVariants as state
use Rattle.http_bodies.specs.Skips.{skipped, skip_count}
use Rattle.client_line.specs.declared.requests.LineOut.{LineOut}
use Rattle.client_line.specs.declared.requests.LineOut.TheVariants as out
use Rattle.client_line.specs.Records.{At, Came}
use Rattle.client_line.specs.Records as line
use Rattle.client_line.specs.Lines.{came_at, after_body, drops, settled, after_head, LeadsAt, IsFed, done}
use Rattle.client_line.proofs.Feeds.{ends}
use Rattle.client_line.specs.MessageLaws.{end-some}
use Rattle.client_line.specs.Feeding.{fed}
use Rattle.client_line.proofs.FeedAnswers.{is-fed}
use Rattle.connection_plan.proofs.Readings.{asks_more, dropping-answers}

body-fewer : (far : BodyState) (n : ℕ) (bytes : List ℕ) → length (after_body far (drop n bytes)).held ≤ length bytes
body-fewer state.Whole n bytes = omega (arith, length-drop n bytes)
body-fewer far n bytes = omega arith

drops-fewer : (far : BodyState) (bytes : List ℕ) → length (drops far bytes).held ≤ length bytes
drops-fewer far bytes = body-fewer (skipped far bytes) (skip_count far bytes) bytes

settled-fewer : (at : At) (bytes : List ℕ) → length (settled at bytes).held ≤ length bytes
settled-fewer line.Head bytes = omega arith
settled-fewer (line.Present body kind skips) bytes = omega arith
settled-fewer (line.Dropping far) bytes = drops-fewer far bytes
settled-fewer (line.Over code) bytes = omega arith

done-fewer : (at : At) (bytes : List ℕ) → length (done (came_at at bytes)).held ≤ length bytes
done-fewer line.Head bytes = omega arith
done-fewer (line.Present body kind skips) bytes = drops-fewer skips bytes
done-fewer (line.Dropping far) bytes = omega arith
done-fewer (line.Over code) bytes = omega arith

-- a head ends after some bytes, and those are taken
cut-fewer : (o : Option ℕ) (n : ℕ) (held : List ℕ) → o ≡ Some n → 0 < n → n ≤ length held → length (after_head o held) < length held
cut-fewer o n held e some within =
    subst (λ (o : Option ℕ). length (after_head o held) < length held) (sym e) (omega (arith, length-drop n held, some, within))

led-fewer : (at : At) (held : List ℕ) (head : Head) (target : Target) (after : Came) → LeadsAt at held (out.Request head target) after
    → length after.held < length held
led-fewer line.Head held head target after h =
    let not : out.Request head target ≢ out.Waiting = (λ e. let f : out.Request head target ≡ out.Waiting = e in cc) in
    let end = ends held (out.Request head target) not (λ code e. let f : out.Request head target ≡ out.Refused code = e in cc) h.0 in
    subst (λ (k : Came). length k.held < length held) (sym h.1)
    (cut-fewer (head_end held) end.0 held end.1 (end-some held end.0 end.1) (head_end-bound held end.0 end.1))
led-fewer (line.Present body kind skips) held head target after h = absurd (let f : out.Request head target ≡ out.Waiting = h.0 in cc)
led-fewer (line.Dropping far) held head target after h = absurd (let f : true ≡ false = ap asks_more h.0 ∙ dropping-answers far in cc)
led-fewer (line.Over code) held head target after h = absurd (let f : out.Request head target ≡ out.Refused code = h.0 in cc)

pub next-fewer : (came : Came) (head : Head) (target : Target) → (fed (done came) []).answer ≡ out.Request head target
    → length (fed (done came) []).after.held < length came.held
next-fewer came head target e =
    let d = done came in
    let s = settled d.at (d.held ++ []) in
    let is : IsFed d [] (out.Request head target) (fed d []).after = subst (λ (a : LineOut). IsFed d [] a (fed d []).after) e (is-fed d []) in
    let taken : length (fed d []).after.held < length s.held = led-fewer s.at s.held head target (fed d []).after is in
    let settles : length s.held ≤ length d.held =
    subst (λ (b : List ℕ). length (settled d.at b).held ≤ length d.held) (sym (append-nil d.held)) (settled-fewer d.at d.held) in
    omega (arith, taken, settles, done-fewer came.at came.held)
