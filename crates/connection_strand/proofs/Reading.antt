-- What is held pays for the requests that are read of it.
use Rattle.std.proofs.Common.{◌≡◌, ℕ, ◌≤◌, ◌+◌, ◌*◌, ◌==◌, Bool, true, false, not, List, [], ◌∷◌, ◌++◌, length, drop, suc, Option, Some, None, if◌then◌else◌, refl, ap, ◌∙◌, arith, length-append, mul-le-mul_right}
use Rattle.std.specs.Prelude.{option_map, ◌&&◌, ◌||◌}
use Rattle.std.proofs.lemmas.List.{length-drop}
use Rattle.http_bodies.specs.declared.states.BodyState.{BodyState}
use Rattle.http_bodies.specs.declared.states.BodyState.TheVariants as state
use Rattle.http_bodies.specs.Skips.{skipped, skip_count}
use Rattle.http_in.specs.Ends.{head_end, end_within, begins_empty_line, begins_feed, empty_line_size}
use Rattle.http_in.proofs.Scans.{head_end-bound}
use Rattle.resty_base.specs.Ascii.{line_feed, carriage_return}
use Rattle.client_line.specs.declared.requests.LineOut.{LineOut}
use Rattle.client_line.specs.declared.requests.LineOut.TheVariants as out
use Rattle.client_line.specs.Requests.{IsOf}
use Rattle.client_line.specs.Records.{At, Came}
use Rattle.client_line.specs.Records as line
use Rattle.client_line.specs.Lines.{after_body, drops, settled, answer_dropping, after_head, after_answer, LeadsAt, IsFed, ended_at, done, after_asked, asked_at, taken_count, body_so_far}
use Rattle.client_line.proofs.Feeds.{ends}
use Rattle.connection_plan.specs.Clients.{is_last}
use Rattle.connection_strand.specs.declared.state.Connection.{Connection}
use Rattle.connection_strand.specs.declared.state.Progress.{Progress}
use Rattle.connection_strand.specs.Kept.{kept}
use Rattle.connection_strand.specs.Costs.{unit, weight_if, client_left, run_left, units, whole, Spends, Heard, Settles}
use Rattle.connection_strand.proofs.Costing.{may-end, unit-some}

-- ---- what is held grows less

dropped-fewer : (far : BodyState) (n : ℕ) (bytes : List ℕ) → length (after_body far (drop n bytes)).held ≤ length bytes
dropped-fewer state.Whole n bytes = let e = length-drop n bytes in omega arith
dropped-fewer far n bytes = omega arith

drops-fewer : (far : BodyState) (bytes : List ℕ) → length (drops far bytes).held ≤ length bytes
drops-fewer far bytes = dropped-fewer (skipped far bytes) (skip_count far bytes) bytes

settled-fewer : (at : At) (bytes : List ℕ) → length (settled at bytes).held ≤ length bytes
settled-fewer line.Head bytes = omega arith
settled-fewer (line.Present body kind skips) bytes = omega arith
settled-fewer (line.Dropping far) bytes = drops-fewer far bytes
settled-fewer (line.Over code) bytes = omega arith

pub done-fewer : (came : Came) → length (done came).held ≤ length came.held
done-fewer came = by came.at came.held
  where
    by : (at : At) (bytes : List ℕ) → length (ended_at at bytes).held ≤ length bytes
    by (line.Present body kind skips) bytes = drops-fewer skips bytes
    by at bytes = omega arith

pub asked-fewer : (came : Came) (max : ℕ) → length (after_asked came max).held ≤ length came.held
asked-fewer came max = by came.at came.held
  where
    by : (at : At) (bytes : List ℕ) → length (asked_at at bytes max).held ≤ length bytes
    by (line.Present body kind skips) bytes = let e = length-drop (taken_count (body_so_far body kind max) bytes) bytes in omega arith
    by at bytes = omega arith

-- ---- a head has a byte

some-more : (o : Option ℕ) (n : ℕ) → option_map suc o ≡ Some n → 1 ≤ n
some-more None n e = absurd (let f : None ≡ Some n = e in cc)
some-more (Some k) n e = let f : suc k ≡ n = (let g : Some (suc k) ≡ Some n = e in cc) in omega arith

some-within : (bytes : List ℕ) (n : ℕ) → end_within bytes ≡ Some n → 1 ≤ n
some-within [] n e = absurd (let f : None ≡ Some n = e in cc)
some-within (b ∷ bs) n e = by ((b == line_feed) && begins_empty_line bs) e
  where
    by : (o : Bool) → (if o then Some (1 + empty_line_size bs) else option_map suc (end_within bs)) ≡ Some n → 1 ≤ n
    by true e = let f : 1 + empty_line_size bs ≡ n = (let g : Some (1 + empty_line_size bs) ≡ Some n = e in cc) in omega arith
    by false e = some-more (end_within bs) n e

some-head : (bytes : List ℕ) (n : ℕ) → head_end bytes ≡ Some n → 1 ≤ n
some-head [] n e = absurd (let f : None ≡ Some n = e in cc)
some-head (b ∷ bs) n e = by ((b == line_feed) || ((b == carriage_return) && begins_feed bs)) e
  where
    by : (o : Bool) → (if o then option_map suc (head_end bs) else end_within (b ∷ bs)) ≡ Some n → 1 ≤ n
    by true e = some-more (head_end bs) n e
    by false e = some-within (b ∷ bs) n e

after-fewer : (bytes : List ℕ) (n : ℕ) → head_end bytes ≡ Some n → length (after_head (head_end bytes) bytes) + 1 ≤ length bytes
after-fewer bytes n e =
    let f = ap (λ o. length (after_head o bytes)) e ∙ length-drop n bytes in let g = some-head bytes n e in let h = head_end-bound bytes n e in omega arith

-- ---- what is answered

-- how many bytes an answer takes at least
abbrev pub byte_of : LineOut → ℕ
byte_of (out.Request head target) = 1
byte_of answer = 0

answer-fewer : (bytes : List ℕ) (answer : LineOut) → IsOf bytes answer → length (after_answer answer bytes).held + byte_of answer ≤ length bytes
answer-fewer bytes (out.Request head target) is =
    let e = ends bytes (out.Request head target) (λ f. (let g : out.Request head target ≡ out.Waiting = f in cc)) (λ code f. (let g : out.Request head target ≡ out.Refused code = f in cc)) is in
    after-fewer bytes e.0 e.1
answer-fewer bytes (out.Refused code) is = omega arith
answer-fewer bytes out.Waiting is = omega arith
answer-fewer bytes out.Memory is = omega arith

dropping-byte : (far : BodyState) → byte_of (answer_dropping far) ≡ 0
dropping-byte (state.Refused code) = refl
dropping-byte far = refl

leads-fewer : (at : At) (bytes : List ℕ) (answer : LineOut) (after : Came) → LeadsAt at bytes answer after → length after.held + byte_of answer ≤ length bytes
leads-fewer line.Head bytes answer after h = let e = ap (λ (c : Came). length c.held) h.1 in let f = answer-fewer bytes answer h.0 in omega arith
leads-fewer (line.Present body kind skips) bytes answer after h = let e = ap (λ (c : Came). length c.held) h.1 in let f = ap byte_of h.0 in omega arith
leads-fewer (line.Dropping far) bytes answer after h = let e = ap (λ (c : Came). length c.held) h.1 in let f = ap byte_of h.0 ∙ dropping-byte far in omega arith
leads-fewer (line.Over code) bytes answer after h = let e = ap (λ (c : Came). length c.held) h.1 in let f = ap byte_of h.0 in omega arith

pub fed-fewer : (before after : Came) (answer : LineOut) → IsFed before [] answer after → length after.held + byte_of answer ≤ length before.held
fed-fewer before after answer h =
    let c = settled before.at (before.held ++ []) in
    let f = leads-fewer c.at c.held answer after h in
    let g = settled-fewer before.at (before.held ++ []) in
    let e = length-append before.held [] in
    omega arith

-- ---- what follows a reply is paid for

unit-next : (x b w y z : ℕ) → y + (b + 2) ≤ z → unit * (x + y + w) + unit * (b + 1) + unit ≤ unit * (x + z + w)
unfolding unit
unit-next x b w y z l = omega arith

unit-fewer : (x w y z : ℕ) → y ≤ z → unit * (x + y + w) ≤ unit * (x + z + w)
unfolding unit
unit-fewer x w y z l = omega arith

held-fewer : (bound k h : ℕ) → k + 1 ≤ h → k * (bound + 2) + (bound + 2) ≤ h * (bound + 2)
held-fewer bound k h l = let f : (k + 1) * (bound + 2) ≤ h * (bound + 2) = mul-le-mul_right (bound + 2) l in omega arith

module _ {R J : Type 0} (left : R → ℕ) (bound : ℕ) where
  -- a body that is asked for takes of what is held
  pub asked-costs : (c d : Connection R) (u : Progress J) → kept d.client ≡ record (kept c.client) { came = after_asked (kept c.client).came (kept c.client).limit } → d.run ≡ c.run
      → d.sockets ≡ c.sockets → Spends left bound 0 c u d u
  asked-costs c d u client run socks =
      let k = kept c.client in
      let n = length (after_asked k.came k.limit).held in
      let w = weight_if (not (is_last k.reply)) 1 in
      let x = run_left left bound c.run in
      let is : whole left bound d ≡ unit * (x + n * (bound + 2) + w) + client_left k + 2 * length c.sockets.items + 2 =
      λ i. unit * units left bound (client i) (run i) + client_left (client i) + 2 * length (socks i).items + 2 in
      let f = unit-fewer x w (n * (bound + 2)) (length k.came.held * (bound + 2)) (mul-le-mul_right (bound + 2) (asked-fewer k.came k.limit)) in
      omega arith

  pub limit-costs : (max : ℕ) (c d : Connection R) (u : Progress J) → kept d.client ≡ record (kept c.client) { limit = max; came = after_asked (kept c.client).came max } → d.run ≡ c.run
      → d.sockets ≡ c.sockets → Spends left bound 0 c u d u
  limit-costs max c d u client run socks =
      asked-costs (record c { client = record c.client { limit = max } }) d u client run socks

  pub next-pays : (answer : LineOut) (on : Bool) (c d c' : Connection R) (u u' : Progress J) → IsFed (done (kept c.client).came) [] answer (kept d.client).came
      → kept d.client ≡ record (kept c.client) { came = (kept d.client).came } → d.run ≡ c.run → d.sockets ≡ c.sockets
      → Heard left bound answer on d u c' u' → Settles left bound on c u c' u'
  next-pays answer on c d c' u u' fed client run socks h = by answer on less h
    where
      n : ℕ
      n = length (kept d.client).came.held

      m : ℕ
      m = length (kept c.client).came.held

      x : ℕ
      x = run_left left bound c.run

      w : ℕ
      w = weight_if (not (is_last (kept c.client).reply)) 1

      rest : ℕ
      rest = client_left (kept c.client)

      is : whole left bound d ≡ unit * (x + n * (bound + 2) + w) + rest + 2 * length c.sockets.items + 2
      is = λ i. unit * units left bound (client i) (run i) + client_left (client i) + 2 * length (socks i).items + 2

      less : n + byte_of answer ≤ m
      less = let f = fed-fewer (done (kept c.client).came) (kept d.client).came answer fed in let g = done-fewer (kept c.client).came in omega arith

      same : n ≤ m → whole left bound d ≤ whole left bound c
      same l = let f = unit-fewer x w (n * (bound + 2)) (m * (bound + 2)) (mul-le-mul_right (bound + 2) l) in let e = is in omega arith

      pays : n + 1 ≤ m → whole left bound d + unit * (bound + 1) + unit ≤ whole left bound c
      pays l = let f = unit-next x bound w (n * (bound + 2)) (m * (bound + 2)) (held-fewer bound n m l) in let e = is in omega arith

      by : (a : LineOut) (on : Bool) → n + byte_of a ≤ m → Heard left bound a on d u c' u' → Settles left bound on c u c' u'
      by (out.Request head target) true l h = let f = pays l in let g = unit-some in omega arith
      by (out.Request head target) false l h = let f = pays l in let g = may-end left bound c' in omega arith
      by (out.Refused code) true l h = absurd h
      by (out.Refused code) false l h = let f = same (omega arith) in omega arith
      by out.Waiting true l h = absurd h
      by out.Waiting false l h = let f = same (omega arith) in omega arith
      by out.Memory true l h = absurd h
      by out.Memory false l h = let f = same (omega arith) in omega arith
