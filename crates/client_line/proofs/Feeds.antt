-- Two pieces lead to what both joined lead to.
use Rattle.std.specs.Prelude.{Bool, true, false, Option, Some, None, MatchOption, nat_lt, if◌then◌else◌}
use Rattle.std.proofs.Common.{◌≡◌, ◌≢◌, ℕ, ◌+◌, List, ◌++◌, length, drop, refl, sym, ap, subst, ◌∙◌, append_assoc, arith}
use Rattle.std.proofs.lemmas.List.{drop-append-le}
use Rattle.std.proofs.Math.Seq.{drop-append-add}
use Rattle.http_in.specs.declared.heads.HeadRead.TheVariants as read
use Rattle.http_in.specs.Ends.{head_end}
use Rattle.http_in.specs.Heads.{ReadsHead, unfinished}
use Rattle.http_in.proofs.Scans.{head_end-append_some, head_end-bound}
use Rattle.http_in.proofs.Answers.{answer-stays}
use Rattle.http_bodies.specs.declared.states.BodyState.{BodyState}
use Rattle.http_bodies.specs.declared.states.BodyState.TheVariants as state
use Rattle.http_bodies.specs.States.{is_settled}
use Rattle.http_bodies.specs.Bodies.{begun_state}
use Rattle.http_bodies.specs.Skips.{no_limit, skipped, skip_count}
use Rattle.http_bodies.proofs.Skipping.{skipped-append, settled-stays, settled-counts, counts-append, counts-within, counts-all}
use Rattle.client_line.specs.declared.requests.LineOut.{LineOut}
use Rattle.client_line.specs.declared.requests.LineOut.TheVariants as out
use Rattle.client_line.specs.Requests.{answer_to, IsOf}
use Rattle.client_line.specs.Records.{At, Came, Head, Present, Dropping, Over}
use Rattle.client_line.specs.Lines.{came_at, after_body, drops, settled, after_head, after_answer, LeadsAt, Leads, IsFed}

-- ---- a body that is dropped

-- it goes on with what comes later
pub drops-on : (far : BodyState) (xs ys : List ℕ) → drops far (xs ++ ys) ≡ settled (drops far xs).at ((drops far xs).held ++ ys)
drops-on far xs ys =
    ap (λ s. after_body s (drop (skip_count far (xs ++ ys)) (xs ++ ys))) (sym (skipped-append far xs ys))
    ∙ ap (λ n. after_body (skipped (skipped far xs) ys) (drop n (xs ++ ys))) (counts-append far xs ys)
    ∙ from (skipped far xs) refl
  where
    unsettled : (s : BodyState) → skipped far xs ≡ s → is_settled s ≡ false
        → after_body (skipped s ys) (drop (skip_count far xs + skip_count s ys) (xs ++ ys)) ≡ after_body (skipped s ys) (drop (skip_count s ys) ys)
    unsettled s e h =
        let all : skip_count far xs ≡ length xs = counts-all far xs (ap is_settled e ∙ h) in
        ap (λ n. after_body (skipped s ys) (drop (n + skip_count s ys) (xs ++ ys))) all ∙ ap (after_body (skipped s ys)) (drop-append-add xs ys (skip_count s ys))

    from : (s : BodyState) → skipped far xs ≡ s → after_body (skipped s ys) (drop (skip_count far xs + skip_count s ys) (xs ++ ys))
        ≡ settled (after_body s (drop (skip_count far xs) xs)).at ((after_body s (drop (skip_count far xs) xs)).held ++ ys)
    from (state.Data more of) e = unsettled (state.Data more of) e refl
    from (state.Digits size n) e = unsettled (state.Digits size n) e refl
    from (state.Blanks size n) e = unsettled (state.Blanks size n) e refl
    from (state.Extension size n) e = unsettled (state.Extension size n) e refl
    from (state.Return size n) e = unsettled (state.Return size n) e refl
    from state.DataEnd e = unsettled state.DataEnd e refl
    from state.DataReturn e = unsettled state.DataReturn e refl
    from (state.Trailers n) e = unsettled (state.Trailers n) e refl
    from (state.TrailersReturn n) e = unsettled (state.TrailersReturn n) e refl
    from (state.TrailersLine n) e = unsettled (state.TrailersLine n) e refl
    from state.Whole e =
        let count : skip_count far xs + skip_count state.Whole ys ≡ skip_count far xs = omega (arith, settled-counts state.Whole ys refl) in
        ap (λ s. after_body s (drop (skip_count far xs + skip_count state.Whole ys) (xs ++ ys))) (settled-stays state.Whole ys refl)
        ∙ ap (λ n. came_at Head (drop n (xs ++ ys))) count
        ∙ ap (came_at Head) (drop-append-le (skip_count far xs) xs ys (counts-within far xs))
    from (state.Refused code) e =
        ap (λ s. after_body s (drop (skip_count far xs + skip_count (state.Refused code) ys) (xs ++ ys))) (settled-stays (state.Refused code) ys refl)
        ∙ sym (ap (λ s. after_body s (drop (skip_count (state.Refused code) ys) ys)) (settled-stays (state.Refused code) ys refl))

pub settled-on : (at : At) (xs ys : List ℕ) → settled at (xs ++ ys) ≡ settled (settled at xs).at ((settled at xs).held ++ ys)
settled-on Head xs ys = refl
settled-on (Present body kind skips) xs ys = refl
settled-on (Dropping far) xs ys = drops-on far xs ys
settled-on (Over code) xs ys = refl

-- ---- a head

-- an answer that isn't Waiting stays
pub stays : (bytes more : List ℕ) (answer : LineOut) → answer ≢ out.Waiting → IsOf bytes answer → IsOf (bytes ++ more) answer
stays bytes more answer not is =
    (is.0, answer-stays bytes more is.0 (λ e. not (is.2 ∙ ap answer_to e)) is.1, is.2)

-- where a request is read the head ends
pub ends : (bytes : List ℕ) (answer : LineOut) → answer ≢ out.Waiting → ((code : ℕ) → answer ≢ out.Refused code) → IsOf bytes answer → (n : ℕ) × (head_end bytes ≡ Some n)
ends bytes answer not ref is = from (head_end bytes) refl is.1
  where
    unread : (b : Bool) → is.0 ≡ (if b then read.More else read.Refused 431) → ⊥
    unread true e = not (is.2 ∙ ap answer_to e)
    unread false e = ref 431 (is.2 ∙ ap answer_to e)

    from : (o : Option ℕ) → head_end bytes ≡ o → MatchOption o (is.0 ≡ unfinished (length bytes)) (λ n. ReadsHead bytes n is.0) → (n : ℕ) × (head_end bytes ≡ Some n)
    from None e r = absurd (unread (nat_lt (length bytes) 16_384) r)
    from (Some n) e r = (n, e)

pub after-on : (bytes more : List ℕ) (n : ℕ) → head_end bytes ≡ Some n → after_head (head_end bytes) bytes ++ more ≡ after_head (head_end (bytes ++ more)) (bytes ++ more)
after-on bytes more n e =
    ap (λ o. after_head o bytes ++ more) e ∙ sym (drop-append-le n bytes more (head_end-bound bytes n e)) ∙ sym (ap (λ o. after_head o (bytes ++ more)) (head_end-append_some bytes more n e))

-- what came again leads to what came leads to, and more
abbrev Both : At → List ℕ → List ℕ → Came → Type 0
Both at held ys c = (z : LineOut) × Leads (settled at (held ++ ys)) z c

at-head : (bytes ys : List ℕ) (x y : LineOut) (c : Came) → IsOf bytes x → Leads (settled (after_answer x bytes).at ((after_answer x bytes).held ++ ys)) y c → Both Head bytes ys c
at-head bytes ys out.Waiting y c is led = (y, led)
at-head bytes ys out.Memory y c is led = (y, led)
at-head bytes ys (out.Refused code) y c is led =
    (out.Refused code, (stays bytes ys (out.Refused code) (λ e. let f : out.Refused code ≡ out.Waiting = e in cc) is, led.1))
at-head bytes ys (out.Request head target) y c is led =
    let end = ends bytes (out.Request head target) (λ e. let f : out.Request head target ≡ out.Waiting = e in cc) (λ code e. let f : out.Request head target ≡ out.Refused code = e in cc) is in (
      out.Request head target,
      (
        stays bytes ys (out.Request head target) (λ e. let f : out.Request head target ≡ out.Waiting = e in cc) is,
        led.1 ∙ ap (came_at (Present None head.body (begun_state head.body no_limit))) (after-on bytes ys end.0 end.1),
      ),
    )

leads-on : (at : At) (held ys : List ℕ) (x y : LineOut) (b c : Came) → LeadsAt at held x b → Leads (settled b.at (b.held ++ ys)) y c → Both at held ys c
leads-on Head held ys x y b c first second = at-head held ys x y c first.0 (subst (λ (k : Came). Leads (settled k.at (k.held ++ ys)) y c) first.1 second)
leads-on (Present body kind skips) held ys x y b c first second = (y, subst (λ (k : Came). Leads (settled k.at (k.held ++ ys)) y c) first.1 second)
leads-on (Dropping far) held ys x y b c first second = (y, subst (λ (k : Came). Leads (settled k.at (k.held ++ ys)) y c) first.1 second)
leads-on (Over code) held ys x y b c first second = (y, subst (λ (k : Came). Leads (settled k.at (k.held ++ ys)) y c) first.1 second)

-- what came first is settled, and then what came later
pub joined : (a : Came) (xs ys : List ℕ)
    → settled (settled a.at (a.held ++ xs)).at ((settled a.at (a.held ++ xs)).held ++ ys) ≡ settled a.at (a.held ++ (xs ++ ys))
joined a xs ys = sym (settled-on a.at (a.held ++ xs) ys) ∙ ap (settled a.at) (append_assoc a.held xs ys)

pub two-feeds : (a b c : Came) (xs ys : List ℕ) (x y : LineOut) → IsFed a xs x b → IsFed b ys y c → (z : LineOut) × IsFed a (xs ++ ys) z c
two-feeds a b c xs ys x y first second =
    let s = settled a.at (a.held ++ xs) in
    let both = leads-on s.at s.held ys x y b c first second in
    (both.0, subst (λ (k : Came). Leads k both.0 c) (joined a xs ys) both.1)
