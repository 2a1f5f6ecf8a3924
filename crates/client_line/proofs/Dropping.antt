-- What a body leads to that is dropped, by how far it is.
use Rattle.std.proofs.Common.{◌≡◌, ◌≢◌, ℕ, List, [], ◌++◌, drop, refl, sym, ap, subst, ◌∙◌, arith}
use Rattle.http_in.specs.declared.scan.HeadScan.{HeadScan}
use Rattle.http_in.specs.Scanning.{scan_of}
use Rattle.http_bodies.specs.declared.states.BodyState.{BodyState}
use Rattle.http_bodies.specs.declared.states.BodyState.TheVariants as state
use Rattle.http_bodies.specs.Skips.{skipped, skip_count}
use Rattle.client_line.specs.declared.requests.LineOut.TheVariants as out
use Rattle.client_line.specs.Records.{Head, Dropping}
use Rattle.client_line.specs.Lines.{came_at, after_body, drops, Leads}
use Rattle.client_line.specs.Views.{IsScanned}

-- it isn't whole yet
pub drops-more : (s : BodyState) (rest held : List ℕ) → s ≢ state.Whole → ((code : ℕ) → s ≢ state.Refused code) → held ≡ []
    → Leads (after_body s rest) out.Waiting (came_at (Dropping s) held)
drops-more (state.Data more of) rest held whole refused none = (refl, ap (came_at (Dropping (state.Data more of))) none)
drops-more (state.Digits size n) rest held whole refused none = (refl, ap (came_at (Dropping (state.Digits size n))) none)
drops-more (state.Blanks size n) rest held whole refused none = (refl, ap (came_at (Dropping (state.Blanks size n))) none)
drops-more (state.Extension size n) rest held whole refused none = (refl, ap (came_at (Dropping (state.Extension size n))) none)
drops-more (state.Return size n) rest held whole refused none = (refl, ap (came_at (Dropping (state.Return size n))) none)
drops-more state.DataEnd rest held whole refused none = (refl, ap (came_at (Dropping state.DataEnd)) none)
drops-more state.DataReturn rest held whole refused none = (refl, ap (came_at (Dropping state.DataReturn)) none)
drops-more (state.Trailers n) rest held whole refused none = (refl, ap (came_at (Dropping (state.Trailers n))) none)
drops-more (state.TrailersReturn n) rest held whole refused none = (refl, ap (came_at (Dropping (state.TrailersReturn n))) none)
drops-more (state.TrailersLine n) rest held whole refused none = (refl, ap (came_at (Dropping (state.TrailersLine n))) none)
drops-more state.Whole rest held whole refused none = absurd (whole refl)
drops-more (state.Refused code) rest held whole refused none = absurd (refused code refl)

-- there is a fault in it
pub drops-fault : (s : BodyState) (code : ℕ) (rest held : List ℕ) → s ≡ state.Refused code → held ≡ [] → Leads (after_body s rest) (out.Refused 400) (came_at (Dropping s) held)
drops-fault s code rest held e none =
    subst (λ (k : BodyState). Leads (after_body k rest) (out.Refused 400) (came_at (Dropping k) held)) (sym e) (refl, ap (came_at (Dropping (state.Refused code))) none)

-- it is over, by how far the line is: what follows it is left, or nothing is held
pub after-more : (s : BodyState) (rest : List ℕ) → s ≢ state.Whole → after_body s rest ≡ came_at (Dropping s) []
after-more (state.Data more of) rest not = refl
after-more (state.Digits size n) rest not = refl
after-more (state.Blanks size n) rest not = refl
after-more (state.Extension size n) rest not = refl
after-more (state.Return size n) rest not = refl
after-more state.DataEnd rest not = refl
after-more state.DataReturn rest not = refl
after-more (state.Trailers n) rest not = refl
after-more (state.TrailersReturn n) rest not = refl
after-more (state.TrailersLine n) rest not = refl
after-more (state.Refused code) rest not = refl
after-more state.Whole rest not = absurd (not refl)

-- no byte was scanned
pub none-scanned : (scan : HeadScan) (bytes : List ℕ) → scan ≡ scan_of [] → IsScanned scan 0 bytes
none-scanned scan bytes e = record { within = omega arith; state = e; unfinished = refl }

-- ---- by what skipping returns

pub drops-whole : (far next : BodyState) (piece held rest : List ℕ) (n : ℕ) → next ≡ skipped far piece → next ≡ state.Whole → n ≡ skip_count far piece
    → held ≡ [] → rest ≡ drop n piece → came_at Head (held ++ rest) ≡ drops far piece
drops-whole far next piece held rest n moved whole counted none left =
    let after : came_at Head (drop n piece) ≡ after_body (skipped far piece) (drop n piece) = ap (λ (s : BodyState). after_body s (drop n piece)) (sym whole ∙ moved) in
    ap (λ (b : List ℕ). came_at Head (b ++ rest)) none ∙ ap (came_at Head) left ∙ after ∙ ap (λ k. after_body (skipped far piece) (drop k piece)) counted

pub drops-on-fault : (far next : BodyState) (piece held : List ℕ) (code : ℕ) → next ≡ skipped far piece → next ≡ state.Refused code → held ≡ []
    → Leads (drops far piece) (out.Refused 400) (came_at (Dropping next) held)
drops-on-fault far next piece held code moved fault none =
    subst (λ (s : BodyState). Leads (after_body s (drop (skip_count far piece) piece)) (out.Refused 400) (came_at (Dropping next) held)) moved
    (drops-fault next code (drop (skip_count far piece) piece) held fault none)

pub drops-on-more : (far next : BodyState) (piece held : List ℕ) → next ≡ skipped far piece → next ≢ state.Whole → ((code : ℕ) → next ≢ state.Refused code)
    → held ≡ [] → Leads (drops far piece) out.Waiting (came_at (Dropping next) held)
drops-on-more far next piece held moved whole fault none =
    subst (λ (s : BodyState). Leads (after_body s (drop (skip_count far piece) piece)) out.Waiting (came_at (Dropping next) held)) moved
    (drops-more next (drop (skip_count far piece) piece) held whole fault none)
