-- The functions give what the relations have, and nothing else.
use Rattle.std.proofs.Common.{◌≡◌, ℕ, List, refl, ap, ◌∙◌}
use Rattle.std.specs.Prelude.{◌++◌}
use Rattle.http_in.specs.declared.heads.HeadRead.{HeadRead}
use Rattle.http_in.specs.Heads.{Reads}
use Rattle.http_in.proofs.Answers.{one-answer}
use Rattle.client_line.specs.declared.requests.LineOut.{LineOut}
use Rattle.client_line.specs.Requests.{answer_to}
use Rattle.client_line.specs.Records.{At, Came}
use Rattle.client_line.specs.Records.{Head, Present, Dropping, Over}
use Rattle.client_line.specs.Lines.{settled, after_answer, LeadsAt, IsFed}
use Rattle.client_line.specs.HeadLaws.{read-of}
use Rattle.client_line.specs.HeadAnswers.{head_read}
use Rattle.client_line.specs.Feeding.{Fed, led, fed}

pub reads : (bytes : List ℕ) → Reads bytes (head_read bytes)
unfolding head_read
reads bytes = (read-of bytes).1

pub no-other : (bytes : List ℕ) (answer : HeadRead) → Reads bytes answer → answer ≡ head_read bytes
no-other bytes answer h = one-answer bytes answer (head_read bytes) h (reads bytes)

leads : (at : At) (bytes : List ℕ) → LeadsAt at bytes (led at bytes).answer (led at bytes).after
leads Head bytes = ((head_read bytes, reads bytes, refl), refl)
leads (Present body kind skips) bytes = (refl, refl)
leads (Dropping far) bytes = (refl, refl)
leads (Over code) bytes = (refl, refl)

both-are : {answer other : LineOut} {after next : Came} → answer ≡ other → after ≡ next
    → ◌≡◌ {A = Fed} (record { answer = answer; after = after }) (record { answer = other; after = next })
both-are e f = λ i. record { answer = e i; after = f i }

leads-only : (at : At) (bytes : List ℕ) (answer : LineOut) (after : Came) → LeadsAt at bytes answer after
    → record { answer = answer; after = after } ≡ led at bytes
leads-only Head bytes answer after h =
    let e : answer ≡ answer_to (head_read bytes) = h.0.2 ∙ ap answer_to (no-other bytes h.0.0 h.0.1) in
    both-are e (h.1 ∙ ap (λ (a : LineOut). after_answer a bytes) e)
leads-only (Present body kind skips) bytes answer after h = both-are h.0 h.1
leads-only (Dropping far) bytes answer after h = both-are h.0 h.1
leads-only (Over code) bytes answer after h = both-are h.0 h.1

pub is-fed : (came : Came) (piece : List ℕ) → IsFed came piece (fed came piece).answer (fed came piece).after
is-fed came piece = let c = settled came.at (came.held ++ piece) in leads c.at c.held

pub fed-only : (came after : Came) (piece : List ℕ) (answer : LineOut) → IsFed came piece answer after
    → record { answer = answer; after = after } ≡ fed came piece
fed-only came after piece answer h = let c = settled came.at (came.held ++ piece) in leads-only c.at c.held answer after h
