-- How far a body would be, without its content: the length of that is enough.
use Rattle.std.proofs.Common.{◌≡◌, ℕ, ◌-◌, ◌<◌, ◌≤◌, ◌++◌, List, [], ◌∷◌, if◌then◌else◌, true, false, length, take, drop, get_or, refl, sym, ap, ◌∙◌, arith, length-append, length-take}
use Rattle.std.proofs.lemmas.List.{take_all}
use Rattle.http_bodies.specs.declared.states.DataOf.{DataOf}
use Rattle.http_bodies.specs.declared.states.BodyState.{BodyState}
use Rattle.http_bodies.specs.declared.states.BodyState.TheVariants.{Data}
use Rattle.http_bodies.specs.States.{after_byte, takes_data, is_settled}
use Rattle.http_bodies.specs.Bodies.{body_at, after_bytes}
use Rattle.http_bodies.specs.Runs.{run_length, after_run}
use Rattle.http_bodies.proofs.Pieces.{settled-stays}
use Rattle.http_bodies.proofs.Running.{run-moved}

-- the state of a body after these bytes is this one, whatever content of such a length it has
abbrev pub LeadsTo : BodyState → ℕ → List ℕ → BodyState → Type 0
LeadsTo state room bytes after = (max : ℕ) (content : List ℕ) → room ≡ max - length content → after ≡ (after_bytes (body_at max state content) bytes).state

pub none-left : (state : BodyState) (room : ℕ) (bytes : List ℕ) → length bytes < 1 → LeadsTo state room bytes state
none-left state room [] h max content e = refl
none-left state room (b ∷ bs) h max content e = absurd (omega (arith, h))

pub settled-leads : (state : BodyState) (room : ℕ) (bytes : List ℕ) → is_settled state ≡ true → LeadsTo state room bytes state
settled-leads state room bytes h max content e = ap (λ body. body.state) (sym (settled-stays max state content bytes h))

pub run-leads : (more room count : ℕ) (of : DataOf) (bytes : List ℕ) (after : BodyState) → count ≡ run_length more (length bytes) → count ≤ length bytes
    → LeadsTo (after_run more of (length bytes)) (room - count) (drop count bytes) after → LeadsTo (Data more of) room bytes after
run-leads more room count of bytes after is within h max content e =
    h max (content ++ take count bytes) (omega (arith, length-append content (take count bytes), length-take count bytes, e, within))
    ∙ ap (λ n. (after_bytes (body_at max (after_run more of (length bytes)) (content ++ take n bytes)) (drop n bytes)).state) is
    ∙ ap (λ body. body.state) (sym (run-moved max more of content bytes))

no-data : (state : BodyState) → ((more : ℕ) (of : DataOf) → state ≡ Data more of → ⊥) → takes_data state ≡ false
no-data (Data more of) h = absurd (h more of refl)
no-data state h = refl

pub byte-leads : (state : BodyState) (room : ℕ) (bytes : List ℕ) (after : BodyState) → ((more : ℕ) (of : DataOf) → state ≡ Data more of → ⊥) → 1 ≤ length bytes
    → LeadsTo (after_byte room state (get_or bytes 0 0)) room (take (length bytes - 1) (drop 1 bytes)) after → LeadsTo state room bytes after
byte-leads state room [] after none some h max content e = absurd (omega (arith, some))
byte-leads state room (b ∷ bs) after none some h max content e =
    let all : take (length (b ∷ bs) - 1) bs ≡ bs = take_all (length (b ∷ bs) - 1) bs (omega arith) in
    let kept : content ≡ (if takes_data state then content ++ b ∷ [] else content) = rw (no-data state none) refl in
    h max content e
    ∙ ap (λ xs. (after_bytes (body_at max (after_byte room state b) content) xs).state) all
    ∙ ap (λ n. (after_bytes (body_at max (after_byte n state b) content) bs).state) e
    ∙ ap (λ xs. (after_bytes (body_at max (after_byte (max - length content) state b) xs) bs).state) kept
