-- What is taken of the bytes that are held, by what a body is answered with.
use Rattle.std.specs.Prelude.{Bool, true, false, suc, Option, Some, None, if◌then◌else◌}
use Rattle.std.proofs.Common.{◌≡◌, ◌≢◌, ℕ, List, [], ◌∷◌, length, refl, sym, ap, ◌∙◌}
use Rattle.http_bodies.specs.declared.bodies.BodyRead.{BodyRead}
use Rattle.http_bodies.specs.declared.bodies.BodyRead.TheVariants as answer
use Rattle.http_bodies.specs.declared.states.BodyState.{BodyState}
use Rattle.http_bodies.specs.declared.states.BodyState.TheVariants.{Data, Digits, Blanks, Extension, Return, DataEnd, DataReturn, Trailers, TrailersReturn, TrailersLine, Whole, Refused}
use Rattle.http_bodies.specs.Records.{Body}
use Rattle.http_bodies.specs.States.{is_settled}
use Rattle.http_bodies.specs.Bodies.{after_one, after_bytes, used, answer_at}
use Rattle.http_bodies.proofs.Pieces.{settled-stays}
use Rattle.http_in.specs.declared.framing.BodyKind.{BodyKind}
use Rattle.client_line.specs.Records.{Present}
use Rattle.client_line.specs.Lines.{came_at, count_by, taken_count, held_after, skips_after, reads_body}
use Rattle.client_line.specs.Views.{taken_of}

-- where a body is neither whole nor refused all bytes belong to it
uses-all : (body : Body) (bs : List ℕ) → is_settled (after_bytes body bs).state ≡ false → used body bs ≡ length bs
uses-all body [] h = refl
uses-all body (b ∷ bs) h = test (uses-all (after_one body b) bs h) (is_settled body.state) refl
  where
    test : used (after_one body b) bs ≡ length bs → (s : Bool) → is_settled body.state ≡ s → (if s then 0 else suc (used (after_one body b) bs)) ≡ suc (length bs)
    test more true e =
        let stays : after_bytes body (b ∷ bs) ≡ body = settled-stays body.max body.state body.content (b ∷ bs) e in
        absurd (let f : true ≡ false = sym e ∙ ap (λ (x : Body). is_settled x.state) (sym stays) ∙ h in cc)
    test more false e = ap suc more

is-more : (state : BodyState) (n : ℕ) → answer_at state n ≡ answer.More → (is_settled state ≡ false) × (count_by state n ≡ n)
is-more (Data more of) n h = (refl, refl)
is-more (Digits size m) n h = (refl, refl)
is-more (Blanks size m) n h = (refl, refl)
is-more (Extension size m) n h = (refl, refl)
is-more (Return size m) n h = (refl, refl)
is-more DataEnd n h = (refl, refl)
is-more DataReturn n h = (refl, refl)
is-more (Trailers m) n h = (refl, refl)
is-more (TrailersReturn m) n h = (refl, refl)
is-more (TrailersLine m) n h = (refl, refl)
is-more Whole n h = absurd (let f : answer.Whole n ≡ answer.More = h in cc)
is-more (Refused code) n h = absurd (let f : answer.Refused code ≡ answer.More = h in cc)

is-whole : (state : BodyState) (n m : ℕ) → answer_at state n ≡ answer.Whole m → count_by state n ≡ m
is-whole (Data more of) n m h = absurd (let f : answer.More ≡ answer.Whole m = h in cc)
is-whole (Digits size k) n m h = absurd (let f : answer.More ≡ answer.Whole m = h in cc)
is-whole (Blanks size k) n m h = absurd (let f : answer.More ≡ answer.Whole m = h in cc)
is-whole (Extension size k) n m h = absurd (let f : answer.More ≡ answer.Whole m = h in cc)
is-whole (Return size k) n m h = absurd (let f : answer.More ≡ answer.Whole m = h in cc)
is-whole DataEnd n m h = absurd (let f : answer.More ≡ answer.Whole m = h in cc)
is-whole DataReturn n m h = absurd (let f : answer.More ≡ answer.Whole m = h in cc)
is-whole (Trailers k) n m h = absurd (let f : answer.More ≡ answer.Whole m = h in cc)
is-whole (TrailersReturn k) n m h = absurd (let f : answer.More ≡ answer.Whole m = h in cc)
is-whole (TrailersLine k) n m h = absurd (let f : answer.More ≡ answer.Whole m = h in cc)
is-whole Whole n m h = let f : answer.Whole n ≡ answer.Whole m = h in cc
is-whole (Refused code) n m h = absurd (let f : answer.Refused code ≡ answer.Whole m = h in cc)

is-refused : (state : BodyState) (n code : ℕ) → answer_at state n ≡ answer.Refused code → count_by state n ≡ 0
is-refused (Data more of) n code h = absurd (let f : answer.More ≡ answer.Refused code = h in cc)
is-refused (Digits size k) n code h = absurd (let f : answer.More ≡ answer.Refused code = h in cc)
is-refused (Blanks size k) n code h = absurd (let f : answer.More ≡ answer.Refused code = h in cc)
is-refused (Extension size k) n code h = absurd (let f : answer.More ≡ answer.Refused code = h in cc)
is-refused (Return size k) n code h = absurd (let f : answer.More ≡ answer.Refused code = h in cc)
is-refused DataEnd n code h = absurd (let f : answer.More ≡ answer.Refused code = h in cc)
is-refused DataReturn n code h = absurd (let f : answer.More ≡ answer.Refused code = h in cc)
is-refused (Trailers k) n code h = absurd (let f : answer.More ≡ answer.Refused code = h in cc)
is-refused (TrailersReturn k) n code h = absurd (let f : answer.More ≡ answer.Refused code = h in cc)
is-refused (TrailersLine k) n code h = absurd (let f : answer.More ≡ answer.Refused code = h in cc)
is-refused Whole n code h = absurd (let f : answer.Whole n ≡ answer.Refused code = h in cc)
is-refused (Refused other) n code h = refl

-- how many of the bytes are taken
pub takes-some : (body : Body) (bs : List ℕ) (read : BodyRead) (n : ℕ) → read ≡ answer_at (after_bytes body bs).state (used body bs) → taken_of read (length bs) ≡ Some n
    → taken_count body bs ≡ n
takes-some body bs answer.More n h s =
    let is = is-more (after_bytes body bs).state (used body bs) (sym h) in
    let count : length bs ≡ n = (let f : Some (length bs) ≡ Some n = s in cc) in
    is.1 ∙ uses-all body bs is.0 ∙ count
takes-some body bs (answer.Whole m) n h s =
    let count : m ≡ n = (let f : Some m ≡ Some n = s in cc) in
    is-whole (after_bytes body bs).state (used body bs) m (sym h) ∙ count
takes-some body bs (answer.Refused code) n h s = absurd (let f : None ≡ Some n = s in cc)
takes-some body bs answer.Memory n h s = absurd (let f : None ≡ Some n = s in cc)

pub takes-none : (body : Body) (bs : List ℕ) (read : BodyRead) (len : ℕ) → read ≢ answer.Memory → read ≡ answer_at (after_bytes body bs).state (used body bs) → taken_of read len ≡ None
    → taken_count body bs ≡ 0
takes-none body bs answer.More len m h s = absurd (let f : Some len ≡ None = s in cc)
takes-none body bs (answer.Whole k) len m h s = absurd (let f : Some k ≡ None = s in cc)
takes-none body bs (answer.Refused code) len m h s = is-refused (after_bytes body bs).state (used body bs) code (sym h)
takes-none body bs answer.Memory len m h s = absurd (m refl)

-- what came after the body was read
pub reads-so : (body new : Body) (kind : BodyKind) (skips after : BodyState) (bytes left : List ℕ) → new ≡ after_bytes body bytes → after ≡ skips_after body skips bytes
    → left ≡ held_after body bytes → came_at (Present (Some new) kind after) left ≡ reads_body body kind skips bytes
reads-so body new kind skips after bytes left e f g =
    ap (λ (b : Body). came_at (Present (Some b) kind after) left) e
    ∙ ap (λ (s : BodyState). came_at (Present (Some (after_bytes body bytes)) kind s) left) f
    ∙ ap (came_at (Present (Some (after_bytes body bytes)) kind (skips_after body skips bytes))) g

-- what is kept out of memory
pub kept-so : (body : Option Body) (kind : BodyKind) (skips after : BodyState) (bytes left : List ℕ) → after ≡ skips → left ≡ bytes
    → came_at (Present body kind after) left ≡ came_at (Present body kind skips) bytes
kept-so body kind skips after bytes left e f = ap (λ (s : BodyState). came_at (Present body kind s) left) e ∙ ap (came_at (Present body kind skips)) f
