-- Bodies whose bytes come in pieces.
use Rattle.std.specs.Prelude.{true, false}
use Rattle.std.proofs.Common.{◌≡◌, ℕ, List, [], ◌∷◌, ◌++◌, refl, ap, ◌∙◌}
use Rattle.http_bodies.specs.declared.states.BodyState.{BodyState}
use Rattle.http_bodies.specs.declared.states.BodyState.TheVariants.{Data, Digits, Blanks, Extension, Return, DataEnd, DataReturn, Trailers, TrailersReturn, TrailersLine, Whole, Refused}
use Rattle.http_bodies.specs.Records.{Body}
use Rattle.http_bodies.specs.States.{is_settled}
use Rattle.http_bodies.specs.Bodies.{body_at, after_one, after_bytes, used}

pub after_bytes-append : (body : Body) (xs ys : List ℕ) → after_bytes (after_bytes body xs) ys ≡ after_bytes body (xs ++ ys)
after_bytes-append body [] ys = refl
after_bytes-append body (x ∷ xs) ys = after_bytes-append (after_one body x) xs ys

-- a body that is whole or refused stays as it is
stays : (max : ℕ) (content : List ℕ) (state : BodyState) (b : ℕ) → is_settled state ≡ true → after_one (body_at max state content) b ≡ body_at max state content
stays max content (Data more of) b h = absurd (let f : false ≡ true = h in cc)
stays max content (Digits size n) b h = absurd (let f : false ≡ true = h in cc)
stays max content (Blanks size n) b h = absurd (let f : false ≡ true = h in cc)
stays max content (Extension size n) b h = absurd (let f : false ≡ true = h in cc)
stays max content (Return size n) b h = absurd (let f : false ≡ true = h in cc)
stays max content DataEnd b h = absurd (let f : false ≡ true = h in cc)
stays max content DataReturn b h = absurd (let f : false ≡ true = h in cc)
stays max content (Trailers n) b h = absurd (let f : false ≡ true = h in cc)
stays max content (TrailersReturn n) b h = absurd (let f : false ≡ true = h in cc)
stays max content (TrailersLine n) b h = absurd (let f : false ≡ true = h in cc)
stays max content Whole b h = refl
stays max content (Refused code) b h = refl

pub settled-stays : (max : ℕ) (state : BodyState) (content bs : List ℕ) → is_settled state ≡ true → after_bytes (body_at max state content) bs ≡ body_at max state content
settled-stays max state content [] h = refl
settled-stays max state content (b ∷ bs) h = ap (λ body. after_bytes body bs) (stays max content state b h) ∙ settled-stays max state content bs h

pub settled-uses : (max : ℕ) (state : BodyState) (content bs : List ℕ) → is_settled state ≡ true → used (body_at max state content) bs ≡ 0
settled-uses max state content [] h = refl
settled-uses max state content (b ∷ bs) h = rw h refl
