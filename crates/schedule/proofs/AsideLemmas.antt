-- The strands for which room is set aside, as one comes or goes.
use Rattle.std.proofs.Common.{◌≡◌, ℕ, Bool, true, false, eqb, List, [], ◌∷◌, ◌≤◌, Option, Some, None, refl, sym, ap, ◌∙◌, arith}
use Rattle.std.specs.Bool.{if◌then◌else◌}
use Rattle.std.specs.List.{list_any}
use Rattle.std.specs.Prelude.{◌||◌}
use Rattle.std.proofs.lemmas.Bool.{eqb-true}
use Rattle.resty_base.specs.contracts.names.StrandIdPartialEq.TheImpl as derived
use Rattle.resty_base.specs.declared.names.StrandId.{StrandId}
use Rattle.resty_base.specs.declared.names.StrandId.TheVariants as strand
use Rattle.resty_base.specs.BoolLaws.{by_test}
use Rattle.resty_world.specs.Book.{Book}
use Rattle.resty_world.specs.Calls.{HasRoom, room_of}
use Rattle.resty_world.specs.Ids.{same_strand}
use Rattle.schedule.specs.declared.replay.Replay.{Replay}
use Rattle.schedule.specs.Aside.{HasAside}
use Rattle.schedule.specs.ReplayBook.{book_of}
use Rattle.schedule.specs.OpenIds.{has}

-- what `==` returns is whether the two are the same
same-by-eq : (x y : StrandId) → derived.ghosts.eq x y ≡ same_strand x y
same-by-eq (strand.Conn c) (strand.Conn d) = refl
same-by-eq (strand.Job n) (strand.Job m) = refl
same-by-eq (strand.Conn c) (strand.Job m) = refl
same-by-eq (strand.Job n) (strand.Conn d) = refl

eqb-turned : (n m : ℕ) → eqb n m ≡ eqb m n
eqb-turned n m = by_test (eqb n m)
    (λ on. ap (λ k. eqb n k) (sym (eqb-true n m on)) ∙ ap (λ k. eqb k n) (eqb-true n m on))
    (λ off. by_test (eqb m n) (λ on. ap (λ k. eqb k m) (sym (eqb-true m n on)) ∙ ap (λ k. eqb m k) (eqb-true m n on)) (λ no. off ∙ sym no))

same-turned : (x y : StrandId) → same_strand x y ≡ same_strand y x
same-turned (strand.Conn c) (strand.Conn d) = eqb-turned c d
same-turned (strand.Job n) (strand.Job m) = eqb-turned n m
same-turned (strand.Conn c) (strand.Job m) = refl
same-turned (strand.Job n) (strand.Conn d) = refl

either : (b c : Bool) → (if b then true else c) ≡ (b || c)
either true c = refl
either false c = refl

-- what a set has
pub has-any : (s : StrandId) (strands : List StrandId) → has same_strand s strands ≡ list_any (derived.ghosts.eq s) strands
has-any s [] = refl
has-any s (y ∷ ys) =
    ap (λ b. if same_strand s y then true else b) (has-any s ys)
    ∙ either (same_strand s y) (list_any (derived.ghosts.eq s) ys) ∙ ap (λ b. b || list_any (derived.ghosts.eq s) ys) (sym (same-by-eq s y))

-- a set after one strand came or went
pub has-updated : (s t : StrandId) (inside old new : List StrandId) (is_in : Bool) → inside ≡ old
    → list_any (derived.ghosts.eq s) new ≡ (if derived.ghosts.eq t s then is_in else list_any (derived.ghosts.eq s) inside)
    → has same_strand s new ≡ (if same_strand s t then is_in else has same_strand s old)
has-updated s t inside old new is_in same is =
    has-any s new ∙ is ∙ ap (λ b. if b then is_in else list_any (derived.ghosts.eq s) inside) (same-by-eq t s ∙ same-turned t s)
    ∙ ap (λ b. if same_strand s t then is_in else b) (sym (has-any s inside) ∙ ap (has same_strand s) same)

-- the room that a note has
pub room-left : (book : Book) (u : Option StrandId) → HasRoom book u → room_of u ≤ book.spare
room-left book None room = omega (arith, room)
room-left book (Some s) room = omega arith

pub aside-by-room : (world : Replay) (u : Option StrandId) → HasRoom (book_of world) u → HasAside world.aside u
aside-by-room world None room = tt
aside-by-room world (Some s) room = room
