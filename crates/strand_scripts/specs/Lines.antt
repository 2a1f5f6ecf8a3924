-- A strand's connection to its client, and what turns do to it.
use Rattle.std.specs.Prelude.{ℕ, ◌+◌, ◌-◌, ◌%◌, Bool, true, false, not, ◌&&◌, ◌||◌, List, [], ◌∷◌, ◌++◌, drop, take, if◌then◌else◌}
use Rattle.strand_contract.specs.declared.turns.Place.TheVariants as place
use Rattle.strand_contract.specs.declared.turns.Act.{Act}
use Rattle.strand_contract.specs.declared.turns.Act.TheVariants as act
use Rattle.strand_contract.specs.Alone.{is_some_left}

-- whether it is open, whether it takes none for now, whether the life was ended; all that was sent, and how much of it was taken
pub record Sending : Type 0 where
  pub opened : Bool
  pub off : Bool
  pub over : Bool
  pub sent : List ℕ
  pub taken : ℕ

abbrev pub fresh : Bool → Sending
fresh opened = record { opened = opened; off = false; over = false; sent = []; taken = 0 }

-- the rest that isn't taken yet, and what of it is offered next
abbrev pub left_to_send : Sending → List ℕ
left_to_send h = drop h.taken h.sent

abbrev pub next_piece : Sending → List ℕ
next_piece h = take (16_384 - h.taken % 16_384) (left_to_send h)

-- these bytes are to be offered
abbrev pub wants_offer : List ℕ → Sending → Bool
wants_offer text h = h.opened && is_some_left text && not (is_some_left (left_to_send h) || h.off)

-- more is sent, to an open connection
abbrev pub sent_more : List ℕ → Sending → Sending
sent_more text h = record h { sent = if h.opened then h.sent ++ text else h.sent }

-- so many bytes were taken
abbrev pub count_taken : ℕ → Sending → Sending
count_taken count h = record h { taken = h.taken + count; off = false }

-- the connection takes none for now, or it does
abbrev pub put_off : Bool → Sending → Sending
put_off off h = record h { off = off }

-- the life is ended
abbrev pub ended : Sending → Sending
ended h = record h { opened = false; over = true }

abbrev pub end_acts : {J : Type 0} → Sending → List (Act J)
end_acts h = if h.opened then act.HangUp place.Client ∷ act.Gone ∷ [] else act.Gone ∷ []
