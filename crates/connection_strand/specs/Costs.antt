-- How much a connection can do until it is at rest, counted in turns and acts.
use Rattle.std.specs.Prelude.{ℕ, ◌+◌, ◌*◌, ◌^◌, ◌≤◌, ◌<◌, Bool, true, false, not, length, Option, Some, None, if◌then◌else◌}
use Rattle.client_line.specs.declared.requests.LineOut.{LineOut}
use Rattle.client_line.specs.declared.requests.LineOut.TheVariants as out
use Rattle.connection_plan.specs.Clients.{Stage, is_last}
use Rattle.connection_plan.specs.Clients as stage
use Rattle.connection_strand.specs.declared.state.Connection.{Connection}
use Rattle.connection_strand.specs.declared.state.Progress.{Progress}
use Rattle.connection_strand.specs.Kept.{Kept, kept}

-- what one turn, act or word of a run pays for: all acts and bytes to which it leads
unfoldable pub unit : ℕ
unit = 2 ^ 72

abbrev pub weight_if : Bool → ℕ → ℕ
weight_if c n = if c then n else 0

-- of a client: what is left to be sent, that it takes bytes, its place, and its deadlines
abbrev pub client_left : Kept → ℕ
client_left k = 16 * length k.sending.bytes + weight_if (not k.off) 16 + weight_if k.opened 4 + weight_if k.waits 4 + weight_if k.sends 4

module _ {R : Type 0} (left : R → ℕ) (bound : ℕ) where
  abbrev pub run_left : Option R → ℕ
  run_left None = 0
  run_left (Some run) = left run

  -- the run that answers, those of the requests that are held, of which each has a byte, and a head that is refused, after which no more are read
  abbrev pub units : Kept → Option R → ℕ
  units k run = run_left run + length k.came.held * (bound + 2) + weight_if (not (is_last k.reply)) 1

  -- while the life goes on
  abbrev pub whole : Connection R → ℕ
  whole c = unit * units (kept c.client) c.run + client_left (kept c.client) + 2 * length c.sockets.items + 2

  abbrev pub left_at : Stage → ℕ → ℕ
  left_at stage.Over n = 0
  left_at st n = n

  abbrev pub left_of : Connection R → ℕ
  left_of c = left_at (kept c.client).stage (whole c)

  -- a call adds at most so much to what is left and to the acts so far; it takes at least so much of them; it adds no more, and may end the life
  abbrev pub Spends : {J : Type 0} → ℕ → Connection R → Progress J → Connection R → Progress J → Type 0
  Spends n c u c' u' = whole c' + length u'.acts.items ≤ whole c + length u.acts.items + n

  abbrev pub Pays : {J : Type 0} → ℕ → Connection R → Progress J → Connection R → Progress J → Type 0
  Pays n c u c' u' = whole c' + length u'.acts.items + n ≤ whole c + length u.acts.items

  abbrev pub Costs : {J : Type 0} → ℕ → Connection R → Progress J → Connection R → Progress J → Type 0
  Costs n c u c' u' = left_of c' + length u'.acts.items ≤ whole c + length u.acts.items + n

  -- it pays for itself, and for one more
  abbrev pub Falls : {J : Type 0} → Connection R → Progress J → Connection R → Progress J → Type 0
  Falls c u c' u' = left_of c' + length u'.acts.items < whole c + length u.acts.items

  -- what is heard: a request begins a run; the reply to a head that is refused is paid for, and a wait arms a deadline, and with these the turn ends
  abbrev pub Heard : {J : Type 0} → LineOut → Bool → Connection R → Progress J → Connection R → Progress J → Type 0
  Heard (out.Request head target) on c u c' u' = Spends (unit * (bound + 1)) c u c' u'
  Heard answer true c u c' u' = ⊥
  Heard (out.Refused code) false c u c' u' = Costs 0 c u c' u'
  Heard answer false c u c' u' = Costs 5 c u c' u'

  -- one that settles pays where it goes on
  abbrev pub Settles : {J : Type 0} → Bool → Connection R → Progress J → Connection R → Progress J → Type 0
  Settles true c u c' u' = Pays 1 c u c' u'
  Settles false c u c' u' = Costs 5 c u c' u'
