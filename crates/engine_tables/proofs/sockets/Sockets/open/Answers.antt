-- The socket goes last.
use Rattle.std.proofs.Common.{◌∷◌, ◌++◌, [], nat_eq, List, Option, None, IfSome, ap, subst, ◌∙◌}
use Rattle.resty_base.specs.declared.names.StrandId.{StrandId}
use Rattle.indexmap.specs.IndexMap.{get, spare}
use Rattle.executions.specs.Sockets.{holder_in}
use Rattle.engine_tables.specs.Places.{places_of, room_for}
use Rattle.engine_tables.specs.Sockets.{meant, held_at}
use Rattle.engine_tables.specs.Held.{Entry, HeldSockets, HasRoom, sockets_in}
use Rattle.engine_tables.proofs.Rising.{done-then}
use Rattle.engine_tables.proofs.Got.{opens, got-sockets, free-place}
use Rattle.engine_tables.proofs.sockets.Sockets.open.Goals as goal

pub put-requires-clause-free : goal.put-requires-clause-free
put-requires-clause-free c =
    free-place c.args.who c.args.socket.at c.self.inside.held.entries (places_of c.self.inside.places) (get nat_eq c.self.inside.owners) c.self.invariant.0
    (ap (λ (w : HeldSockets). held_at c.args.who c.args.socket.at w.sockets) c.self.view_is ∙ c.requires.place)

pub invariant_of-self : goal.invariant_of-self
invariant_of-self c =
    let room : HasRoom c.self.inside.held.room (room_for c.self.inside.places c.args.who) (spare c.self.inside.owners) =
    subst (λ (o : Option StrandId). IfSome o (λ s. HasRoom c.self.inside.held.room (room_for c.self.inside.places s) (spare c.self.inside.owners))) (ap (λ (w : HeldSockets). w.room) c.self.view_is ∙ c.requires.room) c.self.invariant.1 in (
      opens c.args.who c.push-number.result c.args.socket c.self.inside.held.entries c.push-number.new.self.entries (places_of c.self.inside.places) (places_of c.put.new.self) (get nat_eq c.self.inside.owners) (get nat_eq c.insert-was.new.self)
          c.self.invariant.0 (ap (λ (w : HeldSockets). held_at c.args.who c.args.socket.at w.sockets) c.self.view_is ∙ c.requires.place) (ap (λ (w : HeldSockets). holder_in c.args.socket.sock w.sockets) c.self.view_is ∙ c.requires.number)
          c.push-number.ensures.fresh c.push-number.ensures.done c.put.ensures (done-then c.insert-was.result (c.insert-was.ensures.succeeds room.owner) c.insert-was.ensures.updates).0,
      tt,
    )

pub returns : goal.returns
returns c =
    ap (λ (l : List Entry). record { sockets = sockets_in l; room = None }) c.push-number.ensures.done
    ∙ ap (λ l. record { sockets = l; room = None }) (got-sockets (c.push-number.result, (c.args.who, c.args.socket)) c.self.inside.held.entries)
    ∙ ap (λ (w : HeldSockets). record { sockets = w.sockets ++ (c.args.who, meant c.args.socket) ∷ []; room = None }) c.self.view_is
