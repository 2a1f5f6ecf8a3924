-- The socket leaves with its number, its place and its owner.
use Rattle.std.proofs.Common.{◌≡◌, nat_eq, cond, List, Some, None, option_map, refl, sym, ap, ◌∙◌}
use Rattle.resty_base.specs.declared.names.StrandId.{StrandId}
use Rattle.strand_contract.specs.declared.turns.Place.TheVariants as place
use Rattle.indexmap.specs.IndexMap.{get}
use Rattle.executions.specs.Sockets.{without_held}
use Rattle.engine_tables.specs.declared.sockets.Socket.{Socket as Own}
use Rattle.engine_tables.specs.Places.{places_of}
use Rattle.engine_tables.specs.Sockets.{meant, held_at}
use Rattle.engine_tables.specs.Held.{Entry, HeldSockets, sockets_in}
use Rattle.engine_tables.proofs.Held.{found-in, found-is, left-is, leaves, stays, none-held}
use Rattle.engine_tables.proofs.sockets.Sockets.close.Goals as goal

pub invariant_of-self : goal.invariant_of-self
invariant_of-self c =
    (stays c.args.who c.args.place c.self.inside.held.entries (places_of c.self.inside.places) (places_of c.take.new.self) (get nat_eq c.self.inside.owners) c.self.invariant.0 c.take.ensures.left (sym c.in_err-number.ensures.number), tt)

pub returns-in_err-number-clause-socket : goal.returns-in_err-number-clause-socket
returns-in_err-number-clause-socket c =
    let n = none-held c.args.who c.args.place c.self.inside.held.entries (places_of c.self.inside.places) (places_of c.take.new.self) (get nat_eq c.self.inside.owners) c.self.invariant.0 c.take.ensures.left (sym c.in_err-number.ensures.number) in
    ap (option_map meant) c.from_residual.ensures ∙ sym n.0 ∙ ap (λ (w : HeldSockets). held_at c.args.who c.args.place w.sockets) c.self.view_is

pub returns-in_err-number-clause-left : goal.returns-in_err-number-clause-left
returns-in_err-number-clause-left c =
    let n = none-held c.args.who c.args.place c.self.inside.held.entries (places_of c.self.inside.places) (places_of c.take.new.self) (get nat_eq c.self.inside.owners) c.self.invariant.0 c.take.ensures.left (sym c.in_err-number.ensures.number) in
    ap (λ l. record { sockets = l; room = None }) (sym n.1) ∙ ap (λ (w : HeldSockets). record { sockets = without_held c.args.who (place.Sock c.args.place) w.sockets; room = None }) c.self.view_is

none-there : {A : Type 0} (x : A) → None ≡ Some x → ⊥
none-there x e = cc

one-held : {A : Type 0} (p q : A) → Some p ≡ Some q → p ≡ q
one-held p q e = cc

one-socket : (s r : StrandId) (x y : Own) (p q : StrandId × Own) → p ≡ (r, y) → q ≡ (s, x) → Some p ≡ Some q → x ≡ y
one-socket s r x y p q a b e = ap (λ (h : StrandId × Own). h.1) (sym b ∙ sym (one-held p q e) ∙ a)

pub invariant_of-self-in_err-socket : goal.invariant_of-self-in_err-socket
invariant_of-self-in_err-socket c =
    let f = found-in c.args.who c.args.place c.self.inside.held.entries (places_of c.self.inside.places) (places_of c.take.new.self) (get nat_eq c.self.inside.owners) c.self.invariant.0 c.take.ensures.left c.in_ok-number.number (sym c.in_ok-number.ensures.number) in
    absurd (none-there (c.args.who, f.0) (c.in_err-socket.ensures.value ∙ f.1))

pub returns-in_err-socket-clause-socket : goal.returns-in_err-socket-clause-socket
returns-in_err-socket-clause-socket c =
    let f = found-in c.args.who c.args.place c.self.inside.held.entries (places_of c.self.inside.places) (places_of c.take.new.self) (get nat_eq c.self.inside.owners) c.self.invariant.0 c.take.ensures.left c.in_ok-number.number (sym c.in_ok-number.ensures.number) in
    absurd (none-there (c.args.who, f.0) (c.in_err-socket.ensures.value ∙ f.1))

pub returns-in_err-socket-clause-left : goal.returns-in_err-socket-clause-left
returns-in_err-socket-clause-left c =
    let f = found-in c.args.who c.args.place c.self.inside.held.entries (places_of c.self.inside.places) (places_of c.take.new.self) (get nat_eq c.self.inside.owners) c.self.invariant.0 c.take.ensures.left c.in_ok-number.number (sym c.in_ok-number.ensures.number) in
    absurd (none-there (c.args.who, f.0) (c.in_err-socket.ensures.value ∙ f.1))

pub invariant_of-self-2 : goal.invariant_of-self-2
invariant_of-self-2 c =
    let f = found-in c.args.who c.args.place c.self.inside.held.entries (places_of c.self.inside.places) (places_of c.take.new.self) (get nat_eq c.self.inside.owners) c.self.invariant.0 c.take.ensures.left c.in_ok-number.number (sym c.in_ok-number.ensures.number) in
    let x = one-socket c.args.who c.in_ok-socket.field-0-0 f.0 c.in_ok-socket.socket _ _ refl refl (c.in_ok-socket.ensures.value ∙ f.1) in (
      leaves c.args.who c.args.place c.self.inside.held.entries (places_of c.self.inside.places) (places_of c.take.new.self) (get nat_eq c.self.inside.owners) c.self.invariant.0 c.take.ensures.left
          c.in_ok-number.number f.0 c.take-2.new.self.entries (get nat_eq c.swap_remove-owner.new.self) f.2 c.take-2.ensures.left
          (λ n. c.swap_remove-owner.ensures.updates.0 n ∙ ap (λ (y : Own). cond (nat_eq y.sock n) None (get nat_eq c.self.inside.owners n)) (sym x)),
      tt,
    )

pub returns-clause-socket : goal.returns-clause-socket
returns-clause-socket c =
    let f = found-in c.args.who c.args.place c.self.inside.held.entries (places_of c.self.inside.places) (places_of c.take.new.self) (get nat_eq c.self.inside.owners) c.self.invariant.0 c.take.ensures.left c.in_ok-number.number (sym c.in_ok-number.ensures.number) in
    let x = one-socket c.args.who c.in_ok-socket.field-0-0 f.0 c.in_ok-socket.socket _ _ refl refl (c.in_ok-socket.ensures.value ∙ f.1) in
    ap (λ (y : Own). Some (meant y)) (sym x) ∙ sym (found-is c.args.who c.args.place c.in_ok-number.number f.0 c.self.inside.held.entries f.2) ∙ ap (λ (w : HeldSockets). held_at c.args.who c.args.place w.sockets) c.self.view_is

pub returns-clause-left : goal.returns-clause-left
returns-clause-left c =
    let f = found-in c.args.who c.args.place c.self.inside.held.entries (places_of c.self.inside.places) (places_of c.take.new.self) (get nat_eq c.self.inside.owners) c.self.invariant.0 c.take.ensures.left c.in_ok-number.number (sym c.in_ok-number.ensures.number) in
    ap (λ (l : List Entry). record { sockets = sockets_in l; room = None }) c.take-2.ensures.left
    ∙ ap (λ l. record { sockets = l; room = None }) (left-is c.args.who c.args.place c.in_ok-number.number f.0 c.self.inside.held.entries f.2)
    ∙ ap (λ (w : HeldSockets). record { sockets = without_held c.args.who (place.Sock c.args.place) w.sockets; room = None }) c.self.view_is
