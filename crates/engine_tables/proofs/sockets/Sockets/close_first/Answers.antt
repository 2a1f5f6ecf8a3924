-- What a strand got first is at its first place.
use Rattle.std.proofs.Common.{◌≡◌, ℕ, List, slice_get, Some, None, option_map, sym, ap, ◌∙◌}
use Rattle.executions.specs.Queues.{only, without_first}
use Rattle.executions.specs.Sockets.{Socket}
use Rattle.engine_tables.specs.Places.{places_of}
use Rattle.engine_tables.specs.Held.{HeldSockets, sockets_in}
use Rattle.engine_tables.proofs.Got.{first-at, first-found, first-left, no-first, no-places}
use Rattle.engine_tables.proofs.sockets.Sockets.close_first.Goals as goal

pub forget-requires : goal.forget-requires
forget-requires c = no-places (places_of c.self.inside.places c.args.who) (sym c.in_default.ensures)

pub returns-in_default-clause-socket : goal.returns-in_default-clause-socket
returns-in_default-clause-socket c =
    let none : option_map (λ (h : Socket). h.at) (slice_get (only c.args.who (sockets_in c.self.inside.held.entries)) 0) ≡ None =
    sym (first-at c.args.who c.self.inside.held.entries) ∙ sym (ap (λ (l : List (ℕ × ℕ)). option_map (λ (p : ℕ × ℕ). p.0) (slice_get l 0)) (c.self.invariant.0.placed c.args.who)) ∙ sym c.in_default.ensures in
    sym (no-first c.args.who (sockets_in c.self.inside.held.entries) none).0 ∙ ap (λ (w : HeldSockets). slice_get (only c.args.who w.sockets) 0) c.self.view_is

pub returns-in_default-clause-left : goal.returns-in_default-clause-left
returns-in_default-clause-left c =
    let none : option_map (λ (h : Socket). h.at) (slice_get (only c.args.who (sockets_in c.self.inside.held.entries)) 0) ≡ None =
    sym (first-at c.args.who c.self.inside.held.entries) ∙ sym (ap (λ (l : List (ℕ × ℕ)). option_map (λ (p : ℕ × ℕ). p.0) (slice_get l 0)) (c.self.invariant.0.placed c.args.who)) ∙ sym c.in_default.ensures in
    ap (λ l. record { sockets = l; room = None }) (sym (no-first c.args.who (sockets_in c.self.inside.held.entries) none).1)
    ∙ ap (λ (w : HeldSockets). record { sockets = without_first c.args.who w.sockets; room = None }) c.self.view_is

pub returns-clause-socket : goal.returns-clause-socket
returns-clause-socket c =
    let first : option_map (λ (h : Socket). h.at) (slice_get (only c.args.who (sockets_in c.self.inside.held.entries)) 0) ≡ Some c.in-Some.place =
    sym (first-at c.args.who c.self.inside.held.entries) ∙ sym (ap (λ (l : List (ℕ × ℕ)). option_map (λ (p : ℕ × ℕ). p.0) (slice_get l 0)) (c.self.invariant.0.placed c.args.who)) ∙ sym c.in-Some.ensures in
    c.close.ensures.socket ∙ first-found c.in-Some.place (only c.args.who (sockets_in c.self.inside.held.entries)) first ∙ ap (λ (w : HeldSockets). slice_get (only c.args.who w.sockets) 0) c.self.view_is

pub returns-clause-left : goal.returns-clause-left
returns-clause-left c =
    let first : option_map (λ (h : Socket). h.at) (slice_get (only c.args.who (sockets_in c.self.inside.held.entries)) 0) ≡ Some c.in-Some.place =
    sym (first-at c.args.who c.self.inside.held.entries) ∙ sym (ap (λ (l : List (ℕ × ℕ)). option_map (λ (p : ℕ × ℕ). p.0) (slice_get l 0)) (c.self.invariant.0.placed c.args.who)) ∙ sym c.in-Some.ensures in
    c.close.ensures.left ∙ ap (λ l. record { sockets = l; room = None }) (first-left c.args.who c.in-Some.place (sockets_in c.self.inside.held.entries) first)
    ∙ ap (λ (w : HeldSockets). record { sockets = without_first c.args.who w.sockets; room = None }) c.self.view_is
