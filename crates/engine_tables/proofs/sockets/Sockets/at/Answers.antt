-- The socket is found by the number at its place.
use Rattle.std.proofs.Common.{nat_eq, option_map, sym, ap, ◌∙◌}
use Rattle.std.specs.Map.{lookup}
use Rattle.resty_base.specs.declared.names.StrandId.{StrandId}
use Rattle.engine_tables.specs.declared.sockets.Socket.{Socket as Own}
use Rattle.engine_tables.specs.Sockets.{meant, held_at}
use Rattle.engine_tables.specs.Held.{HeldSockets}
use Rattle.engine_tables.proofs.Held.{some-none, found, found-is, none-at}
use Rattle.engine_tables.proofs.sockets.Sockets.at.Goals as goal

pub returns-in_err-number : goal.returns-in_err-number
returns-in_err-number c =
    let none = sym (ap (lookup (nat_eq c.args.place)) (c.self.invariant.0.placed c.args.who)) ∙ sym c.in_err-number.ensures in
    ap (option_map meant) c.from_residual.ensures ∙ sym (none-at c.args.who c.args.place c.self.inside.held.entries none).0 ∙ ap (λ (w : HeldSockets). held_at c.args.who c.args.place w.sockets) c.self.view_is

pub returns-in_err-held : goal.returns-in_err-held
returns-in_err-held c =
    let f = found c.args.who c.args.place c.in_ok-number.number c.self.inside.held.entries c.self.invariant.0.apart
    (sym (ap (lookup (nat_eq c.args.place)) (c.self.invariant.0.placed c.args.who)) ∙ sym c.in_ok-number.ensures) in
    absurd (some-none (c.args.who, f.0) (sym f.1 ∙ sym c.in_err-held.ensures))

pub returns : goal.returns
returns c =
    let f = found c.args.who c.args.place c.in_ok-number.number c.self.inside.held.entries c.self.invariant.0.apart
    (sym (ap (lookup (nat_eq c.args.place)) (c.self.invariant.0.placed c.args.who)) ∙ sym c.in_ok-number.ensures) in
    ap (option_map (λ (p : StrandId × Own). meant p.1)) (c.in_ok-held.ensures ∙ f.1)
    ∙ sym (found-is c.args.who c.args.place c.in_ok-number.number f.0 c.self.inside.held.entries f.2) ∙ ap (λ (w : HeldSockets). held_at c.args.who c.args.place w.sockets) c.self.view_is
