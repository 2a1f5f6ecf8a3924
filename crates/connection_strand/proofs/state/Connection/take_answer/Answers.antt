use Rattle.std.proofs.Common.{◌≤◌, ◌+◌, None, length, ap, sym, subst}
use Rattle.connection_plan.specs.Turns.{settle}
use Rattle.connection_strand.specs.declared.state.Connection.{Connection}
use Rattle.connection_strand.specs.Turns.{TookIn}
use Rattle.connection_strand.specs.Views.{view_of, service}
use Rattle.connection_strand.proofs.Answering.{may-be-answered, answered-runs}
use Rattle.connection_strand.proofs.Ends.{ok-map, ok-both, of-ok}
use Rattle.connection_strand.proofs.Falling.{answered-few, answered-opens, answered-falls}
use Rattle.connection_strand.proofs.Loops.{within-on}
use Rattle.connection_strand.proofs.state.Connection.take_answer.Goals as goal

pub answered-went-requires : goal.answered-went-requires
answered-went-requires g c = λ run is.
    let site = c.args.site.now in
    let v = view_of (g.R.RunContract.meaning site) (g.R.ServiceContract.serving site) in
    let now = c.args.turn.now.moment.0 in
    let d : Connection g.row.R.Denot = record c.take_in.new.self { keeping = None } in
    let took : TookIn c.args.answer c.args.self.now d = record {
      sockets = c.in-Ok.ensures.sockets;
      count = c.in-Ok.ensures.count;
      kept = ap (λ (k : Connection g.row.R.Denot). record k { keeping = None }) c.in-Ok.ensures.kept;
    } in
    may-be-answered v now c.args.answer c.requires.0 d c.args.progress.now (settle (service v) now) (c.requires.1 d took) run is

pub settle_on-requires : goal.settle_on-requires
settle_on-requires g c =
    let site = c.args.site.now in
    let v = view_of (g.R.RunContract.meaning site) (g.R.ServiceContract.serving site) in
    let now = c.args.turn.now.moment.0 in
    let d : Connection g.row.R.Denot = record c.take_in.new.self { keeping = None } in
    let took : TookIn c.args.answer c.args.self.now d = record {
      sockets = c.in-Ok.ensures.sockets;
      count = c.in-Ok.ensures.count;
      kept = ap (λ (k : Connection g.row.R.Denot). record k { keeping = None }) c.in-Ok.ensures.kept;
    } in
    ok-map c.answered-went.result _ _ (λ on gives. within-on v now on c.requires.0 c.answered-went.new.self c.answered-went.new.progress (settle (service v) now)
    (gives c.requires.0 (settle (service v) now) (c.requires.1 d took))) c.answered-went.ensures.moves

pub returns-in-Ok-clause-moves : goal.returns-in-Ok-clause-moves
returns-in-Ok-clause-moves g c =
    let site = c.args.site.now in
    let v = view_of (g.R.RunContract.meaning site) (g.R.ServiceContract.serving site) in
    let now = c.args.turn.now.moment.0 in
    let d : Connection g.row.R.Denot = record c.take_in.new.self { keeping = None } in
    let took : TookIn c.args.answer c.args.self.now d = record {
      sockets = c.in-Ok.ensures.sockets;
      count = c.in-Ok.ensures.count;
      kept = ap (λ (k : Connection g.row.R.Denot). record k { keeping = None }) c.in-Ok.ensures.kept;
    } in
    ok-map c.settle_on.result _ _ (λ done s. λ did given. s.2 did (of-ok c.answered-went.result s.0 _ s.1 c.answered-went.ensures.moves did (settle (service v) now) (given d took))) c.settle_on.ensures.moves

pub returns-in-Ok-clause-falls : goal.returns-in-Ok-clause-falls
returns-in-Ok-clause-falls g c =
    let site = c.args.site.now in
    let v = view_of (g.R.RunContract.meaning site) (g.R.ServiceContract.serving site) in
    let now = c.args.turn.now.moment.0 in
    let left = g.R.RunContract.left in
    let bound = g.R.ServiceContract.bound in
    let old = c.args.self.now in
    let d : Connection g.row.R.Denot = record c.take_in.new.self { keeping = None } in
    let took : TookIn c.args.answer old d = record {
      sockets = c.in-Ok.ensures.sockets;
      count = c.in-Ok.ensures.count;
      kept = ap (λ (k : Connection g.row.R.Denot). record k { keeping = None }) c.in-Ok.ensures.kept;
    } in
    let few = subst (λ ks. length ks ≤ length old.sockets.items + 1) (sym c.in-Ok.ensures.sockets) (answered-few c.args.answer old.keeping old.count old.sockets.items) in
    let opens = answered-opens left bound old d took.kept few in
    let runs = answered-runs v now c.args.answer c.requires.0 d c.args.progress.now (settle (service v) now) (c.requires.1 d took) in
    ok-both c.settle_on.result _ _ _ (λ done s costs.
    answered-falls left bound old d c.answered-went.new.self c.settle_on.new.self c.args.progress.now c.answered-went.new.progress c.settle_on.new.progress opens
    (of-ok c.answered-went.result s.0 _ s.1 (c.answered-went.ensures.costs runs)) costs) c.settle_on.ensures.moves c.settle_on.ensures.costs
