use Rattle.std.proofs.Common.{Bool, true, refl, sym, subst, arith}
use Rattle.client_line.specs.declared.requests.LineOut.TheVariants as out
use Rattle.client_line.specs.Lines.{held_in}
use Rattle.strand_plans.specs.Moves.{Done}
use Rattle.connection_strand.specs.Kept.{kept, stage_waiting, timer_of}
use Rattle.connection_strand.specs.Views.{view_of}
use Rattle.connection_strand.specs.Costs.{Heard}
use Rattle.connection_strand.specs.Standing.{plain, Went}
use Rattle.connection_strand.proofs.Ends.{ok-map, of-ok, done-came}
use Rattle.connection_strand.proofs.Costing.{costs-more, ends-within, settles-nothing, spends-after, spends-client}
use Rattle.connection_strand.proofs.Hearing.{hears-end, hears-waiting, hears-nothing, waits-so}
use Rattle.connection_strand.proofs.state.Connection.hear_no_more.Goals as goal

pub returns-then-self-clause-moves : goal.returns-then-self-clause-moves
returns-then-self-clause-moves g c =
    let site = c.args.site.now in
    let v = view_of (g.R.RunContract.meaning site) (g.R.ServiceContract.serving site) in
    ok-map c.going.result _ _ (λ on e. λ st free did m h. subst (λ (o : Bool). Went v o did c.finish.new.self c.finish.new.progress m) (sym e.0)
    (of-ok c.finish.result tt _ e.1 c.finish.ensures.moves st did
    (hears-end v c.args.turn.now.moment.0 c.args.anew m out.Waiting (plain st) did c.args.self.now c.args.progress.now refl c.if-self.true h))) c.going.ensures

pub returns-then-anew-clause-moves : goal.returns-then-anew-clause-moves
returns-then-anew-clause-moves g c =
    let site = c.args.site.now in
    let v = view_of (g.R.RunContract.meaning site) (g.R.ServiceContract.serving site) in
    let now = c.args.turn.now.moment.0 in
    let old = c.args.self.now in
    let k = kept old.client in
    let held = held_in k.came.at k.came.held in
    let to = stage_waiting held in
    ok-map c.going-then-anew.result _ _ (λ on e. λ st free did m h. subst (λ (o : Bool). Went v o did c.begin_timer.new.self c.begin_timer.new.progress m) (sym e.0)
    (done-came v to did c.begin_timer.new.self c.begin_timer.new.progress
    (of-ok c.begin_timer.result tt _ e.1 c.begin_timer.ensures.moves (plain to) did Done
    (waits-so v now st did old _ c.args.progress.now held (timer_of c.wait-timer.result) refl free (record { run = refl; waits = refl; sockets = refl; count = refl; keeping = refl; taking = refl })
    c.wait-timer.ensures.stage c.wait-timer.ensures.timer
    (hears-waiting v now c.args.anew true m out.Waiting (plain st) did old c.args.progress.now refl c.if-self.false c.if-anew.true h))))) c.going-then-anew.ensures

pub returns-else-anew-clause-moves : goal.returns-else-anew-clause-moves
returns-else-anew-clause-moves g c = λ st free did m h.
    let site = c.args.site.now in
    let v = view_of (g.R.RunContract.meaning site) (g.R.ServiceContract.serving site) in
    done-came v st did c.args.self.now c.args.progress.now
    (hears-nothing v c.args.turn.now.moment.0 c.args.anew m out.Waiting (plain st) did c.args.self.now c.args.progress.now refl c.if-self.false c.if-anew.false h)

pub returns-then-self-clause-costs : goal.returns-then-self-clause-costs
returns-then-self-clause-costs g c =
    ok-map c.going.result _ _ (λ on e.
    subst (λ (o : Bool). Heard g.R.RunContract.left g.R.ServiceContract.bound out.Waiting o c.args.self.now c.args.progress.now c.finish.new.self c.finish.new.progress) (sym e.0)
    (costs-more g.R.RunContract.left g.R.ServiceContract.bound c.args.self.now c.finish.new.self c.args.progress.now c.finish.new.progress (of-ok c.finish.result tt _ e.1 c.finish.ensures.costs))) c.going.ensures

pub returns-then-anew-clause-costs : goal.returns-then-anew-clause-costs
returns-then-anew-clause-costs g c =
    let left = g.R.RunContract.left in
    let bound = g.R.ServiceContract.bound in
    let old = c.args.self.now in
    let progress = c.args.progress.now in
    let k = kept old.client in
    let waiting = record old { client = c.wait-timer.new.self } in
    ok-map c.going-then-anew.result _ _ (λ on e.
    subst (λ (o : Bool). Heard left bound out.Waiting o old progress c.begin_timer.new.self c.begin_timer.new.progress) (sym e.0)
    (ends-within left bound 5 old c.begin_timer.new.self progress c.begin_timer.new.progress
    (spends-after left bound 0 5 old waiting c.begin_timer.new.self progress progress c.begin_timer.new.progress
    (spends-client left bound 0 old waiting progress progress (record k { stage = stage_waiting (held_in k.came.at k.came.held) }) c.wait-timer.ensures.stage refl refl refl (omega arith))
    (of-ok c.begin_timer.result tt _ e.1 c.begin_timer.ensures.costs)))) c.going-then-anew.ensures

pub returns-else-anew-clause-costs : goal.returns-else-anew-clause-costs
returns-else-anew-clause-costs g c = settles-nothing g.R.RunContract.left g.R.ServiceContract.bound c.args.self.now c.args.progress.now
