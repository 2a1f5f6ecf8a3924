use Rattle.std.specs.Prelude.{option_to_list}
use Rattle.std.specs.VecDeque.{deque_len}
use Rattle.std.proofs.Common.{◌++◌, length, ap, ◌∙◌, arith}
use Rattle.connection_strand.specs.Views.{view_of}
use Rattle.connection_strand.proofs.Parts.{takes-next, takes-none, none-of}
use Rattle.connection_strand.proofs.Paying.{takes-first, takes-on}
use Rattle.connection_strand.proofs.state.Connection.take_parts.Goals as goal

pub loop-part-init : goal.loop-part-init
loop-part-init g c = ((λ did m h. h), takes-first g.R.RunContract.left g.R.ServiceContract.bound c.args.next.now.does.items c.args.next.now.asks c.args.self.now c.args.progress.now)

pub loop-part-preserved : goal.loop-part-preserved
loop-part-preserved g c =
    let site = c.args.site.now in
    let v = view_of (g.R.RunContract.meaning site) (g.R.ServiceContract.serving site) in
    let parts = c.loop-part.next.does.items in
    let rest = c.pop_front.new.self.items in
    let is = c.pop_front.ensures.items ∙ ap (λ o. option_to_list o ++ rest) c.in-Some.is in (
      (λ did m h. takes-next v c.args.turn.now.moment.0 c.loop-part.goes_on c.in_ok-goes_on.goes_on c.in-Some.part parts rest did c.loop-part.self c.take_part.new.self c.loop-part.progress c.take_part.new.progress m is
          c.in_ok-goes_on.ensures.moves (c.loop-part.invariant.0 did m h)),
      takes-on g.R.RunContract.left g.R.ServiceContract.bound c.args.next.now.does.items parts rest c.args.self.now c.loop-part.self c.take_part.new.self c.args.progress.now c.loop-part.progress c.take_part.new.progress
          (let e = ap length is in omega arith) c.loop-part.invariant.1 c.in_ok-goes_on.ensures.costs,
    )

pub returns-clause-moves : goal.returns-clause-moves
returns-clause-moves g c = λ did m h.
    let site = c.args.site.now in
    let v = view_of (g.R.RunContract.meaning site) (g.R.ServiceContract.serving site) in
    takes-none v c.args.turn.now.moment.0 c.loop-part.goes_on c.loop-part.next.does.items did c.loop-part.self c.loop-part.progress m
    (none-of v c.args.turn.now.moment.0 c.loop-part.next.does.items c.pop_front.result (deque_len c.loop-part.next.does) (deque_len c.pop_front.new.self) c.in_default.is c.pop_front.ensures.cases
    (omega (arith, c.loop-part.next.does.ok.0))) (c.loop-part.invariant.0 did m h)
