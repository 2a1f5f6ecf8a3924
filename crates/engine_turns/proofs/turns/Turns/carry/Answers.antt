use Rattle.std.proofs.Common.{◌≡◌, [], ◌∷◌, length, refl, ap, ◌∙◌, arith}
use Rattle.std.proofs.lemmas.Grind.{common_steps}
use Rattle.engine_turns.proofs.Going.{goes-stays, goes-joins}
use Rattle.engine_turns.proofs.turns.Turns.carry.Goals as goal

pub loop-act-init : goal.loop-act-init
loop-act-init g c = record {
  site = c.requires.0;
  begun = c.requires.1;
  busy = λ site y. y;
  works = goes-stays g.W.World.same g.W.World.book _ _ (g.met.W.World.stays _);
  phase = (refl, refl);
  work = omega arith;
}

pub carry_out-requires : goal.carry_out-requires
carry_out-requires g c =
    let now : c.loop-act.acts.items ≡ c.in-Some.act ∷ c.pop_front.new.self.items = c.in-Some.ensures.items in
    let i = c.loop-act.invariant in
    let y = i.busy i.site i.begun in
    (i.site, c.pop_front.new.self.items, c.args.going, (y.0, rw now at y.1))

pub give_up-requires : goal.give_up-requires
give_up-requires g c =
    let now : c.loop-act.acts.items ≡ c.in-Some.act ∷ c.pop_front.new.self.items = c.in-Some.ensures.items in
    let i = c.loop-act.invariant in
    let y = i.busy i.site i.begun in
    (i.site, c.in-Refused.ensures.carried i.site c.pop_front.new.self.items c.args.going (y.0, rw now at y.1))

pub loop-act-preserved : goal.loop-act-preserved
loop-act-preserved g c =
    let now : c.loop-act.acts.items ≡ c.in-Some.act ∷ c.pop_front.new.self.items = c.in-Some.ensures.items in
    let i = c.loop-act.invariant in
    record {
      site = i.site;
      begun = i.begun;
      busy = λ site begun. let y = i.busy site begun in c.in-Done.ensures.carried site c.pop_front.new.self.items c.args.going (y.0, rw now at y.1);
      works = goes-joins g.W.World.same g.W.World.book _ _ _ _ _ _ (g.met.W.World.joins _ _ _) i.works c.in-Done.ensures.works;
      phase = (c.in-Done.ensures.phase.0 ∙ i.phase.0, c.in-Done.ensures.phase.1 ∙ i.phase.1);
      work = omega (arith, ap length now, c.in-Done.ensures.work, ap g.S.StrandContract.left c.in-Done.ensures.strand, i.work);
    }

pub returns-in-Over-clause-lives : goal.returns-in-Over-clause-lives
returns-in-Over-clause-lives g c = λ site begun.
    let now : c.loop-act.acts.items ≡ c.in-Some.act ∷ c.pop_front.new.self.items = c.in-Some.ensures.items in
    let y = c.loop-act.invariant.busy site begun in
    c.in-Over.ensures.carried site c.pop_front.new.self.items c.args.going (y.0, rw now at y.1)

pub returns-in-Over-clause-works : goal.returns-in-Over-clause-works
returns-in-Over-clause-works g c = goes-joins g.W.World.same g.W.World.book _ _ _ _ _ _ (g.met.W.World.joins _ _ _) c.loop-act.invariant.works c.in-Over.ensures.works

pub returns-in-Refused-clause-lives : goal.returns-in-Refused-clause-lives
returns-in-Refused-clause-lives g c = λ site begun.
    let now : c.loop-act.acts.items ≡ c.in-Some.act ∷ c.pop_front.new.self.items = c.in-Some.ensures.items in
    let y = c.loop-act.invariant.busy site begun in
    c.give_up.ensures.standing site (c.in-Refused.ensures.carried site c.pop_front.new.self.items c.args.going (y.0, rw now at y.1))

pub returns-in-Refused-clause-works : goal.returns-in-Refused-clause-works
returns-in-Refused-clause-works g c =
    goes-joins g.W.World.same g.W.World.book _ _ _ _ _ _ (g.met.W.World.joins _ _ _)
    (goes-joins g.W.World.same g.W.World.book _ _ _ _ _ _ (g.met.W.World.joins _ _ _) c.loop-act.invariant.works c.in-Refused.ensures.works) c.give_up.ensures.works

pub returns-clause-lives : goal.returns-clause-lives
returns-clause-lives g c = λ site begun.
    let y = c.loop-act.invariant.busy site begun in
    let none : c.loop-act.acts.items ≡ [] = grind (arith, common_steps) in
    (y.0, rw none at y.1)
