use Rattle.std.proofs.Common.{◌≡◌, [], sym, ◌∙◌, arith}
use Rattle.std.proofs.lemmas.Bool.{not-true, not-false}
use Rattle.shared_rules.specs.Keys.{same_key}
use Rattle.shared_dict.specs.declared.kept.Flush.{Flush}
use Rattle.shared_dict.proofs.Progress.{ahead-same, ahead-size, ahead-out, ahead-fits, ahead-full, ahead-ends}
use Rattle.shared_dict.proofs.scans.fits.Goals as goal

pub returns-then-rest-more : goal.returns-then-rest-more
returns-then-rest-more c f = sym (ahead-fits c.args.key.now c.args.size c.args.more c.args.entries c.loop-other.entries c.loop-other.rest c.loop-other.most c.loop-other.invariant.ahead (omega (arith, c.if-rest-more.true, c.from.ensures)) f)

pub returns-then-most-eq0 : goal.returns-then-most-eq0
returns-then-most-eq0 c f =
    sym (ahead-full c.args.key.now c.args.size c.args.more c.args.entries c.loop-other.entries c.loop-other.rest c.loop-other.most c.loop-other.invariant.ahead (omega (arith, c.if-rest-more.false, c.from.ensures)) (omega (arith, c.if-most-eq0.true)) f)

pub overflow_sub-rest : goal.overflow_sub-rest
overflow_sub-rest c =
    let f : Flush = record { last = 0; at = record { 0 = 0 } } in
    let s = ahead-size c.args.key.now c.args.size c.args.more c.args.entries c.loop-other.entries c.next_back.new.self (c.in-Some.other.now, c.in-Some.kept.now) c.loop-other.rest c.loop-other.most c.loop-other.invariant.ahead c.in-Some.ensures.steps
    (not-true (same_key c.args.key.now c.in-Some.other.now) (sym c.is_other.ensures ∙ c.if-is_other.true)) f in
    omega (arith, c.size_of-rest.ensures.size)

pub loop-other-preserved-then-is_other : goal.loop-other-preserved-then-is_other
loop-other-preserved-then-is_other c =
    let f : Flush = record { last = 0; at = record { 0 = 0 } } in
    rw c.size_of-rest.ensures.size (record {
      ahead = ahead-out c.args.key.now c.args.size c.args.more c.args.entries c.loop-other.entries c.next_back.new.self (c.in-Some.other.now, c.in-Some.kept.now) c.loop-other.rest c.loop-other.most f c.loop-other.invariant.ahead c.in-Some.ensures.steps
          (not-true (same_key c.args.key.now c.in-Some.other.now) (sym c.is_other.ensures ∙ c.if-is_other.true)) (omega (arith, c.if-rest-more.false, c.from.ensures)) (omega (arith, c.if-most-eq0.false));
      small = omega (arith, c.loop-other.invariant.small);
    })

pub loop-other-preserved : goal.loop-other-preserved
loop-other-preserved c = record {
  ahead = ahead-same c.args.key.now c.args.size c.args.more c.args.entries c.loop-other.entries c.next_back.new.self (c.in-Some.other.now, c.in-Some.kept.now) c.loop-other.rest c.loop-other.most c.loop-other.invariant.ahead c.in-Some.ensures.steps
      (not-false (same_key c.args.key.now c.in-Some.other.now) (sym c.is_other.ensures ∙ c.if-is_other.false));
  small = c.loop-other.invariant.small;
}

pub returns : goal.returns
returns c f =
    let e : c.loop-other.entries ≡ [] = grind arith in
    let n = sym (ahead-ends c.args.key.now c.args.size c.args.more c.args.entries c.loop-other.entries c.loop-other.rest c.loop-other.most c.loop-other.invariant.ahead e f) in
    grind (arith, n)
