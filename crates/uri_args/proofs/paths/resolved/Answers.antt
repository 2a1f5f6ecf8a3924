use Rattle.std.proofs.Common.{◌≡◌, ◌++◌, ◌∷◌, List, ℕ, Bool, true, false, cond, None, Some, ap, ◌∙◌, sym, rules}
use Rattle.std.specs.Option.{option_and_then}
use Rattle.http_base.specs.Lent.{texts}
use Rattle.http_base.specs.Splitting.{before, after, split, later_pieces}
use Rattle.http_base.proofs.Pieces.{left_after, split_first}
use Rattle.uri_args.specs.Paths as spec
use Rattle.uri_args.proofs.paths.resolved.Goals as goal

-- the segments that are left after one more
abbrev later : List ℕ → List (List ℕ)
later more = later_pieces 47 (after 47 more)

module _ (kept new : List (List ℕ)) (stays : Bool) (segment more : List ℕ) (is : segment ≡ before 47 more) (keeps : spec.kept_after kept segment ≡ cond stays (Some new) None) where
  step : spec.resolved kept (split 47 more) ≡ option_and_then (λ list. spec.resolved (list ++ spec.ending segment (later more)) (later more)) (cond stays (Some new) None)
  step =
      ap (spec.resolved kept) (split_first 47 more ∙ ap (λ first. first ∷ later more) (sym is))
      ∙ ap (option_and_then (λ list. spec.resolved (list ++ spec.ending segment (later more)) (later more))) keeps

  refused : stays ≡ false → spec.resolved kept (split 47 more) ≡ None
  refused gone = step ∙ ap (λ s. option_and_then (λ list. spec.resolved (list ++ spec.ending segment (later more)) (later more)) (cond s (Some new) None)) gone

  went : stays ≡ true → spec.resolved kept (split 47 more) ≡ spec.resolved (new ++ spec.ending segment (later more)) (later more)
  went there = step ∙ ap (λ s. option_and_then (λ list. spec.resolved (list ++ spec.ending segment (later more)) (later more)) (cond s (Some new) None)) there

pub returns-then-not-branch : goal.returns-then-not-branch
returns-then-not-branch c =
    let segment = c.split_once-in-Some.result.0.now in
    sym (sym (rw c.in-Some.is at c.loop-rest.invariant)
    ∙ refused (texts c.loop-rest.kept.items) (texts c.keep.new.kept.items) c.in_ok-keep.field-0 segment c.in-Some.more.now c.split_once-in-Some.ensures.before c.in_ok-keep.ensures (search (rules, c.if-not-branch.true)))

pub loop-rest-smaller : goal.loop-rest-smaller
loop-rest-smaller c = rw (c.split_once-in-Some.ensures.after, c.in-Some.is) (left_after 47 c.in-Some.more.now)

pub loop-rest-preserved : goal.loop-rest-preserved
loop-rest-preserved c =
    let segment = c.split_once-in-Some.result.0.now in
    let more = c.in-Some.more.now in
    let goes = went (texts c.loop-rest.kept.items) (texts c.keep.new.kept.items) c.in_ok-keep.field-0 segment more c.split_once-in-Some.ensures.before c.in_ok-keep.ensures (search (rules, c.if-not-branch.false)) in
    rw (c.in_ok-close.ensures, c.split_once-in-Some.ensures.after) (sym goes ∙ (rw c.in-Some.is at c.loop-rest.invariant))
