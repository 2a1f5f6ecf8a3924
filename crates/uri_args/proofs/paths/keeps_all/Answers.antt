use Rattle.std.proofs.Common.{◌≡◌, List, ℕ, Bool, true, false, not, Option, None, Some, ◌∷◌, refl, ap, ◌∙◌, sym, rules}
use Rattle.std.specs.Option.{is_none, is_some, option_copied}
use Rattle.std.specs.Borrow.{Bor}
use Rattle.http_base.specs.Splitting.{before, after, split, later_pieces}
use Rattle.http_base.proofs.Pieces.{left_after, split_first}
use Rattle.uri_args.specs.Plain.{keeps_all}
use Rattle.uri_args.proofs.Plain.{is_kept, keeps_more, keeps_none}
use Rattle.uri_args.proofs.paths.keeps_all.Goals as goal

-- a test for what follows
last_is : (found : Option (Bor (List ℕ))) (last : Bool) → is_some found ≡ not last → last ≡ is_none found
last_is None true is = refl
last_is None false is = is
last_is (Some text) true is = is
last_is (Some text) false is = refl

same_end : (found : Option (Bor (List ℕ))) → is_none found ≡ is_none (option_copied found)
same_end None = refl
same_end (Some text) = refl

module _ (segment more : List ℕ) (found : Option (Bor (List ℕ))) (first : segment ≡ before 47 more) (rest : option_copied found ≡ after 47 more) (last kept : Bool) (end : last ≡ is_none found) (is : kept ≡ is_kept segment last) where
  pieces : split 47 more ≡ segment ∷ later_pieces 47 (option_copied found)
  pieces = split_first 47 more ∙ ap (λ s. s ∷ later_pieces 47 (after 47 more)) (sym first) ∙ ap (λ r. segment ∷ later_pieces 47 r) (sym rest)

  whether : is_kept segment (is_none (option_copied found)) ≡ kept
  whether = sym (is ∙ ap (is_kept segment) (end ∙ same_end found))

  stays : kept ≡ true → keeps_all (later_pieces 47 (option_copied found)) ≡ keeps_all (split 47 more)
  stays goes = sym (ap keeps_all pieces ∙ keeps_more segment (option_copied found) (whether ∙ goes))

  ends : kept ≡ false → false ≡ keeps_all (split 47 more)
  ends over = sym (ap keeps_all pieces ∙ keeps_none segment (option_copied found) (whether ∙ over))

pub returns-then-not-is_kept : goal.returns-then-not-is_kept
returns-then-not-is_kept c =
    ends c.split_once.result.0.now c.in-Some.more.now c.split_once.result.1 c.split_once.ensures.before c.split_once.ensures.after c.is_none.result c.is_kept.result (last_is c.split_once.result.1 c.is_none.result c.is_none.ensures) c.is_kept.ensures
    (search (rules, c.if-not-is_kept.true))
    ∙ (rw c.in-Some.is at c.loop-rest.invariant)

pub loop-rest-smaller : goal.loop-rest-smaller
loop-rest-smaller c = rw (c.split_once.ensures.after, c.in-Some.is) (left_after 47 c.in-Some.more.now)

pub loop-rest-preserved : goal.loop-rest-preserved
loop-rest-preserved c =
    stays c.split_once.result.0.now c.in-Some.more.now c.split_once.result.1 c.split_once.ensures.before c.split_once.ensures.after c.is_none.result c.is_kept.result (last_is c.split_once.result.1 c.is_none.result c.is_none.ensures) c.is_kept.ensures
    (search (rules, c.if-not-is_kept.false))
    ∙ (rw c.in-Some.is at c.loop-rest.invariant)
