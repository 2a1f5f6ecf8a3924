use Rattle.std.proofs.Common.{◌≡◌, [], List, ℕ, true, false, None, Some, Option, refl, ap, ◌∙◌, sym, append-nil}
use Rattle.std.specs.Borrow.{Bor}
use Rattle.std.specs.Option.{is_some, option_copied}
use Rattle.std.proofs.lemmas.Bool.{cond-false, true≢false}
use Rattle.http_base.specs.Splitting.{later_pieces}
use Rattle.http_base.proofs.Pieces.{split_first}
use Rattle.uri_args.specs.Paths as spec
use Rattle.uri_args.proofs.paths.close.Goals.{else-is_none-via-then-is_none+else-is_passed, else-is_none-via-else-is_none}
use Rattle.uri_args.proofs.paths.close.Goals as goal

-- nothing is added where a segment comes after this one
ending_before : (segment rest : List ℕ) → spec.ending segment (later_pieces 47 (Some rest)) ≡ []
ending_before segment rest = ap (spec.ending segment) (split_first 47 rest)

ending_some : (segment : List ℕ) (after : Option (Bor (List ℕ))) → is_some after ≡ true → spec.ending segment (later_pieces 47 (option_copied after)) ≡ []
ending_some segment None some = absurd (true≢false (sym some))
ending_some segment (Some rest) some = ending_before segment rest.now

-- or where this one is kept itself
ending_kept : (segment : List ℕ) (after : Option (Bor (List ℕ))) → spec.is_passed segment ≡ false → spec.ending segment (later_pieces 47 (option_copied after)) ≡ []
ending_kept segment None kept = cond-false _ _ _ kept
ending_kept segment (Some rest) kept = ending_before segment rest.now

pub returns-else-is_none : goal.returns-else-is_none
returns-else-is_none c = elim c.else-is_none.branch [
  | else-is_none-via-then-is_none+else-is_passed w ↦ rw (ending_kept c.args.segment.now c.args.after (sym w.is_passed.ensures ∙ w.if-is_passed.false), append-nil) refl
  | else-is_none-via-else-is_none w ↦ rw (ending_some c.args.segment.now c.args.after w.if-is_none.ensures, append-nil) refl
]
