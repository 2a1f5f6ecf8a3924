-- The newest local of a name.
use Rattle.std.proofs.Common.{◌≡◌, true, false, List, [], ◌∷◌, ◌++◌, length, Some, None, refl, add-one, if◌then◌else◌}
use Rattle.std.specs.Str.{bytes_eq}
use Rattle.std.proofs.lemmas.Slice.Eq.{bytes_eq-Decides}
use Rattle.lua_ast.specs.declared.programs.Capture.TheVariants.{Slot}
use Rattle.lua_grammar.specs.Tree.{Bytes}
use Rattle.lua_grammar.specs.Scopes.{Frame, last_index, later, own, look, with_locals}

-- one more name after the others
pub one_more : (name : Bytes) (xs : List Bytes) (x : Bytes) →
    last_index name (xs ++ x ∷ []) ≡ (if bytes_eq x name then Some (length xs) else last_index name xs)
unfolding last_index
one_more name [] x = refl
one_more name (y ∷ ys) x =
    rw (one_more name ys x) (elim (bytes_eq x name) as (λ b. later (if b then Some (length ys) else last_index name ys) (if bytes_eq y name then Some 0 else None)
    ≡ (if b then Some (length (y ∷ ys)) else later (last_index name ys) (if bytes_eq y name then Some 0 else None))) [ true ↦ rw (add-one (length ys)) refl | false ↦ refl ])

pub newest : (name : Bytes) (f : Frame) (enclosing : List Frame) →
    look name (with_locals (name ∷ []) f ∷ enclosing) ≡ (Some (Slot (length f.locals)), with_locals (name ∷ []) f ∷ enclosing)
unfolding look own
newest name f enclosing = rw (one_more name f.locals name, (bytes_eq-Decides name name).1 refl) refl
