-- Open choices, one more.
use Rattle.std.proofs.Common.{◌≡◌, ℕ, List, [], ◌∷◌, ◌++◌, refl}
use Rattle.lua_patterns.specs.declared.captures.Capture.{Capture}
use Rattle.lua_patterns.specs.declared.matcher.Pending.{Pending}
use Rattle.lua_patterns.specs.declared.matcher.Search.{Search}
use Rattle.lua_patterns.specs.Trails.{Event}
use Rattle.lua_patterns.specs.Matching.{pending_trail, undone, stacked}

pub stacked_push : (search : Search) (start : ℕ) (below : List Capture → List Event) (choices : List Pending) (choice : Pending) (captures : List Capture)
    → stacked search start below (choices ++ choice ∷ []) captures
    ≡ pending_trail search start choice captures ++ stacked search start below choices (undone choice captures)
unfolding stacked
stacked_push search start below [] choice captures = refl
stacked_push search start below (other ∷ choices) choice captures =
    stacked_push search start (λ older. pending_trail search start other older ++ below (undone other older)) choices choice captures

pub stacked_none : (search : Search) (start : ℕ) (below : List Capture → List Event) (captures : List Capture)
    → stacked search start below [] captures ≡ below captures
unfolding stacked
stacked_none search start below captures = refl
