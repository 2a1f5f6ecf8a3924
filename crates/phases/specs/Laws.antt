-- Laws of the order of handlers (lua-nginx-module manual, "Order of Lua Nginx Module Directives").
use Rattle.std.specs.Prelude.{ℕ, ◌≤◌, ◌≡◌, Bool, true, false, List, [], ◌∷◌, ◌++◌, length, filter, All}
use Rattle.phases.specs.declared.outcomes.Phase.TheVariants.{Log}
use Rattle.phases.specs.Lists.{Deed, Handles, End, is_spent, is_beginning, is_over, phase_list}

-- However its handlers end, a request begins at most eleven times, the first time and after ten redirects, with three handlers
-- each time; then come at most one reply of the server's own and the log's handler.
pub record IsBounded : Type 0 where
  pub begins : (sub : Bool) (es : List End) → length (filter is_beginning (phase_list sub es)) ≤ 11
  pub ends : (sub : Bool) (es : List End) → length (phase_list sub es) ≤ 35

-- no handler used up its steps
abbrev pub IsUnspent : List End → Type 0
IsUnspent es = All (λ e. is_spent e.1 ≡ false) es

-- The log's handler comes once, at the end: nothing follows it; it comes in each request that is over, unless steps were used up;
-- and a subrequest has none.
pub record LogsLast : Type 0 where
  pub last : (sub : Bool) (es : List End) (before after : List Deed) → phase_list sub es ≡ before ++ Handles Log ∷ after → after ≡ []
  pub logs : (es : List End) → IsUnspent es → is_over false es ≡ true → (before : List Deed) × (phase_list false es ≡ before ++ Handles Log ∷ [])
  pub none : (es : List End) (before after : List Deed) → phase_list true es ≡ before ++ Handles Log ∷ after → ⊥
