-- Whole programs joined are a whole program.
use Rattle.std.proofs.Common.{◌≡◌, ℕ, zero, suc, ◌+◌, ◌<◌, List, [], ◌∷◌, ◌++◌, length, refl, sym, subst, arith, length-append}
use Rattle.std.specs.List.{All, AllZip}
use Rattle.std.proofs.lemmas.List.Elements.{All-append, All-weaker}
use Rattle.lua_ast.specs.declared.programs.Capture.{Capture}
use Rattle.lua_ast.specs.declared.programs.Capture.TheVariants as capture
use Rattle.lua_ast.specs.declared.programs.Function.{Function}
use Rattle.lua_ast.specs.declared.programs.Program.{Program}
use Rattle.lua_ast.specs.WholeProgram.{HasVariable, HasInner, IsWholeStmt, IsWholeFunction, IsWholeProgram}
use Rattle.lua_linking.specs.Raising.{RaisedStmt, RaisedFunction}
use Rattle.lua_linking.specs.Joining.{IsJoined}
use Rattle.lua_linking.proofs.Lists.{all_zipped}
use Rattle.lua_linking.proofs.WholeStatements.{stmt_whole, stmt_stays}

-- a function with the same slots and captures has the same variables
has_variable : (f g : Function) → g.slots ≡ f.slots → g.captures.items ≡ f.captures.items → (c : Capture) → HasVariable f c → HasVariable g c
has_variable f g slots captures (capture.Slot n) h = subst (λ m. n < m) (sym slots) h
has_variable f g slots captures (capture.Outer n) h = subst (λ cs. n < length cs) (sym captures) h

inner_zipped : (by files : ℕ) (f g : Function) → g.slots ≡ f.slots → g.captures.items ≡ f.captures.items → (fs gs : List Function)
    → AllZip (RaisedFunction by files) fs gs
    → (n : ℕ) → HasInner fs f n → HasInner gs g n
inner_zipped by files f g slots captures [] gs z n h = absurd h
inner_zipped by files f g slots captures (x ∷ fs) [] z n h = absurd z
inner_zipped by files f g slots captures (x ∷ fs) (y ∷ gs) z zero h =
    subst (All (HasVariable g)) (sym z.0.captures) (All-weaker (HasVariable f) (HasVariable g) (has_variable f g slots captures) x.captures.items h)
inner_zipped by files f g slots captures (x ∷ fs) (y ∷ gs) z (suc n) h = inner_zipped by files f g slots captures fs gs z.1 n h

inner_after : (g : Function) (before gs : List Function) (n m : ℕ) → m ≡ n + length before → HasInner gs g n → HasInner (before ++ gs) g m
inner_after g [] gs n m e h = subst (HasInner gs g) (omega (arith, e)) h
inner_after g (x ∷ before) gs n zero e h = absurd (omega (arith, e))
inner_after g (x ∷ before) gs n (suc m) e h = inner_after g before gs n m (omega (arith, e)) h

inner_before : (f : Function) (before gs : List Function) (n : ℕ) → HasInner before f n → HasInner (before ++ gs) f n
inner_before f [] gs n h = absurd h
inner_before f (x ∷ before) gs zero h = h
inner_before f (x ∷ before) gs (suc n) h = inner_before f before gs n h

module _ (first second joined : Program) (j : IsJoined first second joined) where
  file_fits : (n : ℕ) → n < length first.files + length second.files → n < length joined.files
  file_fits n h = rw (j.files, length-append first.files second.files) h

  stays : (f : Function) → IsWholeFunction first f → IsWholeFunction joined f
  stays f w = record {
    file = file_fits f.file (omega (arith, w.file));
    params = w.params;
    body = All-weaker (IsWholeStmt first.functions.items f) (IsWholeStmt joined.functions.items f)
        (stmt_stays first.functions.items joined.functions.items f (λ n h. rw j.functions (inner_before f first.functions.items j.raised n h)))
        f.body.value.items w.body;
  }

  raised_whole : (f g : Function) → RaisedFunction (length first.functions.items) (length first.files) f g → IsWholeFunction second f → IsWholeFunction joined g
  raised_whole f g r w = record {
    file = file_fits g.file (omega (arith, r.file, w.file));
    params = omega (arith, r.params, r.slots, w.params);
    body = all_zipped (RaisedStmt (length first.functions.items)) (IsWholeStmt second.functions.items f) (IsWholeStmt joined.functions.items g)
        f.body.value.items g.body.value.items
        (stmt_whole (length first.functions.items) second.functions.items joined.functions.items f g r.slots r.captures
        (λ n h. rw j.functions (inner_after g first.functions.items j.raised n (n + length first.functions.items) refl
        (inner_zipped (length first.functions.items) (length first.files) f g r.slots r.captures second.functions.items j.raised j.numbers n h))))
        r.body w.body;
  }

  pub joined_whole : IsWholeProgram first → IsWholeProgram second → IsWholeProgram joined
  joined_whole v w = subst (All (IsWholeFunction joined)) (sym j.functions) (All-append (IsWholeFunction joined) first.functions.items j.raised
      (All-weaker (IsWholeFunction first) (IsWholeFunction joined) stays first.functions.items v)
      (all_zipped (RaisedFunction (length first.functions.items) (length first.files)) (IsWholeFunction second) (IsWholeFunction joined)
      second.functions.items j.raised raised_whole j.numbers w))
