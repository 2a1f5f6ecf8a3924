-- How the list of names that are found grows.
use Rattle.std.proofs.Common.{◌≡◌, ℕ, ◌+◌, ◌<◌, ◌≤◌, Bool, true, false, List, [], ◌∷◌, ◌++◌, length, arith, drop, get_or, refl, ap, ◌∙◌, add-one}
use Rattle.std.proofs.lemmas.List.{length-append}
use Rattle.std.proofs.Math.Seq.{drop-cons}
use Rattle.std.specs.Prelude.{if◌then◌else◌}
use Rattle.lua_linking.specs.Names.{Names}
use Rattle.lua_modules.specs.declared.sets.ModuleSet.{ModuleSet}
use Rattle.lua_modules.specs.Finding.{most_modules, is_known, with_name, with_names, IsOverLimit}
use Rattle.lua_modules.specs.declared.file_faults.ModuleFileFault.{ModuleFileFault}
use Rattle.lua_modules.specs.declared.file_faults.ModuleFileFault.TheVariants.{Missing, TooLong, Unreadable, Refused, TooMany, Memory}

-- what will be found is what is still found, and there aren't too many so far
pub record IsFound (all still names : Names) : Type 0 where
  pub found : all ≡ still
  pub few : length names ≤ most_modules

one_grows : (b : Bool) (names : Names) (x : List ℕ) → length names ≤ length (if b then names else names ++ x ∷ [])
one_grows true names x = omega arith
one_grows false names x = rw (length-append names (x ∷ [])) (omega arith)

-- none is lost
pub grows : (set : ModuleSet) (names more : Names) → length names ≤ length (with_names set names more)
grows set names [] = omega arith
grows set names (x ∷ more) = omega (arith, one_grows (is_known set names x) names x, grows set (with_name set names x) more)

-- where some are too many, more are too
over : (a b : Names) (fault : ModuleFileFault) → length a ≤ length b → IsOverLimit a fault → IsOverLimit b fault
over a b (Missing f) less is = is
over a b (TooLong f) less is = is
over a b (Unreadable f) less is = is
over a b (Refused f fault) less is = is
over a b TooMany less is = omega (arith, less, is)
over a b Memory less is = tt

module _ (set : ModuleSet) (start now : Names) (xs : Names) (i : ℕ) (x d : List ℕ) (found : with_names set start xs ≡ with_names set now (drop i xs))
    (less : i < length xs) (is : x ≡ get_or xs i d) where
  next_name : with_names set start xs ≡ with_names set (with_name set now x) (drop (i + 1) xs)
  next_name = found ∙ ap (with_names set now) (drop-cons xs i d less) ∙ rw (is, add-one) refl

  pub name_found : (new : Names) → new ≡ with_name set now x → with_names set start xs ≡ with_names set new (drop (i + 1) xs)
  name_found new e = rw e next_name

  pub name_over : (fault : ModuleFileFault) → IsOverLimit (with_name set now x) fault → IsOverLimit (with_names set start xs) fault
  name_over fault o = rw next_name (over (with_name set now x) _ fault (grows set (with_name set now x) (drop (i + 1) xs)) o)
