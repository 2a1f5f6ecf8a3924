-- A site starts alike by equal lives, so two sets that are the same start the same site.
use Rattle.std.proofs.Common.{◌≡◌, ap, ◌∙◌}
use Rattle.std.proofs.Math.Path.{fun_ext}
use Rattle.lua_modules.specs.Sets.{Lists, lists_of}
use Rattle.lua_site.specs.Calls.{Life}
use Rattle.lua_site.specs.Starting.{started}
use Rattle.site_same_laws.specs.Programs.{SameProgramsLiveAlike}
use Rattle.site_same_laws.specs.Sets.{EqualLivesStartAlike, SameSetsStartAlike, life_of}

pub start_alike : EqualLivesStartAlike
start_alike life other natives lists init each =
    let equal : life ≡ other = fun_ext λ f. fun_ext λ args. fun_ext λ resumes. each f args resumes in
    ap (λ (l : Life). started l natives lists init) equal

pub sets_start_alike : SameProgramsLiveAlike → SameSetsStartAlike
sets_start_alike live_alike a b count lib natives init same =
    start_alike (life_of a count lib) (life_of b count lib) natives (lists_of a) init (λ f args resumes. live_alike a.program b.program same.program count lib f args resumes)
    ∙ ap (λ (lists : Lists). started (life_of b count lib) natives lists init) same.lists
