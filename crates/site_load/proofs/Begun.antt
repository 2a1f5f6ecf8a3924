-- The start of the program of a set, from that of a machine and the chunks beside it.
use Rattle.std.proofs.Common.{◌≡◌, ℕ, List, [], ◌++◌, length, Option, Result, Ok, Err, IfOk, IfErr, refl, sym, ap, subst, ◌∙◌}
use Rattle.conf.specs.declared.sites.Conf.{Conf}
use Rattle.lua_ast.specs.declared.programs.Program.{Program}
use Rattle.lua_modules.specs.Sets.{Lists, lists_of}
use Rattle.lua_modules.specs.declared.sets.ModuleSet.{ModuleSet}
use Rattle.lua_run.specs.Answers.{Site}
use Rattle.lua_run.specs.declared.sites.Site as code
use Rattle.lua_run.specs.Views.{handler_at}
use Rattle.lua_site.specs.Starting.{Start, started}
use Rattle.lua_threads.specs.declared.loaded.Loaded.{Loaded}
use Rattle.lua_values.specs.Heap.{StoreView}
use Rattle.site_load.specs.Programs.{life_of}
use Rattle.site_load.specs.Starts.{StartsAs, IsStartFault, init_among, start_of, site_with}
use Rattle.site_load.specs.Views.{site_of}
use Rattle.site_load.specs.declared.faults.SiteFault.{SiteFault}
use Rattle.site_load.specs.declared.faults.SiteFault.TheVariants.{Memory}

-- what a start of the program comes to, it comes to for the set
pub starts : (conf : Conf) (set : ModuleSet) (p : Program) (lists : Lists) (count : ℕ) (init : Option ℕ) (r : Result Start (List ℕ)) → p ≡ set.program → lists ≡ lists_of set
    → count ≡ length lists.blocks → init ≡ init_among count conf.init → started (life_of p) 184 lists init ≡ r → start_of conf set.program (lists_of set) ≡ r
unfolding start_of
starts conf set p lists count init r is_p is_lists is_count is_init e =
    ap (λ (q : Program). started (life_of q) 184 (lists_of set) (init_among (length (lists_of set).blocks) conf.init)) (sym is_p)
    ∙ ap (λ (l : Lists). started (life_of p) 184 l (init_among (length l.blocks) conf.init)) (sym is_lists)
    ∙ ap (λ (n : ℕ). started (life_of p) 184 lists (init_among n conf.init)) (sym is_count)
    ∙ ap (λ (i : Option ℕ). started (life_of p) 184 lists i) (sym is_init)
    ∙ e

-- a site by its parts
abbrev seen : Conf → Program → List ℕ → StoreView → Site
seen conf p blocks store = record { conf = conf; handler = λ number. life_of p (handler_at blocks number) []; store = store }

is_site : (site : Site) (conf : Conf) (p q : Program) (bs cs : List ℕ) (store kept : StoreView) (other : Conf) → site ≡ seen other p bs kept → other ≡ conf → p ≡ q → bs ≡ cs → kept ≡ store
    → site ≡ site_with conf q (record { store = store; blocks = cs })
is_site site conf p q bs cs store kept other is is_conf is_p is_bs is_store =
    is
    ∙ ap (λ (d : Conf). seen d p bs kept) is_conf
    ∙ ap (λ (x : Program). seen conf x bs kept) is_p
    ∙ ap (λ (xs : List ℕ). seen conf q xs kept) is_bs
    ∙ ap (λ (s : StoreView). seen conf q cs s) is_store

-- a site with the closures of these blocks is what the set starts as
module _ {N : Type 0} (conf : Conf) (set : ModuleSet) (start : Start) (begins : start_of conf set.program (lists_of set) ≡ Ok start) (machine : Loaded N)
    (program : machine.program ≡ set.program) where
  pub starts_as : (first : List ℕ) → first ≡ [] → (r : Result (code.Site (Loaded N)) SiteFault)
      → IfOk r (λ site. (site.conf ≡ conf) × (site.machine ≡ machine) × (site.store ≡ start.store)) → IfOk r (λ site. site.blocks ≡ first ++ start.blocks)
      → IfOk r (λ site. StartsAs conf set (site_of site))
  starts_as first none (Ok site) kept blocks = record {
    start = start;
    begins = begins;
    is = is_site (site_of site) conf site.machine.program set.program site.blocks start.blocks start.store site.store site.conf refl kept.0
        (ap (λ (m : Loaded N). m.program) kept.1 ∙ program) (blocks ∙ ap (λ (xs : List ℕ). xs ++ start.blocks) none) kept.2;
  }
  starts_as first none (Err fault) kept blocks = tt

-- memory may run out
pub out_of_memory : {T : Type 0} (conf : Conf) (set : ModuleSet) (r : Result T SiteFault) → IfErr r (λ fault. fault ≡ Memory) → IfErr r (IsStartFault conf set)
out_of_memory conf set (Ok x) is = tt
out_of_memory conf set (Err fault) is = subst (λ (f : SiteFault). IsStartFault conf set f) (sym is) tt
