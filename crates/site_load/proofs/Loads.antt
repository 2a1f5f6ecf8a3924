-- From what each step of a loading says to what is said of the loading.
use Rattle.std.proofs.Common.{◌≡◌, ◌⊎◌, inl, inr, ℕ, List, Option, Some, None, Result, Ok, Err, IfSome, IfOk, IfErr, OnOk, refl, subst, ◌∙◌}
use Rattle.resty_base.specs.FileMap.{FileMap, FileAccount}
use Rattle.conf.specs.declared.sites.Conf.{Conf}
use Rattle.lua_ast.specs.declared.programs.Program.{Program}
use Rattle.lua_modules.specs.declared.faults.ModuleFault.TheVariants as chunk
use Rattle.lua_modules.specs.declared.sets.ModuleSet.{ModuleSet}
use Rattle.lua_run.specs.Answers.{Site}
use Rattle.lua_modules.specs.TextsOfFiles.{Holds, ReadsWell, Fares}
use Rattle.lua_modules.specs.Reading.{ReadsModules, Stops, start}
use Rattle.lua_modules.specs.declared.file_faults.ModuleFileFault.{ModuleFileFault}
use Rattle.lua_modules.specs.declared.file_faults.ModuleFileFault.TheVariants as reading
use Rattle.site_check.specs.Sites.{IsRead}
use Rattle.site_check.specs.declared.faults.CheckFault.TheVariants as check
use Rattle.site_load.specs.Handlers.{unbuilt_line}
use Rattle.site_load.specs.Loading.{IsBuiltInFault, HasBlocks, HasTexts, HasSite, NotLoaded, Says, IsRefusedAs, IsUnread, most_bytes, of_modules}
use Rattle.site_load.specs.Starts.{StartsAs, IsStartFault}
use Rattle.site_load.specs.declared.faults.SiteFault.{SiteFault}
use Rattle.site_load.specs.declared.faults.SiteFault.TheVariants.{Missing, TooLong, Unreadable, Refused, NotBuilt, TooManyModules, Init, Memory}
use Rattle.site_load.specs.declared.loading.SiteTexts.{SiteTexts}

-- what follows from what is there, where it is
weaker_some : {X : Type 0} (o : Option X) (P Q : X → Type 0) → ((x : X) → P x → Q x) → IfSome o P → IfSome o Q
weaker_some None P Q wider p = tt
weaker_some (Some x) P Q wider p = wider x p

both_some : {X : Type 0} (o : Option X) (P Q R : X → Type 0) → ((x : X) → P x → Q x → R x) → IfSome o P → IfSome o Q → IfSome o R
both_some None P Q R wider p q = tt
both_some (Some x) P Q R wider p q = wider x p q

-- a text that is refused
refused_text : (name text : List ℕ) (old new : FileAccount) (fault : SiteFault) → IfSome old.told (λ held. Holds held name most_bytes text) → IsRefusedAs name text fault
    → NotLoaded name old new fault
refused_text name text old new (Refused file wrong) holds r =
    weaker_some old.told _ _ (λ held h. inl (r.0, record { text = text; holds = h; wrong = r.1; known = r.2 })) holds
refused_text name text old new (NotBuilt file line) holds r =
    weaker_some old.told _ _ (λ held h. (r.0, record { conf = r.1; programs = r.2; has = record { text = text; holds = h; read = r.3 }; first = r.4 })) holds
refused_text name text old new (Init message) holds r =
    weaker_some old.told _ _ (λ held h. inl (record { conf = r.0; programs = r.1; has = record { text = text; holds = h; read = r.2 }; built = r.3; refused = r.4 })) holds
refused_text name text old new Memory holds r = tt
refused_text name text old new (Missing file) holds r = absurd r
refused_text name text old new (TooLong file) holds r = absurd r
refused_text name text old new (Unreadable file) holds r = absurd r
refused_text name text old new TooManyModules holds r = absurd r

pub well_on : (old mid new : FileAccount) → ReadsWell old mid → ReadsWell mid new → ReadsWell old new
well_on old mid new first then_ = record { told = then_.told ∙ first.told; faults = λ name. then_.faults name ∙ first.faults name }

-- a file that can't be read
pub unread : (name : List ℕ) (old new : FileAccount) (fault : SiteFault) → IsUnread name old new fault → NotLoaded name old new fault
unread name old new (Missing file) u = weaker_some old.told _ _ (λ held none. inl (u.0, none)) u.1
unread name old new (TooLong file) u = weaker_some old.told _ _ (λ held long. inl (u.0, long)) u.1
unread name old new (Unreadable file) u = u
unread name old new Memory u = tt
unread name old new (Refused file wrong) u = absurd u
unread name old new (NotBuilt file line) u = absurd u
unread name old new TooManyModules u = absurd u
unread name old new (Init message) u = absurd u

-- a built-in text that is refused
pub built_in_refused : (name text : List ℕ) (conf : Conf) (programs : List Program) → IsRead text conf programs → unbuilt_line conf ≡ None → (fault : SiteFault) → IsBuiltInFault fault
    → IsRefusedAs name text fault
built_in_refused name text conf programs read built (Init message) refused = (conf, programs, read, built, refused)
built_in_refused name text conf programs read built Memory refused = tt
built_in_refused name text conf programs read built (Missing file) refused = absurd refused
built_in_refused name text conf programs read built (TooLong file) refused = absurd refused
built_in_refused name text conf programs read built (Unreadable file) refused = absurd refused
built_in_refused name text conf programs read built (Refused file wrong) refused = absurd refused
built_in_refused name text conf programs read built (NotBuilt file line) refused = absurd refused
built_in_refused name text conf programs read built TooManyModules refused = absurd refused

-- what the text says that the file holds
module _ (name text file read : List ℕ) (is_file : file ≡ name) (is_text : read ≡ text) (old new : FileAccount) (holds : IfSome old.told (λ held. Holds held name most_bytes text)) where
  has_blocks : (conf : Conf) (set : ModuleSet) → Says file read conf set → IfSome old.told (λ held. HasBlocks held name conf set)
  has_blocks conf set says =
      let said = subst (λ t. Says name t conf set) is_text (subst (λ f. Says f read conf set) is_file says) in
      weaker_some old.told _ _ (λ held h. record {
        programs = said.programs;
        has = record { text = text; holds = h; read = said.read };
        built = said.built;
        chunks = said.chunks;
      }) holds

  refused_as : (fault : SiteFault) → IsRefusedAs file read fault → NotLoaded name old new fault
  refused_as fault wrong = refused_text name text old new fault holds (subst (λ t. IsRefusedAs name t fault) is_text (subst (λ f. IsRefusedAs f read fault) is_file wrong))

  pub texts_held : (r : Result SiteTexts SiteFault) → IfOk r (λ texts. Says file read texts.conf texts.set) → IfOk r (λ texts. IfSome old.told (λ held. HasBlocks held name texts.conf texts.set))
  texts_held (Ok texts) says = has_blocks texts.conf texts.set says
  texts_held (Err fault) says = tt

  pub no_texts : (r : Result SiteTexts SiteFault) → IfErr r (IsRefusedAs file read) → IfErr r (NotLoaded name old new)
  no_texts (Ok texts) wrong = tt
  no_texts (Err fault) wrong = refused_as fault wrong

-- the modules
module _ (name : List ℕ) (conf : Conf) (own : ModuleSet) (old mid : FileAccount) (well : ReadsWell old mid) (has : IfSome old.told (λ held. HasBlocks held name conf own)) where
  pub has_texts : (set : ModuleSet) → IfSome mid.told (λ held. ReadsModules held conf.«package» own set) → IfSome old.told (λ held. HasTexts held name conf set)
  has_texts set reads = both_some old.told _ _ _ (λ held b m. record { own = own; blocks = b; modules = m }) has (rw well.told at reads)

  -- modules that can't be read
  pub no_modules : (set : ModuleSet) (new : FileAccount) (fault : ModuleFileFault) → IfSome mid.told (λ held. Stops held conf.«package» (start own) set fault)
      → Fares {T = Unit {0}} (Err fault) mid new → NotLoaded name old new (of_modules fault)
  no_modules set new (reading.Missing file) stops fares =
      both_some old.told _ _ _ (λ held b s. inr (record { conf = conf; own = own; left = set; blocks = b; stops = s })) has (rw well.told at stops)
  no_modules set new (reading.TooLong file) stops fares =
      both_some old.told _ _ _ (λ held b s. inr (record { conf = conf; own = own; left = set; blocks = b; stops = s })) has (rw well.told at stops)
  no_modules set new (reading.Unreadable file) stops fares = rw (← well.faults file) fares
  no_modules set new (reading.Refused file (chunk.Lex wrong)) stops fares =
      both_some old.told _ _ _ (λ held b s. inr (record {
        wrong = chunk.Lex wrong;
        lacks = record { conf = conf; own = own; left = set; blocks = b; stops = s };
        is = refl;
      })) has (rw well.told at stops)
  no_modules set new (reading.Refused file (chunk.Parse wrong)) stops fares =
      both_some old.told _ _ _ (λ held b s. inr (record {
        wrong = chunk.Parse wrong;
        lacks = record { conf = conf; own = own; left = set; blocks = b; stops = s };
        is = refl;
      })) has (rw well.told at stops)
  no_modules set new (reading.Refused file chunk.Memory) stops fares = tt
  no_modules set new reading.TooMany stops fares =
      both_some old.told _ _ _ (λ held b s. record { conf = conf; own = own; left = set; blocks = b; stops = s }) has (rw well.told at stops)
  no_modules set new reading.Memory stops fares = tt

-- the start
module _ (name : List ℕ) (conf : Conf) (set : ModuleSet) (old new : FileAccount) (texts : IfSome old.told (λ held. HasTexts held name conf set)) where
  pub loaded : {T : Type 0} (r : Result T SiteFault) (see : T → Site) → IfOk r (λ site. StartsAs conf set (see site)) → IfOk r (λ site. IfSome old.told (λ held. HasSite held name (see site)))
  loaded (Ok site) see starts = weaker_some old.told _ _ (λ held t. record { conf = conf; set = set; texts = t; starts = starts }) texts
  loaded (Err fault) see starts = tt

  no_start : (fault : SiteFault) → IsStartFault conf set fault → NotLoaded name old new fault
  no_start (Init message) fails = weaker_some old.told _ _ (λ held t. inr (record { conf = conf; set = set; texts = t; fails = fails })) texts
  no_start Memory fails = tt
  no_start (Missing file) fails = absurd fails
  no_start (TooLong file) fails = absurd fails
  no_start (Unreadable file) fails = absurd fails
  no_start (Refused file wrong) fails = absurd fails
  no_start (NotBuilt file line) fails = absurd fails
  no_start TooManyModules fails = absurd fails

  pub not_loaded : {T : Type 0} (r : Result T SiteFault) → IfErr r (IsStartFault conf set) → IfErr r (NotLoaded name old new)
  not_loaded (Ok site) fails = tt
  not_loaded (Err fault) fails = no_start fault fails

pub on_ok : {T E : Type 0} (r : Result T E) (P : Type 0) → P → OnOk r P
on_ok (Ok x) P p = p
on_ok (Err e) P p = tt
