-- Reading goes on from where it came to, and stops.
use Rattle.std.proofs.Common.{◌≡◌, ℕ, ◌+◌, ◌≤◌, List, length, Option, Some, None, IfSome, IfErr, OnOk, Result, Ok, Err, refl, sym, ap, subst, ◌∙◌}
use Rattle.resty_base.specs.FileMap.{FileMap, FileAccount}
use Rattle.lua_modules.specs.Files.{file_of}
use Rattle.lua_linking.specs.Names.{Names, names_of}
use Rattle.lua_modules.specs.Sets.{Adds, IsUnchanged, next_function}
use Rattle.lua_modules.specs.Texts.{IsTextFault}
use Rattle.lua_modules.specs.declared.faults.ModuleFault.{ModuleFault}
use Rattle.lua_modules.specs.declared.faults.ModuleFault.TheVariants as chunk
use Rattle.lua_modules.specs.declared.sets.ModuleSet.{ModuleSet}
use Rattle.lua_modules.specs.TextsOfFiles.{HoldsModule, IsUnread, ReadsWell}
use Rattle.lua_modules.specs.Finding.{IsOverLimit, found_in, found_in_blocks, most_modules}
use Rattle.lua_modules.specs.Reading.{Progress, HasNoModule, IsNext, IsStuck, Reads, ReadsModule, ReadsModules, ReadsNext, Stops, none, more, progress, refusal, start}
use Rattle.lua_modules.proofs.Growing.{grows}
use Rattle.lua_modules.specs.declared.file_faults.ModuleFileFault.{ModuleFileFault}
use Rattle.lua_modules.specs.declared.file_faults.ModuleFileFault.TheVariants.{Missing, TooLong, Unreadable, Refused, TooMany, Memory}

-- what is known where the files report what they hold
pub where_told : (o p : Option FileMap) (P Q : FileMap → Type 0) → o ≡ p → ((held : FileMap) → P held → Q held) → IfSome o P → IfSome p Q
where_told o None P Q e f is = tt
where_told o (Some held) P Q e f is = f held (rw e at is)

pub where_all : (o : Option FileMap) (P : FileMap → Type 0) → ((held : FileMap) → P held) → IfSome o P
where_all None P f = tt
where_all (Some held) P f = f held

-- the same of two things that are known
pub where_both : (o : Option FileMap) (P Q R : FileMap → Type 0) → ((held : FileMap) → P held → Q held → R held) → IfSome o P → IfSome o Q → IfSome o R
where_both None P Q R f p q = tt
where_both (Some held) P Q R f p q = f held p q

pub well_then : (a b c : FileAccount) → ReadsWell a b → ReadsWell b c → ReadsWell a c
well_then a b c first second = record { told = second.told ∙ first.told; faults = λ name. second.faults name ∙ first.faults name }

pub well_still : (a : FileAccount) → ReadsWell a a
well_still a = record { told = refl; faults = λ name. refl }

-- why there is no text is why there is no module
pub module_unread : (held : FileMap) (file : List ℕ) (fault : ModuleFileFault) → IsUnread held file fault → HasNoModule held file fault
module_unread held file (Missing f) is = is
module_unread held file (TooLong f) is = is
module_unread held file (Unreadable f) is = is
module_unread held file (Refused f fault) is = absurd is
module_unread held file TooMany is = is
module_unread held file Memory is = is

pub module_refused : (held : FileMap) (file text : List ℕ) (fault : ModuleFault) → HoldsModule held file text → IsTextFault 1 text fault
    → HasNoModule held file (refusal file fault)
module_refused held file text (chunk.Lex fault) holds is = (refl, record { text = text; holds = holds; refused = is; known = λ e. cc })
module_refused held file text (chunk.Parse fault) holds is = (refl, record { text = text; holds = holds; refused = is; known = λ e. cc })
module_refused held file text chunk.Memory holds is = tt

pub stuck_at : (held : FileMap) (pattern : List ℕ) (at : Progress) (name : List ℕ) (fault : ModuleFileFault) → IsNext at name
    → HasNoModule held (file_of pattern name) fault → IsStuck held pattern at fault
stuck_at held pattern at name (Missing f) next bad = (name, next, bad)
stuck_at held pattern at name (TooLong f) next bad = (name, next, bad)
stuck_at held pattern at name (Unreadable f) next bad = (name, next, bad)
stuck_at held pattern at name (Refused f fault) next bad = (name, next, bad)
stuck_at held pattern at name TooMany next bad = absurd bad
stuck_at held pattern at name Memory next bad = tt

-- modules that are read, and then others
pub reads_then : {held : FileMap} {pattern : List ℕ} {a b c : Progress} → Reads held pattern a b → Reads held pattern b c → Reads held pattern a c
reads_then r none = r
reads_then r (more s n) = more (reads_then r s) n

pub stops_after : (held : FileMap) (pattern : List ℕ) (a b : Progress) (new : ModuleSet) (fault : ModuleFileFault) → Reads held pattern a b
    → Stops held pattern b new fault → Stops held pattern a new fault
stops_after held pattern a b new fault r s = record { at = s.at; reads = reads_then r s.reads; stuck = s.stuck; left = s.left }

same_set : (s : ModuleSet) → IsUnchanged s s
same_set s = record { program = record { files = refl; functions = refl }; lists = refl }

stops_here : (held : FileMap) (pattern : List ℕ) (at : Progress) (new : ModuleSet) (fault : ModuleFileFault) → IsUnchanged at.set new → IsStuck held pattern at fault
    → Stops held pattern at new fault
stops_here held pattern at new fault left stuck = record { at = at; reads = none; stuck = stuck; left = left }

-- too many names
over_stuck : (held : FileMap) (pattern : List ℕ) (at : Progress) (fault : ModuleFileFault) → IsOverLimit at.names fault → IsStuck held pattern at fault
over_stuck held pattern at (Missing f) is = absurd is
over_stuck held pattern at (TooLong f) is = absurd is
over_stuck held pattern at (Unreadable f) is = absurd is
over_stuck held pattern at (Refused f fault) is = absurd is
over_stuck held pattern at TooMany is = is
over_stuck held pattern at Memory is = tt

module _ (told : Option FileMap) (pattern : List ℕ) where
  pub stops_memory : (at : Progress) → IfSome told (λ held. Stops held pattern at at.set Memory)
  stops_memory at = where_all told (λ held. Stops held pattern at at.set Memory) (λ held. stops_here held pattern at at.set Memory (same_set at.set) tt)

  pub stops_module : (at : Progress) (new : ModuleSet) (name : List ℕ) (fault : ModuleFileFault) → IsNext at name
      → IfSome told (λ held. HasNoModule held (file_of pattern name) fault) → IsUnchanged at.set new → IfSome told (λ held. Stops held pattern at new fault)
  stops_module at new name fault next is left = where_told told told (λ held. HasNoModule held (file_of pattern name) fault) (λ held. Stops held pattern at new fault) refl
      (λ held bad. stops_here held pattern at new fault left (stuck_at held pattern at name fault next bad)) is

  next_read : (set new : ModuleSet) (names : Names) (read : ℕ) (name : List ℕ) (function : ℕ) → IsNext (progress set names read) name
      → IfSome told (λ held. ReadsModule held pattern name set new) → function ≡ next_function set
      → IfSome told (λ held. ReadsNext held pattern (progress set names read) (progress new (found_in new names function) (read + 1)))
  next_read set new names read name function next is e = where_told told told (λ held. ReadsModule held pattern name set new)
      (λ held. ReadsNext held pattern (progress set names read) (progress new (found_in new names function) (read + 1))) refl
      (λ held m. record { name = name; next = next; reads = m; names = ap (found_in new names) e; count = refl }) is

  pub reads_next : (set new : ModuleSet) (names names' : Names) (read : ℕ) (name : List ℕ) (function : ℕ) → IsNext (progress set names read) name
      → IfSome told (λ held. ReadsModule held pattern name set new) → function ≡ next_function set
      → (r : Result (Unit {0}) ModuleFileFault) → OnOk r (names' ≡ found_in new names function)
      → OnOk r (IfSome told (λ held. ReadsNext held pattern (progress set names read) (progress new names' (read + 1))))
  reads_next set new names names' read name function next is e (Ok u) found =
      subst (λ ns. IfSome told (λ held. ReadsNext held pattern (progress set names read) (progress new ns (read + 1)))) (sym found)
      (next_read set new names read name function next is e)
  reads_next set new names names' read name function next is e (Err f) found = tt

  pub stops_next : (set new : ModuleSet) (names : Names) (read : ℕ) (name : List ℕ) (function : ℕ) → IsNext (progress set names read) name
      → IfSome told (λ held. ReadsModule held pattern name set new) → function ≡ next_function set
      → (r : Result (Unit {0}) ModuleFileFault) → IfErr r (IsOverLimit (found_in new names function))
      → IfErr r (λ fault. IfSome told (λ held. Stops held pattern (progress set names read) new fault))
  stops_next set new names read name function next is e (Ok u) many = tt
  stops_next set new names read name function next is e (Err fault) many =
      let after = progress new (found_in new names function) (read + 1) in
      where_told told told (λ held. ReadsNext held pattern (progress set names read) after) (λ held. Stops held pattern (progress set names read) new fault) refl
      (λ held n. stops_after held pattern (progress set names read) after new fault (more none n)
      (stops_here held pattern after new fault (same_set new) (over_stuck held pattern after fault many))) (next_read set new names read name function next is e)

  pub stops_start : (set : ModuleSet) (fault : ModuleFileFault) → IsOverLimit (found_in_blocks set) fault → IfSome told (λ held. Stops held pattern (start set) set fault)
  stops_start set fault many = where_all told (λ held. Stops held pattern (start set) set fault)
      (λ held. stops_here held pattern (start set) set fault (same_set set) (over_stuck held pattern (start set) fault many))

  pub reads_start : (set : ModuleSet) (names : Names) → names ≡ found_in_blocks set → IfSome told (λ held. Reads held pattern (start set) (progress set names 0))
  reads_start set names e = where_all told (λ held. Reads held pattern (start set) (progress set names 0))
      (λ held. subst (λ ns. Reads held pattern (start set) (progress set ns 0)) (sym e) none)

  pub stops_later : (now : Option FileMap) (a b : Progress) (new : ModuleSet) (fault : ModuleFileFault) → now ≡ told → IfSome told (λ held. Reads held pattern a b)
      → IfSome now (λ held. Stops held pattern b new fault) → IfSome told (λ held. Stops held pattern a new fault)
  stops_later now a b new fault e r s = where_both told (λ held. Reads held pattern a b) (λ held. Stops held pattern b new fault) (λ held. Stops held pattern a new fault)
      (λ held first second. stops_after held pattern a b new fault first second) r (subst (λ o. IfSome o (λ held. Stops held pattern b new fault)) e s)

  pub reads_later : (now : Option FileMap) (a b c : Progress) → now ≡ told → IfSome told (λ held. Reads held pattern a b)
      → IfSome now (λ held. ReadsNext held pattern b c) → IfSome told (λ held. Reads held pattern a c)
  reads_later now a b c e r n = where_both told (λ held. Reads held pattern a b) (λ held. ReadsNext held pattern b c) (λ held. Reads held pattern a c)
      (λ held first second. more first second) r (subst (λ o. IfSome o (λ held. ReadsNext held pattern b c)) e n)

  pub all_read : (old new : ModuleSet) (names : Names) (read : ℕ) → read ≡ length names → length names ≤ most_modules
      → IfSome told (λ held. Reads held pattern (start old) (progress new names read)) → IfSome told (λ held. ReadsModules held pattern old new)
  all_read old new names read e few is = where_told told told (λ held. Reads held pattern (start old) (progress new names read)) (λ held. ReadsModules held pattern old new) refl
      (λ held r. record { names = names; few = few; reads = subst (λ n. Reads held pattern (start old) (progress new names n)) e r }) is

  pub module_read : (name n f g text t : List ℕ) (old new : ModuleSet) → f ≡ file_of pattern name → g ≡ file_of pattern name → t ≡ text → n ≡ name
      → IfSome told (λ held. HoldsModule held f text) → Adds n g t old new → IfSome told (λ held. ReadsModule held pattern name old new)
  module_read name n f g text t old new is_f is_g is_t is_n holds adds = where_told told told (λ held. HoldsModule held f text) (λ held. ReadsModule held pattern name old new) refl
      (λ held h. record {
        text = text;
        holds = subst (λ x. HoldsModule held x text) is_f h;
        adds = subst (λ x. Adds name x text old new) is_g (subst (λ x. Adds name g x old new) is_t (subst (λ x. Adds x g t old new) is_n adds));
      }) holds

  pub module_none : (name f g text t : List ℕ) (fault : ModuleFault) → f ≡ file_of pattern name → g ≡ file_of pattern name → t ≡ text
      → IfSome told (λ held. HoldsModule held f text) → IsTextFault 1 t fault → IfSome told (λ held. HasNoModule held (file_of pattern name) (refusal g fault))
  module_none name f g text t fault is_f is_g is_t holds bad = where_told told told (λ held. HoldsModule held f text)
      (λ held. HasNoModule held (file_of pattern name) (refusal g fault)) refl
      (λ held h. subst (λ x. HasNoModule held (file_of pattern name) (refusal x fault)) (sym is_g)
      (module_refused held (file_of pattern name) text fault (subst (λ x. HoldsModule held x text) is_f h) (subst (λ x. IsTextFault 1 x fault) is_t bad))) holds

pub found_longer : (set : ModuleSet) (names new : Names) (function : ℕ) (r : Result (Unit {0}) ModuleFileFault) → OnOk r (new ≡ found_in set names function)
    → OnOk r (length names ≤ length new)
found_longer set names new function (Ok u) e = rw e (grows set names (names_of set.program.functions.items function))
found_longer set names new function (Err f) e = tt
