-- Readings of modules that begin with sets that are the same stay the same as far as they go.
use Rattle.std.proofs.Common.{◌≡◌, ◌≢◌, inl, inr, ◌<◌, ◌≤◌, ℕ, zero, suc, ◌+◌, ◌||◌, true, false, List, [], ◌∷◌, ◌++◌, length, flat_map, slice_get, bytes_eq, Option, Some, None, refl, sym, ◌∙◌, ap, subst, arith, if◌then◌else◌}
use Rattle.std.specs.List.{AllZip, list_any}
use Rattle.std.proofs.lemmas.Bool.Decides.{leb_tells, eqb_tells}
use Rattle.resty_base.specs.FileMap.{FileMap}
use Rattle.lua_ast.specs.SameProgram.{SameFunction}
use Rattle.lua_ast.specs.declared.programs.Program.{Program}
use Rattle.lua_linking.specs.Names.{Names, names_of}
use Rattle.lua_modules.specs.Files.{file_of}
use Rattle.lua_modules.specs.Sets.{Adds, has_module, next_function}
use Rattle.lua_modules.specs.Texts.{HasProgram, IsTextFault}
use Rattle.lua_modules.specs.declared.faults.ModuleFault.{ModuleFault}
use Rattle.lua_modules.specs.declared.faults.ModuleFault.TheVariants as chunk
use Rattle.lua_modules.specs.declared.sets.Module.{Module}
use Rattle.lua_modules.specs.declared.sets.ModuleSet.{ModuleSet}
use Rattle.lua_modules.specs.TextsOfFiles.{file_in, most_bytes}
use Rattle.lua_modules.specs.Finding.{most_modules, with_name, with_names, found_in}
use Rattle.lua_modules.specs.Reading.{Progress, progress, start, ReadsModule, IsNext, ReadsNext, Reads, none, more, ReadsModules, HasNoModule, IsStuck, Stops}
use Rattle.lua_modules.specs.declared.file_faults.ModuleFileFault.{ModuleFileFault}
use Rattle.lua_modules.specs.declared.file_faults.ModuleFileFault.TheVariants.{Missing, TooLong, Unreadable, Refused, TooMany, Memory}
use Rattle.site_same_laws.specs.Programs.{SameProgramsHaveSameNames}
use Rattle.site_same_laws.specs.Sets.{ModulesKeepSetsSame}
use Rattle.site_same_laws.specs.SameSet.{SameSet}
use Rattle.site_same_laws.specs.Readings.{IsOfFiles, lacks_text, ReadingsAgree, NoReadingIsRefused, RefusalsAreAlike}

-- ---- lists

some_same : {A : Type 0} (x y : A) → ◌≡◌ {A = Option A} (Some x) (Some y) → x ≡ y
some_same {A} x y e = let both : ◌≡◌ {A = Option A} (Some x) (Some y) = e in cc

zip_length : {A B : Type 0} (R : A → B → Type 0) (xs : List A) (ys : List B) → AllZip R xs ys → length xs ≡ length ys
zip_length R [] [] z = refl
zip_length R (x ∷ xs) [] z = absurd z
zip_length R [] (y ∷ ys) z = absurd z
zip_length R (x ∷ xs) (y ∷ ys) z = let rest = zip_length R xs ys z.1 in omega (arith, rest)

-- the item at the length of a list isn't there
no_item : {A : Type 0} (xs : List A) (x : A) → slice_get xs (length xs) ≡ Some x → ⊥
no_item {A} [] x e = let no : ◌≡◌ {A = Option A} None (Some x) = e in cc
no_item (y ∷ ys) x e = no_item ys x e

flat_same : {A B : Type 0} (f g : A → List B) (xs : List A) → ((x : A) → f x ≡ g x) → flat_map f xs ≡ flat_map g xs
flat_same f g [] same = refl
flat_same f g (x ∷ xs) same = ap (λ ys. ys ++ flat_map f xs) (same x) ∙ ap (λ ys. g x ++ ys) (flat_same f g xs same)

less : (m n : ℕ) → m ≤ n → m ≢ n → m < n
less zero zero le differ = absurd (differ refl)
less zero (suc n) le differ = omega arith
less (suc m) zero le differ = absurd (omega (arith, le))
less (suc m) (suc n) le differ = let rest = less m n (omega (arith, le)) (λ e. differ (ap suc e)) in omega (arith, rest)

-- ---- names

modules_same : (a b : ModuleSet) → SameSet a b → a.modules.items ≡ b.modules.items
modules_same a b same = ap (λ l. l.modules) same.lists

name_same : (a b : ModuleSet) → SameSet a b → (names : Names) (name : List ℕ) → with_name a names name ≡ with_name b names name
name_same a b same names name =
    ap (λ (ms : List Module). if has_module ms name || list_any (bytes_eq name) names then names else names ++ name ∷ []) (modules_same a b same)

names_same : (a b : ModuleSet) → SameSet a b → (names more : Names) → with_names a names more ≡ with_names b names more
names_same a b same names [] = refl
names_same a b same names (name ∷ after) =
    ap (λ ns. with_names a ns after) (name_same a b same names name) ∙ names_same a b same (with_name b names name) after

next_same : (a b : ModuleSet) → SameSet a b → next_function a ≡ next_function b
next_same a b same = zip_length SameFunction a.program.functions.items b.program.functions.items same.program.functions

-- how far two readings are
pub record SameProgress (p q : Progress) : Type 0 where
  pub set : SameSet p.set q.set
  pub names : p.names ≡ q.names
  pub read : p.read ≡ q.read

module _ (same_names : SameProgramsHaveSameNames) (modules_keep : ModulesKeepSetsSame)
    (apart : (text : List ℕ) (program : Program) (fault : ModuleFault) → HasProgram 1 text program → IsTextFault 1 text fault → fault ≢ chunk.Memory → ⊥) where
  found_same : (a b : ModuleSet) → SameSet a b → (names : Names) (f : ℕ) → found_in a names f ≡ found_in b names f
  found_same a b same names f =
      ap (λ ns. with_names a names ns) (same_names a.program b.program same.program f) ∙ names_same a b same names (names_of b.program.functions.items f)

  pub start_same : (a b : ModuleSet) → SameSet a b → SameProgress (start a) (start b)
  start_same a b same = record {
    set = same;
    names =
        ap (λ fs. with_names a [] (flat_map (names_of a.program.functions.items) fs)) (ap (λ l. l.blocks) same.lists)
        ∙ ap (λ ns. with_names a [] ns) (flat_same (names_of a.program.functions.items) (names_of b.program.functions.items) b.blocks.items (same_names a.program b.program same.program))
        ∙ names_same a b same [] (flat_map (names_of b.program.functions.items) b.blocks.items);
    read = refl;
  }

  module _ (files : FileMap) (pattern : List ℕ) where
    -- the same module leaves the same sets
    module_same : (name other : List ℕ) → name ≡ other → (a b a' b' : ModuleSet) → SameSet a b → ReadsModule files pattern name a a' → ReadsModule files pattern other b b' → SameSet a' b'
    module_same name other e a b a' b' same r s =
        let s' : ReadsModule files pattern name b b' = subst (λ n. ReadsModule files pattern n b b') (sym e) s in
        let text : s'.text ≡ r.text = some_same s'.text r.text (sym s'.holds.here ∙ r.holds.here) in
        modules_keep name (file_of pattern name) r.text a a' b b' same r.adds (subst (λ t. Adds name (file_of pattern name) t b b') text s'.adds)

    -- the next name is the same
    name_next : (p q : Progress) → SameProgress p q → (name other : List ℕ) → IsNext p name → IsNext q other → name ≡ other
    name_next p q same name other is next =
        some_same name other (sym is.next ∙ ap (λ (ns : Names). slice_get ns p.read) same.names ∙ ap (slice_get q.names) same.read ∙ next.next)

    step_same : (p q p' q' : Progress) → SameProgress p q → ReadsNext files pattern p p' → ReadsNext files pattern q q' → SameProgress p' q'
    step_same p q p' q' same r s =
        let name = name_next p q same r.name s.name r.next s.next in
        let set : SameSet p'.set q'.set = module_same r.name s.name name p.set q.set p'.set q'.set same.set r.reads s.reads in
        record {
          set = set;
          names =
              r.names
              ∙ ap (λ (ns : Names). found_in p'.set ns (next_function p.set)) same.names
              ∙ ap (λ f. found_in p'.set q.names f) (next_same p.set q.set same.set)
              ∙ found_same p'.set q'.set set q.names (next_function q.set)
              ∙ sym s.names;
          read = r.count ∙ ap (λ n. n + 1) same.read ∙ sym s.count;
        }

    forward : (a p : Progress) → Reads files pattern a p → a.read ≤ p.read
    forward a p none = omega arith
    forward a p (more {mid} rs next) = let before = forward a mid rs in let count = next.count in omega (arith, before, count)

    pub agree : (a b p q : Progress) → SameProgress a b → Reads files pattern a p → Reads files pattern b q → p.read ≡ q.read → SameProgress p q
    agree a b p q same none none e = same
    agree a b p q same none (more {mid} rs next) e =
        let before = forward b mid rs in
        let count = next.count in
        let first = same.read in
        absurd (omega (arith, before, count, first, e))
    agree a b p q same (more {mid} rs next) none e =
        let before = forward a mid rs in
        let count = next.count in
        let first = same.read in
        absurd (omega (arith, before, count, first, e))
    agree a b p q same (more {mid} rs next) (more {mid = other} rs' next') e =
        let count = next.count in
        let count' = next'.count in
        step_same mid other p q (agree a b mid other same rs rs' (omega (arith, count, count', e))) next next'

    -- a reading that goes further went on from there
    record WentOn (a : Progress) (n : ℕ) : Type 0 where
      at : Progress
      then_ : Progress
      reads : Reads files pattern a at
      here : at.read ≡ n
      step : ReadsNext files pattern at then_

    went_on : (a p : Progress) → Reads files pattern a p → (n : ℕ) → a.read ≤ n → n < p.read → WentOn a n
    went_on a p none n low high = absurd (omega (arith, low, high))
    went_on a p (more {mid} rs next) n low high = elim (leb_tells mid.read n) [
      | inl above ↦
          let count = next.count in
          let le = above.1 in
          record { at = mid; then_ = p; reads = rs; here = omega (arith, le, high, count); step = next }
      | inr below ↦ went_on a mid rs n low below.1
    ]

    -- how one that is complete ends, and one that stops
    abbrev complete : ModuleSet → Names → Progress
    complete set names = progress set names (length names)

    -- nothing is read after it
    no_next : (p q : Progress) → SameProgress p q → p.read ≡ length p.names → (name : List ℕ) → IsNext q name → ⊥
    no_next p q same whole name next =
        no_item p.names name (ap (slice_get p.names) (sym whole) ∙ ap (λ (ns : Names). slice_get ns p.read) same.names ∙ ap (slice_get q.names) same.read ∙ next.next)

    -- where a module is there, its file says no fault
    fault_apart : (name : List ℕ) (a b : ModuleSet) (fault : ModuleFileFault) → IsOfFiles fault → ReadsModule files pattern name a b → HasNoModule files (file_of pattern name) fault → ⊥
    fault_apart name a b (Missing f) known r lack =
        let e : ◌≡◌ {A = Option (List ℕ)} None (Some r.text) = sym lack.1 ∙ r.holds.here in
        cc
    fault_apart name a b (TooLong f) known r lack =
        let long = lack.1.long in
        let short = r.holds.short in
        let same = ap length (some_same lack.1.text r.text (sym lack.1.here ∙ r.holds.here)) in
        omega (arith, long, short, same)
    fault_apart name a b (Refused f wrong) known r lack =
        let same : lack.1.text ≡ r.text = some_same lack.1.text r.text (sym lack.1.holds.here ∙ r.holds.here) in
        apart r.text r.adds.program.chunk wrong r.adds.program.read (subst (λ t. IsTextFault 1 t wrong) same lack.1.refused) lack.1.known
    fault_apart name a b (Unreadable f) known r lack = absurd known
    fault_apart name a b TooMany known r lack = absurd lack
    fault_apart name a b Memory known r lack = absurd known

    -- one that goes on isn't stuck
    goes_on : (p q p' : Progress) → SameProgress p q → ReadsNext files pattern p p' → (fault : ModuleFileFault) → IsOfFiles fault → IsStuck files pattern q fault → ⊥
    goes_on p q p' same r TooMany known stuck =
        let few = r.next.few in
        let same_length = ap length same.names in
        omega (arith, few, same_length, stuck)
    goes_on p q p' same r (Missing f) known stuck =
        let name = name_next p q same r.name stuck.0 r.next stuck.1 in
        fault_apart stuck.0 p.set p'.set (Missing f) tt (subst (λ n. ReadsModule files pattern n p.set p'.set) name r.reads) stuck.2
    goes_on p q p' same r (TooLong f) known stuck =
        let name = name_next p q same r.name stuck.0 r.next stuck.1 in
        fault_apart stuck.0 p.set p'.set (TooLong f) tt (subst (λ n. ReadsModule files pattern n p.set p'.set) name r.reads) stuck.2
    goes_on p q p' same r (Refused f wrong) known stuck =
        let name = name_next p q same r.name stuck.0 r.next stuck.1 in
        fault_apart stuck.0 p.set p'.set (Refused f wrong) tt (subst (λ n. ReadsModule files pattern n p.set p'.set) name r.reads) stuck.2
    goes_on p q p' same r (Unreadable f) known stuck = absurd known
    goes_on p q p' same r Memory known stuck = absurd known

    -- nor is one that is complete
    is_complete : (p q : Progress) → SameProgress p q → p.read ≡ length p.names → length p.names ≤ most_modules → (fault : ModuleFileFault) → IsOfFiles fault
        → IsStuck files pattern q fault → ⊥
    is_complete p q same whole few TooMany known stuck = let same_length = ap length same.names in omega (arith, few, same_length, stuck)
    is_complete p q same whole few (Missing f) known stuck = no_next p q same whole stuck.0 stuck.1
    is_complete p q same whole few (TooLong f) known stuck = no_next p q same whole stuck.0 stuck.1
    is_complete p q same whole few (Refused f wrong) known stuck = no_next p q same whole stuck.0 stuck.1
    is_complete p q same whole few (Unreadable f) known stuck = absurd known
    is_complete p q same whole few Memory known stuck = absurd known

    -- the same, where the second goes on, or is complete
    also_goes_on : (p q q' : Progress) → SameProgress p q → ReadsNext files pattern q q' → (fault : ModuleFileFault) → IsOfFiles fault → IsStuck files pattern p fault → ⊥
    also_goes_on p q q' same r TooMany known stuck =
        let few = r.next.few in
        let same_length = ap length same.names in
        omega (arith, few, same_length, stuck)
    also_goes_on p q q' same r (Missing f) known stuck =
        let name = name_next p q same stuck.0 r.name stuck.1 r.next in
        fault_apart stuck.0 q.set q'.set (Missing f) tt (subst (λ n. ReadsModule files pattern n q.set q'.set) (sym name) r.reads) stuck.2
    also_goes_on p q q' same r (TooLong f) known stuck =
        let name = name_next p q same stuck.0 r.name stuck.1 r.next in
        fault_apart stuck.0 q.set q'.set (TooLong f) tt (subst (λ n. ReadsModule files pattern n q.set q'.set) (sym name) r.reads) stuck.2
    also_goes_on p q q' same r (Refused f wrong) known stuck =
        let name = name_next p q same stuck.0 r.name stuck.1 r.next in
        fault_apart stuck.0 q.set q'.set (Refused f wrong) tt (subst (λ n. ReadsModule files pattern n q.set q'.set) (sym name) r.reads) stuck.2
    also_goes_on p q q' same r (Unreadable f) known stuck = absurd known
    also_goes_on p q q' same r Memory known stuck = absurd known

    none_next : (p q : Progress) → SameProgress p q → q.read ≡ length q.names → (name : List ℕ) → IsNext p name → ⊥
    none_next p q same whole name next =
        no_item q.names name (ap (slice_get q.names) (sym whole) ∙ ap (slice_get q.names) (sym same.read) ∙ ap (λ (ns : Names). slice_get ns p.read) (sym same.names) ∙ next.next)

    -- two complete readings read the same
    read_same : (a b a' b' : ModuleSet) → SameSet a b → ReadsModules files pattern a a' → ReadsModules files pattern b b' → SameSet a' b'
    read_same a b a' b' same r s = elim (leb_tells (length r.names) (length s.names)) [
      | inl above ↦ elim (eqb_tells (length r.names) (length s.names)) [
        | inl equal ↦ (agree (start a) (start b) (complete a' r.names) (complete b' s.names) (start_same a b same) r.reads s.reads equal.1).set
        | inr other ↦
            let le = above.1 in
            let differ = other.1 in
            let w = went_on (start b) (complete b' s.names) s.reads (length r.names) (omega arith) (less (length r.names) (length s.names) le differ) in
            let alike = agree (start a) (start b) (complete a' r.names) w.at (start_same a b same) r.reads w.reads (sym w.here) in
            absurd (no_next (complete a' r.names) w.at alike refl w.step.name w.step.next)
      ]
      | inr below ↦
          let w = went_on (start a) (complete a' r.names) r.reads (length s.names) (omega arith) below.1 in
          let alike = agree (start a) (start b) w.at (complete b' s.names) (start_same a b same) w.reads s.reads w.here in
          absurd (none_next w.at (complete b' s.names) alike refl w.step.name w.step.next)
    ]

    -- a complete reading isn't refused
    none_refused : (a b a' left : ModuleSet) (fault : ModuleFileFault) → SameSet a b → ReadsModules files pattern a a' → Stops files pattern (start b) left fault → IsOfFiles fault → ⊥
    none_refused a b a' left fault same r s known = elim (leb_tells s.at.read (length r.names)) [
      | inl above ↦ elim (eqb_tells s.at.read (length r.names)) [
        | inl equal ↦
            let alike = agree (start a) (start b) (complete a' r.names) s.at (start_same a b same) r.reads s.reads (sym equal.1) in
            is_complete (complete a' r.names) s.at alike refl r.few fault known s.stuck
        | inr other ↦
            let w = went_on (start a) (complete a' r.names) r.reads s.at.read (omega arith) (less s.at.read (length r.names) above.1 other.1) in
            let alike = agree (start a) (start b) w.at s.at (start_same a b same) w.reads s.reads w.here in
            goes_on w.at s.at w.then_ alike w.step fault known s.stuck
      ]
      | inr below ↦
          let w = went_on (start b) s.at s.reads (length r.names) (omega arith) below.1 in
          let alike = agree (start a) (start b) (complete a' r.names) w.at (start_same a b same) r.reads w.reads (sym w.here) in
          no_next (complete a' r.names) w.at alike refl w.step.name w.step.next
    ]

    -- at one progress there is one kind of reason
    text_there : (name other : List ℕ) → name ≡ other → (fault : ModuleFileFault) → lacks_text fault ≡ true → HasNoModule files (file_of pattern name) fault
        → (text : List ℕ) → file_in files (file_of pattern other) ≡ Some text → length text ≤ most_bytes → ⊥
    text_there name other e (Missing f) lacks lack text here short =
        let there : file_in files (file_of pattern name) ≡ Some text = ap (λ n. file_in files (file_of pattern n)) e ∙ here in
        let clash : ◌≡◌ {A = Option (List ℕ)} None (Some text) = sym lack.1 ∙ there in
        cc
    text_there name other e (TooLong f) lacks lack text here short =
        let there : file_in files (file_of pattern name) ≡ Some text = ap (λ n. file_in files (file_of pattern n)) e ∙ here in
        let long = lack.1.long in
        let same = ap length (some_same lack.1.text text (sym lack.1.here ∙ there)) in
        omega (arith, long, short, same)
    text_there name other e (Unreadable f) lacks lack text here short = absurd (let clash : false ≡ true = lacks in cc)
    text_there name other e (Refused f wrong) lacks lack text here short = absurd (let clash : false ≡ true = lacks in cc)
    text_there name other e TooMany lacks lack text here short = absurd (let clash : false ≡ true = lacks in cc)
    text_there name other e Memory lacks lack text here short = absurd (let clash : false ≡ true = lacks in cc)

    -- too many names, and a next one
    too_many : (p q : Progress) → SameProgress p q → most_modules < length p.names → (name : List ℕ) → IsNext q name → ⊥
    too_many p q same many name next = let few = next.few in let same_length = ap length same.names in omega (arith, many, few, same_length)

    many_too : (p q : Progress) → SameProgress p q → most_modules < length q.names → (name : List ℕ) → IsNext p name → ⊥
    many_too p q same many name next = let few = next.few in let same_length = ap length same.names in omega (arith, many, few, same_length)

    one_reason : (p q : Progress) → SameProgress p q → (f g : ModuleFileFault) → IsOfFiles f → IsOfFiles g → IsStuck files pattern p f → IsStuck files pattern q g → lacks_text f ≡ lacks_text g
    one_reason p q same (Unreadable f) g known of s t = absurd known
    one_reason p q same Memory g known of s t = absurd known
    one_reason p q same f (Unreadable g) known of s t = absurd of
    one_reason p q same f Memory known of s t = absurd of
    one_reason p q same TooMany TooMany known of s t = refl
    one_reason p q same TooMany (Missing g) known of s t = absurd (too_many p q same s t.0 t.1)
    one_reason p q same TooMany (TooLong g) known of s t = absurd (too_many p q same s t.0 t.1)
    one_reason p q same TooMany (Refused g wrong) known of s t = refl
    one_reason p q same (Missing f) TooMany known of s t = absurd (many_too p q same t s.0 s.1)
    one_reason p q same (TooLong f) TooMany known of s t = absurd (many_too p q same t s.0 s.1)
    one_reason p q same (Refused f wrong) TooMany known of s t = refl
    one_reason p q same (Missing f) (Missing g) known of s t = refl
    one_reason p q same (Missing f) (TooLong g) known of s t = refl
    one_reason p q same (TooLong f) (Missing g) known of s t = refl
    one_reason p q same (TooLong f) (TooLong g) known of s t = refl
    one_reason p q same (Refused f wrong) (Refused g other) known of s t = refl
    one_reason p q same (Missing f) (Refused g wrong) known of s t =
        absurd (text_there s.0 t.0 (name_next p q same s.0 t.0 s.1 t.1) (Missing f) refl s.2 t.2.1.text t.2.1.holds.here t.2.1.holds.short)
    one_reason p q same (TooLong f) (Refused g wrong) known of s t =
        absurd (text_there s.0 t.0 (name_next p q same s.0 t.0 s.1 t.1) (TooLong f) refl s.2 t.2.1.text t.2.1.holds.here t.2.1.holds.short)
    one_reason p q same (Refused f wrong) (Missing g) known of s t =
        absurd (text_there t.0 s.0 (sym (name_next p q same s.0 t.0 s.1 t.1)) (Missing g) refl t.2 s.2.1.text s.2.1.holds.here s.2.1.holds.short)
    one_reason p q same (Refused f wrong) (TooLong g) known of s t =
        absurd (text_there t.0 s.0 (sym (name_next p q same s.0 t.0 s.1 t.1)) (TooLong g) refl t.2 s.2.1.text s.2.1.holds.here s.2.1.holds.short)

    alike_refused : (a b left left' : ModuleSet) (f g : ModuleFileFault) → SameSet a b → Stops files pattern (start a) left f → Stops files pattern (start b) left' g → IsOfFiles f → IsOfFiles g
        → lacks_text f ≡ lacks_text g
    alike_refused a b left left' f g same s t known of = elim (leb_tells s.at.read t.at.read) [
      | inl above ↦ elim (eqb_tells s.at.read t.at.read) [
        | inl equal ↦ one_reason s.at t.at (agree (start a) (start b) s.at t.at (start_same a b same) s.reads t.reads equal.1) f g known of s.stuck t.stuck
        | inr other ↦
            let w = went_on (start b) t.at t.reads s.at.read (omega arith) (less s.at.read t.at.read above.1 other.1) in
            let alike = agree (start a) (start b) s.at w.at (start_same a b same) s.reads w.reads (sym w.here) in
            absurd (also_goes_on s.at w.at w.then_ alike w.step f known s.stuck)
      ]
      | inr below ↦
          let w = went_on (start a) s.at s.reads t.at.read (omega arith) below.1 in
          let alike = agree (start a) (start b) w.at t.at (start_same a b same) w.reads t.reads w.here in
          absurd (goes_on w.at t.at w.then_ alike w.step g of t.stuck)
    ]

  pub readings_agree : ReadingsAgree
  readings_agree files pattern a b a' b' same r s = read_same files pattern a b a' b' same r s

  pub no_reading_is_refused : NoReadingIsRefused
  no_reading_is_refused files pattern a b a' left fault same r s known = none_refused files pattern a b a' left fault same r s known

  pub refusals_are_alike : RefusalsAreAlike
  refusals_are_alike files pattern a b left left' f g same s t known of = alike_refused files pattern a b left left' f g same s t known of
