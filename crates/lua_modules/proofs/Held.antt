-- What a fetch says of the file of its name.
use Rattle.std.proofs.Common.{◌≡◌, ℕ, Bool, true, false, List, Option, Some, None, IfSome, refl, sym, ap, subst, ◌∙◌}
use Rattle.std.proofs.lemmas.Str.{IsUtf8-from_is_utf8, is_utf8-from_IsUtf8}
use Rattle.std.specs.Prelude.{if◌then◌else◌}
use Rattle.std.specs.Str.{IsUtf8, is_utf8}
use Rattle.resty_base.specs.FileMap.{FileMap, IsAnswer}
use Rattle.resty_base.specs.declared.files.Fetched.{Fetched}
use Rattle.resty_base.specs.declared.files.Fetched.TheVariants as fetched
use Rattle.lua_modules.specs.TextsOfFiles.{HoldsModule, IsTooLong, IsUnread, file_in, most_bytes}
use Rattle.lua_modules.specs.declared.file_faults.ModuleFileFault.TheVariants.{Missing, TooLong, Unreadable, Memory}

pub named : (held : FileMap) (file : List ℕ) → IsUtf8 file → file_in held file ≡ held file
named held file is = rw (is_utf8-from_IsUtf8 file is) refl

pub not_named : (held : FileMap) (file : List ℕ) → ¬ (IsUtf8 file) → file_in held file ≡ None
not_named held file bad = by (is_utf8 file) refl
  where
    by : (b : Bool) → is_utf8 file ≡ b → (if b then held file else None) ≡ None
    by true e = absurd (bad (IsUtf8-from_is_utf8 file e))
    by false e = refl

-- what an answer says
pub text_held : (held : FileMap) (file text : List ℕ) → IsAnswer (file_in held file) most_bytes (fetched.Text text) → HoldsModule held file text
text_held held file text is = by (file_in held file) refl is
  where
    by : (o : Option (List ℕ)) → file_in held file ≡ o → IsAnswer o most_bytes (fetched.Text text) → HoldsModule held file text
    by (Some bytes) e a = record { here = e ∙ ap Some (sym a.0); short = rw a.0 a.1 }
    by None e a = absurd a

pub long_held : (held : FileMap) (file : List ℕ) → IsAnswer (file_in held file) most_bytes fetched.TooLong → IsTooLong (file_in held) file most_bytes
long_held held file is = by (file_in held file) refl is
  where
    by : (o : Option (List ℕ)) → file_in held file ≡ o → IsAnswer o most_bytes fetched.TooLong → IsTooLong (file_in held) file most_bytes
    by (Some bytes) e a = record { text = bytes; here = e; long = a }
    by None e a = absurd a

pub none_held : (held : FileMap) (file : List ℕ) → IsAnswer (file_in held file) most_bytes fetched.Missing → file_in held file ≡ None
none_held held file is = by (file_in held file) refl is
  where
    by : (o : Option (List ℕ)) → file_in held file ≡ o → IsAnswer o most_bytes fetched.Missing → file_in held file ≡ None
    by (Some bytes) e a = absurd a
    by None e a = e

-- where they report what they hold
pub fetched_named : (told : Option FileMap) (name file : List ℕ) (answer : Fetched) → name ≡ file → IsUtf8 file
    → IfSome told (λ held. IsAnswer (held name) most_bytes answer) → IfSome told (λ held. IsAnswer (file_in held file) most_bytes answer)
fetched_named None name file answer same is a = tt
fetched_named (Some held) name file answer same is a = rw (named held file is) (subst (λ n. IsAnswer (held n) most_bytes answer) same a)

pub fetched_unnamed : (told : Option FileMap) (file : List ℕ) → ¬ (IsUtf8 file)
    → IfSome told (λ held. IsAnswer (file_in held file) most_bytes fetched.Missing)
fetched_unnamed None file bad = tt
fetched_unnamed (Some held) file bad = rw (not_named held file bad) tt

pub told_text : (told : Option FileMap) (file text : List ℕ) → IfSome told (λ held. IsAnswer (file_in held file) most_bytes (fetched.Text text))
    → IfSome told (λ held. HoldsModule held file text)
told_text None file text a = tt
told_text (Some held) file text a = text_held held file text a

pub told_long : (told : Option FileMap) (file : List ℕ) → IfSome told (λ held. IsAnswer (file_in held file) most_bytes fetched.TooLong)
    → IfSome told (λ held. IsUnread held file (TooLong file))
told_long None file a = tt
told_long (Some held) file a = (refl, long_held held file a)

pub told_none : (told : Option FileMap) (file : List ℕ) → IfSome told (λ held. IsAnswer (file_in held file) most_bytes fetched.Missing)
    → IfSome told (λ held. IsUnread held file (Missing file))
told_none None file a = tt
told_none (Some held) file a = (refl, none_held held file a)

pub told_failed : (told : Option FileMap) (file : List ℕ) → IfSome told (λ held. IsUnread held file (Unreadable file))
told_failed None file = tt
told_failed (Some held) file = refl

pub told_memory : (told : Option FileMap) (file : List ℕ) → IfSome told (λ held. IsUnread held file Memory)
told_memory None file = tt
told_memory (Some held) file = tt
