-- Words are at most one command.
use Rattle.std.proofs.Common.{◌≡◌, ◌<◌, ◌^◌, ℕ, Bool, true, false, List, ◌∷◌, [], Option, Some, None, IfNone, MatchOption, codes, refl, sym, ap, subst, ◌∙◌, arith}
use Rattle.std.proofs.lemmas.Fmt.{decimal_injective}
use Rattle.commands.specs.declared.command_line.Mode.{Mode}
use Rattle.commands.specs.declared.command_line.Mode.TheVariants as mode
use Rattle.commands.specs.Words.{Command, HasSchedule, IsCount, AsksEvents, Says, IsForm, mode_name, row_of}

-- what follows where there is nothing
pub wider_none : {A : Type 0} (o : Option A) (P Q : Type 0) → (P → Q) → IfNone o P → IfNone o Q
wider_none None P Q wider p = wider p
wider_none (Some x) P Q wider p = tt

-- the first byte of a text
abbrev first_byte : List ℕ → ℕ
first_byte [] = 0
first_byte (x ∷ xs) = x

-- modes have different names
pub same_mode : (m n : Mode) → mode_name m ≡ mode_name n → m ≡ n
same_mode mode.Check mode.Check e = refl
same_mode mode.Replay mode.Replay e = refl
same_mode mode.Serve mode.Serve e = refl
same_mode mode.Check mode.Replay e = absurd (let no : codes "check" ≡ codes "replay" = e in cc)
same_mode mode.Check mode.Serve e = absurd (let no : 99 ≡ 115 = ap first_byte e in omega (arith, no))
same_mode mode.Replay mode.Check e = absurd (let no : codes "replay" ≡ codes "check" = e in cc)
same_mode mode.Serve mode.Check e = absurd (let no : 115 ≡ 99 = ap first_byte e in omega (arith, no))
same_mode mode.Replay mode.Serve e = absurd (let no : codes "replay" ≡ codes "serve" = e in cc)
same_mode mode.Serve mode.Replay e = absurd (let no : codes "serve" ≡ codes "replay" = e in cc)

-- the same words are of one schedule
pub same_schedule : (b : Bool) (x y : List ℕ) (r s : List (List ℕ)) (words : List (List ℕ)) → HasSchedule b x r words → HasSchedule b y s words → (x ≡ y) × (r ≡ s)
same_schedule true x y r s words p q = let both = sym p.0 ∙ q.0 in (cc, cc)
same_schedule false x y r s words p q = (p.1 ∙ sym q.1, sym p.0 ∙ q.0)

-- the same words ask for one number of events
same_count : (word : List ℕ) (m n : ℕ) → IsCount word m → IsCount word n → m ≡ n
same_count word m n p q =
    let short : m < 10 ^ 18 = p.short in
    let other : n < 10 ^ 18 = q.short in
    decimal_injective m n (omega arith) (omega arith) (sym p.digits ∙ q.digits)

same_events : (takes : Bool) (m n : ℕ) (words : List (List ℕ)) → AsksEvents takes m words → AsksEvents takes n words → m ≡ n
same_events takes m n [] p q = p ∙ sym q
same_events true m n (o ∷ w ∷ []) p q = same_count w m n p.1 q.1
same_events true m n (o ∷ []) p q = absurd p
same_events true m n (o ∷ w ∷ x ∷ xs) p q = absurd p
same_events false m n (o ∷ ws) p q = absurd p

same_fields : (c d : Command) → c.mode ≡ d.mode → c.conf ≡ d.conf → c.schedule ≡ d.schedule → c.events ≡ d.events → c ≡ d
same_fields c d m f s e =
    subst (λ (x : Mode). c ≡ record { mode = x; conf = d.conf; schedule = d.schedule; events = d.events }) m
    (subst (λ (x : List ℕ). c ≡ record { mode = c.mode; conf = x; schedule = d.schedule; events = d.events }) f
    (subst (λ (x : List ℕ). c ≡ record { mode = c.mode; conf = c.conf; schedule = x; events = d.events }) s
    (subst (λ (x : ℕ). c ≡ record { mode = c.mode; conf = c.conf; schedule = c.schedule; events = x }) e refl)))

-- the same words say one command
pub same_command : (words : List (List ℕ)) (c d : Command) → Says words c → Says words d → c ≡ d
same_command words c d p q =
    let both = sym p.form ∙ q.form in
    let modes : mode_name c.mode ≡ mode_name d.mode = cc in
    let mode = same_mode c.mode d.mode modes in
    let options : p.options ≡ q.options = cc in
    let one = p.schedule in
    let other : HasSchedule (row_of c.mode).has_schedule d.schedule q.last p.options =
    subst (λ (m : Mode). HasSchedule (row_of m).has_schedule d.schedule q.last p.options) (sym mode)
    (subst (λ (o : List (List ℕ)). HasSchedule (row_of d.mode).has_schedule d.schedule q.last o) (sym options) q.schedule) in
    let schedules = same_schedule (row_of c.mode).has_schedule c.schedule d.schedule p.last q.last p.options one other in
    let events : AsksEvents (row_of c.mode).counts_events d.events p.last =
    subst (λ (m : Mode). AsksEvents (row_of m).counts_events d.events p.last) (sym mode)
    (subst (λ (o : List (List ℕ)). AsksEvents (row_of d.mode).counts_events d.events o) (sym schedules.1) q.events) in
    same_fields c d mode (cc) schedules.0 (same_events (row_of c.mode).counts_events c.events d.events p.last p.events events)

-- words that begin as a command of this mode, after which no number of events can stand, are no form
pub no_form : (words options rest : List (List ℕ)) (m : Mode) (conf schedule : List ℕ) → words ≡ mode_name m ∷ codes "--conf" ∷ conf ∷ options
    → HasSchedule (row_of m).has_schedule schedule rest options → ((count : ℕ) → AsksEvents (row_of m).counts_events count rest → ⊥) → IsForm words → ⊥
no_form words options rest m conf schedule form has none is =
    let says = is.1 in
    let both = sym form ∙ says.form in
    let modes : mode_name m ≡ mode_name is.0.mode = cc in
    let mode = same_mode m is.0.mode modes in
    let same : options ≡ says.options = cc in
    let other : HasSchedule (row_of m).has_schedule is.0.schedule says.last options =
    subst (λ (n : Mode). HasSchedule (row_of n).has_schedule is.0.schedule says.last options) (sym mode)
    (subst (λ (o : List (List ℕ)). HasSchedule (row_of is.0.mode).has_schedule is.0.schedule says.last o) (sym same) says.schedule) in
    let last = (same_schedule (row_of m).has_schedule schedule is.0.schedule rest says.last options has other).1 in
    none is.0.events (subst (λ (n : Mode). AsksEvents (row_of n).counts_events is.0.events rest) (sym mode)
    (subst (λ (o : List (List ℕ)). AsksEvents (row_of is.0.mode).counts_events is.0.events o) (sym last) says.events))

-- two words ask for events where the first is the option, and the second a number of events
pub counted : (r : Option ℕ) (takes : Bool) (words : List (List ℕ)) (option word : List ℕ) → takes ≡ true → option ≡ codes "--events" → words ≡ option ∷ word ∷ []
    → MatchOption r ((n : ℕ) → ¬ (IsCount word n)) (λ n. IsCount word n) → MatchOption r ((n : ℕ) → ¬ (AsksEvents takes n words)) (λ n. AsksEvents takes n words)
counted None takes words option word on name is none = rw (is, on) (λ n asks. none n asks.1)
counted (Some n) takes words option word on name is count = rw (is, on) (name, count)
