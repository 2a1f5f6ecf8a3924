-- The log's handler comes once, at the end.
use Rattle.std.proofs.Common.{◌≡◌, ℕ, ◌+◌, Bool, true, false, ◌||◌, List, [], ◌∷◌, ◌++◌, if◌then◌else◌, All, refl, sym, ap, ◌∙◌}
use Rattle.std.proofs.lemmas.List.Elements.{All-head, All-tail}
use Rattle.resty_base.specs.BoolLaws.{clash}
use Rattle.phases.specs.declared.outcomes.Phase.{Phase}
use Rattle.phases.specs.declared.outcomes.Phase.TheVariants.{Rewrite, Log}
use Rattle.phases.specs.declared.outcomes.Outcome.{Outcome}
use Rattle.phases.specs.declared.outcomes.Next.{Next}
use Rattle.phases.specs.declared.outcomes.Next.TheVariants.{Run, Reply, Again, Finish, HangUp}
use Rattle.phases.specs.After.{after}
use Rattle.phases.specs.Lists.{Deed, Handles, Replies, End, is_spent, logging, deeds_after, deeds_from, phase_list, is_over, is_over_after, is_over_from}
use Rattle.phases.specs.Laws.{IsUnspent}
use Rattle.phases.proofs.Follows.{is_log, Follows, follows}

-- a deed is the log's handler
abbrev logs_of : Deed → Bool
logs_of (Handles p) = is_log p
logs_of (Replies status) = false

-- the log's handler stands nowhere but at the end, or nowhere at all
abbrev AtEnd : List Deed → Type 0
AtEnd ds = (before later : List Deed) → ds ≡ before ++ Handles Log ∷ later → later ≡ []

abbrev Nowhere : List Deed → Type 0
Nowhere ds = (before later : List Deed) → ds ≡ before ++ Handles Log ∷ later → ⊥

none-empty : Nowhere []
none-empty [] later e = absurd cc
none-empty (d ∷ ds) later e = absurd cc

end-one : (d : Deed) → AtEnd (d ∷ [])
end-one d [] later e = let t : [] ≡ later = cc in sym t
end-one d (b ∷ bs) later e = let t : [] ≡ bs ++ Handles Log ∷ later = cc in absurd (none-empty bs later t)

-- in front of a list stands another deed
end-more : (d : Deed) (ds : List Deed) → logs_of d ≡ false → AtEnd ds → AtEnd (d ∷ ds)
end-more d ds other rest [] later e = let h : d ≡ Handles Log = cc in clash (ap logs_of h) other
end-more d ds other rest (b ∷ bs) later e = let t : ds ≡ bs ++ Handles Log ∷ later = cc in rest bs later t

none-more : (d : Deed) (ds : List Deed) → logs_of d ≡ false → Nowhere ds → Nowhere (d ∷ ds)
none-more d ds other rest [] later e = let h : d ≡ Handles Log = cc in clash (ap logs_of h) other
none-more d ds other rest (b ∷ bs) later e = let t : ds ≡ bs ++ Handles Log ∷ later = cc in rest bs later t

end-if : (b : Bool) → AtEnd (if b then [] else Handles Log ∷ [])
end-if true before later e = absurd (none-empty before later e)
end-if false before later e = end-one (Handles Log) before later e

end-logging : (sub : Bool) (o : Outcome) → AtEnd (logging sub o)
end-logging sub o = end-if (sub || is_spent o)

end-after : (sub : Bool) (o : Outcome) (go : ℕ → Phase → List Deed) (n : ℕ) (p : Phase) (x : Next) → Follows n p x
    → ((m : ℕ) (q : Phase) → is_log q ≡ false → AtEnd (go m q)) → AtEnd (deeds_after sub o go n x)
end-after sub o go n p (Run q) f rest = rest n q f.2
end-after sub o go n p Again f rest = rest (n + 1) Rewrite refl
end-after sub o go n p (Reply status) f rest = end-more (Replies status) (logging sub o) refl (end-logging sub o)
end-after sub o go n p Finish f rest = end-logging sub o
end-after sub o go n p HangUp f rest = end-logging sub o

end-from : (sub : Bool) (n : ℕ) (p : Phase) (es : List End) → is_log p ≡ false → AtEnd (deeds_from sub n p es)
end-from sub n p [] other = end-one (Handles p)
end-from sub n p (e ∷ es) other = end-more (Handles p) _ other
    (end-after sub e.1 (λ m q. deeds_from sub m q es) n p (after p sub e.0 n e.1) (follows n p sub e.0 e.1) (λ m q. end-from sub m q es))

pub last : (sub : Bool) (es : List End) → AtEnd (phase_list sub es)
last sub es = end-from sub 0 Rewrite es refl

none-after : (o : Outcome) (go : ℕ → Phase → List Deed) (n : ℕ) (p : Phase) (x : Next) → Follows n p x
    → ((m : ℕ) (q : Phase) → is_log q ≡ false → Nowhere (go m q)) → Nowhere (deeds_after true o go n x)
none-after o go n p (Run q) f rest = rest n q f.2
none-after o go n p Again f rest = rest (n + 1) Rewrite refl
none-after o go n p (Reply status) f rest = none-more (Replies status) [] refl none-empty
none-after o go n p Finish f rest = none-empty
none-after o go n p HangUp f rest = none-empty

none-from : (n : ℕ) (p : Phase) (es : List End) → is_log p ≡ false → Nowhere (deeds_from true n p es)
none-from n p [] other = none-more (Handles p) [] other none-empty
none-from n p (e ∷ es) other = none-more (Handles p) _ other
    (none-after e.1 (λ m q. deeds_from true m q es) n p (after p true e.0 n e.1) (follows n p true e.0 e.1) (λ m q. none-from m q es))

pub none : (es : List End) → Nowhere (phase_list true es)
none es = none-from 0 Rewrite es refl

-- the list ends with the log's handler
abbrev Logged : List Deed → Type 0
Logged ds = (before : List Deed) × (ds ≡ before ++ Handles Log ∷ [])

logged-more : (d : Deed) (ds : List Deed) → Logged ds → Logged (d ∷ ds)
logged-more d ds l = (d ∷ l.0, ap (λ es. d ∷ es) l.1)

logged-if : (b : Bool) → b ≡ false → Logged (if b then [] else Handles Log ∷ [])
logged-if true off = clash refl off
logged-if false off = ([], refl)

logged-after : (o : Outcome) (go : ℕ → Phase → List Deed) (over : ℕ → Phase → Bool) (n : ℕ) (x : Next) → is_spent o ≡ false
    → ((m : ℕ) (q : Phase) → over m q ≡ true → Logged (go m q)) → is_over_after over n x ≡ true → Logged (deeds_after false o go n x)
logged-after o go over n (Run q) unspent rest h = rest n q h
logged-after o go over n Again unspent rest h = rest (n + 1) Rewrite h
logged-after o go over n (Reply status) unspent rest h = logged-more (Replies status) (logging false o) (logged-if (is_spent o) unspent)
logged-after o go over n Finish unspent rest h = logged-if (is_spent o) unspent
logged-after o go over n HangUp unspent rest h = logged-if (is_spent o) unspent

-- the steps weren't used up
abbrev Unspent : End → Type 0
Unspent e = is_spent e.1 ≡ false

logged-from : (n : ℕ) (p : Phase) (es : List End) → IsUnspent es → is_over_from false n p es ≡ true → Logged (deeds_from false n p es)
logged-from n p [] unspent h = clash h refl
logged-from n p (e ∷ es) unspent h = logged-more (Handles p) _ (logged-after e.1 (λ m q. deeds_from false m q es) (λ m q. is_over_from false m q es) n
    (after p false e.0 n e.1) (All-head Unspent e es unspent) (λ m q. logged-from m q es (All-tail Unspent e es unspent)) h)

pub logs : (es : List End) → IsUnspent es → is_over false es ≡ true → Logged (phase_list false es)
logs es unspent h = logged-from 0 Rewrite es unspent h
