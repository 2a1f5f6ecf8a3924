-- The calls by parts are those of the plain dictionary.
use Rattle.std.proofs.Common.{◌≡◌, ℕ, ℤ, ◌+ℤ◌, Bool, true, false, List, [], ◌∷◌, find, Option, Some, None, is_some, Result, Ok, Err, OnOk, OnErr, All, cond, refl, sym, ap, ◌∙◌, arith, subst, if◌then◌else◌}
use Rattle.std.specs.List.{IsDistinct}
use Rattle.std.proofs.lemmas.List.Elements.{All-head, All-tail, All-cons}
use Rattle.resty_base.specs.declared.dictionary.DictValue.{DictValue}
use Rattle.resty_base.specs.declared.dictionary.DictValue.TheVariants as value
use Rattle.resty_base.specs.declared.dictionary.DictAnswer.{DictAnswer}
use Rattle.resty_base.specs.declared.dictionary.DictAnswer.TheVariants as answer
use Rattle.resty_base.specs.declared.dictionary.How.{How}
use Rattle.resty_base.specs.declared.dictionary.How.TheVariants as how
use Rattle.shared_rules.specs.declared.items.Item.{Item}
use Rattle.shared_rules.specs.Items.{value_size, is_there, has_key, if_there, found, first}
use Rattle.shared_rules.specs.Dictionary.{Outcome, get, store, stored, expiry_at, is_whole, increased, as_number, incr}
use Rattle.shared_rules.specs.Ranges.{IsNumbered, IsKept, IsWithin}
use Rattle.shared_dict.specs.declared.kept.Kept.{Kept}
use Rattle.shared_dict.specs.declared.calls.Increment.TheVariants as step
use Rattle.shared_dict.specs.Zones.{brought, promoted}
use Rattle.shared_dict.specs.Kept.{content_of}
use Rattle.shared_dict.specs.Calls as calls
use Rattle.shared_dict.specs.Calls.{refused, HasWholeNumbers}

-- gets
pub get-some : (o : Option Item) (items : List Item) (k : Kept) → Some (k.value, k.flags) ≡ content_of o → answer.Found k.value k.flags ≡ (get o items).0
get-some None items k h = absurd (let f : Some (k.value, k.flags) ≡ None = h in cc)
get-some (Some i) items k h = let f : (k.value, k.flags) ≡ (i.value, i.flags) = cc in ap (λ (p : DictValue × ℕ). answer.Found p.0 p.1) f

pub get-none : (o : Option Item) (items : List Item) → None ≡ content_of o → answer.Nothing ≡ (get o items).0
get-none None items h = refl
get-none (Some i) items h = absurd (let f : None ≡ Some (i.value, i.flags) = h in cc)

there-found : (now : ℕ) (o : Option Item) (item : Item) → if_there now o ≡ Some item → o ≡ Some item
there-found now None item h = h
there-found now (Some x) item h = put (is_there now x) h
  where
    put : (b : Bool) → (if b then Some x else None) ≡ Some item → Some x ≡ Some item
    put true h = h
    put false h = absurd (let f : None ≡ Some item = h in cc)

pub get-first : (now : ℕ) (key : List ℕ) (items : List Item) (o : Option Item) → found now key items ≡ o → calls.is_found (get o items).0 ≡ true → promoted key items ≡ (get o items).1
get-first now key items None e h = absurd (let f : false ≡ true = h in cc)
get-first now key items (Some i) e h = ap (λ o. brought o items) (there-found now (find (has_key key) items) i e)

pub get-stays : (items : List Item) (o : Option Item) → calls.is_found (get o items).0 ≡ false → items ≡ (get o items).1
get-stays items None h = refl
get-stays items (Some i) h = absurd (let f : true ≡ false = h in cc)

-- whether an item is there
pub is-there : (o : Option Item) (k : Option Kept) → content_of o ≡ None → is_some o ≡ false
is-there None k h = refl
is-there (Some i) k h = absurd (let f : Some (i.value, i.flags) ≡ None = h in cc)

-- stores
pub set-refused : (size : ℕ) (h : How) (o : Option Item) (item : Item) (items : List Item) (a : DictAnswer) → refused h (is_some o) ≡ Some a → stored size h o item items ≡ (a, items)
set-refused size how.Set None item items a e = absurd (let f : None ≡ Some a = e in cc)
set-refused size how.Set (Some old) item items a e = absurd (let f : None ≡ Some a = e in cc)
set-refused size how.Add None item items a e = absurd (let f : None ≡ Some a = e in cc)
set-refused size how.Add (Some old) item items a e = let f : answer.Exists ≡ a = cc in ap (λ a. (a, items)) f
set-refused size how.Replace None item items a e = let f : answer.Missing ≡ a = cc in ap (λ a. (a, items)) f
set-refused size how.Replace (Some old) item items a e = absurd (let f : None ≡ Some a = e in cc)

pub set-stored : (size : ℕ) (h : How) (o : Option Item) (item : Item) (items : List Item) → refused h (is_some o) ≡ None → stored size h o item items ≡ store size item items
set-stored size how.Set None item items e = refl
set-stored size how.Set (Some old) item items e = refl
set-stored size how.Add None item items e = refl
set-stored size how.Add (Some old) item items e = absurd (let f : Some answer.Exists ≡ None = e in cc)
set-stored size how.Replace None item items e = absurd (let f : Some answer.Missing ≡ None = e in cc)
set-stored size how.Replace (Some old) item items e = refl

-- increments
pub increment-some : (by : ℤ) (init : Option ℤ) (o : Option Item) (k : Kept) → Some (k.value, k.flags) ≡ content_of o → calls.increment_of by k.value ≡ calls.increment by init o
increment-some by init None k h = absurd (let f : Some (k.value, k.flags) ≡ None = h in cc)
increment-some by init (Some i) k h = let f : (k.value, k.flags) ≡ (i.value, i.flags) = cc in ap (λ (p : DictValue × ℕ). calls.increment_of by p.0) f

pub increment-none : (by : ℤ) (init : Option ℤ) (o : Option Item) → None ≡ content_of o → calls.begin_with by init ≡ calls.increment by init o
increment-none by init None h = refl
increment-none by init (Some i) h = absurd (let f : None ≡ Some (i.value, i.flags) = h in cc)

found-holds : (P : Item → Type 0) (test : Item → Bool) (items : List Item) (i : Item) → All P items → find test items ≡ Some i → P i
found-holds P test [] i a h = absurd (let f : None ≡ Some i = h in cc)
found-holds P test (x ∷ items) i a h = put (test x) (found-holds P test items i (All-tail P x items a)) h
  where
    put : (b : Bool) → (find test items ≡ Some i → P i) → cond b (Some x) (find test items) ≡ Some i → P i
    put true ih h = let f : x ≡ i = cc in subst P f (All-head P x items a)
    put false ih h = ih h

pub numbered-there : (now : ℕ) (key : List ℕ) (items : List Item) (k : Kept) → HasWholeNumbers items → Some (k.value, k.flags) ≡ content_of (found now key items) → IsNumbered k.value
numbered-there now key items k a h = put (found now key items) refl h
  where
    put : (o : Option Item) → found now key items ≡ o → Some (k.value, k.flags) ≡ content_of o → IsNumbered k.value
    put None e h = absurd (let f : Some (k.value, k.flags) ≡ None = h in cc)
    put (Some i) e h =
        let f : (i.value, i.flags) ≡ (k.value, k.flags) = cc in
        subst (λ (p : DictValue × ℕ). IsNumbered p.0) f (found-holds (λ item. IsNumbered item.value) (has_key key) items i a (there-found now (find (has_key key) items) i e))

pub whole-numbers : (items : List Item) → All IsKept items → HasWholeNumbers items
whole-numbers [] a = λ k d h. absurd (omega arith)
whole-numbers (i ∷ items) a = All-cons (λ item. IsNumbered item.value) i items (All-head IsKept i items a).number (whole-numbers items (All-tail IsKept i items a))

-- what an increment is that is refused, raised or begun
pub record IsRaised (size now : ℕ) (key : List ℕ) (by : ℤ) (init : Option ℤ) (ttl : ℕ) (n : ℤ) (items : List Item) : Type 0 where
  pub item : Item
  pub there : find (has_key key) items ≡ Some item
  pub bytes : 8 ≡ value_size item.value
  pub outcome : incr size now key by init ttl (found now key items) items ≡ (answer.Number n false, first (record item { value = value.Number n }) items)

refused-whole : (size now : ℕ) (m n : ℤ) (i : Item) (items : List Item) (a : DictAnswer) (b : Bool) → calls.raised_to (if b then Some m else None) ≡ step.Refused a
    → (let o : Outcome = if b then (answer.Number m false, first (record i { value = value.Number m }) items) else (answer.OutOfRange, items) in o) ≡ (a, items)
refused-whole size now m n i items a true h = absurd (let f : step.Raised m ≡ step.Refused a = h in cc)
refused-whole size now m n i items a false h = let f : answer.OutOfRange ≡ a = cc in ap (λ a. (a, items)) f

refused-value : (by : ℤ) (v : DictValue) (i : Item) (items : List Item) (a : DictAnswer) → calls.increment_of by v ≡ step.Refused a → increased by v i items ≡ (a, items)
refused-value by (value.Number m) i items a h = refused-whole 0 0 (m +ℤ by) by i items a (is_whole (m +ℤ by)) h
refused-value by (value.Text t) i items a h = let f : answer.NotNumber ≡ a = cc in ap (λ a. (a, items)) f
refused-value by (value.Truth t) i items a h = let f : answer.NotNumber ≡ a = cc in ap (λ a. (a, items)) f

refused-begin : (size now : ℕ) (key : List ℕ) (m : ℤ) (ttl : ℕ) (items : List Item) (a : DictAnswer) (b : Bool) → calls.begun_with (if b then Some m else None) ≡ step.Refused a
    → (let o : Outcome = if b then as_number m (store size (record { key = key; value = value.Number m; flags = 0; expiry = expiry_at now ttl }) items) else (answer.OutOfRange, items) in o) ≡ (a, items)
refused-begin size now key m ttl items a true h = absurd (let f : step.Begun m ≡ step.Refused a = h in cc)
refused-begin size now key m ttl items a false h = let f : answer.OutOfRange ≡ a = cc in ap (λ a. (a, items)) f

pub incr-refused : (size now : ℕ) (key : List ℕ) (by : ℤ) (init : Option ℤ) (ttl : ℕ) (o : Option Item) (items : List Item) (a : DictAnswer) → calls.increment by init o ≡ step.Refused a
    → incr size now key by init ttl o items ≡ (a, items)
incr-refused size now key by init ttl (Some i) items a h = refused-value by i.value i items a h
incr-refused size now key by None ttl None items a h = let f : answer.Missing ≡ a = cc in ap (λ a. (a, items)) f
incr-refused size now key by (Some m) ttl None items a h = refused-begin size now key (m +ℤ by) ttl items a (is_whole (m +ℤ by)) h

raised-whole : (m n : ℤ) (i : Item) (items : List Item) (b : Bool) → calls.raised_to (if b then Some m else None) ≡ step.Raised n
    → (let o : Outcome = if b then (answer.Number m false, first (record i { value = value.Number m }) items) else (answer.OutOfRange, items) in o) ≡ (answer.Number n false, first (record i { value = value.Number n }) items)
raised-whole m n i items true h = let f : m ≡ n = cc in ap (λ m. (answer.Number m false, first (record i { value = value.Number m }) items)) f
raised-whole m n i items false h = absurd (let f : step.Refused answer.OutOfRange ≡ step.Raised n = h in cc)

raised-value : (by n : ℤ) (v : DictValue) (i : Item) (items : List Item) → calls.increment_of by v ≡ step.Raised n
    → (8 ≡ value_size v) × (increased by v i items ≡ (answer.Number n false, first (record i { value = value.Number n }) items))
raised-value by n (value.Number m) i items h = (refl, raised-whole (m +ℤ by) n i items (is_whole (m +ℤ by)) h)
raised-value by n (value.Text t) i items h = absurd (let f : step.Refused answer.NotNumber ≡ step.Raised n = h in cc)
raised-value by n (value.Truth t) i items h = absurd (let f : step.Refused answer.NotNumber ≡ step.Raised n = h in cc)

not-raised : (m n : ℤ) (b : Bool) → calls.begun_with (if b then Some m else None) ≡ step.Raised n → ⊥
not-raised m n true h = let f : step.Begun m ≡ step.Raised n = h in cc
not-raised m n false h = let f : step.Refused answer.OutOfRange ≡ step.Raised n = h in cc

pub incr-raised : (size now : ℕ) (key : List ℕ) (by : ℤ) (init : Option ℤ) (ttl : ℕ) (n : ℤ) (items : List Item) → calls.increment by init (found now key items) ≡ step.Raised n
    → IsRaised size now key by init ttl n items
incr-raised size now key by init ttl n items h = put init (found now key items) refl h
  where
    put : (init : Option ℤ) (o : Option Item) → found now key items ≡ o → calls.increment by init o ≡ step.Raised n → IsRaised size now key by init ttl n items
    put init (Some i) e h =
        let v = raised-value by n i.value i items h in
        record { item = i; there = there-found now (find (has_key key) items) i e; bytes = v.0; outcome = ap (λ o. incr size now key by init ttl o items) e ∙ v.1 }
    put None None e h = absurd (let f : step.Refused answer.Missing ≡ step.Raised n = h in cc)
    put (Some m) None e h = absurd (not-raised (m +ℤ by) n (is_whole (m +ℤ by)) h)

not-begun : (m n : ℤ) (b : Bool) → calls.raised_to (if b then Some m else None) ≡ step.Begun n → ⊥
not-begun m n true h = let f : step.Raised m ≡ step.Begun n = h in cc
not-begun m n false h = let f : step.Refused answer.OutOfRange ≡ step.Begun n = h in cc

value-not-begun : (by n : ℤ) (v : DictValue) → calls.increment_of by v ≡ step.Begun n → ⊥
value-not-begun by n (value.Number m) h = not-begun (m +ℤ by) n (is_whole (m +ℤ by)) h
value-not-begun by n (value.Text t) h = let f : step.Refused answer.NotNumber ≡ step.Begun n = h in cc
value-not-begun by n (value.Truth t) h = let f : step.Refused answer.NotNumber ≡ step.Begun n = h in cc

begun-whole : (size now : ℕ) (key : List ℕ) (m n : ℤ) (ttl : ℕ) (items : List Item) (b : Bool) → calls.begun_with (if b then Some m else None) ≡ step.Begun n
    → (let o : Outcome = if b then as_number m (store size (record { key = key; value = value.Number m; flags = 0; expiry = expiry_at now ttl }) items) else (answer.OutOfRange, items) in o)
    ≡ as_number n (store size (record { key = key; value = value.Number n; flags = 0; expiry = expiry_at now ttl }) items)
begun-whole size now key m n ttl items true h = let f : m ≡ n = cc in ap (λ m. as_number m (store size (record { key = key; value = value.Number m; flags = 0; expiry = expiry_at now ttl }) items)) f
begun-whole size now key m n ttl items false h = absurd (let f : step.Refused answer.OutOfRange ≡ step.Begun n = h in cc)

pub incr-begun : (size now : ℕ) (key : List ℕ) (by : ℤ) (init : Option ℤ) (ttl : ℕ) (n : ℤ) (o : Option Item) (items : List Item) → calls.increment by init o ≡ step.Begun n
    → incr size now key by init ttl o items ≡ as_number n (store size (record { key = key; value = value.Number n; flags = 0; expiry = expiry_at now ttl }) items)
incr-begun size now key by init ttl n (Some i) items h = absurd (value-not-begun by n i.value h)
incr-begun size now key by None ttl n None items h = absurd (let f : step.Refused answer.Missing ≡ step.Begun n = h in cc)
incr-begun size now key by (Some m) ttl n None items h = begun-whole size now key (m +ℤ by) n ttl items (is_whole (m +ℤ by)) h

-- what an answer is called changes no items
pub numbered-items : (n : ℤ) (out : Outcome) → (as_number n out).1 ≡ out.1
numbered-items n (answer.Done any, items) = refl
numbered-items n (answer.Found v f, items) = refl
numbered-items n (answer.Nothing, items) = refl
numbered-items n (answer.Exists, items) = refl
numbered-items n (answer.Missing, items) = refl
numbered-items n (answer.NoMemory any, items) = refl
numbered-items n (answer.NotNumber, items) = refl
numbered-items n (answer.OutOfRange, items) = refl
numbered-items n (answer.Number m any, items) = refl
numbered-items n (answer.Count c, items) = refl
numbered-items n (answer.Names l, items) = refl

-- a zone without items
pub empty-within : (size : ℕ) → IsWithin size []
unfolding IsDistinct
empty-within size = record { distinct = tt; bytes = omega arith; kept = λ k d h. absurd (omega arith) }

-- what a change leaves is within the size, whether it was made or refused
pub within-after : {E : Type 0} (size : ℕ) (old new next : List Item) (r : Result DictAnswer E) → OnOk r (new ≡ next) → OnErr r (new ≡ old) → IsWithin size next → IsWithin size old → IsWithin size new
within-after size old new next (Ok a) o e n w = subst (IsWithin size) (sym o) n
within-after size old new next (Err x) o e n w = subst (IsWithin size) (sym e) w
