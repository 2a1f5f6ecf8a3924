-- Where a table constructor is refused.
use Rattle.std.proofs.Common.{◌≡◌, ◌≤◌, ◌⊎◌, ℕ, List, [], ◌∷◌, inl, inr, refl, sym, subst, arith, ◌∙◌}
use Rattle.lua_ast.specs.declared.expressions.TableItem.{TableItem}
use Rattle.lua_lexer.specs.declared.tokens.TokenKind.{TokenKind}
use Rattle.lua_lexer.specs.declared.tokens.TokenKind.TheVariants.{Word, Sign}
use Rattle.lua_lexer.specs.declared.signs.Sign.TheVariants as sign
use Rattle.lua_lexer.specs.declared.words.Word.TheVariants as word
use Rattle.lua_grammar.specs.Tree.{Line, Table, Fields, Field, Separator}
use Rattle.lua_grammar.specs.Tree as tree
use Rattle.lua_grammar.specs.Printing.{Lexeme, a_kind, print_field}
use Rattle.lua_grammar.specs.Levels.{levels, height, field_levels, field_height}
use Rattle.lua_grammar.specs.Validity.{IsValid, IsValidField}
use Rattle.lua_grammar.specs.Scopes.{Frame, Scope}
use Rattle.lua_grammar.specs.Resolution.{Resolves, ResolvesFields}
use Rattle.lua_grammar.specs.Dead.{FieldsFrom, IsDead}
use Rattle.lua_grammar.specs.Stopping.{FieldStops}
use Rattle.lua_grammar.specs.Waiting.{Reader, failed, token, more_fields}
use Rattle.lua_grammar.specs.Reading.{after_field, feed, field}
use Rattle.lua_grammar.proofs.Before.{field_before}
use Rattle.lua_grammar.proofs.DeadParts.{dead_field}
use Rattle.lua_grammar.proofs.Few.{few_before_it}
use Rattle.lua_grammar.proofs.Growing.{field_keeps}
use Rattle.lua_grammar.proofs.ReadingTrees.{field_read}
use Rattle.lua_grammar.proofs.SameFrames.{fields_alike}
use Rattle.lua_grammar.proofs.StillWaiting.{field_waits}
use Rattle.lua_parser_base.specs.declared.faults.ParseFault.{ParseFault}
use Rattle.lua_parser_base.specs.declared.faults.ParseFault.TheVariants.{At, Memory}
use Rattle.lua_parser_base.specs.declared.nesting.Nesting.{Nesting}
use Rattle.lua_parser_base.specs.declared.nodes.Item.{Item}
use Rattle.lua_parser_base.specs.declared.nodes.Items.{Items}
use Rattle.lua_parser_base.specs.States.{State, Takes}
use Rattle.lua_parser_base.specs.Fits.{FitsField, FitsFields, FitsTable}
use Rattle.lua_parser_base.specs.Kinds.{IsSeparator}
use Rattle.lua_parser_base.specs.Next.{Begin, HasNoPart, IsKind, IsNext, Misses, OnAt, ahead, first_kind}
use Rattle.lua_parser_base.specs.Nesting.{IsPart}
use Rattle.lua_parser_base.specs.Reads.{ReadsField, ReadsFields}
use Rattle.lua_parser_base.specs.Readers.{GoOn, Moves}
use Rattle.lua_parser_base.specs.Refusals.{RefusesField, RefusesTable, Unless}
use Rattle.lua_parser_base.proofs.Heights.{exp_deep, exp_tall}
use Rattle.lua_parser_base.proofs.Moving.{by_token, not_first, on, refused_on, stays, supposes_on}
use Rattle.lua_parser_base.proofs.Printed.{after_on, fields_moves, over, stops_on}
use Rattle.lua_parser_base.proofs.Refusing.{ends_failed, missed, no_part}

-- ---- what fits

fields_before_fit : (at : Nesting) (enclosing : List Frame) (fs : Fields) (f : Field) (x : Separator) → FitsFields at enclosing (tree.more_fields fs f x) → FitsFields at enclosing fs
unfolding levels height IsValid Resolves
fields_before_fit at enclosing fs f x all =
    let (before, i, m, p, q, is) = all.resolvable.resolved in
    record {
      valid = all.valid.0;
      deep = let d = all.deep in omega (arith, d);
      low = let h = all.low in omega (arith, h);
      resolvable = record { before = all.resolvable.before; out = before; after = m; same = all.resolvable.same; resolved = p; few = few_before_it (field_keeps f m i all.resolvable.after q) all.resolvable.few };
    }

first_fields_fit : (at : Nesting) (enclosing : List Frame) (first whole : Fields) → FieldsFrom first whole → FitsFields at enclosing whole → FitsFields at enclosing first
first_fields_fit at enclosing first whole FieldsFrom.alone all = all
first_fields_fit at enclosing first whole (FieldsFrom.more fs f x from) all = first_fields_fit at enclosing first fs from (fields_before_fit at enclosing fs f x all)

separated_fits : (at : Nesting) (enclosing : List Frame) (o : Line) (fs : Fields) (c : Line) → FitsTable at enclosing (tree.separated o fs c) → FitsFields at enclosing fs
unfolding levels height IsValid Resolves
separated_fits at enclosing o fs c t =
    let (items, p, is) = t.resolvable.resolved in
    record {
      valid = t.valid.0;
      deep = t.deep;
      low = t.low;
      resolvable = record { before = t.resolvable.before; out = items.value.items; after = t.resolvable.after; same = t.resolvable.same; resolved = p; few = t.resolvable.few };
    }

-- as if a separator stood after the last field
ending_fits : (at : Nesting) (enclosing : List Frame) (o : Line) (fs : Fields) (f : Field) (c : Line) (x : Separator) → FitsTable at enclosing (tree.ending o fs f c) →
    FitsFields at enclosing (tree.more_fields fs f x)
unfolding levels height IsValid Resolves
ending_fits at enclosing o fs f c x t =
    let (items, before, i, m, p, q, listed, is) = t.resolvable.resolved in
    record {
      valid = (t.valid.0, t.valid.1);
      deep = t.deep;
      low = t.low;
      resolvable = record {
        before = t.resolvable.before;
        out = items.value.items;
        after = t.resolvable.after;
        same = t.resolvable.same;
        resolved = (before, i, m, p, q, listed);
        few = t.resolvable.few;
      };
    }

-- in the functions as they are after the fields before it
last_field_fits : (at inner : Nesting) (enclosing : List Frame) (fs : Fields) (f : Field) (x : Separator) (s m : Scope) (out : List TableItem) →
    FitsFields at enclosing (tree.more_fields fs f x) → s.enclosing ≡ enclosing → ResolvesFields fs s out m → IsPart at inner → FitsField inner m.enclosing f
unfolding levels height IsValid Resolves
last_field_fits at inner enclosing fs f x s m out all here r part =
    let (before, i, k, p, q, is) = all.resolvable.resolved in
    let same : k.enclosing ≡ m.enclosing = (fields_alike fs all.resolvable.before s before out k m p r (record { enclosing = all.resolvable.same ∙ sym here })).enclosing in
    record {
      valid = subst (λ vararg. IsValidField vararg f) (sym part.vararg) all.valid.1;
      deep = let d = all.deep in let n = part.depth in omega (arith, d, n);
      low = let h = all.low in let n = part.room in omega (arith, h, n);
      resolvable = record { before = k; out = i; after = all.resolvable.after; same = same; resolved = q; few = all.resolvable.few };
    }

field_deep : (f : Field) → 1 ≤ field_levels f
unfolding levels
field_deep (tree.keyed o k c q e) = let n = exp_deep e in omega (arith, n)
field_deep (tree.named l n q e) = exp_deep e
field_deep (tree.plain e) = exp_deep e

field_tall : (f : Field) → 1 ≤ field_height f
unfolding height
field_tall (tree.keyed o k c q e) = let n = exp_tall e in omega (arith, n)
field_tall (tree.named l n q e) = exp_tall e
field_tall (tree.plain e) = exp_tall e

-- where there is no room for a part there is none for a field
no_room : (at : Nesting) (enclosing : List Frame) (fs : Fields) (f : Field) (x : Separator) → (200 ≤ at.depth) ⊎ (at.room ≤ 1) → FitsFields at enclosing (tree.more_fields fs f x) → ⊥
unfolding levels height
no_room at enclosing fs f x (inl full) all = let d = all.deep in let n = field_deep f in omega (arith, d, n, full)
no_room at enclosing fs f x (inr full) all = let h = all.low in let n = field_tall f in omega (arith, h, n, full)

-- ---- after a field that doesn't fit

continued_dead : (at : Nesting) (enclosing : List Frame) (o : Line) (fs : Fields) (f : Field) (x : Separator) (k : Table → Reader) → Unless (FitsTable at enclosing) k →
    (FitsFields at enclosing (tree.more_fields fs f x) → ⊥) → IsDead (more_fields o (tree.more_fields fs f x) k)
continued_dead at enclosing o fs f x k suppose not = λ those from. (
  λ c. suppose (tree.separated o those c) (λ t. not (first_fields_fit at enclosing (tree.more_fields fs f x) those from (separated_fits at enclosing o those c t))),
  λ g c. suppose (tree.ending o those g c) (λ t.
      not (first_fields_fit at enclosing (tree.more_fields fs f x) those from (fields_before_fit at enclosing those g x (ending_fits at enclosing o those g c x t)))),
)

after_dead : (at : Nesting) (enclosing : List Frame) (o : Line) (fs : Fields) (f : Field) (k : Table → Reader) → Unless (FitsTable at enclosing) k →
    ((x : Separator) → FitsFields at enclosing (tree.more_fields fs f x) → ⊥) → (kind : TokenKind) (l : Line) → IsDead (after_field o fs k f kind l)
after_dead at enclosing o fs f k suppose not (Sign sign.Comma) l = continued_dead at enclosing o fs f (tree.comma l) k suppose (not (tree.comma l))
after_dead at enclosing o fs f k suppose not (Sign sign.Semicolon) l = continued_dead at enclosing o fs f (tree.semicolon l) k suppose (not (tree.semicolon l))
after_dead at enclosing o fs f k suppose not (Sign sign.CloseBrace) l =
    suppose (tree.ending o fs f l) (λ t. not (tree.comma l) (ending_fits at enclosing o fs f l (tree.comma l) t))
after_dead at enclosing o fs f k suppose not kind l = tt

-- ---- over the fields that were read

fields_on : (f : Field) (left xs : List Lexeme) → GoOn left xs → FieldStops f (a_kind (first_kind left) 1 []) → FieldStops f xs
fields_on (tree.keyed o key c q e) left xs h x = (stops_on e left xs h x.0, after_on _ left xs h x.1)
fields_on (tree.named l n q e) left xs h x = (stops_on e left xs h x.0, after_on _ left xs h x.1)
fields_on (tree.plain e) left xs h x = (stops_on e left xs h x.0, after_on _ left xs h x.1, λ lone. after_on _ left xs h (x.2 lone))

abbrev Begins : Reader → (Table → Reader) → Type 0
Begins r k = (o : Line) → feed r (Sign sign.OpenBrace) o ≡ more_fields o tree.no_fields k

over_fields : (at : Nesting) (r : Reader) (k : Table → Reader) (o : ℕ) (s a b : State) (v : Items) (read : ReadsFields at a v b) → Begins r k → Takes (Sign sign.OpenBrace) o s a →
    Moves r s (more_fields o read.tree k) b
over_fields at r k o s a b v read begins taken =
    on (subst (λ q. Moves r s q a) (begins o) (by_token r (Sign sign.OpenBrace) o s a taken)) (fields_moves read.tree at.vararg o k a b read.printed read.valid)

begins_field : (o : Line) (fs : Fields) (k : Table → Reader) (kind : TokenKind) (l : Line) → (kind ≡ Sign sign.CloseBrace → ⊥) →
    feed (more_fields o fs k) kind l ≡ field (after_field o fs k) kind l
begins_field o fs k (Sign sign.CloseBrace) l not = absurd (not refl)
begins_field o fs k kind l not = refl

to_field : (o : Line) (fs : Fields) (k : Table → Reader) (b : State) → (IsNext (Sign sign.CloseBrace) b → ⊥) → Moves (more_fields o fs k) b (token (field (after_field o fs k))) b
to_field o fs k b missing =
    stays (more_fields o fs k) (token (field (after_field o fs k))) b (λ l. begins_field o fs k (ahead b) l (not_first (Sign sign.CloseBrace) b.left (λ is. cc) missing)) tt

over_field : (inner : Nesting) (o : Line) (fs : Fields) (k : Table → Reader) (b d : State) (i : Item) (read : ReadsField inner b i d) →
    Moves (more_fields o fs k) b (token (after_field o fs k read.tree)) d
over_field inner o fs k b d i read =
    over (print_field read.tree) (more_fields o fs k) (token (after_field o fs k read.tree)) b d (field_before read.tree) read.printed (λ xs h.
    field_read read.tree inner.vararg o fs k xs (fields_on read.tree d.left xs h read.ends) read.valid)
    (λ w. field_waits read.tree inner.vararg o fs k read.valid)

-- ---- where it is refused

pub part_refused : (at : Nesting) (o : ℕ) (fault : ParseFault) (s a b : State) (v : Items) → ReadsFields at a v b → Takes (Sign sign.OpenBrace) o s a →
    (IsNext (Sign sign.CloseBrace) b → ⊥) → HasNoPart at b fault → RefusesTable at s b fault
part_refused at o fault s a b v read taken unclosed none = λ r k begins h.
    let next = after_field o read.tree k in
    refused_on (on (over_fields at r k o s a b v read begins taken) (to_field o read.tree k b unclosed))
    (no_part fault _ at (token (field next)) b none h (ends_failed (token (field next)) (λ l. refl)) (λ full suppose.
    dead_field next (λ f. after_dead at s.scope.enclosing o read.tree f k suppose (λ x. no_room at s.scope.enclosing read.tree f x full))) tt)

field_supposes : (at inner : Nesting) (o : ℕ) (k : Table → Reader) (s a b : State) (v : Items) (read : ReadsFields at a v b) → a.scope ≡ s.scope → IsPart at inner →
    Unless (FitsTable at s.scope.enclosing) k → Unless (FitsField inner b.scope.enclosing) (λ f. token (after_field o read.tree k f))
field_supposes at inner o k s a b v read same part suppose = λ f not.
    after_dead at s.scope.enclosing o read.tree f k suppose (λ x all.
    not (last_field_fits at inner s.scope.enclosing read.tree f x s.scope b.scope v.items.items all refl
    (subst (λ z. ResolvesFields read.tree z v.items.items b.scope) same read.resolved) part))

pub field_refused : (at inner : Nesting) (o : ℕ) (fault : ParseFault) (s a b t : State) (v : Items) → ReadsFields at a v b → Takes (Sign sign.OpenBrace) o s a → IsPart at inner →
    (IsNext (Sign sign.CloseBrace) b → ⊥) → RefusesField inner b t fault → RefusesTable at s t fault
field_refused at inner o fault s a b t v read taken part unclosed refuses = λ r k begins h.
    refused_on (on (over_fields at r k o s a b v read begins taken) (to_field o read.tree k b unclosed))
    (refuses o read.tree k (supposes_on fault (field_supposes at inner o k s a b v read taken.scope part) h))

-- what may stand after a field
abbrev IsBehind : TokenKind → Type 0
IsBehind kind = IsSeparator kind ⊎ (kind ≡ Sign sign.CloseBrace)

after_fails : (o : Line) (fs : Fields) (k : Table → Reader) (f : Field) (kind : TokenKind) (l : Line) → (IsBehind kind → ⊥) → after_field o fs k f kind l ≡ failed
after_fails o fs k f (Sign sign.Comma) l not = absurd (not (inl tt))
after_fails o fs k f (Sign sign.Semicolon) l not = absurd (not (inl tt))
after_fails o fs k f (Sign sign.CloseBrace) l not = absurd (not (inr refl))
after_fails o fs k f kind l not = refl

none_begins : (left : List Lexeme) → (Begin IsSeparator left → ⊥) → (Begin (IsKind (Sign sign.CloseBrace)) left → ⊥) → Begin IsBehind left → ⊥
none_begins [] separator brace h = h
none_begins (first ∷ left) separator brace (inl h) = separator h
none_begins (first ∷ left) separator brace (inr h) = brace h

none_after : (fault : ParseFault) (s t : State) → (IsNext (Sign sign.CloseBrace) s → ⊥) → OnAt (Misses IsSeparator s t) fault → OnAt (Misses IsBehind s t) fault
none_after (At line) s t unclosed m = record { same = m.same; missing = none_begins s.left m.missing unclosed; reported = m.reported }
none_after Memory s t unclosed m = tt
none_after other s t unclosed m = absurd m

end_is_none : IsBehind (Word word.End) → ⊥
end_is_none (inl h) = h
end_is_none (inr h) = cc

pub separator_refused : (at inner : Nesting) (o : ℕ) (fault : ParseFault) (s a b d t : State) (v : Items) (i : Item) → ReadsFields at a v b → Takes (Sign sign.OpenBrace) o s a →
    ReadsField inner b i d → (IsNext (Sign sign.CloseBrace) d → ⊥) → OnAt (Misses IsSeparator d t) fault → RefusesTable at s t fault
separator_refused at inner o fault s a b d t v i read taken one unclosed misses = λ r k begins h.
    refused_on (on (over_fields at r k o s a b v read begins taken) (over_field inner o read.tree k b d i one))
    (missed fault _ (token (after_field o read.tree k one.tree)) IsBehind d t (none_after fault d t unclosed misses) h end_is_none (after_fails o read.tree k one.tree) tt)
