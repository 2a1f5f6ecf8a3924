-- Where a field of a table constructor is refused.
use Rattle.std.proofs.Common.{◌≡◌, ℕ, List, [], ◌∷◌, ◌++◌, length, refl, sym, ap, subst, arith, ◌∙◌, append_assoc}
use Rattle.std.proofs.lemmas.List.{length-append}
use Rattle.lua_ast.specs.declared.expressions.Expr.{Expr}
use Rattle.lua_lexer.specs.declared.tokens.TokenKind.{TokenKind}
use Rattle.lua_lexer.specs.declared.tokens.TokenKind.TheVariants.{Name, Sign}
use Rattle.lua_lexer.specs.declared.signs.Sign.TheVariants as sign
use Rattle.lua_lexer.specs.declared.words.Word.TheVariants as word
use Rattle.lua_grammar.specs.Tree.{Line, Bytes, Exp, Field, Block}
use Rattle.lua_grammar.specs.Tree as tree
use Rattle.lua_grammar.specs.Printing.{Lexeme, a_word}
use Rattle.lua_grammar.specs.Levels.{levels, height}
use Rattle.lua_grammar.specs.Validity.{IsValid}
use Rattle.lua_grammar.specs.Scopes.{Frame, Scope}
use Rattle.lua_grammar.specs.Resolution.{Resolves}
use Rattle.lua_grammar.specs.Stopping.{EndsAt}
use Rattle.lua_grammar.specs.Waiting.{Reader, chunk, token, exp, unless_assign, close_bracket, equals, IsWaiting}
use Rattle.lua_grammar.specs.Reading.{after_field, begin_exp, feed, field, run}
use Rattle.lua_grammar.proofs.DeadParts.{dead_close_bracket, dead_equals}
use Rattle.lua_grammar.proofs.Few.{few_before_it}
use Rattle.lua_grammar.proofs.Growing.{exp_keeps}
use Rattle.lua_grammar.proofs.SameFrames.{exp_alike}
use Rattle.lua_grammar.proofs.Stopping.{at_least_one}
use Rattle.lua_parser_base.specs.declared.faults.ParseFault.{ParseFault}
use Rattle.lua_parser_base.specs.declared.faults.ParseFault.TheVariants.{At, Memory}
use Rattle.lua_parser_base.specs.declared.nesting.Nesting.{Nesting}
use Rattle.lua_parser_base.specs.declared.nodes.Built.{Built}
use Rattle.lua_parser_base.specs.States.{State, Takes}
use Rattle.lua_parser_base.specs.Fits.{FitsExp, FitsField}
use Rattle.lua_parser_base.specs.Kinds.{BeginNamed}
use Rattle.lua_parser_base.specs.Next.{Begin, IsKind, IsName, IsNext, Misses, OnAt, ahead}
use Rattle.lua_parser_base.specs.Reads.{ReadsExp}
use Rattle.lua_parser_base.specs.Readers.{GoOn, GoOnWith, Moves, Refuses, WaitsWith}
use Rattle.lua_parser_base.specs.Refusals.{RefusesField, RefusesFrom, Unless}
use Rattle.lua_parser_base.proofs.Moving.{by_token, go_on_with, goes_on, on, refused_on, supposes_on}
use Rattle.lua_parser_base.proofs.Printed.{exp_ended}
use Rattle.lua_parser_base.proofs.Refusing.{never_missed, no_close_bracket, no_equals}

-- ---- what fits

key_fits : (at : Nesting) (enclosing : List Frame) (o : Line) (key : Exp) (c q : Line) (e : Exp) → FitsField at enclosing (tree.keyed o key c q e) → FitsExp at enclosing key
unfolding levels height IsValid Resolves
key_fits at enclosing o key c q e f =
    let (x, y, m, p, r, is) = f.resolvable.resolved in
    record {
      valid = f.valid.0;
      deep = let d = f.deep in omega (arith, d);
      low = let h = f.low in omega (arith, h);
      resolvable = record { before = f.resolvable.before; out = x; after = m; same = f.resolvable.same; resolved = p; few = few_before_it (exp_keeps e m y f.resolvable.after r) f.resolvable.few };
    }

-- in the functions as they are after the key
keyed_value_fits : (at : Nesting) (enclosing : List Frame) (o : Line) (key : Exp) (c q : Line) (e : Exp) (s m : Scope) (out : Expr) → FitsField at enclosing (tree.keyed o key c q e) →
    s.enclosing ≡ enclosing → Resolves key s out m → FitsExp at m.enclosing e
unfolding levels height IsValid Resolves
keyed_value_fits at enclosing o key c q e s m out f here r =
    let (x, y, n, p, after, is) = f.resolvable.resolved in
    let same : n.enclosing ≡ m.enclosing = (exp_alike key f.resolvable.before s x out n m p r (record { enclosing = f.resolvable.same ∙ sym here })).enclosing in
    record {
      valid = f.valid.1;
      deep = let d = f.deep in omega (arith, d);
      low = let h = f.low in omega (arith, h);
      resolvable = record { before = n; out = y; after = f.resolvable.after; same = same; resolved = after; few = f.resolvable.few };
    }

named_value_fits : (at : Nesting) (enclosing : List Frame) (l : Line) (n : Bytes) (q : Line) (e : Exp) → FitsField at enclosing (tree.named l n q e) → FitsExp at enclosing e
unfolding levels height IsValid Resolves
named_value_fits at enclosing l n q e f =
    let (x, r, is) = f.resolvable.resolved in
    record {
      valid = f.valid;
      deep = f.deep;
      low = f.low;
      resolvable = record { before = f.resolvable.before; out = x; after = f.resolvable.after; same = f.resolvable.same; resolved = r; few = f.resolvable.few };
    }

plain_fits : (at : Nesting) (enclosing : List Frame) (e : Exp) → FitsField at enclosing (tree.plain e) → FitsExp at enclosing e
unfolding levels height IsValid Resolves
plain_fits at enclosing e f =
    let (x, r, is) = f.resolvable.resolved in
    record {
      valid = f.valid;
      deep = f.deep;
      low = f.low;
      resolvable = record { before = f.resolvable.before; out = x; after = f.resolvable.after; same = f.resolvable.same; resolved = r; few = f.resolvable.few };
    }

-- ---- with a key in brackets

-- what goes on after a field
abbrev Next : Type 0
Next = Field → TokenKind → Line → Reader

abbrev after_equals : Next → Line → Exp → Line → Line → Exp → Reader
after_equals next o key c q e = token (next (tree.keyed o key c q e))

abbrev after_bracket : Next → Line → Exp → Line → Reader
after_bracket next o key c = token (equals (λ q. exp 1 (after_equals next o key c q)))

abbrev after_key : Next → Line → Exp → Reader
after_key next o key = token (close_bracket (after_bracket next o key))

key_supposes : (at : Nesting) (enclosing : List Frame) (next : Next) (o : Line) → Unless (FitsField at enclosing) (λ f. token (next f)) → Unless (FitsExp at enclosing) (after_key next o)
key_supposes at enclosing next o suppose = λ key not.
    dead_close_bracket (after_bracket next o key) (λ c. dead_equals (λ q. exp 1 (after_equals next o key c q)) (λ q e.
    suppose (tree.keyed o key c q e) (λ f. not (key_fits at enclosing o key c q e f))))

pub key_refused : (at : Nesting) (o : ℕ) (fault : ParseFault) (s a t : State) → Takes (Sign sign.OpenBracket) o s a → RefusesFrom 1 at a t fault → RefusesField at s t fault
key_refused at o fault s a t taken refuses = λ p fs k h.
    let next : Next = after_field p fs k in
    refused_on (by_token (token (field next)) (Sign sign.OpenBracket) o s a taken)
    (refuses (after_key next o) (supposes_on fault (λ suppose. subst (λ z. Unless (FitsExp at z.enclosing) (after_key next o)) (sym taken.scope) (key_supposes at s.scope.enclosing next o suppose)) h))

over_key : (at : Nesting) (next : Next) (o : ℕ) (s a b : State) (key : Built) (r : ReadsExp at a key b) → Takes (Sign sign.OpenBracket) o s a → EndsAt 1 (ahead b) →
    Moves (token (field next)) s (after_key next o r.tree) b
over_key at next o s a b key r taken ends =
    on (by_token (token (field next)) (Sign sign.OpenBracket) o s a taken)
    (exp_ended r.tree at.vararg 1 (after_key next o) a b r.printed r.valid (at_least_one r.tree) r.ends ends)

pub bracket_refused : (at : Nesting) (o : ℕ) (fault : ParseFault) (s a b t : State) (key : Built) → Takes (Sign sign.OpenBracket) o s a → ReadsExp at a key b → EndsAt 1 (ahead b) →
    OnAt (Misses (IsKind (Sign sign.CloseBracket)) b t) fault → RefusesField at s t fault
bracket_refused at o fault s a b t key taken r ends missed = λ p fs k h.
    let next : Next = after_field p fs k in
    refused_on (over_key at next o s a b key r taken ends) (no_close_bracket fault _ (after_bracket next o r.tree) b t missed h)

over_bracket : (at : Nesting) (next : Next) (o c : ℕ) (s a b d : State) (key : Built) (r : ReadsExp at a key b) → Takes (Sign sign.OpenBracket) o s a → EndsAt 1 (ahead b) →
    Takes (Sign sign.CloseBracket) c b d → Moves (token (field next)) s (after_bracket next o r.tree c) d
over_bracket at next o c s a b d key r taken ends close =
    on (over_key at next o s a b key r taken ends) (by_token (after_key next o r.tree) (Sign sign.CloseBracket) c b d close)

pub equals_refused : (at : Nesting) (o c : ℕ) (fault : ParseFault) (s a b d t : State) (key : Built) → Takes (Sign sign.OpenBracket) o s a → ReadsExp at a key b → EndsAt 1 (ahead b) →
    Takes (Sign sign.CloseBracket) c b d → OnAt (Misses (IsKind (Sign sign.Assign)) d t) fault → RefusesField at s t fault
equals_refused at o c fault s a b d t key taken r ends close missed = λ p fs k h.
    let next : Next = after_field p fs k in
    refused_on (over_bracket at next o c s a b d key r taken ends close) (no_equals fault _ (λ q. exp 1 (after_equals next o r.tree c q)) d t missed h)

keyed_supposes : (at : Nesting) (next : Next) (o c q : Line) (s a b u : State) (key : Built) (r : ReadsExp at a key b) → a.scope ≡ s.scope → u.scope ≡ b.scope →
    Unless (FitsField at s.scope.enclosing) (λ f. token (next f)) → Unless (FitsExp at u.scope.enclosing) (after_equals next o r.tree c q)
keyed_supposes at next o c q s a b u key r before after suppose = λ e not.
    suppose (tree.keyed o r.tree c q e) (λ f.
    not (subst (λ z. FitsExp at z.enclosing e) (sym after)
    (keyed_value_fits at s.scope.enclosing o r.tree c q e a.scope b.scope key.expr f (ap (λ z. z.enclosing) before) r.resolved)))

pub keyed_value_refused : (at : Nesting) (o c q : ℕ) (fault : ParseFault) (s a b d u t : State) (key : Built) → Takes (Sign sign.OpenBracket) o s a → ReadsExp at a key b → EndsAt 1 (ahead b) →
    Takes (Sign sign.CloseBracket) c b d → Takes (Sign sign.Assign) q d u → RefusesFrom 1 at u t fault → RefusesField at s t fault
keyed_value_refused at o c q fault s a b d u t key taken r ends close assign refuses = λ p fs k h.
    let next : Next = after_field p fs k in
    refused_on (on (over_bracket at next o c s a b d key r taken ends close) (by_token (after_bracket next o r.tree c) (Sign sign.Assign) q d u assign))
    (refuses (after_equals next o r.tree c q) (supposes_on fault (keyed_supposes at next o c q s a b u key r taken.scope (assign.scope ∙ close.scope)) h))

-- ---- with a name

named_begins : (left : List Lexeme) → BeginNamed left → Begin IsName left
named_begins [] h = h
named_begins (name ∷ []) h = absurd h
named_begins (name ∷ equals ∷ after) h = h.0

pub name_never_missed : (at : Nesting) (fault : ParseFault) (s t : State) → BeginNamed s.left → OnAt (Misses IsName s t) fault → RefusesField at s t fault
name_never_missed at fault s t next missed = λ o fs k h. never_missed fault _ (token (field (after_field o fs k))) IsName s t missed h (named_begins s.left next)

equals_after : (first : Lexeme) (after : List Lexeme) → BeginNamed (first ∷ after) → Begin (IsKind (Sign sign.Assign)) after
equals_after first [] h = h
equals_after first (next ∷ after) h = h.1

pub equals_never_missed : (at : Nesting) (line : ℕ) (n : Bytes) (fault : ParseFault) (s a t : State) → BeginNamed s.left → Takes (Name n) line s a →
    OnAt (Misses (IsKind (Sign sign.Assign)) a t) fault → RefusesField at s t fault
equals_never_missed at line n fault s a t next taken missed = λ o fs k h.
    let r : Reader = token (field (after_field o fs k)) in
    let equals_next = equals_after (record { kind = Name n; line = line }) a.left (subst BeginNamed taken.printed next) in
    refused_on (by_token r (Name n) line s a taken) (never_missed fault _ (feed r (Name n) line) (IsKind (Sign sign.Assign)) a t missed h equals_next)

named_supposes : (at : Nesting) (next : Next) (l q : Line) (n : Bytes) (s u : State) → u.scope ≡ s.scope →
    Unless (FitsField at s.scope.enclosing) (λ f. token (next f)) → Unless (FitsExp at u.scope.enclosing) (λ e. token (next (tree.named l n q e)))
named_supposes at next l q n s u same suppose = λ e not.
    suppose (tree.named l n q e) (λ f. not (subst (λ z. FitsExp at z.enclosing e) (sym same) (named_value_fits at s.scope.enclosing l n q e f)))

pub named_value_refused : (at : Nesting) (line q : ℕ) (n : Bytes) (fault : ParseFault) (s a u t : State) → Takes (Name n) line s a → Takes (Sign sign.Assign) q a u →
    RefusesFrom 1 at u t fault → RefusesField at s t fault
named_value_refused at line q n fault s a u t taken assign refuses = λ o fs k h.
    let next : Next = after_field o fs k in
    let r : Reader = token (field next) in
    refused_on (on (by_token r (Name n) line s a taken) (by_token (feed r (Name n) line) (Sign sign.Assign) q a u assign))
    (refuses (λ e. token (next (tree.named line n q e))) (supposes_on fault (named_supposes at next line q n s u (assign.scope ∙ taken.scope)) h))

-- ---- an expression alone

abbrev plainly : Next → Exp → Reader
plainly next e = token (next (tree.plain e))

waits : (r : Reader) (k : Line → Reader) (b : Block) → unless_assign r k ≡ chunk b → ⊥
waits r k b is = cc

-- after a name another token than `=` makes no difference
after_name : (r : Reader) (k : Line → Reader) (kind : TokenKind) (l : Line) → (kind ≡ Sign sign.Assign → ⊥) → feed (unless_assign r k) kind l ≡ feed r kind l
after_name r k (Sign sign.Assign) l not = absurd (not refl)
after_name r k kind l not = refl

name_first : (r : Reader) (k : Line → Reader) (xs : List Lexeme) (b : Block) → (Begin (IsKind (Sign sign.Assign)) xs → ⊥) → run (unless_assign r k) xs ≡ chunk b → run r xs ≡ chunk b
name_first r k [] b not is = absurd (waits r k b is)
name_first r k (first ∷ xs) b not is = sym (ap (λ q. run q xs) (after_name r k first.kind first.line not)) ∙ is

plain_first : (next : Next) (kind : TokenKind) (l : Line) (xs : List Lexeme) (b : Block) → (IsKind (Sign sign.OpenBracket) kind → ⊥) → (IsName kind → Begin (IsKind (Sign sign.Assign)) xs → ⊥) →
    run (field next kind l) xs ≡ chunk b → run (begin_exp 1 (plainly next) kind l) xs ≡ chunk b
plain_first next (Sign sign.OpenBracket) l xs b bracket named is = absurd (bracket refl)
plain_first next (Name n) l xs b bracket named is =
    name_first (begin_exp 1 (plainly next) (Name n) l) (λ q. exp 1 (λ e. token (next (tree.named l n q e)))) xs b (named tt) is
plain_first next kind l xs b bracket named is = is

named_first : (first : Lexeme) (xs : List Lexeme) → IsName first.kind → Begin (IsKind (Sign sign.Assign)) xs → BeginNamed (first ∷ xs)
named_first first [] name equals = equals
named_first first (second ∷ xs) name equals = (name, equals)

reads_plain : (next : Next) (xs : List Lexeme) (b : Block) → (Begin (IsKind (Sign sign.OpenBracket)) xs → ⊥) → (BeginNamed xs → ⊥) →
    run (token (field next)) xs ≡ chunk b → run (exp 1 (plainly next)) xs ≡ chunk b
reads_plain next [] b bracket named is = absurd (let e : token (field next) ≡ chunk b = is in cc)
reads_plain next (first ∷ xs) b bracket named is = plain_first next first.kind first.line xs b bracket (λ name equals. named (named_first first xs name equals)) is

-- where the reader of the expression waits, that of the field does
name_waits : (r : Reader) (k : Line → Reader) (xs : List Lexeme) → (Begin (IsKind (Sign sign.Assign)) xs → ⊥) → IsWaiting (run r xs) → IsWaiting (run (unless_assign r k) xs)
name_waits r k [] not is = tt
name_waits r k (first ∷ xs) not is = subst IsWaiting (sym (ap (λ q. run q xs) (after_name r k first.kind first.line not))) is

first_waits : (next : Next) (kind : TokenKind) (l : Line) (xs : List Lexeme) → (IsKind (Sign sign.OpenBracket) kind → ⊥) → (IsName kind → Begin (IsKind (Sign sign.Assign)) xs → ⊥) →
    IsWaiting (run (begin_exp 1 (plainly next) kind l) xs) → IsWaiting (run (field next kind l) xs)
first_waits next (Sign sign.OpenBracket) l xs bracket named is = absurd (bracket refl)
first_waits next (Name n) l xs bracket named is =
    name_waits (begin_exp 1 (plainly next) (Name n) l) (λ q. exp 1 (λ e. token (next (tree.named l n q e)))) xs (named tt) is
first_waits next kind l xs bracket named is = is

field_waits : (next : Next) (xs : List Lexeme) → (Begin (IsKind (Sign sign.OpenBracket)) xs → ⊥) → (BeginNamed xs → ⊥) →
    IsWaiting (run (exp 1 (plainly next)) xs) → IsWaiting (run (token (field next)) xs)
field_waits next [] bracket named is = tt
field_waits next (first ∷ xs) bracket named is = first_waits next first.kind first.line xs bracket (λ name equals. named (named_first first xs name equals)) is

begin_after : (P : TokenKind → Type 0) (read left : List Lexeme) → Begin P read → Begin P (read ++ left)
begin_after P [] left begins = absurd begins
begin_after P (first ∷ read) left begins = begins

named_after : (read left : List Lexeme) → BeginNamed read → BeginNamed (read ++ left)
named_after [] left named = absurd named
named_after (first ∷ []) left named = absurd named
named_after (first ∷ second ∷ read) left named = named

field_waits_with : (fault : ParseFault) (next : Next) (s t : State) (read : List Lexeme) → s.left ≡ read ++ t.left → (IsNext (Sign sign.OpenBracket) s → ⊥) → (BeginNamed s.left → ⊥) →
    WaitsWith fault (run (exp 1 (plainly next)) read) → WaitsWith fault (run (token (field next)) read)
field_waits_with (At line) next s t read printed bracket named is =
    field_waits next read (λ begins. bracket (subst (Begin (IsKind (Sign sign.OpenBracket))) (sym printed) (begin_after (IsKind (Sign sign.OpenBracket)) read t.left begins)))
    (λ begins. named (subst BeginNamed (sym printed) (named_after read t.left begins)))
    is
field_waits_with other next s t read printed bracket named is = tt

-- no bracket is next
no_bracket : (left xs : List Lexeme) → GoOn left xs → (Begin (IsKind (Sign sign.OpenBracket)) left → ⊥) → Begin (IsKind (Sign sign.OpenBracket)) xs → ⊥
no_bracket [] xs h none is = let e : Begin (IsKind (Sign sign.OpenBracket)) (a_word word.End 1 []) = subst (Begin (IsKind (Sign sign.OpenBracket))) h is in cc
no_bracket (first ∷ left) xs h none is = none (subst (Begin (IsKind (Sign sign.OpenBracket))) h.1 is)

-- a name alone isn't refused with `At`
any_block : Block
any_block = tree.statements tree.no_stats

abbrev anything : Exp → Reader
anything e = token (λ kind l. chunk any_block)

name_goes_on : (kind : TokenKind) (l : Line) → IsName kind → run (feed (exp 1 anything) kind l) (a_word word.End 1 []) ≡ chunk any_block
name_goes_on (Name n) l h = refl
name_goes_on kind l h = absurd h

nothing_before : (read xs : List Lexeme) → xs ≡ read ++ xs → read ≡ []
nothing_before [] xs is = refl
nothing_before (first ∷ read) xs is = absurd (let e : length xs ≡ length ((first ∷ read) ++ xs) = ap length is in let n = length-append read xs in omega (arith, e, n))

name_is_read : (at : Nesting) (line : ℕ) (s t : State) (left : List Lexeme) → s.left ≡ left → t.left ≡ left → Begin IsName left → RefusesFrom 1 at s t (At line) → ⊥
name_is_read at line s t [] here there name refuses = name
name_is_read at line s t (first ∷ after) here there name refuses =
    let none = (refuses anything tt).sticks in
    let nothing : none.read ≡ [] = nothing_before none.read (first ∷ after) (sym here ∙ none.printed ∙ ap (λ xs. none.read ++ xs) there) in
    let xs : List Lexeme = first ∷ a_word word.End 1 [] in
    let go : GoOn t.left xs = subst (λ l. GoOn l xs) (sym there) (a_word word.End 1 [], refl) in
    none.stuck xs go any_block (ap (λ read. run (exp 1 anything) (read ++ xs)) nothing ∙ name_goes_on first.kind first.line name) tt

-- tokens that begin with no name and `=` don't so either as they go on
unnamed_two : (first : Lexeme) (left xs : List Lexeme) → GoOn left xs → (BeginNamed (first ∷ left) → ⊥) → BeginNamed (first ∷ xs) → ⊥
unnamed_two first [] xs h not named = let e : BeginNamed (first ∷ a_word word.End 1 []) = subst (λ ys. BeginNamed (first ∷ ys)) h named in let is = e.1 in cc
unnamed_two first (second ∷ left) xs h not named = not (subst (λ ys. BeginNamed (first ∷ ys)) h.1 named)

unnamed_on : (at : Nesting) (line : ℕ) (s t : State) (read xs : List Lexeme) → RefusesFrom 1 at s t (At line) → s.left ≡ read ++ t.left → GoOn t.left xs →
    (BeginNamed s.left → ⊥) → BeginNamed (read ++ xs) → ⊥
unnamed_on at line s t [] xs refuses printed h not named = none t.left refl h
  where
    none : (left : List Lexeme) → t.left ≡ left → GoOn left xs → ⊥
    none [] is go = rw go at named
    none (first ∷ left) is go =
        let name : IsName first.kind = named_begins (first ∷ go.0) (subst BeginNamed go.1 named) in
        name_is_read at line s t (first ∷ left) (printed ∙ is) is name refuses
unnamed_on at line s t (first ∷ []) xs refuses printed h not named = unnamed_two first t.left xs h (λ two. not (subst BeginNamed (sym printed) two)) named
unnamed_on at line s t (first ∷ second ∷ read) xs refuses printed h not named = not (subst BeginNamed (sym printed) named)

unnamed_end : (left : List Lexeme) → (BeginNamed left → ⊥) → BeginNamed (left ++ a_word word.End 1 []) → ⊥
unnamed_end [] not named = named
unnamed_end (first ∷ left) not named = unnamed_two first left (left ++ a_word word.End 1 []) (go left) not named
  where
    go : (left : List Lexeme) → GoOn left (left ++ a_word word.End 1 [])
    go left = go_on_with Memory left (left ++ a_word word.End 1 []) refl

unnamed : (at : Nesting) (fault : ParseFault) (s t : State) (read xs : List Lexeme) → RefusesFrom 1 at s t fault → s.left ≡ read ++ t.left → GoOnWith fault t.left xs →
    (BeginNamed s.left → ⊥) → BeginNamed (read ++ xs) → ⊥
unnamed at (At line) s t read xs refuses printed h not named = unnamed_on at line s t read xs refuses printed h not named
unnamed at other s t read xs refuses printed h not named =
    let end : List Lexeme = a_word word.End 1 [] in
    let same : read ++ xs ≡ s.left ++ end = ap (λ ys. read ++ ys) h ∙ sym (append_assoc read t.left end) ∙ ap (λ ys. ys ++ end) (sym printed) in
    unnamed_end s.left not (subst BeginNamed same named)

plain_supposes : (at : Nesting) (enclosing : List Frame) (next : Next) → Unless (FitsField at enclosing) (λ f. token (next f)) → Unless (FitsExp at enclosing) (plainly next)
plain_supposes at enclosing next suppose = λ e not. suppose (tree.plain e) (λ f. not (plain_fits at enclosing e f))

pub plain_refused : (at : Nesting) (fault : ParseFault) (s t : State) → (IsNext (Sign sign.OpenBracket) s → ⊥) → (BeginNamed s.left → ⊥) → RefusesFrom 1 at s t fault → RefusesField at s t fault
plain_refused at fault s t bracket named refuses = λ o fs k h.
    let next : Next = after_field o fs k in
    let plain : Refuses fault (exp 1 (plainly next)) s t = refuses (plainly next) (supposes_on fault (plain_supposes at s.scope.enclosing next) h) in
    let read = plain.sticks.read in
    let printed = plain.sticks.printed in
    record {
      sticks = record {
        read = read;
        printed = printed;
        stuck = λ xs go b is.
            let goes : GoOn s.left (read ++ xs) = subst (λ l. GoOn l (read ++ xs)) (sym printed) (goes_on read t.left xs (go_on_with fault t.left xs go)) in
            plain.sticks.stuck xs go b
            (reads_plain next (read ++ xs) b (no_bracket s.left (read ++ xs) goes bracket) (unnamed at fault s t read xs refuses printed go named) is);
        waits = field_waits_with fault next s t read printed bracket named plain.sticks.waits;
      };
      reports = plain.reports;
    }
