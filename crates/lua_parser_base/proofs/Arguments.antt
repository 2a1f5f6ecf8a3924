-- Where arguments are refused, and a call with them.
use Rattle.std.proofs.Common.{◌≡◌, ◌⊎◌, ℕ, List, [], ◌∷◌, inl, inr, refl, sym, ap, subst, ◌∙◌, Some, slice_get, drop, suc}
use Rattle.lua_lexer.specs.declared.tokens.Token.{Token}
use Rattle.lua_lexer.specs.declared.tokens.TokenKind.{TokenKind}
use Rattle.lua_lexer.specs.declared.tokens.TokenKind.TheVariants.{Name, Text, Word, Sign}
use Rattle.lua_lexer.specs.declared.signs.Sign.TheVariants as sign
use Rattle.lua_lexer.specs.declared.words.Word.TheVariants as word
use Rattle.lua_grammar.specs.Tree.{Line, PrefixExp, Args, ExpList, Table, Block}
use Rattle.lua_grammar.specs.Tree as tree
use Rattle.lua_grammar.specs.Printing.{Lexeme, lexemes, a_kind}
use Rattle.lua_grammar.specs.Dead.{IsDead}
use Rattle.lua_grammar.specs.Stopping.{IsNoComma}
use Rattle.lua_grammar.specs.Waiting.{Reader, failed, token, more_prefix, name, close_parenthesis, IsWaiting}
use Rattle.lua_grammar.specs.Reading.{args, begin_args, feed, list, run}
use Rattle.lua_grammar.proofs.Dead.{dead_reads_no_chunk}
use Rattle.lua_grammar.proofs.DeadParts.{dead_begin_args, dead_begin_list, dead_close_parenthesis, dead_list, dead_name}
use Rattle.lua_parser_base.specs.declared.cursor.Parser.{Parser}
use Rattle.lua_parser_base.specs.declared.faults.ParseFault.{ParseFault}
use Rattle.lua_parser_base.specs.declared.faults.ParseFault.TheVariants.{At, Ambiguous}
use Rattle.lua_parser_base.specs.declared.nodes.Prefix.{Prefix}
use Rattle.lua_parser_base.specs.declared.nodes.Values.{Values}
use Rattle.lua_parser_base.specs.declared.nesting.Nesting.{Nesting}
use Rattle.lua_parser_base.specs.declared.suffixes.Suffix.TheVariants.{Arguments}
use Rattle.lua_parser_base.specs.States.{State, state, Takes}
use Rattle.lua_parser_base.specs.Nesting.{IsNarrower, IsPart}
use Rattle.lua_parser_base.specs.Kinds.{IsSuffix}
use Rattle.lua_parser_base.specs.Next.{Begin, CannotOpen, HasNoPart, IsKind, IsName, IsNext, IsText, IsTooHigh, Misses, OnAt, ahead, first_kind}
use Rattle.lua_parser_base.specs.Reads.{ReadsList, ReadsPrefix}
use Rattle.lua_parser_base.specs.Readers.{GoOn, Moves, Refuses, Supposes}
use Rattle.lua_parser_base.specs.Refusals.{RefusesArgs, RefusesList, RefusesSuffix, RefusesTable, Unless}
use Rattle.lua_parser_base.specs.Fits.{FitsArgs, FitsList, FitsPrefix, FitsTable}
use Rattle.lua_parser_base.proofs.Moving.{by_token, not_first, on, refused_on, stays, supposes_on, go_on_with}
use Rattle.lua_parser_base.proofs.Next.{next_left}
use Rattle.lua_parser_base.proofs.Prefixes.{misses_both}
use Rattle.lua_parser_base.proofs.Printed.{list_ended}
use Rattle.lua_parser_base.proofs.Refusing.{at_end, ends_failed, missed, no_close_parenthesis, no_name, no_part, too_high}
use Rattle.lua_parser_base.proofs.PrefixFitting.{ambiguous_call, ambiguous_method, args_list_fits, call_args_fit, deep_args, first_prefix_fits, high_call, high_method, method_args_fit, table_arg_fits}

-- ---- a table constructor

table_supposes : (at inner : Nesting) (s : State) (k : Args → Reader) → IsNarrower at inner → Unless (FitsArgs at s.scope.enclosing) k → Unless (FitsTable inner s.scope.enclosing) (λ t. k (tree.table_arg t))
table_supposes at inner s k narrow suppose = λ t not. suppose (tree.table_arg t) (λ f. not (table_arg_fits at inner s.scope.enclosing t f narrow))

pub table_arg_refused : (at inner : Nesting) (s t : State) (fault : ParseFault) → IsNarrower at inner → RefusesTable inner s t fault → RefusesArgs at s t fault
table_arg_refused at inner s t fault narrow refuses = λ k h.
    refuses (token (begin_args k)) (λ x. k (tree.table_arg x)) (λ o. refl) (supposes_on fault (table_supposes at inner s k narrow) h)

-- ---- where none begin

-- it begins arguments
abbrev BeginsArgs : TokenKind → Type 0
BeginsArgs kind = IsKind (Sign sign.OpenParenthesis) kind ⊎ (IsKind (Sign sign.OpenBrace) kind ⊎ IsText kind)

args_fail : (k : Args → Reader) (kind : TokenKind) (l : Line) → (BeginsArgs kind → ⊥) → begin_args k kind l ≡ failed
args_fail k (Sign sign.OpenParenthesis) l h = absurd (h (inl refl))
args_fail k (Sign sign.OpenBrace) l h = absurd (h (inr (inl refl)))
args_fail k (Text bytes) l h = absurd (h (inr (inr tt)))
args_fail k kind l h = refl

end_begins_none : BeginsArgs (Word word.End) → ⊥
end_begins_none (inl h) = cc
end_begins_none (inr (inl h)) = cc
end_begins_none (inr (inr h)) = h

neither_next : (left : List Lexeme) → (Begin (IsKind (Sign sign.OpenBrace)) left → ⊥) → (Begin IsText left → ⊥) → Begin (λ kind. IsKind (Sign sign.OpenBrace) kind ⊎ IsText kind) left → ⊥
neither_next [] p q h = h
neither_next (first ∷ after) p q (inl h) = p h
neither_next (first ∷ after) p q (inr h) = q h

pub no_args : (at : Nesting) (s t : State) (fault : ParseFault) → (IsNext (Sign sign.OpenBrace) s → ⊥) → (Begin IsText s.left → ⊥) →
    OnAt (Misses (IsKind (Sign sign.OpenParenthesis)) s t) fault → RefusesArgs at s t fault
no_args at s t fault no_table no_text m = λ k h.
    missed fault _ (token (begin_args k)) BeginsArgs s t
    (misses_both fault (IsKind (Sign sign.OpenParenthesis)) (λ kind. IsKind (Sign sign.OpenBrace) kind ⊎ IsText kind) s t (neither_next s.left no_table no_text) m)
    h end_begins_none (args_fail k) tt

-- ---- expressions

abbrev after_list : (Args → Reader) → Line → ExpList → Reader
after_list k o es = token (close_parenthesis (λ c. k (tree.args o es c)))

args_go : (k : Args → Reader) (o : Line) (kind : TokenKind) (l : Line) → (kind ≡ Sign sign.CloseParenthesis → ⊥) → args o k kind l ≡ feed (list (after_list k o)) kind l
args_go k o (Sign sign.CloseParenthesis) l not = absurd (not refl)
args_go k o kind l not = refl

-- over the `(`, where expressions follow
over_open : (k : Args → Reader) (s m : State) (line : ℕ) → Takes (Sign sign.OpenParenthesis) line s m → (IsNext (Sign sign.CloseParenthesis) m → ⊥) →
    Moves (token (begin_args k)) s (list (after_list k line)) m
over_open k s m line taken not =
    on (by_token (token (begin_args k)) (Sign sign.OpenParenthesis) line s m taken)
    (stays (token (args line k)) (list (after_list k line)) m (λ l. args_go k line (ahead m) l (not_first (Sign sign.CloseParenthesis) m.left (λ is. cc) not)) tt)

pub args_no_part : (at : Nesting) (s m : State) (line : ℕ) (fault : ParseFault) → Takes (Sign sign.OpenParenthesis) line s m → (IsNext (Sign sign.CloseParenthesis) m → ⊥) →
    HasNoPart at m fault → RefusesArgs at s m fault
args_no_part at s m line fault taken not none = λ k h.
    refused_on (over_open k s m line taken not)
    (no_part fault _ at (list (after_list k line)) m none h (ends_failed (list (after_list k line)) (λ l. refl)) (λ full suppose.
    dead_list (after_list k line) (λ es. dead_close_parenthesis _ (λ c. suppose (tree.args line es c) (λ f. deep_args at s.scope.enclosing line es c full f)))) tt)

list_supposes : (at inner : Nesting) (s m : State) (line : ℕ) (k : Args → Reader) → m.scope ≡ s.scope → IsPart at inner → Unless (FitsArgs at s.scope.enclosing) k →
    Unless (FitsList inner m.scope.enclosing) (after_list k line)
list_supposes at inner s m line k same part suppose = λ es not.
    dead_close_parenthesis _ (λ c. suppose (tree.args line es c) (λ f.
    not (subst (λ z. FitsList inner z.enclosing es) (sym same) (args_list_fits at inner s.scope.enclosing line es c f part))))

pub args_refused : (at inner : Nesting) (s m t : State) (line : ℕ) (fault : ParseFault) → Takes (Sign sign.OpenParenthesis) line s m → (IsNext (Sign sign.CloseParenthesis) m → ⊥) →
    IsPart at inner → RefusesList inner m t fault → RefusesArgs at s t fault
args_refused at inner s m t line fault taken not part refuses = λ k h.
    refused_on (over_open k s m line taken not) (refuses (after_list k line) (supposes_on fault (list_supposes at inner s m line k taken.scope part) h))

pub args_open : (at inner : Nesting) (s m n t : State) (line : ℕ) (v : Values) (fault : ParseFault) → Takes (Sign sign.OpenParenthesis) line s m → (IsNext (Sign sign.CloseParenthesis) m → ⊥) →
    (r : ReadsList inner m v n) → IsNoComma (ahead n) → OnAt (Misses (IsKind (Sign sign.CloseParenthesis)) n t) fault → RefusesArgs at s t fault
args_open at inner s m n t line v fault taken not r ends missing = λ k h.
    refused_on (on (over_open k s m line taken not) (list_ended r.tree inner.vararg (after_list k line) m n r.printed r.valid r.ends ends))
    (no_close_parenthesis fault _ (λ c. k (tree.args line r.tree c)) n t missing h)

-- ---- arguments that can't begin

-- at a token that leads to a dead state
ambiguous_at : (line : ℕ) (r : Reader) (s : State) (kind : TokenKind) (l : ℕ) (after : List Lexeme) → s.left ≡ a_kind kind l after → IsDead (feed r kind l) → Refuses (Ambiguous line) r s s
ambiguous_at line r s kind l after left dead = record {
  sticks = record {
    read = [];
    printed = refl;
    stuck = λ xs go b is counts.
        let (others, same) = subst (λ z. GoOn z xs) left (go_on_with (Ambiguous line) s.left xs go) in
        dead_reads_no_chunk (feed r kind l) others b dead (sym (ap (run r) same) ∙ is) counts;
    waits = tt;
  };
  reports = tt;
}

-- a `(` after which each call is dead
dead_open : (o : Line) (k : Args → Reader) → ((c : Line) → IsDead (k (tree.no_args o c))) → ((es : ExpList) (c : Line) → IsDead (k (tree.args o es c))) →
    (kind : TokenKind) (l : Line) → IsDead (args o k kind l)
dead_open o k none some (Sign sign.CloseParenthesis) l = none l
dead_open o k none some kind l = dead_begin_list (after_list k o) (λ es. dead_close_parenthesis _ (some es)) kind l

-- after arguments stands what is dead unless they begin on that line
pub cannot_open : (fault : ParseFault) (P : Type 0) (r : Reader) (k : Args → Reader) (s : State) → ((l : ℕ) → feed r (Word word.End) l ≡ failed) →
    ((l : ℕ) → feed r (Sign sign.OpenParenthesis) l ≡ token (args l k)) → CannotOpen s fault → Supposes fault P →
    (P → (o : Line) → (o ≡ s.last → ⊥) → ((c : Line) → IsDead (k (tree.no_args o c))) × ((es : ExpList) (c : Line) → IsDead (k (tree.args o es c)))) → IsWaiting r → Refuses fault r s s
cannot_open (At line) P r k s ends opens closed h dead waits = at_end r s line closed (ends_failed r ends) waits
cannot_open (Ambiguous line) P r k s ends opens closed h dead waits =
    let (after, left, other) = closed in
    let (none, some) = dead h line other in
    ambiguous_at line r s (Sign sign.OpenParenthesis) line after left (subst IsDead (sym (opens line)) (λ kind l. dead_open line k none some kind l))
cannot_open other P r k s ends opens closed h dead waits = absurd closed

-- ---- a call

-- arguments begin there
args_next : (p : PrefixExp) (k : PrefixExp → Reader) (kind : TokenKind) (l : Line) → IsSuffix Arguments kind → feed (more_prefix p k) kind l ≡ begin_args (λ a. more_prefix (tree.call p a) k) kind l
args_next p k (Sign sign.OpenParenthesis) l is = refl
args_next p k (Sign sign.OpenBrace) l is = refl
args_next p k (Text bytes) l is = refl
args_next p k (Name n) l is = absurd is
args_next p k (Word w) l is = absurd is
args_next p k other l is = absurd is

kind_ahead : (P : TokenKind → Type 0) (left : List Lexeme) → Begin P left → P (first_kind left)
kind_ahead P [] next = absurd next
kind_ahead P (first ∷ after) next = next

over_callee : (p : PrefixExp) (k : PrefixExp → Reader) (m : State) → Begin (IsSuffix Arguments) m.left → Moves (more_prefix p k) m (token (begin_args (λ a. more_prefix (tree.call p a) k))) m
over_callee p k m next = stays (more_prefix p k) (token (begin_args (λ a. more_prefix (tree.call p a) k))) m (λ l. args_next p k (ahead m) l (kind_ahead (IsSuffix Arguments) m.left next)) tt

pub call_cannot_open : (at : Nesting) (m : State) (p : Prefix) (fault : ParseFault) → Begin (IsSuffix Arguments) m.left → CannotOpen m fault → RefusesSuffix at p m m fault
call_cannot_open at m p fault next closed = λ s read k h.
    refused_on (over_callee read.tree k m next)
    (cannot_open fault _ (token (begin_args (λ a. more_prefix (tree.call read.tree a) k))) (λ a. more_prefix (tree.call read.tree a) k) m (λ l. refl) (λ l. refl) closed h (λ suppose o other. (
      λ c whole from. suppose whole (λ f. ambiguous_call at s.scope.enclosing read.tree (tree.no_args o c) (λ same. other (same ∙ read.ends)) (first_prefix_fits at s.scope.enclosing _ whole from f)),
      λ es c whole from. suppose whole (λ f. ambiguous_call at s.scope.enclosing read.tree (tree.args o es c) (λ same. other (same ∙ read.ends)) (first_prefix_fits at s.scope.enclosing _ whole from f)),
    )) tt)

pub call_too_high : (line : ℕ) (at : Nesting) (m : State) (p : Prefix) (fault : ParseFault) → Begin (IsSuffix Arguments) m.left → IsTooHigh at p.height line fault → RefusesSuffix at p m m fault
call_too_high line at m p fault next high = λ s read k h.
    refused_on (over_callee read.tree k m next)
    (too_high _ fault _ at p.height (token (begin_args (λ a. more_prefix (tree.call read.tree a) k))) m high h (λ full suppose.
    dead_begin_args (λ a. more_prefix (tree.call read.tree a) k) (λ a whole from. suppose whole (λ f.
    high_call at s.scope.enclosing read.tree a p.height read.high full (first_prefix_fits at s.scope.enclosing _ whole from f)))))

call_supposes : (at : Nesting) (s m : State) (p : Prefix) (read : ReadsPrefix at s p m) (k : PrefixExp → Reader) → Unless (FitsPrefix at s.scope.enclosing) k →
    Unless (FitsArgs at m.scope.enclosing) (λ a. more_prefix (tree.call read.tree a) k)
call_supposes at s m p read k suppose = λ a not whole from.
    suppose whole (λ f.
    not (call_args_fit at s.scope.enclosing read.tree a s.scope m.scope p.expr (first_prefix_fits at s.scope.enclosing _ whole from f) refl read.resolved))

pub call_refused : (at : Nesting) (m t : State) (p : Prefix) (fault : ParseFault) → Begin (IsSuffix Arguments) m.left → RefusesArgs at m t fault → RefusesSuffix at p m t fault
call_refused at m t p fault next refuses = λ s read k h.
    refused_on (over_callee read.tree k m next)
    (refuses (λ a. more_prefix (tree.call read.tree a) k) (supposes_on fault (call_supposes at s m p read k) h))

-- ---- a call of a method

pub method_too_high : (at : Nesting) (m n : State) (p : Prefix) (line : ℕ) (fault : ParseFault) → Takes (Sign sign.Colon) line m n → IsTooHigh at p.height line fault → RefusesSuffix at p m n fault
method_too_high at m n p line fault taken high = λ s read k h.
    refused_on (by_token (more_prefix read.tree k) (Sign sign.Colon) line m n taken)
    (too_high _ fault _ at p.height (token (name (λ l x. token (begin_args (λ a. more_prefix (tree.method read.tree line l x a) k))))) n high h (λ full suppose.
    dead_name _ (λ l x. dead_begin_args (λ a. more_prefix (tree.method read.tree line l x a) k) (λ a whole from. suppose whole (λ f.
    high_method at s.scope.enclosing read.tree line l x a p.height read.high full (first_prefix_fits at s.scope.enclosing _ whole from f))))))

pub method_no_name : (at : Nesting) (m n t : State) (p : Prefix) (line : ℕ) (fault : ParseFault) → Takes (Sign sign.Colon) line m n → OnAt (Misses IsName n t) fault → RefusesSuffix at p m t fault
method_no_name at m n t p line fault taken missing = λ s read k h.
    refused_on (by_token (more_prefix read.tree k) (Sign sign.Colon) line m n taken)
    (no_name fault _ (λ l x. token (begin_args (λ a. more_prefix (tree.method read.tree line l x a) k))) n t missing h)

over_method : (p : PrefixExp) (k : PrefixExp → Reader) (m n o : State) (line at : ℕ) (x : List ℕ) → Takes (Sign sign.Colon) line m n → Takes (Name x) at n o →
    Moves (more_prefix p k) m (token (begin_args (λ a. more_prefix (tree.method p line at x a) k))) o
over_method p k m n o line at x taken named =
    on (by_token (more_prefix p k) (Sign sign.Colon) line m n taken)
    (by_token (token (name (λ l x. token (begin_args (λ a. more_prefix (tree.method p line l x a) k))))) (Name x) at n o named)

pub method_cannot_open : (at : Nesting) (m n o : State) (p : Prefix) (line there : ℕ) (x : List ℕ) (fault : ParseFault) → Takes (Sign sign.Colon) line m n → Takes (Name x) there n o → CannotOpen o fault →
    RefusesSuffix at p m o fault
method_cannot_open at m n o p line there x fault taken named closed = λ s read k h.
    refused_on (over_method read.tree k m n o line there x taken named)
    (cannot_open fault _ (token (begin_args (λ a. more_prefix (tree.method read.tree line there x a) k))) (λ a. more_prefix (tree.method read.tree line there x a) k) o (λ l. refl) (λ l. refl) closed h (λ suppose q other. (
      λ c whole from. suppose whole (λ f. ambiguous_method at s.scope.enclosing read.tree line there x (tree.no_args q c) (λ same. other (same ∙ sym named.last)) (first_prefix_fits at s.scope.enclosing _ whole from f)),
      λ es c whole from. suppose whole (λ f. ambiguous_method at s.scope.enclosing read.tree line there x (tree.args q es c) (λ same. other (same ∙ sym named.last)) (first_prefix_fits at s.scope.enclosing _ whole from f)),
    )) tt)

method_supposes : (at : Nesting) (s m o : State) (p : Prefix) (line there : ℕ) (x : List ℕ) (read : ReadsPrefix at s p m) (k : PrefixExp → Reader) → o.scope ≡ m.scope →
    Unless (FitsPrefix at s.scope.enclosing) k → Unless (FitsArgs at o.scope.enclosing) (λ a. more_prefix (tree.method read.tree line there x a) k)
method_supposes at s m o p line there x read k same suppose = λ a not whole from.
    suppose whole (λ f.
    not (subst (λ z. FitsArgs at z.enclosing a) (sym same)
    (method_args_fit at s.scope.enclosing read.tree line there x a s.scope m.scope p.expr (first_prefix_fits at s.scope.enclosing _ whole from f) refl read.resolved)))

pub method_refused : (at : Nesting) (m n o t : State) (p : Prefix) (line there : ℕ) (x : List ℕ) (fault : ParseFault) → Takes (Sign sign.Colon) line m n → Takes (Name x) there n o →
    RefusesArgs at o t fault → RefusesSuffix at p m t fault
method_refused at m n o t p line there x fault taken named refuses = λ s read k h.
    refused_on (over_method read.tree k m n o line there x taken named)
    (refuses (λ a. more_prefix (tree.method read.tree line there x a) k) (supposes_on fault (method_supposes at s m o p line there x read k (named.scope ∙ taken.scope)) h))

-- ---- a `(` on another line

pub opens_elsewhere : (tokens : List Token) (p : Parser) (next : Token) → slice_get tokens p.index ≡ Some next → next.kind ≡ Sign sign.OpenParenthesis → (next.line ≡ p.line → ⊥) →
    CannotOpen (state tokens p) (Ambiguous next.line)
unfolding state
opens_elsewhere tokens p next is kind other =
    (lexemes (drop (suc p.index) tokens), next_left tokens p next is ∙ ap (λ k. a_kind k next.line (lexemes (drop (suc p.index) tokens))) kind, other)
