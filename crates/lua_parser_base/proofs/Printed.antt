-- A reader that reads a tree moves over its tokens.
use Rattle.std.proofs.Common.{◌≡◌, ◌≤◌, ℕ, Bool, List, [], ◌∷◌, refl, sym, ap, ◌∙◌}
use Rattle.lua_lexer.specs.declared.tokens.TokenKind.{TokenKind}
use Rattle.lua_lexer.specs.declared.tokens.TokenKind.TheVariants.{Name}
use Rattle.lua_grammar.specs.Tree.{Line, Bytes, NameList, FuncName, Exp, PrefixExp, Args, ExpList, Table, Fields, Field, FuncBody, Block, Stats, Stat, Arms, VarList}
use Rattle.lua_grammar.specs.Tree as tree
use Rattle.lua_grammar.specs.Printing.{Lexeme, a_kind, print_names, print_funcname, print_exp, print_prefixexp, print_args, print_explist, print_fields, print_funcbody}
use Rattle.lua_grammar.specs.Validity.{IsValid, IsValidPrefix, IsValidArgs, AreValid, AreValidFields, IsValidBody, exp_level}
use Rattle.lua_grammar.specs.Waiting.{Reader, IsWaiting, token, exp, more_exp, more_prefix, more_list, more_fields, more_names, more_funcname}
use Rattle.lua_grammar.specs.Reading.{list, body, begin_prefix, begin_args, feed, run}
use Rattle.lua_grammar.specs.Stopping.{ComesNext, EndsAt, IsApart, IsNoComma, Stops, LastStops}
use Rattle.lua_grammar.specs.Laws.{IsBefore}
use Rattle.lua_grammar.proofs.Before.{names_before, funcname_before, exp_before, prefix_before, args_before, list_before, fields_before, body_before}
use Rattle.lua_grammar.proofs.Stopping.{exp_ends, prefix_ends, list_ends, names_end}
use Rattle.lua_grammar.proofs.ReadingTrees.{names_read, funcname_read, exp_read, prefix_read, args_read, list_read, fields_read, body_read}
use Rattle.lua_grammar.proofs.StillWaiting.{waits_as, exp_waits, prefix_waits, list_waits}
use Rattle.lua_parser_base.specs.States.{State}
use Rattle.lua_parser_base.specs.Next.{first_kind, ahead}
use Rattle.lua_parser_base.specs.Readers.{GoOn, Moves}

-- what is so after the next token, whatever stands after that
pub go_after : (P : List Lexeme → Type 0) → ((kind : TokenKind) (l : Line) (ys : List Lexeme) → P (a_kind kind 1 []) → P (a_kind kind l ys)) → (left xs : List Lexeme) →
    GoOn left xs → P (a_kind (first_kind left) 1 []) → P xs
go_after P same [] xs h p = rw h p
go_after P same (first ∷ left) xs h p = rw h.1 (same first.kind first.line h.0 p)

pub after_on : (P : TokenKind → Type 0) (left xs : List Lexeme) → GoOn left xs → P (first_kind left) → ComesNext P xs
after_on P left xs h p = go_after (ComesNext P) (λ kind l ys p. p) left xs h p

stops_same : (e : Exp) (kind : TokenKind) (l : Line) (ys : List Lexeme) → Stops e (a_kind kind 1 []) → Stops e (a_kind kind l ys)
stops_same (tree.prefix p) kind l ys h = h
stops_same (tree.binary a op m b) kind l ys h = (h.0, stops_same b kind l ys h.1)
stops_same (tree.unary op m e) kind l ys h = (h.0, stops_same e kind l ys h.1)
stops_same other kind l ys h = tt

pub stops_on : (e : Exp) (left xs : List Lexeme) → GoOn left xs → Stops e (a_kind (first_kind left) 1 []) → Stops e xs
stops_on e left xs h s = go_after (Stops e) (stops_same e) left xs h s

last_same : (es : ExpList) (kind : TokenKind) (l : Line) (ys : List Lexeme) → LastStops es (a_kind kind 1 []) → LastStops es (a_kind kind l ys)
last_same (tree.one e) kind l ys h = (stops_same e kind l ys h.0, h.1)
last_same (tree.more es c e) kind l ys h = (stops_same e kind l ys h.0, h.1)

pub last_on : (es : ExpList) (left xs : List Lexeme) → GoOn left xs → LastStops es (a_kind (first_kind left) 1 []) → LastStops es xs
last_on es left xs h s = go_after (LastStops es) (last_same es) left xs h s

-- a reader that does so with what is printed moves over it
pub over : (f : List Lexeme → List Lexeme) (r q : Reader) (s t : State) → IsBefore f → s.left ≡ f t.left → ((xs : List Lexeme) → GoOn t.left xs → run r (f xs) ≡ run q xs) →
    (IsWaiting q → IsWaiting (run r (f []))) → Moves r s q t
over f r q s t before printed reads waits = record {
  read = f [];
  printed = printed ∙ before.splits [] t.left;
  runs = λ xs h. sym (ap (run r) (before.splits [] xs)) ∙ reads xs h;
  waits = waits;
}

pub exp_moves : (e : Exp) (vararg : Bool) (m : ℕ) (k : Exp → Reader) (s t : State) → s.left ≡ print_exp e t.left → IsValid vararg e → m ≤ exp_level e →
    Stops e (a_kind (ahead t) 1 []) → Moves (exp m k) s (more_exp m e k) t
exp_moves e vararg m k s t printed v high stops =
    over (print_exp e) _ _ s t (exp_before e) printed (λ xs h. exp_read e vararg m k xs v high (stops_on e t.left xs h stops)) (λ w. exp_waits e vararg m k v high)

pub exp_ended : (e : Exp) (vararg : Bool) (m : ℕ) (k : Exp → Reader) (s t : State) → s.left ≡ print_exp e t.left → IsValid vararg e → m ≤ exp_level e →
    Stops e (a_kind (ahead t) 1 []) → EndsAt m (ahead t) → Moves (exp m k) s (k e) t
exp_ended e vararg m k s t printed v high stops ends =
    over (print_exp e) _ _ s t (exp_before e) printed (λ xs h.
    exp_read e vararg m k xs v high (stops_on e t.left xs h stops) ∙ exp_ends m e k xs (after_on (EndsAt m) t.left xs h ends))
    (λ w. exp_waits e vararg m k v high)

pub prefix_moves : (p : PrefixExp) (vararg : Bool) (k : PrefixExp → Reader) (s t : State) → s.left ≡ print_prefixexp p t.left → IsValidPrefix vararg p →
    Moves (token (begin_prefix k)) s (more_prefix p k) t
prefix_moves p vararg k s t printed v =
    over (print_prefixexp p) _ _ s t (prefix_before p) printed (λ xs h. prefix_read p vararg _ k xs (record { name = λ n l. refl; paren = λ o. refl }) v)
    (λ w. prefix_waits p vararg k v)

pub prefix_ended : (p : PrefixExp) (vararg : Bool) (k : PrefixExp → Reader) (s t : State) → s.left ≡ print_prefixexp p t.left → IsValidPrefix vararg p → IsApart (ahead t) →
    Moves (token (begin_prefix k)) s (k p) t
prefix_ended p vararg k s t printed v apart =
    over (print_prefixexp p) _ _ s t (prefix_before p) printed (λ xs h.
    prefix_read p vararg _ k xs (record { name = λ n l. refl; paren = λ o. refl }) v ∙ prefix_ends p k xs (after_on IsApart t.left xs h apart))
    (λ w. prefix_waits p vararg k v)

pub args_moves : (a : Args) (vararg : Bool) (k : Args → Reader) (s t : State) → s.left ≡ print_args a t.left → IsValidArgs vararg a → Moves (token (begin_args k)) s (k a) t
args_moves a vararg k s t printed v =
    let reads = λ (xs : List Lexeme). args_read a vararg (token (begin_args k)) k xs (record { open_ = λ o. refl; brace = λ o. refl; text = λ bytes l. refl }) v in
    over (print_args a) _ _ s t (args_before a) printed (λ xs h. reads xs) (waits_as _ (k a) (reads []))

pub list_moves : (es : ExpList) (vararg : Bool) (k : ExpList → Reader) (s t : State) → s.left ≡ print_explist es t.left → AreValid vararg es →
    LastStops es (a_kind (ahead t) 1 []) → Moves (list k) s (more_list es k) t
list_moves es vararg k s t printed v stops =
    over (print_explist es) _ _ s t (list_before es) printed (λ xs h. list_read es vararg k xs v (last_on es t.left xs h stops)) (λ w. list_waits es vararg k v)

pub list_ended : (es : ExpList) (vararg : Bool) (k : ExpList → Reader) (s t : State) → s.left ≡ print_explist es t.left → AreValid vararg es →
    LastStops es (a_kind (ahead t) 1 []) → IsNoComma (ahead t) → Moves (list k) s (k es) t
list_ended es vararg k s t printed v stops ends =
    over (print_explist es) _ _ s t (list_before es) printed (λ xs h.
    list_read es vararg k xs v (last_on es t.left xs h stops) ∙ list_ends es k xs (after_on IsNoComma t.left xs h ends))
    (λ w. list_waits es vararg k v)

pub fields_moves : (fs : Fields) (vararg : Bool) (o : Line) (k : Table → Reader) (s t : State) → s.left ≡ print_fields fs t.left → AreValidFields vararg fs →
    Moves (more_fields o tree.no_fields k) s (more_fields o fs k) t
fields_moves fs vararg o k s t printed v =
    over (print_fields fs) _ _ s t (fields_before fs) printed (λ xs h. fields_read fs vararg o k xs v) (waits_as _ (more_fields o fs k) (fields_read fs vararg o k [] v))

pub names_moves : (ns : NameList) (r : Reader) (k : NameList → Reader) (vararg : NameList → Line → Line → Reader) (s t : State) → s.left ≡ print_names ns t.left →
    ((n : Bytes) (l : Line) → feed r (Name n) l ≡ more_names (tree.first_name l n) k vararg) → Moves r s (more_names ns k vararg) t
names_moves ns r k vararg s t printed begins =
    over (print_names ns) _ _ s t (names_before ns) printed (λ xs h. names_read ns r k vararg xs begins) (waits_as _ (more_names ns k vararg) (names_read ns r k vararg [] begins))

pub names_ended : (ns : NameList) (r : Reader) (k : NameList → Reader) (vararg : NameList → Line → Line → Reader) (s t : State) → s.left ≡ print_names ns t.left →
    ((n : Bytes) (l : Line) → feed r (Name n) l ≡ more_names (tree.first_name l n) k vararg) → IsNoComma (ahead t) → Moves r s (k ns) t
names_ended ns r k vararg s t printed begins ends =
    over (print_names ns) _ _ s t (names_before ns) printed (λ xs h.
    names_read ns r k vararg xs begins ∙ names_end ns k vararg xs (after_on IsNoComma t.left xs h ends))
    (λ w. waits_as _ (more_names ns k vararg) (names_read ns r k vararg [] begins) tt)

pub funcname_moves : (f : FuncName) (r : Reader) (k : FuncName → Reader) (s t : State) → s.left ≡ print_funcname f t.left →
    ((n : Bytes) (l : Line) → feed r (Name n) l ≡ more_funcname (tree.root_name l n) k) → Moves r s (more_funcname f k) t
funcname_moves f r k s t printed begins =
    over (print_funcname f) _ _ s t (funcname_before f) printed (λ xs h. funcname_read f r k xs begins) (waits_as _ (more_funcname f k) (funcname_read f r k [] begins))

pub body_moves : (b : FuncBody) (k : FuncBody → Reader) (s t : State) → s.left ≡ print_funcbody b t.left → IsValidBody b → Moves (token (body k)) s (k b) t
body_moves b k s t printed v =
    let reads = λ (xs : List Lexeme). body_read b (token (body k)) k xs (λ o. refl) v in
    over (print_funcbody b) _ _ s t (body_before b) printed (λ xs h. reads xs) (waits_as _ (k b) (reads []))
