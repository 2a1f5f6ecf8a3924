-- Where an assignment or a call is refused.
use Rattle.std.proofs.Common.{◌≡◌, ◌≤◌, ℕ, List, [], ◌∷◌, ◌++◌, refl, sym, ap, subst, arith, ◌∙◌, lit≤}
use Rattle.lua_ast.specs.declared.expressions.Expr.{Expr}
use Rattle.lua_lexer.specs.declared.tokens.Token.{Token}
use Rattle.lua_lexer.specs.declared.tokens.TokenKind.{TokenKind}
use Rattle.lua_lexer.specs.declared.tokens.TokenKind.TheVariants.{Word, Sign}
use Rattle.lua_lexer.specs.declared.signs.Sign.TheVariants as sign
use Rattle.lua_lexer.specs.declared.words.Word.TheVariants as word
use Rattle.lua_grammar.specs.Tree.{Line, PrefixExp, ExpList, Stat, VarList}
use Rattle.lua_grammar.specs.Tree as tree
use Rattle.lua_grammar.specs.Dead.{IsDead, VarsFrom}
use Rattle.lua_grammar.specs.Printing.{lexemes, a_sign, print_exp, print_varlist, a_kind}
use Rattle.lua_grammar.specs.Levels.{levels, height, prefix_height}
use Rattle.lua_grammar.specs.Validity.{IsCall, IsValid, IsValidPrefix, IsVariable}
use Rattle.lua_grammar.specs.Scopes.{Frame, Scope}
use Rattle.lua_grammar.specs.Resolution.{Resolves, ResolvesPrefix, ResolvesVars, prefix_line}
use Rattle.lua_grammar.specs.Waiting.{Reader, failed, token, more_vars, more_prefix}
use Rattle.lua_grammar.specs.Reading.{assigns_or_calls, begin_prefix, next_target, statement, feed}
use Rattle.lua_grammar.proofs.SameFrames.{vars_alike}
use Rattle.lua_grammar.proofs.Few.{few_before_it}
use Rattle.lua_grammar.proofs.Growing.{list_keeps, prefix_keeps}
use Rattle.lua_grammar.proofs.Stopping.{prefix_ends}
use Rattle.lua_grammar.specs.Stopping.{IsApart}
use Rattle.lua_parser_base.specs.declared.cursor.Parser.{Parser}
use Rattle.lua_parser_base.specs.declared.faults.ParseFault.{ParseFault}
use Rattle.lua_parser_base.specs.declared.faults.ParseFault.TheVariants.{At, Memory}
use Rattle.lua_parser_base.specs.declared.nodes.Form.TheVariants.{Variable, Paren}
use Rattle.lua_parser_base.specs.declared.nodes.Prefix.{Prefix}
use Rattle.lua_parser_base.specs.declared.nesting.Nesting.{Nesting}
use Rattle.lua_parser_base.specs.declared.beginnings.Begins.TheVariants as begins
use Rattle.lua_parser_base.specs.Fits.{FitsPrefix, FitsStat, FitsTarget, FitsValues, FitsVars}
use Rattle.lua_parser_base.specs.Kinds.{begins_of}
use Rattle.lua_parser_base.specs.Next.{IsKind, IsNext, Misses, OnAt, ahead, line_or}
use Rattle.lua_parser_base.specs.Nesting.{IsFresh}
use Rattle.lua_parser_base.specs.Readers.{Moves, Refuses}
use Rattle.lua_parser_base.specs.Reads.{ReadsPrefix, form_of}
use Rattle.lua_parser_base.specs.ReadsStatements.{ReadsMoreVars, ReadsTarget, ReadsVars}
use Rattle.lua_parser_base.specs.Refusals.{RefusesPrefix}
use Rattle.lua_parser_base.specs.States.{State, Stops, Takes, last_line, state}
use Rattle.lua_parser_base.specs.StatementRefusals.{RefusesAssignment, RefusesStat, RefusesTarget, RefusesValues}
use Rattle.lua_parser_base.proofs.Moving.{by_token, fails, here, not_first, on, refused_on, stays, supposes_on}
use Rattle.lua_parser_base.proofs.Printed.{prefix_ended, prefix_moves}
use Rattle.lua_parser_base.proofs.Productions.{apart_there}
use Rattle.lua_parser.proofs.RefusedLoops.{unfit_refused}

-- ---- what fits

-- no valid prefix is too high
low_prefix : (vararg : _) (p : PrefixExp) → IsValidPrefix vararg p → prefix_height p ≤ 4_000
unfolding IsValid height
low_prefix vararg (tree.variable l n) v = lit≤ tt
low_prefix vararg (tree.paren o e c) v = v.1
low_prefix vararg (tree.item p o e c) v = v.2
low_prefix vararg (tree.member p d l n) v = v.1
low_prefix vararg (tree.call p a) v = v.3
low_prefix vararg (tree.method p c l n a) v = v.3

fresh_prefix : (at free : Nesting) (enclosing : List Frame) (p : PrefixExp) → IsFresh at free → FitsTarget at enclosing p → FitsPrefix free enclosing p
fresh_prefix at free enclosing p fresh f = record {
  valid = subst (λ vararg. IsValidPrefix vararg p) (sym fresh.vararg) f.valid;
  deep = let d = f.deep in let e = fresh.depth in omega (arith, d, e);
  low = let h = low_prefix at.vararg p f.valid in let r = fresh.room in omega (arith, h, r);
  resolvable = f.resolvable;
}

vars_fit : (at : Nesting) (enclosing : List Frame) (vs : VarList) (q : Line) (es : ExpList) → FitsStat at enclosing (tree.assign vs q es) → FitsVars at enclosing vs
unfolding levels IsValid Resolves
vars_fit at enclosing vs q es f =
    let (targets, values, m, p, r, i) = f.resolvable.resolved in
    record {
      valid = f.valid.0;
      deep = let d = f.deep in omega (arith, d);
      resolvable = record { before = f.resolvable.before; out = targets.value.items; after = m; same = f.resolvable.same; resolved = p; few = few_before_it (list_keeps es m values.value.items f.resolvable.after r) f.resolvable.few };
    }

values_fit : (at : Nesting) (enclosing : List Frame) (vs : VarList) (q : Line) (es : ExpList) (s t : Scope) (xs : List Expr) → s.enclosing ≡ enclosing → ResolvesVars vs s xs t →
    FitsStat at enclosing (tree.assign vs q es) → FitsValues at t.enclosing es
unfolding levels IsValid Resolves
values_fit at enclosing vs q es s t xs here first f =
    let (targets, values, m, p, r, i) = f.resolvable.resolved in
    let one = vars_alike vs f.resolvable.before s targets.value.items xs m t p first (record { enclosing = f.resolvable.same ∙ sym here }) in
    record {
      valid = f.valid.1;
      deep = let d = f.deep in omega (arith, d);
      resolvable = record { before = m; out = values.value.items; after = f.resolvable.after; same = one.enclosing; resolved = r; few = f.resolvable.few };
    }

before_vars : (at : Nesting) (enclosing : List Frame) (vs : VarList) (c : Line) (p : PrefixExp) → FitsVars at enclosing (tree.more_vars vs c p) → FitsVars at enclosing vs
unfolding levels IsValid Resolves
before_vars at enclosing vs c p f =
    let (before, e, m, r, w, i) = f.resolvable.resolved in
    record {
      valid = f.valid.0;
      deep = let d = f.deep in omega (arith, d);
      resolvable = record { before = f.resolvable.before; out = before; after = m; same = f.resolvable.same; resolved = r; few = few_before_it (prefix_keeps p m e f.resolvable.after w) f.resolvable.few };
    }

first_vars_fit : (at : Nesting) (enclosing : List Frame) (first whole : VarList) → VarsFrom first whole → FitsVars at enclosing whole → FitsVars at enclosing first
first_vars_fit at enclosing first whole VarsFrom.alone f = f
first_vars_fit at enclosing first whole (VarsFrom.more vs c p from) f = first_vars_fit at enclosing first vs from (before_vars at enclosing vs c p f)

one_target_fits : (at : Nesting) (enclosing : List Frame) (p : PrefixExp) → FitsVars at enclosing (tree.one_var p) → FitsTarget at enclosing p
unfolding levels IsValid Resolves
one_target_fits at enclosing p f =
    let (e, r, i) = f.resolvable.resolved in
    record {
      valid = f.valid.0;
      variable = f.valid.1;
      deep = f.deep;
      resolvable = record { before = f.resolvable.before; out = e; after = f.resolvable.after; same = f.resolvable.same; resolved = r; few = f.resolvable.few };
    }

target_fits : (at : Nesting) (enclosing : List Frame) (vs : VarList) (c : Line) (p : PrefixExp) (s t : Scope) (xs : List Expr) → s.enclosing ≡ enclosing → ResolvesVars vs s xs t →
    FitsVars at enclosing (tree.more_vars vs c p) → FitsTarget at t.enclosing p
unfolding levels IsValid Resolves
target_fits at enclosing vs c p s t xs here first f =
    let (before, e, m, r, w, i) = f.resolvable.resolved in
    let one = vars_alike vs f.resolvable.before s before xs m t r first (record { enclosing = f.resolvable.same ∙ sym here }) in
    record {
      valid = f.valid.1;
      variable = f.valid.2;
      deep = let d = f.deep in omega (arith, d);
      resolvable = record { before = m; out = e; after = f.resolvable.after; same = one.enclosing; resolved = w; few = f.resolvable.few };
    }

call_fits : (at free : Nesting) (enclosing : List Frame) (p : PrefixExp) → IsFresh at free → FitsStat at enclosing (tree.call_statement p) → FitsPrefix free enclosing p
unfolding levels IsValid Resolves
call_fits at free enclosing p fresh f =
    let (e, r, i) = f.resolvable.resolved in
    record {
      valid = subst (λ vararg. IsValidPrefix vararg p) (sym fresh.vararg) f.valid.0;
      deep = let d = f.deep in let g = fresh.depth in omega (arith, d, g);
      low = let h = low_prefix at.vararg p f.valid.0 in let g = fresh.room in omega (arith, h, g);
      resolvable = record { before = f.resolvable.before; out = e; after = f.resolvable.after; same = f.resolvable.same; resolved = r; few = f.resolvable.few };
    }

-- ---- one more target

dead_target : (vs : VarList) (c : Line) (k : Stat → Reader) (p : PrefixExp) → (IsVariable p → IsDead (more_vars (tree.more_vars vs c p) k)) → IsDead (next_target vs c k p)
dead_target vs c k (tree.variable l n) dead = dead tt
dead_target vs c k (tree.item p o e x) dead = dead tt
dead_target vs c k (tree.member p d l n) dead = dead tt
dead_target vs c k other dead = tt

pub target_refused : (at free : Nesting) (fault : ParseFault) (s t : State) → IsFresh at free → RefusesPrefix free s t fault → RefusesTarget at s t fault
target_refused at free fault s t fresh refuses = λ vs c k suppose.
    refuses (next_target vs c k) (supposes_on fault (λ dead p not.
    dead_target vs c k p (λ variable. dead p (λ f. not (fresh_prefix at free s.scope.enclosing p fresh f)))) suppose)

-- a prefix alone, after which the reader fails
prefix_fails_there : (p : PrefixExp) (k : PrefixExp → Reader) (kind : TokenKind) (l : Line) → IsApart kind → k p ≡ failed → feed (more_prefix p k) kind l ≡ failed
prefix_fails_there p k kind l apart fails = prefix_ends p k (a_kind kind l []) apart ∙ ap (λ r. feed r kind l) fails

no_target : (vs : VarList) (c : Line) (k : Stat → Reader) (p : PrefixExp) → (form_of p ≡ Variable → ⊥) → next_target vs c k p ≡ failed
no_target vs c k (tree.variable l n) other = absurd (other refl)
no_target vs c k (tree.item p o e x) other = absurd (other refl)
no_target vs c k (tree.member p d l n) other = absurd (other refl)
no_target vs c k p other = refl

pub target_is_none : (at free : Nesting) (tokens : List Token) (s : State) (q : Parser) (p : Prefix) → ReadsPrefix free s p (state tokens q) → Stops (state tokens q) → (p.form ≡ Variable → ⊥) →
    RefusesTarget at s (state tokens q) (At (line_or (last_line (lexemes tokens)) (state tokens q).left))
target_is_none at free tokens s q p r stops other = λ vs c k suppose.
    refused_on (prefix_moves r.tree free.vararg (next_target vs c k) s (state tokens q) r.printed r.valid)
    (unfit_refused tokens q (more_prefix r.tree (next_target vs c k)) (λ line.
    prefix_fails_there r.tree (next_target vs c k) (ahead (state tokens q)) line (apart_there (state tokens q) stops) (no_target vs c k r.tree (λ is. other (sym r.form ∙ is))))
    tt)

-- ---- targets

next_is_target : (vs : VarList) (c : Line) (k : Stat → Reader) (p : PrefixExp) → IsVariable p → next_target vs c k p ≡ more_vars (tree.more_vars vs c p) k
next_is_target vs c k (tree.variable l n) is = refl
next_is_target vs c k (tree.item p o e x) is = refl
next_is_target vs c k (tree.member p d l n) is = refl
next_is_target vs c k (tree.paren o e x) is = absurd is
next_is_target vs c k (tree.call p a) is = absurd is
next_is_target vs c k (tree.method p x l n a) is = absurd is

pub no_more_vars : (at : Nesting) (m : State) (first out : List Expr) → out ≡ first → (line : ℕ) (s : State) (read : ReadsVars at line s first m) → ReadsMoreVars at line s read.tree out m m
no_more_vars at m first out same line s read =
    subst (λ xs. ReadsMoreVars at line s read.tree xs m m) (sym same) (record { whole = read; moves = λ k. here (more_vars read.tree k) m })

over_target : (at : Nesting) (vs : VarList) (c : ℕ) (k : Stat → Reader) (e : Expr) (m n t : State) → Takes (Sign sign.Comma) c m n → (r : ReadsTarget at n e t) →
    Moves (more_vars vs k) m (more_vars (tree.more_vars vs c r.tree) k) t
over_target at vs c k e m n t taken r =
    on (by_token (more_vars vs k) (Sign sign.Comma) c m n taken)
    (subst (λ z. Moves (token (begin_prefix (next_target vs c k))) n z t) (next_is_target vs c k r.tree r.variable)
    (prefix_ended r.tree at.vararg (next_target vs c k) n t r.printed r.valid r.ends))

pub more_vars_on : (at : Nesting) (line : ℕ) (s z m n t : State) (read : VarList) (before longer : List Expr) (e : Expr) (comma : ℕ) → ReadsMoreVars at line s read before z m →
    Takes (Sign sign.Comma) comma m n → ReadsTarget at n e t → longer ≡ before ++ e ∷ [] → ReadsMoreVars at line s read longer z t
unfolding print_exp levels IsValid Resolves
more_vars_on at line s z m n t read before longer e comma rs taken r is = record {
  whole = record {
    tree = tree.more_vars rs.whole.tree comma r.tree;
    printed = rs.whole.printed ∙ ap (print_varlist rs.whole.tree) (taken.printed ∙ ap (a_sign sign.Comma comma) r.printed);
    valid = (rs.whole.valid, r.valid, r.variable);
    deep = let d = rs.whole.deep in let e = r.deep in omega (arith, d, e);
    resolved = (before, e, m.scope, rs.whole.resolved, subst (λ x. ResolvesPrefix r.tree x e t.scope) taken.scope r.resolved, is);
    begins = rs.whole.begins;
    ends = r.ends;
  };
  moves = λ k. on (rs.moves k) (over_target at rs.whole.tree comma k e m n t taken r);
}

pub next_target_refused : (at : Nesting) (first : Expr) (before : List Expr) (comma : ℕ) (fault : ParseFault) (z m n t : State) →
    ((line : ℕ) (s : State) (read : ReadsVars at line s (first ∷ []) z) → ReadsMoreVars at line s read.tree before z m) → Takes (Sign sign.Comma) comma m n →
    RefusesTarget at n t fault → RefusesAssignment at first z t fault
next_target_refused at first before comma fault z m n t reads taken refuses = λ line s read k suppose.
    let more = reads line s read in
    refused_on (on (more.moves k) (by_token (more_vars more.whole.tree k) (Sign sign.Comma) comma m n taken))
    (refuses more.whole.tree comma k (supposes_on fault (λ dead p not those from q es.
    dead (tree.assign those q es) (λ f.
    not (subst (λ x. FitsTarget at x.enclosing p) (sym taken.scope)
    (target_fits at s.scope.enclosing more.whole.tree comma p s.scope m.scope before refl more.whole.resolved
    (first_vars_fit at s.scope.enclosing (tree.more_vars more.whole.tree comma p) those from (vars_fit at s.scope.enclosing those q es f)))))) suppose))

-- ---- after the targets

vars_fail : (vs : VarList) (k : Stat → Reader) (kind : TokenKind) (l : Line) → (kind ≡ Sign sign.Comma → ⊥) → (IsKind (Sign sign.Assign) kind → ⊥) → feed (more_vars vs k) kind l ≡ failed
vars_fail vs k (Sign sign.Comma) l comma assign = absurd (comma refl)
vars_fail vs k (Sign sign.Assign) l comma assign = absurd (assign refl)
vars_fail vs k kind l comma assign = refl

pub assignment_without_assign : (at : Nesting) (first : Expr) (targets : List Expr) (fault : ParseFault) (z m t : State) →
    ((line : ℕ) (s : State) (read : ReadsVars at line s (first ∷ []) z) → ReadsMoreVars at line s read.tree targets z m) → (IsNext (Sign sign.Comma) m → ⊥) →
    OnAt (Misses (IsKind (Sign sign.Assign)) m t) fault → RefusesAssignment at first z t fault
assignment_without_assign at first targets (At reported_at) z m t reads stops missing = λ line s read k suppose.
    let more = reads line s read in
    refused_on (more.moves k) (subst (λ x. Refuses (At reported_at) (more_vars more.whole.tree k) m x) (sym missing.same) (record {
      sticks = fails (At reported_at) (more_vars more.whole.tree k) m (λ l.
          vars_fail more.whole.tree k (ahead m) l (not_first (Sign sign.Comma) m.left (λ is. cc) stops) (not_first (Sign sign.Assign) m.left (λ is. cc) missing.missing)) tt;
      reports = missing.reported;
    }))
assignment_without_assign at first targets Memory z m t reads stops missing = λ line s read k suppose. absurd suppose
assignment_without_assign at first targets other z m t reads stops missing = absurd missing

pub assigned_refused : (at : Nesting) (first : Expr) (targets : List Expr) (equals : ℕ) (fault : ParseFault) (z m n t : State) →
    ((line : ℕ) (s : State) (read : ReadsVars at line s (first ∷ []) z) → ReadsMoreVars at line s read.tree targets z m) → Takes (Sign sign.Assign) equals m n →
    RefusesValues at n t fault → RefusesAssignment at first z t fault
assigned_refused at first targets equals fault z m n t reads taken refuses = λ line s read k suppose.
    let more = reads line s read in
    refused_on (on (more.moves k) (by_token (more_vars more.whole.tree k) (Sign sign.Assign) equals m n taken))
    (refuses (λ es. k (tree.assign more.whole.tree equals es)) (supposes_on fault (λ dead es not.
    dead (tree.assign more.whole.tree equals es) (λ f.
    not (subst (λ x. FitsValues at x.enclosing es) (sym taken.scope) (values_fit at s.scope.enclosing more.whole.tree equals es s.scope m.scope targets refl more.whole.resolved f)))) suppose))

-- ---- a statement that begins with a prefix

statement_begins : (k : Stat → Reader) (kind : TokenKind) (l : Line) → begins_of kind ≡ begins.Prefix → statement k kind l ≡ begin_prefix (assigns_or_calls k) kind l
statement_begins k (Word word.Do) l is = cc
statement_begins k (Word word.While) l is = cc
statement_begins k (Word word.Repeat) l is = cc
statement_begins k (Word word.If) l is = cc
statement_begins k (Word word.For) l is = cc
statement_begins k (Word word.Function) l is = cc
statement_begins k (Word word.Local) l is = cc
statement_begins k kind l is = refl

begins_there : (k : Stat → Reader) (s : State) → begins_of (ahead s) ≡ begins.Prefix → Moves (token (statement k)) s (token (begin_prefix (assigns_or_calls k))) s
begins_there k s is = stays (token (statement k)) (token (begin_prefix (assigns_or_calls k))) s (λ l. statement_begins k (ahead s) l is) tt

over_first : (free : Nesting) (k : Stat → Reader) (s m : State) (p : Prefix) → begins_of (ahead s) ≡ begins.Prefix → (r : ReadsPrefix free s p m) → Stops m →
    Moves (token (statement k)) s (assigns_or_calls k r.tree) m
over_first free k s m p is r stops = on (begins_there k s is) (prefix_ended r.tree free.vararg (assigns_or_calls k) s m r.printed r.valid (apart_there m stops))

dead_prefix : (k : Stat → Reader) (p : PrefixExp) → (IsVariable p → IsDead (more_vars (tree.one_var p) k)) → (IsCall p → IsDead (k (tree.call_statement p))) → IsDead (assigns_or_calls k p)
dead_prefix k (tree.variable l n) assigns calls = assigns tt
dead_prefix k (tree.item p o e x) assigns calls = assigns tt
dead_prefix k (tree.member p d l n) assigns calls = assigns tt
dead_prefix k (tree.call p a) assigns calls = calls tt
dead_prefix k (tree.method p x l n a) assigns calls = calls tt
dead_prefix k (tree.paren o e x) assigns calls = tt

pub first_target_refused : (at free : Nesting) (fault : ParseFault) (s t : State) → begins_of (ahead s) ≡ begins.Prefix → IsFresh at free → RefusesPrefix free s t fault → RefusesStat at s t fault
first_target_refused at free fault s t is fresh refuses = λ k never suppose.
    refused_on (begins_there k s is) (refuses (assigns_or_calls k) (supposes_on fault (λ dead p not.
    dead_prefix k p (λ variable those from q es.
    dead (tree.assign those q es) (λ f.
    not (fresh_prefix at free s.scope.enclosing p fresh (one_target_fits at s.scope.enclosing p
    (first_vars_fit at s.scope.enclosing (tree.one_var p) those from (vars_fit at s.scope.enclosing those q es f))))))
    (λ call. dead (tree.call_statement p) (λ f. not (call_fits at free s.scope.enclosing p fresh f)))) suppose))

assigns : (k : Stat → Reader) (p : PrefixExp) → form_of p ≡ Variable → assigns_or_calls k p ≡ more_vars (tree.one_var p) k
assigns k (tree.variable l n) is = refl
assigns k (tree.item p o e x) is = refl
assigns k (tree.member p d l n) is = refl
assigns k (tree.paren o e x) is = cc
assigns k (tree.call p a) is = cc
assigns k (tree.method p x l n a) is = cc

variable_form : (p : PrefixExp) → form_of p ≡ Variable → IsVariable p
variable_form (tree.variable l n) is = tt
variable_form (tree.item p o e x) is = tt
variable_form (tree.member p d l n) is = tt
variable_form (tree.paren o e x) is = cc
variable_form (tree.call p a) is = cc
variable_form (tree.method p x l n a) is = cc

pub assignment_refused : (at free : Nesting) (fault : ParseFault) (s m t : State) (p : Prefix) → begins_of (ahead s) ≡ begins.Prefix → IsFresh at free → ReadsPrefix free s p m → Stops m →
    p.form ≡ Variable → RefusesAssignment at p.expr m t fault → RefusesStat at s t fault
unfolding print_exp levels IsValid Resolves
assignment_refused at free fault s m t p is fresh r stops form refuses = λ k never suppose.
    let read : ReadsVars at (prefix_line r.tree) s (p.expr ∷ []) m = record {
      tree = tree.one_var r.tree;
      printed = r.printed;
      valid = (subst (λ vararg. IsValidPrefix vararg r.tree) fresh.vararg r.valid, variable_form r.tree (r.form ∙ form));
      deep = let d = r.deep in let e = fresh.depth in omega (arith, d, e);
      resolved = (p.expr, r.resolved, refl);
      begins = refl;
      ends = apart_there m stops;
    } in
    refused_on (subst (λ q. Moves (token (statement k)) s q m) (assigns k r.tree (r.form ∙ form)) (over_first free k s m p is r stops))
    (refuses (prefix_line r.tree) s read k suppose)

no_statement : (k : Stat → Reader) (p : PrefixExp) → form_of p ≡ Paren → assigns_or_calls k p ≡ failed
no_statement k (tree.paren o e x) is = refl
no_statement k (tree.variable l n) is = cc
no_statement k (tree.item p o e x) is = cc
no_statement k (tree.member p d l n) is = cc
no_statement k (tree.call p a) is = cc
no_statement k (tree.method p x l n a) is = cc

pub statement_is_none : (at free : Nesting) (tokens : List Token) (s : State) (q : Parser) (p : Prefix) → begins_of (ahead s) ≡ begins.Prefix → ReadsPrefix free s p (state tokens q) →
    Stops (state tokens q) → p.form ≡ Paren → RefusesStat at s (state tokens q) (At (line_or (last_line (lexemes tokens)) (state tokens q).left))
statement_is_none at free tokens s q p is r stops form = λ k never suppose.
    refused_on (on (begins_there k s is) (prefix_moves r.tree free.vararg (assigns_or_calls k) s (state tokens q) r.printed r.valid))
    (unfit_refused tokens q (more_prefix r.tree (assigns_or_calls k)) (λ line.
    prefix_fails_there r.tree (assigns_or_calls k) (ahead (state tokens q)) line (apart_there (state tokens q) stops) (no_statement k r.tree (r.form ∙ form)))
    tt)
