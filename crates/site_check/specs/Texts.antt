-- Faults of a site, the line of each, and what is said of it.
use Rattle.std.specs.Prelude.{ℕ, List, codes}
use Rattle.conf.specs.declared.faults.ConfFault.{ConfFault}
use Rattle.conf.specs.declared.faults.ConfFault.TheVariants as conf
use Rattle.lua_lexer.specs.declared.tokens.LexFault.{LexFault}
use Rattle.lua_lexer.specs.declared.tokens.LexFault.TheVariants as lex
use Rattle.lua_parser_base.specs.declared.faults.ParseFault.{ParseFault}
use Rattle.lua_parser_base.specs.declared.faults.ParseFault.TheVariants as parse
use Rattle.site_check.specs.declared.faults.CheckFault.{CheckFault}
use Rattle.site_check.specs.declared.faults.CheckFault.TheVariants.{Conf, Lex, Parse, Memory}

-- a fault of a configuration, of tokens and of the grammar as one of a site
abbrev pub of_conf : ConfFault → CheckFault
of_conf conf.Memory = Memory
of_conf fault = Conf fault

abbrev pub of_tokens : LexFault → CheckFault
of_tokens lex.Memory = Memory
of_tokens fault = Lex fault

abbrev pub of_grammar : ParseFault → CheckFault
of_grammar parse.Memory = Memory
of_grammar fault = Parse fault

-- the line of each
abbrev pub conf_line : ConfFault → ℕ
conf_line (conf.At line) = line
conf_line (conf.Unknown line) = line
conf_line (conf.Twice line) = line
conf_line (conf.Value line) = line
conf_line (conf.Place line) = line
conf_line (conf.Block line) = line
conf_line conf.Memory = 0

abbrev pub lex_line : LexFault → ℕ
lex_line (lex.BadByte line) = line
lex_line (lex.OpenString line) = line
lex_line (lex.OpenComment line) = line
lex_line (lex.BadEscape line) = line
lex_line (lex.Fraction line) = line
lex_line (lex.Range line) = line
lex_line (lex.TooLong line) = line
lex_line lex.Memory = 0

abbrev pub parse_line : ParseFault → ℕ
parse_line (parse.At line) = line
parse_line (parse.Depth line) = line
parse_line (parse.Locals line) = line
parse_line (parse.Upvalues line) = line
parse_line (parse.Ambiguous line) = line
parse_line (parse.BreakOutside line) = line
parse_line (parse.VarargOutside line) = line
parse_line parse.Memory = 0

-- the line of a fault, 0 of out of memory
abbrev pub line_of : CheckFault → ℕ
line_of (Conf fault) = conf_line fault
line_of (Lex fault) = lex_line fault
line_of (Parse fault) = parse_line fault
line_of Memory = 0

unfoldable pub conf_text : ConfFault → List ℕ
conf_text (conf.At line) = codes "syntax error"
conf_text (conf.Unknown line) = codes "unknown directive"
conf_text (conf.Twice line) = codes "given twice"
conf_text (conf.Value line) = codes "bad value"
conf_text (conf.Place line) = codes "not allowed here"
conf_text (conf.Block line) = codes "lua block is not closed"
conf_text conf.Memory = codes "out of memory"

unfoldable pub lex_text : LexFault → List ℕ
lex_text (lex.BadByte line) = codes "lua: BadByte"
lex_text (lex.OpenString line) = codes "lua: OpenString"
lex_text (lex.OpenComment line) = codes "lua: OpenComment"
lex_text (lex.BadEscape line) = codes "lua: BadEscape"
lex_text (lex.Fraction line) = codes "lua: Fraction"
lex_text (lex.Range line) = codes "lua: Range"
lex_text (lex.TooLong line) = codes "lua: TooLong"
lex_text lex.Memory = codes "out of memory"

unfoldable pub parse_text : ParseFault → List ℕ
parse_text (parse.At line) = codes "lua: At"
parse_text (parse.Depth line) = codes "lua: Depth"
parse_text (parse.Locals line) = codes "lua: Locals"
parse_text (parse.Upvalues line) = codes "lua: Upvalues"
parse_text (parse.Ambiguous line) = codes "lua: Ambiguous"
parse_text (parse.BreakOutside line) = codes "lua: BreakOutside"
parse_text (parse.VarargOutside line) = codes "lua: VarargOutside"
parse_text parse.Memory = codes "out of memory"

-- what is said of a fault: of one of a block of Lua `lua: ` and its name
unfoldable pub text_of : CheckFault → List ℕ
text_of (Conf fault) = conf_text fault
text_of (Lex fault) = lex_text fault
text_of (Parse fault) = parse_text fault
text_of Memory = codes "out of memory"
