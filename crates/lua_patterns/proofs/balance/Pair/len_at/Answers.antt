use Rattle.std.proofs.Common.{◌<◌, arith, length}
use Rattle.std.proofs.lemmas.Grind.{get_or_default_zero}
use Rattle.lua_patterns.proofs.Balancing.{search_found, search_missed, known_within, known_none}
use Rattle.lua_patterns.proofs.balance.Pair.len_at.Goals as goal

pub returns-in-Ok-clause-within : goal.returns-in-Ok-clause-within
returns-in-Ok-clause-within c =
    let found = search_found c.deref.result.now c.args.self.now.suffixes.items c.in_ok-suffix.suffix c.in-Ok.at c.deref.ensures.value c.in-Ok.ensures.position c.requires.rising in
    let beside : c.in-Ok.at < length c.args.self.now.lens.items = omega (arith, c.requires.both, found.0) in
    omega (
      arith,
      c.index.ensures,
      get_or_default_zero c.args.self.now.lens.items c.in-Ok.at c.index.result.now beside,
      known_within c.args.self.now.opening c.args.self.now.closing c.args.index c.in_ok-suffix.suffix c.in-Ok.at c.args.subject.now
          c.args.self.now.suffixes.items c.args.self.now.lens.items c.requires (omega arith) (omega arith) (omega arith) found.0 found.1,
    )

pub returns-in-Err-clause-value : goal.returns-in-Err-clause-value
returns-in-Err-clause-value c =
    let missed = search_missed c.deref.result.now c.args.self.now.suffixes.items c.in_ok-suffix.suffix c.in-Err.field-0 c.deref.ensures.value c.in-Err.ensures.position c.requires.rising in
    known_none c.args.self.now.opening c.args.self.now.closing c.args.index c.in_ok-suffix.suffix c.in-Err.field-0 c.args.subject.now
    c.args.self.now.suffixes.items c.args.self.now.lens.items c.requires (omega arith) (omega arith) missed.0 missed.1
