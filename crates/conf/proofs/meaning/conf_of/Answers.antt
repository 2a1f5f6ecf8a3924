-- The configuration says what its parts say.
use Rattle.std.proofs.Common.{◌≡◌, ℕ, List, codes, map, Option, ap, ◌∙◌, arith}
use Rattle.std.proofs.lemmas.Grind.{common_steps}
use Rattle.conf_rules.specs.declared.directives.Directive.TheVariants as directive
use Rattle.conf.specs.Blocks.{effect_in}
use Rattle.conf.specs.Inheritance.{text_or}
use Rattle.conf.specs.Meaning.{server_conf, conf_of}
use Rattle.conf.specs.declared.sites.Block.{Block}
use Rattle.conf.specs.declared.sites.Conf.{Conf}
use Rattle.conf.specs.declared.sites.ServerConf.{ServerConf}
use Rattle.conf.specs.declared.sites.ZoneConf.{ZoneConf}
use Rattle.conf.proofs.meaning.conf_of.Goals as goal

-- a configuration is another one whose parts are equal
same_parts : (other : Conf) (port connections level : ℕ) (zones : List ZoneConf) (modules : List ℕ) (blocks : List Block) (init : Option ℕ) (default : ℕ) (servers : List ServerConf)
    → port ≡ other.port → connections ≡ other.connections → level ≡ other.log_level → zones ≡ other.zones → modules ≡ other.«package» → blocks ≡ other.blocks → init ≡ other.init
    → default ≡ other.default_server → servers ≡ other.servers
    → (let made : Conf = record {
      port = port;
      connections = connections;
      log_level = level;
      zones = zones;
      «package» = modules;
      blocks = blocks;
      init = init;
      default_server = default;
      servers = servers;
    } in made) ≡ other
same_parts other port connections level zones modules blocks init default servers p c l z m b i d s = rw (p, c, l, z, m, b, i, d, s)

pub returns-clause-value : goal.returns-clause-value
returns-clause-value c =
    let numbers = c.numbers_of-numbers.ensures in
    let http = c.as_slice-http.ensures.value in
    same_parts (conf_of c.args.nest.now) _ _ _ _ _ _ _ _ _ numbers.port numbers.connections numbers.level c.in_ok-zones.ensures
    (c.in_ok-package.ensures ∙ ap (text_or (codes "lua/?.lua")) (c.effect_in.ensures ∙ ap (effect_in directive.LuaPackagePath) http))
    c.take-2.ensures.taken numbers.init numbers.default
    (c.in_ok-servers.ensures ∙ (ap (λ said. map (server_conf said) c.take.result) http ∙ ap (map (server_conf c.args.nest.now.http)) c.take.ensures.taken))

pub returns-clause-whole : goal.returns-clause-whole
returns-clause-whole c = grind (arith, common_steps)
