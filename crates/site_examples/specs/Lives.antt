-- What comes of a thread that runs the block, by the evaluator, and of a handler with such a thread.
use Rattle.std.specs.Prelude.{◌≡◌, ℕ, List, [], ◌∷◌, codes}
use Rattle.std.specs.Global.{Global}
use Rattle.lua_values.specs.NativeCalls.{Meaning}
use Rattle.lua_values.specs.declared.values.Value.TheVariants.{Closure}
use Rattle.lua_meaning.specs.declared.resumes.Resumed.{Resumed}
use Rattle.lua_meaning.specs.Evaluator.{Resume}
use Rattle.lua_meaning.specs.Life.{life}
use Rattle.http_in.specs.declared.heads.Head.{Head}
use Rattle.uri_args.specs.declared.targets.Target.{Target}
use Rattle.request_api.specs.Replies.{after_print}
use Rattle.request_api.specs.Requests as request
use Rattle.run_threads.specs.declared.handlers.End.TheVariants.{Ended}
use Rattle.run_threads.specs.Handlers.{handled}
use Rattle.site_examples.specs.Site.{hi, hi_store, says}
use Rattle.site_examples.specs.Program.{hi_setting}

-- The life of a thread that calls the block's closure, as the evaluator has it, is what the site says of the block: from the site's store on, whatever it
-- is resumed with.
abbrev pub IsItsLife : Type 0
IsItsLife =
    (heap : Global) (others : ℕ) (meaning : Meaning) (answer : Resumed) (more : List Resume)
    → let resumes = (record { store = hi_store; answer = answer }) ∷ more in life (hi_setting heap others meaning) (Closure 0) [] resumes ≡ says hi resumes

-- the handler's thread says one line for each request, and ends
abbrev pub SaysOneLine : Type 0
SaysOneLine =
    (head : Head) (target : Target)
    → handled (says hi) hi_store (request.begun head target 0)
    ≡ record { req = after_print (request.begun head target 0) 3; pieces = codes "hi\n" ∷ []; end = Ended }
