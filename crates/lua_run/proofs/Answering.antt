-- The reply to a request, for the scope that was found.
use Rattle.std.proofs.Common.{◌≡◌, ℕ, Some, Result, Ok, Err, IfOk, sym, ap, ◌∙◌}
use Rattle.conf.specs.declared.sites.Settings.{Settings}
use Rattle.request_api.specs.declared.requests.Req.{Req}
use Rattle.reply_stages.specs.Scopes.{Scope, settings_of, scope_of}
use Rattle.lua_run.specs.declared.answers.Replied.{Replied}
use Rattle.lua_run.specs.Answers.{Site, answer_in, replied, with_keepalive, reply_by, reply_of}

replied-is : (site : Site) (req kept : Req) (now : ℕ) (scope : Scope) (settings : Settings) (answer : Result ℕ ℕ)
    → scope_of site.conf req.target ≡ Some scope → settings ≡ settings_of scope → answer_in req.head.body scope ≡ answer
    → kept ≡ with_keepalive settings req → replied site kept settings.default_type answer now ≡ reply_of site req now
replied-is site req kept now scope settings answer found holds given is =
    ap (λ (k : Req). replied site k settings.default_type answer now) is
    ∙ ap (λ (s : Settings). replied site (with_keepalive s req) s.default_type answer now) holds
    ∙ ap (λ a. replied site (with_keepalive (settings_of scope) req) (settings_of scope).default_type a now) (sym given)
    ∙ sym (ap (λ o. reply_by site req o now) found)

pub reply-is : {E : Type 0} (result : Result Replied E) (site : Site) (req kept : Req) (now : ℕ) (scope : Scope) (settings : Settings) (answer : Result ℕ ℕ)
    → scope_of site.conf req.target ≡ Some scope → settings ≡ settings_of scope → answer_in req.head.body scope ≡ answer
    → kept ≡ with_keepalive settings req → IfOk result (λ r. r ≡ replied site kept settings.default_type answer now) → IfOk result (λ r. r ≡ reply_of site req now)
reply-is (Ok r) site req kept now scope settings answer found holds given is made =
    made ∙ replied-is site req kept now scope settings answer found holds given is
reply-is (Err e) site req kept now scope settings answer found holds given is made = tt
