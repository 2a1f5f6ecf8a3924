-- The configuration of the exchange, item by item.
use Rattle.std.proofs.Common.{◌≡◌, ℕ, List, [], ◌∷◌, ◌++◌, refl}
use Rattle.std.specs.Prelude.{codes, drop}
use Rattle.lua_lexer.specs.Blocks.{block_end_of, closing_after, stretch, short_string_size}
use Rattle.lua_lexer.specs.Strings.{body_after, taken_along}
use Rattle.lua_lexer.specs.Comments.{is_comment}
use Rattle.lua_lexer.specs.Brackets.{is_bracket}
use Rattle.conf_rules.specs.Directives.{spelling, directives, directive_of, scope_of, form_of, may_repeat}
use Rattle.conf_rules.specs.Effects.{effect_of}
use Rattle.conf_text.specs.declared.endings.Ending.{Ending}
use Rattle.conf_text.specs.declared.endings.Ending.TheVariants.{Semicolon, Open, Close, Lua, End}
use Rattle.conf_text.specs.declared.items.Item.{Item}
use Rattle.conf_text.specs.Items.{ItemStands, ItemsStand, IsItems}
use Rattle.conf.specs.Reading.{IsConf, Fit}
use Rattle.conf.specs.Blocks.{start}
use Rattle.conf.specs.Meaning.{conf_of}
use Rattle.site_examples.specs.Site.{hi_conf}
use Rattle.site_examples.specs.Texts.{configuration_text}

abbrev item : List (List ℕ) → ℕ → Ending → ℕ → Item
item words line ending ending_line = record { words = words; line = line; ending = ending; ending_line = ending_line }

abbrev pub block : List ℕ
block = codes " ngx.say(\"hi\") "

abbrev before : List Item
before =
    item (codes "http" ∷ []) 1 Open 1
    ∷ item (codes "server" ∷ []) 1 Open 1
    ∷ item (codes "listen" ∷ codes "8080" ∷ []) 1 Semicolon 1
    ∷ item (codes "location" ∷ codes "/" ∷ []) 2 Open 2
    ∷ item (codes "content_by_lua_block" ∷ []) 2 (Lua block) 2
    ∷ item [] 2 Close 2
    ∷ item [] 3 Close 3
    ∷ item [] 3 Close 3
    ∷ []

-- the text after so many bytes
abbrev from : ℕ → List ℕ
from n = drop n configuration_text

stand-1 : ItemStands (from 0) 1 (item (codes "http" ∷ []) 1 Open 1) (from 6) 1
stand-1 = record { middle = from 4; middle_line = 1; words = (refl, (refl, refl)); end = refl; begins = refl; ending = refl; ending_line = refl; after = refl; after_line = refl }

stand-2 : ItemStands (from 6) 1 (item (codes "server" ∷ []) 1 Open 1) (from 15) 1
stand-2 = record { middle = from 13; middle_line = 1; words = (refl, (refl, refl)); end = refl; begins = refl; ending = refl; ending_line = refl; after = refl; after_line = refl }

stand-3 : ItemStands (from 15) 1 (item (codes "listen" ∷ codes "8080" ∷ []) 1 Semicolon 1) (from 28) 1
stand-3 = record { middle = from 27; middle_line = 1; words = (refl, (refl, (refl, refl))); end = refl; begins = refl; ending = refl; ending_line = refl; after = refl; after_line = refl }

stand-4 : ItemStands (from 28) 1 (item (codes "location" ∷ codes "/" ∷ []) 2 Open 2) (from 41) 2
stand-4 = record { middle = from 39; middle_line = 2; words = (refl, (refl, (refl, refl))); end = refl; begins = refl; ending = refl; ending_line = refl; after = refl; after_line = refl }

stand-5 : ItemStands (from 41) 2 (item (codes "content_by_lua_block" ∷ []) 2 (Lua block) 2) (from 80) 2
unfolding block_end_of closing_after stretch short_string_size body_after taken_along is_comment is_bracket
stand-5 = record { middle = from 62; middle_line = 2; words = (refl, (refl, refl)); end = refl; begins = refl; ending = refl; ending_line = refl; after = refl; after_line = refl }

stand-6 : ItemStands (from 80) 2 (item [] 2 Close 2) (from 82) 2
stand-6 = record { middle = from 80; middle_line = 2; words = (refl, refl); end = refl; begins = refl; ending = refl; ending_line = refl; after = refl; after_line = refl }

stand-7 : ItemStands (from 82) 2 (item [] 3 Close 3) (from 84) 3
stand-7 = record { middle = from 82; middle_line = 2; words = (refl, refl); end = refl; begins = refl; ending = refl; ending_line = refl; after = refl; after_line = refl }

stand-8 : ItemStands (from 84) 3 (item [] 3 Close 3) (from 86) 3
stand-8 = record { middle = from 84; middle_line = 3; words = (refl, refl); end = refl; begins = refl; ending = refl; ending_line = refl; after = refl; after_line = refl }

stand-9 : ItemStands (from 86) 3 (item [] 4 End 3) [] 4
stand-9 = record { middle = from 86; middle_line = 3; words = (refl, refl); end = refl; begins = refl; ending = refl; ending_line = refl; after = refl; after_line = refl }

stand : ItemsStand configuration_text 1 before (from 86) 3
stand = (
  from 6,
  (
    1,
    (
      stand-1,
      refl,
      (
        from 15,
        (
          1,
          (
            stand-2,
            refl,
            (
              from 28,
              (
                1,
                (
                  stand-3,
                  refl,
                  (
                    from 41,
                    (
                      2,
                      (
                        stand-4,
                        refl,
                        (
                          from 80,
                          (
                            2,
                            (
                              stand-5,
                              refl,
                              (
                                from 82,
                                (
                                  2,
                                  (
                                    stand-6,
                                    refl,
                                    (
                                      from 84,
                                      (
                                        3,
                                        (
                                          stand-7,
                                          refl,
                                          (from 86, (3, (stand-8, refl, (refl, refl)))),
                                        ),
                                      ),
                                    ),
                                  ),
                                ),
                              ),
                            ),
                          ),
                        ),
                      ),
                    ),
                  ),
                ),
              ),
            ),
          ),
        ),
      ),
    ),
  ),
)

items : IsItems configuration_text (before ++ item [] 4 End 3 ∷ [])
items = record { before = before; item = item [] 4 End 3; rest = from 86; line = 3; after = []; after_line = 4; all = refl; stand = stand; last = stand-9; nothing = refl }

-- the items fit, one after another
fit : (nest : _) × Fit start (before ++ item [] 4 End 3 ∷ []) nest
unfolding spelling directives directive_of scope_of form_of may_repeat effect_of
fit = (_, (_, (refl, (_, (refl, (_, (refl, (_, (refl, (_, (refl, (_, (refl, (_, (refl, (_, (refl, (_, (refl, refl)))))))))))))))))))

says : hi_conf ≡ conf_of fit.0
unfolding fit
says = refl

pub site : IsConf configuration_text hi_conf
site = record { items = before ++ item [] 4 End 3 ∷ []; nest = fit.0; has = items; fit = fit.1; says = says }
