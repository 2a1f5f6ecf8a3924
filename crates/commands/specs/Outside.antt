-- What contracts see of the program's outside at a moment.
use Rattle.resty_base.specs.Accounts.{Account}
use Rattle.resty_base.specs.FileMap.{FileAccount}
use Rattle.resty_world.specs.Book.{Book}

-- its files, its live world and its output
pub record Outside : Type 0 where
  pub files : FileAccount
  pub live : Book
  pub out : Account

abbrev pub outside : FileAccount → Book → Account → Outside
outside files live out = record { files = files; live = live; out = out }
