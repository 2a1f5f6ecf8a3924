-- Values that are no text.
use Rattle.resty_base.specs.declared.dictionary.DictValue.{DictValue}
use Rattle.resty_base.specs.declared.dictionary.DictValue.TheVariants.{Text}

-- a number or a truth: a copy of it shares nothing
abbrev pub IsPlain : DictValue → Type 0
IsPlain (Text t) = ⊥
IsPlain v = Unit {0}
