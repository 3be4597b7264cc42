-- The kinds that a caller of the code takes. Definitions only. Assumes nothing.
use Rattle.std.specs.Prelude.{List}
use Rattle.codec.specs.Kind.{Head, every_kind, tables_alone}
use Rattle.heads.specs.declared.kind.Takes.{Takes}
use Rattle.heads.specs.declared.kind.Takes.TheVariants as Takes'

abbrev pub taken_by : Takes → List Head
taken_by Takes'.Every = every_kind
taken_by Takes'.Tables = tables_alone
