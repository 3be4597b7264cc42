-- The kinds of inputs and Chow's parameters as bytes, a place after another (document 01, "Kinds, Chow, report"). Definitions only. Assumes
-- nothing.
use Rattle.std.specs.Prelude.{List, [], ◌∷◌, map, ℕ, ◌-◌, ◌/◌, ◌%◌, ℤ, pos, negsuc}
use Rattle.types.specs.declared.table.Table.{Table}
use Rattle.types.specs.declared.inputs.InputKind.{InputKind}
use Rattle.types.specs.declared.inputs.InputKind.TheVariants.{Idle, Rising, Falling, Binate}
use Rattle.table.specs.Inputs.{kinds_of}
use Rattle.table.specs.Chow.{chow_of}
use Rattle.inputs.specs.declared.asked.Asked.{Asked}
use Rattle.inputs.specs.declared.asked.Asked.TheVariants as Asked'

-- the byte of an input's kind
abbrev pub input_byte : InputKind → ℕ
input_byte Idle = 0
input_byte Rising = 1
input_byte Falling = 2
input_byte Binate = 3

-- a byte for each place
abbrev pub input_bytes : List InputKind → List ℕ
input_bytes kinds = map input_byte kinds

-- a signed number as two bytes hold it: a negative z as 65536 + z
abbrev pub word : ℤ → ℕ
word (pos x) = x % 65536
word (negsuc x) = 65535 - x % 65536

-- two bytes for each q, low byte first
unfoldable pub chow_bytes : List ℤ → List ℕ
chow_bytes [] = []
chow_bytes (q ∷ qs) = word q % 256 ∷ word q / 256 ∷ chow_bytes qs

-- what is asked of a table
abbrev pub asked_bytes : Asked → Table → List ℕ
asked_bytes Asked'.Kinds t = input_bytes (kinds_of t)
asked_bytes Asked'.Chow t = chow_bytes (chow_of t)
