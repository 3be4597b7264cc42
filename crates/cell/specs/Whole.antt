-- Tables with every row cared for, as callers make them of a number of inputs and value bits (document 02, §3). Definitions only. Assumes
-- nothing.
use Rattle.std.specs.Prelude.{cond, List, ℕ, ltb, replicate}
use Rattle.types.specs.declared.table.Table.{Table}
use Rattle.table.specs.Table.{input_limit, whole_table}

-- the table of n inputs with these value bits, and every row cared for; above eight inputs, which every call refuses, no row is
abbrev pub as_whole : ℕ → List ℕ → Table
as_whole n bits = cond (ltb input_limit n) (record { n = n; bytes = bits; cares = replicate 32 0 }) (whole_table n bits)
