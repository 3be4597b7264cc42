-- A witness: the ranges of its counts (document 01, "Table, gate, witness"). `Witness` is the array that code holds. Definitions only.
-- Assumes nothing.
use Rattle.std.specs.Prelude.{◌≡◌, Bool, not, ◌||◌, List, ℕ, ◌^◌, ◌<◌, length, drop}
use Rattle.numbers.specs.Tests.{all_at_most}
use Rattle.types.specs.declared.table.Table.{Table}
use Rattle.types.specs.declared.witness.Witness.{Witness}
use Rattle.function.specs.Witness.{count_of}
use Rattle.table.specs.Table.{rows}

-- a count lies in 0 to 1,000,000
abbrev pub count_limit : ℕ
count_limit = 1000000

-- inside: an array of counts that code lends, 256 numbers of 32 bits
pub record CountArray (counts : List ℕ) : Type 0 where
  pub size : length counts ≡ 256
  pub fits : (r : ℕ) → count_of counts r < 2 ^ 32

-- refusal 8 of a witness held as an array: all 0, a count too large, or a row past the table not 0
unfoldable pub unfit : Table → Witness → Bool
unfolding all_at_most
unfit t w = all_at_most 0 w.counts || not (all_at_most count_limit w.counts) || not (all_at_most 0 (drop (rows t) w.counts))
