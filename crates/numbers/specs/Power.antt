-- The highest power of two (document 01, "The stepping machine"). Definitions only. Assumes nothing.
use Rattle.std.specs.Prelude.{cond, ℕ, ◌-◌, ◌^◌, eqb}
use Rattle.std.specs.Int.Count.{count_leading_zeros}

-- the highest power of two not above k, for k below 2^32, as the code's K is: from the leading zeros of its 32 bits; 0 for 0, and 2^31 from 2^32 on
unfoldable pub highest : ℕ → ℕ
highest k = cond (eqb k 0) 0 (2 ^ (31 - count_leading_zeros 32 k))
