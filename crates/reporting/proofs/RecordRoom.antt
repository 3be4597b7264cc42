-- The line of a record fits into the room of a line where the job's numbers fit the code's types: most of it are the pairs of 256 rows,
-- each of at most 15 bytes. Assumes nothing.
use mathlib.Core.Path.{◌≡◌}
use mathlib.Core.List.{List}
use Prim.Native.Nat.{ℕ, zero, suc, ◌+◌, ◌*◌, ◌^◌, ◌≤◌, ◌<◌}
use native.Mathlib.Omega.{arith}
use lib.ListN.{length, get_or, length-append}
use lib.IntN.{ℤ, pos, negsuc}
use mir.Syntax.{w32}
use mir.Val.{SFits}
use Rattle.numbers.specs.Sum.{weighted_sum}
use Rattle.numbers.proofs.Int.{up, dn, size_add}
use Rattle.numbers.proofs.SumLaws.{weighted_sum_size}
use Rattle.numbers.proofs.Widths.{fits_size}
use Rattle.table.specs.Table.{rows}
use Rattle.function.specs.Witness.{count_of}
use Rattle.table.proofs.TableLaws.{rows_le}
use Rattle.job.specs.declared.job.Job.{Job}
use Rattle.job.specs.Calls.{gate_of}
use Rattle.types.specs.declared.stage.Stage.{Stage}
use Rattle.types.specs.declared.stage.Stage.TheVariants.{Open, Found, Looped, Binate}
use Rattle.text.specs.Text.{decimal, signed_text}
use Rattle.reporting.specs.Lines.{line_room, open_text, verdict_text, record_line}
use Rattle.notation.specs.GateText.{size, weights_text, gate_text}
use Rattle.notation.specs.WitnessText.{height, pair_text, pairs_text, witness_text}
use Rattle.text.proofs.DecimalLaws.{decimal_most}
use Rattle.notation.proofs.HeightLaws.{height_most}
use Rattle.notation.proofs.PairTextLaws.{pairs_text_zero, pairs_text_suc}

-- a number of at most so many digits, with its sign
signed_most : (d : ℕ) (z : ℤ) → up z + dn z < 10 ^ suc d → length (signed_text z) ≤ suc (suc d)
signed_most d (pos n) h = omega (arith, decimal_most d n (omega arith))
signed_most d (negsuc n) h = omega (arith, decimal_most d (suc n) (omega arith))

-- a pair, the pairs of so many rows, and so many weights
pair_most : (row count : ℕ) → row < 256 → count ≤ 4294967295 → length (pair_text row count) ≤ 15
pair_most row zero h k = omega arith
pair_most row (suc count) h k = rw length-append (omega (arith, decimal_most 2 row (omega arith), decimal_most 9 (suc count) (omega arith)))

pairs_most : (counts : List ℕ) → ((r : ℕ) → count_of counts r ≤ 4294967295) → (m row : ℕ) → row + m ≤ 256 → length (pairs_text counts m row) ≤ 15 * m
pairs_most counts small zero row h = rw pairs_text_zero (omega arith)
pairs_most counts small (suc m) row h =
    let first = pair_most row (count_of counts row) (omega arith) (small row) in
    rw (pairs_text_suc counts m row, length-append) (omega (arith, first, pairs_most counts small m (suc row) (omega arith)))

weights_most : (a : List ℤ) → ((place : ℕ) → SFits w32 (get_or a place (pos 0))) → (m place : ℕ) → length (weights_text a m place) ≤ 12 * m
unfolding weights_text
weights_most a fits zero place = omega arith
weights_most a fits (suc m) place =
    let weight = get_or a place (pos 0) in
    rw length-append (omega (arith, signed_most 9 weight (omega (arith, fits_size (fits place))), weights_most a fits m (suc place)))

-- the numbers of a job, in the ranges of the code's types
pub record JobFits (j : Job) : Type 0 where
  pub k : j.state.k < 2 ^ 32
  pub count : (r : ℕ) → count_of j.state.counts r ≤ 4294967295
  pub weights : length j.state.v.a ≡ 8
  pub weight : (place : ℕ) → SFits w32 (get_or j.state.v.a place (pos 0))
  pub threshold : SFits w32 j.state.v.b

module _ (j : Job) (fits : JobFits j) where
  -- the size, K, and each kind of verdict
  size_most : up (size (gate_of j)) + dn (size (gate_of j)) ≤ 9 * 2 ^ 31
  unfolding size
  size_most =
      let sum = weighted_sum j.state.v.a (λ place. 1) in
      let weighed = weighted_sum_size j.state.v.a (λ place. 1) 1 (2 ^ 31) (λ place h. omega arith) (λ place h. fits_size (fits.weight place)) in
      omega (arith, fits.weights, weighed, fits_size fits.threshold, size_add sum j.state.v.b)

  k_most : length (decimal j.state.k) ≤ 10
  k_most = decimal_most 9 j.state.k (omega (arith, fits.k))

  gate_most : j.table.n ≤ 8 → length (gate_text j.state.k (gate_of j)) ≤ 134
  unfolding gate_text size
  gate_most h =
      let total = signed_most 10 (size (gate_of j)) (omega (arith, size_most)) in
      let threshold = signed_most 9 j.state.v.b (omega (arith, fits_size fits.threshold)) in
      simp length-append (omega (arith, k_most, total, weights_most j.state.v.a fits.weight j.table.n 0, threshold))

  witness_most : j.table.n ≤ 8 → length (witness_text j.state.k j.table j.state.counts) ≤ 3867
  unfolding witness_text
  witness_most h =
      let tall = decimal_most 12 (height j.table j.state.counts) (omega (arith, height_most j.table j.state.counts fits.count h)) in
      simp length-append (omega (arith, k_most, tall, rows_le h, pairs_most j.state.counts fits.count (rows j.table) 0 (omega (arith, rows_le h))))

  verdict_most : j.table.n ≤ 8 → (x : Stage) → length (verdict_text x j) ≤ 3867
  unfolding open_text
  verdict_most h Open = omega (arith, k_most)
  verdict_most h Found = omega (arith, gate_most h)
  verdict_most h Looped = witness_most h
  verdict_most h Binate = witness_most h

  -- a line with a position of 64 bits
  pub record_room : (position : ℕ) → position < 2 ^ 64 → j.table.n ≤ 8 → length (record_line position j) ≤ line_room
  unfolding record_line
  record_room position p h =
      simp length-append (omega (arith, decimal_most 19 position (omega arith), decimal_most 0 j.table.n (omega arith), verdict_most h j.state.stage))
