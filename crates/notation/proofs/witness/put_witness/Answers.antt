-- `witness::put_witness` meets its contract: N, K, the height and the pairs are written one behind the other. Assumes nothing.
use mathlib.Core.List.{List, [], ◌∷◌, ◌++◌}
use Prim.Native.Nat.{ℕ}
use Rattle.types.specs.declared.table.Table.{Table}
use Rattle.table.specs.Table.{rows}
use Rattle.table.proofs.TableLaws.{rows_le}
use Rattle.codec.specs.Written.{Room}
use Rattle.text.specs.Text.{decimal, spaced}
use Rattle.text.proofs.FieldWriting.{Left, all_left, next_left}
use Rattle.notation.specs.WitnessText.{height, pairs_text, witness_text}
use Rattle.notation.proofs.witness.put_witness.Goals as goal

-- the fields, and the text from each on
abbrev letter : List ℕ
letter = spaced (78 ∷ [])

abbrev number : ℕ → List ℕ
number k = spaced (decimal k)

module _ (t : Table) (counts : List ℕ) where
  abbrev height_text : List ℕ
  height_text = spaced (decimal (height t counts))

  abbrev pairs : List ℕ
  pairs = pairs_text counts (rows t) 0

  abbrev from_height : List ℕ
  from_height = height_text ++ pairs

  abbrev from_k : ℕ → List ℕ
  from_k k = number k ++ from_height

  -- what is left at first
  at_letter : (out : List ℕ) (at k : ℕ) → Room out at (witness_text k t counts) → Left out at (witness_text k t counts) out at (letter ++ from_k k)
  unfolding witness_text
  at_letter out at k room = all_left out at (witness_text k t counts) room

pub put_pairs-requires : goal.put_pairs-requires
put_pairs-requires c =
    let a = c.args in
    let at_k = next_left letter (from_k a.table a.counts.now a.k) (at_letter a.table a.counts.now a.out.now a.at a.k c.requires.1) c.put_letter-here.ensures in
    let at_height = next_left (number a.k) (from_height a.table a.counts.now) at_k c.put_number-here.ensures in
    let at_pairs = next_left (height_text a.table a.counts.now) (pairs a.table a.counts.now) at_height (rw c.height_of.ensures at c.put_number-here-2.ensures) in
    rw c.row_count.ensures (rows_le c.requires.0, at_pairs.room)

pub returns : goal.returns
returns c =
    let a = c.args in
    let at_k = next_left letter (from_k a.table a.counts.now a.k) (at_letter a.table a.counts.now a.out.now a.at a.k c.requires.1) c.put_letter-here.ensures in
    let at_height = next_left (number a.k) (from_height a.table a.counts.now) at_k c.put_number-here.ensures in
    let at_pairs = next_left (height_text a.table a.counts.now) (pairs a.table a.counts.now) at_height (rw c.height_of.ensures at c.put_number-here-2.ensures) in
    at_pairs.done (rw c.row_count.ensures at c.put_pairs.ensures)
