-- A function of inputs, as its rows (document 01, "Table, gate, witness"): what the machine sees of a table. Definitions only.
-- Assumes nothing.
use Rattle.std.specs.Prelude.{Bool, ℕ, suc, ◌+◌, ◌/◌, ◌%◌, ◌^◌, ◌≤◌}

-- a function of `places` inputs with levels 0 to `top`, specified on the rows that are cared for (the field's term: an incompletely specified
-- function). A table is one with top level 1
pub record Function : Type 0 where
  pub places : ℕ
  pub top : ℕ
  pub value : ℕ → Bool
  pub cared : ℕ → Bool

-- the level of a place (input i stands at place i − 1) in a row: a digit of the row's number, lowest first. In base 2 it is 1 where
-- the input is true
abbrev pub level : (base row place : ℕ) → ℕ
level base row place = row / base ^ place % base

-- the levels of a row
abbrev pub levels : Function → ℕ → ℕ → ℕ
levels f r = level (suc f.top) r

-- the number of rows
abbrev pub rows : Function → ℕ
rows f = suc f.top ^ f.places

-- the row with the place's input one level higher, where rows are numbers in a base; of a table's row that lacks the input, the row with it
abbrev pub raised_in : (base place r : ℕ) → ℕ
raised_in base place r = r + base ^ place

abbrev pub raised : Function → ℕ → ℕ → ℕ
raised f = raised_in (suc f.top)

-- what the code's arrays hold: eight weights, and 256 counts
pub record Fits (f : Function) : Type 0 where
  pub leveled : 1 ≤ f.top
  pub places : f.places ≤ 8
  pub rows : rows f ≤ 256
