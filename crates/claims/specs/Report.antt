-- What is claimed of a report, in statements and the two definitions that they add (document 01, "Kinds, Chow, report"; document 02, §1 and §2).
-- They cite the definitions that the contracts of the lines cite. Assumes nothing.
use Rattle.std.specs.Prelude.{◌≡◌, Bool, true, false, List, [], ◌∷◌, ℕ, ◌+◌, ◌*◌, ◌-◌, ◌%◌, ◌^◌, ◌≤◌, ◌<◌, length, get_or, Ok}
use Rattle.std.specs.Int.Count.{ones}
use Rattle.numbers.specs.Sum.{sum_below}
use Rattle.numbers.specs.Tests.{same_bool}
use Rattle.types.specs.declared.table.Table.{Table}
use Rattle.function.specs.Witness.{only_if, Balances, count_of}
use Rattle.table.specs.Table.{value, function_of}
use Rattle.job.specs.Machine.{fresh, decided}
use Rattle.job.specs.Calls.{call_budget, carry_on}
use Rattle.batch.specs.declared.progress.Phase.TheVariants.{Done}
use Rattle.heights.specs.Page.{manual_page}
use Rattle.notation.specs.WitnessText.{height}
use Rattle.reporting.specs.Lines.{too_long_line, mean_tenths, mean_text}
use Rattle.reporting.specs.Report.{input_most, report}
use Rattle.batch.specs.Progress.{start, lines_from, after}
use Rattle.claims.specs.Tables.{true_in}
use Rattle.claims.specs.Jobs.{Taken}

-- The lines that are made one after another are the report of the whole input, and after two lines more than the input has bytes the report
-- is done; of an input above 65,536 bytes it is one line. The job that it shows of a table is what one carry-on of 100,000 gives
pub record ReportIsItsLines : Type 0 where
  pub lines : (s : List ℕ) → length s ≤ input_most → (m : ℕ) → length s + 2 ≤ m → lines_from m s start ≡ report s
  pub ends : (s : List ℕ) (m : ℕ) → length s + 2 ≤ m → (after m s start).phase ≡ Done
  pub too_long : (s : List ℕ) → input_most < length s → report s ≡ too_long_line
  pub decides : (t : Table) → Taken t → carry_on (fresh t) call_budget ≡ Ok (decided t)

-- how far a number of tenths is from the exact mean, in units of a tenth divided by the number of gates
abbrev pub mean_error : (gates sum tenths : ℕ) → ℕ
mean_error gates sum tenths = (tenths * gates - 10 * sum) + (10 * sum - tenths * gates)

-- The mean of the last line is at most half a tenth off, and where it is half a tenth off its number of tenths is even. Without gates it is
-- "-". A sum of 45 over 4 gates, 11.25, prints as "11.2", and 227 over 20, 11.35, as "11.4"
pub record MeanIsRounded : Type 0 where
  pub near : (gates sum : ℕ) → 0 < gates → 2 * mean_error gates sum (mean_tenths gates sum) ≤ gates
  pub even : (gates sum : ℕ) → 0 < gates → 2 * mean_error gates sum (mean_tenths gates sum) ≡ gates → mean_tenths gates sum % 2 ≡ 0
  pub none : (sum : ℕ) → mean_text 0 sum ≡ 45 ∷ []
  pub down : mean_text 4 45 ≡ 49 ∷ 49 ∷ 46 ∷ 50 ∷ []
  pub up : mean_text 20 227 ≡ 49 ∷ 49 ∷ 46 ∷ 52 ∷ []

-- what the rows of one value add up to by the manual's page, each its count times its entry
abbrev pub page_sum : Table → Bool → List ℕ → ℕ
page_sum t side counts = sum_below (2 ^ t.n) (λ r. only_if (same_bool (value t r) side) (count_of counts r * get_or manual_page r 0))

-- An entry of the manual's page is the number of true inputs of its row, in every table that has the row; so the height of a witness is what its
-- true rows add up to by the page. Of one that balances it is what its false rows add up to, too. And it is the height that document 01 gets by
-- counting bits
pub record HeightsByThePage : Type 0 where
  pub entries : (n r : ℕ) → n ≤ 8 → r < 2 ^ n → get_or manual_page r 0 ≡ sum_below n (λ place. only_if (true_in r place) 1)
  pub true_rows_lem : (t : Table) (counts : List ℕ) → t.n ≤ 8 → height t counts ≡ page_sum t true counts
  pub false_rows : (t : Table) (counts : List ℕ) → t.n ≤ 8 → Balances (function_of t) (count_of counts) → height t counts ≡ page_sum t false counts
  pub bits : (t : Table) (counts : List ℕ) → height t counts ≡ sum_below (2 ^ t.n) (λ r. only_if (value t r) (count_of counts r * ones r))
