-- The lines of a report (document 01, "Kinds, Chow, report"). Definitions only. Assumes nothing.
use Rattle.std.specs.Prelude.{cond, List, [], ◌∷◌, ◌++◌, ℕ, zero, suc, ◌+◌, ◌*◌, ◌/◌, ◌%◌, ltb}
use Rattle.job.specs.declared.job.Job.{Job}
use Rattle.types.specs.declared.stage.Stage.{Stage}
use Rattle.types.specs.declared.stage.Stage.TheVariants.{Open, Found, Looped, Binate}
use Rattle.job.specs.Calls.{gate_of}
use Rattle.reporting.specs.declared.tally.Tally.{Tally}
use Rattle.text.specs.Text.{decimal, spaced, line_feed}
use Rattle.notation.specs.GateText.{gate_text}
use Rattle.notation.specs.WitnessText.{witness_text}

-- the room that every line fits into
abbrev pub line_room : ℕ
line_room = 4096

-- ---- S: K

unfoldable pub open_text : ℕ → List ℕ
open_text k = spaced (83 ∷ []) ++ spaced (decimal k)

-- ---- the line of a record: position, n, then G, N or S by the job

abbrev pub verdict_text : Stage → Job → List ℕ
verdict_text Open j = open_text j.state.k
verdict_text Found j = gate_text j.state.k (gate_of j)
verdict_text Looped j = witness_text j.state.k j.table j.state.counts
verdict_text Binate j = witness_text j.state.k j.table j.state.counts

unfoldable pub record_line : ℕ → Job → List ℕ
record_line position j = decimal position ++ (spaced (decimal j.table.n) ++ (verdict_text j.state.stage j ++ line_feed))

-- ---- a refusal: position, R, number; and the only line of an input that is too long

unfoldable pub refusal_line : ℕ → ℕ → List ℕ
refusal_line position number = decimal position ++ (spaced (82 ∷ []) ++ (spaced (decimal number) ++ line_feed))

abbrev pub too_long_line : List ℕ
too_long_line = 82 ∷ 32 ∷ 49 ∷ 53 ∷ 10 ∷ []

-- ---- last: records read whole, numbers of G, N, S, and the mean K of the G lines in tenths, "-" if none

-- rounded half to even (document 02, §1): the whole tenths in the exact mean, one more past the half, and on an exact half the even one of
-- the two
abbrev pub mean_tenths : (gates sum : ℕ) → ℕ
mean_tenths gates sum =
    let below = (10 * sum) / gates in
    let twice = 2 * ((10 * sum) % gates) in
    cond (ltb twice gates) below (cond (ltb gates twice) (below + 1) (below + below % 2))

abbrev pub mean_text : (gates sum : ℕ) → List ℕ
mean_text zero sum = 45 ∷ []
mean_text (suc gates) sum = decimal (mean_tenths (suc gates) sum / 10) ++ (46 ∷ decimal (mean_tenths (suc gates) sum % 10))

unfoldable pub last_line : Tally → List ℕ
last_line t =
    decimal t.records
    ++ (spaced (decimal t.gates) ++ (spaced (decimal t.witnesses) ++ (spaced (decimal t.opens) ++ (spaced (mean_text t.gates t.sum) ++ line_feed))))
