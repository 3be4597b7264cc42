-- What `clear` leaves of the counts: where those past the rows that it clears are 0, all are. Assumes nothing.
use Rattle.std.specs.Prelude.{◌≡◌, ℕ, ◌+◌, ◌-◌, ◌≤◌, List, length, get_or, drop}
use mathlib.Core.Path.{sym, ◌∙◌, ap}
use native.Mathlib.Decide.{dec_le}
use native.Mathlib.Omega.{arith}
use lib.ListN.{get_or-append}
use lib.Seq.{ext_get_or}
use Rattle.numbers.specs.Tabulate.{tabulate}
use Rattle.numbers.proofs.TabulateLaws.{filled, get_d_unfilled, length_tabulate, get_d_tabulate, length_filled}
use Rattle.function.specs.Witness.{zeros}
use Rattle.function.proofs.CountLaws.{get_d_zeros}

-- what it stores
abbrev pub uncounted : ℕ → ℕ
uncounted r = 0

pub cleared_zeros : (counts : List ℕ) (rows : ℕ) → length counts ≡ 256 → rows ≤ 256 → ((r : ℕ) → rows ≤ r → get_or counts r 0 ≡ 0)
    → filled uncounted counts rows ≡ zeros
cleared_zeros counts rows shaped few past =
    ext_get_or 0 (filled uncounted counts rows) zeros (length_filled uncounted counts rows (omega (arith, shaped)) ∙ shaped) (λ r h. at r (dec_le rows r))
  where
    at : (r : ℕ) → Dec (rows ≤ r) → get_or (filled uncounted counts rows) r 0 ≡ get_or zeros r 0
    at r (yes behind) =
        let there : rows + (r - rows) ≡ r = omega arith in
        ap (λ (x : ℕ). get_or (filled uncounted counts rows) x 0) (sym there)
        ∙ get_d_unfilled uncounted counts rows (r - rows) 0
        ∙ ap (λ (x : ℕ). get_or counts x 0) there
        ∙ past r behind
        ∙ sym (get_d_zeros r)
    at r (no inside) =
        get_or-append (tabulate rows uncounted) (drop rows counts) 0 r (omega (arith, length_tabulate uncounted rows))
        ∙ get_d_tabulate uncounted rows r 0 (omega arith)
        ∙ sym (get_d_zeros r)
