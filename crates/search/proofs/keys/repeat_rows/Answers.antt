-- `keys::repeat_rows` meets its contract. The loop's invariant: each row below `row` and 32 has the bit of the row that it repeats, and
-- the rows from 32 on keep theirs. The measure is what is left of the 32 rows. Assumes nothing.
use mathlib.Core.Path.{◌≡◌, refl, sym, ◌∙◌, ap}
use mathlib.Core.Bool.{Bool, false}
use mathlib.Core.List.{List}
use Prim.Native.Nat.{ℕ, ◌+◌, ◌-◌, ◌%◌, ◌≤◌, ◌<◌}
use native.Mathlib.Nat.{mod-eq_of_lt, mod-eq-sub-mod}
use native.Mathlib.Decide.{dec_le}
use native.Mathlib.Omega.{arith}
use lib.ListN.{length, get_or, set}
use lib.Seq.{get_or-set_same, get_or-set_other}
use Rattle.search.proofs.keys.repeat_rows.Goals as goal

pub loop-row-init : goal.loop-row-init
loop-row-init c = (λ q l k. sym (ap (λ (p : ℕ). get_or c.args.bits.now p false) (mod-eq_of_lt l)), λ q l. refl)

-- the row that was stored has the bit of the row that it repeats, as those below it have
repeated : (bits old : List Bool) (rows row : ℕ) → 0 < rows → rows ≤ row → row < length bits
    → ((q : ℕ) → q < row → q < 32 → get_or bits q false ≡ get_or old (q % rows) false)
    → (q : ℕ) → q < row + 1 → q < 32 → Dec (row ≤ q) → get_or (set bits row (get_or bits (row - rows) false)) q false ≡ get_or old (q % rows) false
repeated bits old rows row some above within below q l k (yes last) =
    let same : row ≡ q = omega arith in
    rw (← same)
    (get_or-set_same bits row _ false within
    ∙ below (row - rows) (omega arith) (omega arith)
    ∙ ap (λ (p : ℕ). get_or old p false) (sym (mod-eq-sub-mod above)))
repeated bits old rows row some above within below q l k (no before) =
    get_or-set_other bits row q _ false (λ same. omega (arith, before)) ∙ below q (omega (arith, before)) k

pub loop-row-preserved : goal.loop-row-preserved
loop-row-preserved c =
    let head = c.loop-row in (
      λ q l k. repeated head.bits c.args.bits.now c.args.rows head.row c.requires.0 (omega arith) (omega arith) head.invariant.0 q l k (dec_le head.row q),
      λ q l. get_or-set_other head.bits head.row q _ false (λ same. omega arith) ∙ head.invariant.1 q l,
    )
