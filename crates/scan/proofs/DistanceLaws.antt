-- Laws of the distance of a table's row: the partner of a row that lacks an input has the row's levels and that input besides, so its distance
-- is the row's and the input's weight; the distance of row 0; and the size of a distance. Assumes nothing.
use mathlib.Core.Path.{◌≡◌, ◌∙◌, ap}
use mathlib.Core.List.{List, [], ◌∷◌}
use Prim.Native.Nat.{ℕ, zero, suc, ◌+◌, ◌*◌, ◌^◌, ◌≤◌, ◌<◌}
use native.Mathlib.Omega.{arith}
use lib.ListN.{length, get_or}
use lib.IntN.{ℤ, pos, neg_ℤ, ◌+ℤ◌, ◌-ℤ◌, zero-*ℤ, +ℤ_idl, +ℤ_idr}
use Rattle.numbers.specs.Sum.{weighted_sum}
use Rattle.numbers.proofs.Int.{integers, up, dn, nat_abs_parts, parts_add, parts_sub, parts_neg, size_add}
use Rattle.numbers.proofs.Ring.{*ℤ_idl}
use Rattle.numbers.proofs.SumLaws.{weighted_sum_nil, weighted_sum_cons, weighted_sum_ext, weighted_sum_zero, weighted_sum_add, weighted_sum_size}
use Rattle.function.specs.Function.{level}
use Rattle.function.specs.Gate.{distance}
use Rattle.table.proofs.TableLaws.{level_lt, level_past, partner_level}
use Rattle.function.proofs.FunctionLaws.{unit}
use Rattle.function.proofs.RangeLaws.{InRange, in_range_at}

-- the level 1 at one place alone sums to its weight
weighted_sum_unit : (ws : List ℤ) (place : ℕ) → weighted_sum ws (unit place) ≡ get_or ws place (pos 0)
weighted_sum_unit [] place = weighted_sum_nil (unit place)
weighted_sum_unit (w ∷ ws) zero = rw (weighted_sum_cons w ws (unit 0), weighted_sum_zero ws, *ℤ_idl, +ℤ_idr)
weighted_sum_unit (w ∷ ws) (suc place) = rw (weighted_sum_cons w ws (unit (suc place)), weighted_sum_unit ws place, zero-*ℤ, +ℤ_idl)

-- a weight is added before T is taken off, or after
less_later : (s w th : ℤ) → s +ℤ w -ℤ th ≡ s -ℤ th +ℤ w
less_later s w th = omega (integers, parts_add s w, parts_sub (s +ℤ w) th, parts_sub s th, parts_add (s -ℤ th) w)

-- a partner's distance is the row's and the weight of the input
pub partner_distance : (ws : List ℤ) (th : ℤ) (place r : ℕ) → level 2 r place ≡ 0
    → distance ws th (level 2 (r + 2 ^ place)) ≡ distance ws th (level 2 r) +ℤ get_or ws place (pos 0)
unfolding distance
partner_distance ws th place r e =
    ap (λ (s : ℤ). s -ℤ th)
    (weighted_sum_ext ws (level 2 (r + 2 ^ place)) (λ p. level 2 r p + unit place p) (λ p h. partner_level place p r e)
    ∙ weighted_sum_add ws (level 2 r) (unit place)
    ∙ ap (λ (s : ℤ). weighted_sum ws (level 2 r) +ℤ s) (weighted_sum_unit ws place))
    ∙ less_later (weighted_sum ws (level 2 r)) (get_or ws place (pos 0)) th

-- row 0 has no true input
pub distance_zero : (ws : List ℤ) (th : ℤ) → distance ws th (level 2 0) ≡ pos 0 -ℤ th
unfolding distance
distance_zero ws th =
    let none = weighted_sum_ext ws (level 2 0) (λ place. 0) (λ place h. level_past {n = 0} 0 place (omega arith) (omega arith)) in
    ap (λ (s : ℤ). s -ℤ th) (none ∙ weighted_sum_zero ws)

-- a distance of eight weights in range is at most nine times the limit in size
pub distance_size : (limit n : ℕ) (ws : List ℤ) (th : ℤ) (r : ℕ) → length ws ≡ 8 → InRange limit n ws th
    → up (distance ws th (level 2 r)) + dn (distance ws th (level 2 r)) ≤ 9 * limit
unfolding distance
distance_size limit n ws th r eight f =
    let most = weighted_sum_size ws (level 2 r) 1 limit (λ place h. omega (arith, level_lt r place)) size in
    omega (arith, rw eight at most, size_add (weighted_sum ws (level 2 r)) (neg_ℤ th), parts_neg th, nat_abs_parts th, f.threshold)
  where
    size : (place : ℕ) → place < length ws → up (get_or ws place (pos 0)) + dn (get_or ws place (pos 0)) ≤ limit
    size place h = omega (arith, nat_abs_parts (get_or ws place (pos 0)), in_range_at f place (omega arith))
