-- A gate as text (document 01, "Kinds, Chow, report"): G, K, size, weights, T. Definitions only. Assumes nothing.
use Rattle.std.specs.Prelude.{List, [], ◌∷◌, ◌++◌, ℕ, zero, suc, get_or, ℤ, pos, ◌+ℤ◌}
use Rattle.numbers.specs.Sum.{weighted_sum}
use Rattle.types.specs.declared.gate.Gate.{Gate}
use Rattle.text.specs.Text.{decimal, signed_text, spaced}

-- the sum of the weights plus T
unfoldable pub size : Gate → ℤ
unfolding weighted_sum
size g = weighted_sum g.weights (λ place. 1) +ℤ g.threshold

-- so many weights from a place on
unfoldable pub weights_text : List ℤ → ℕ → ℕ → List ℕ
weights_text a zero place = []
weights_text a (suc left) place = spaced (signed_text (get_or a place (pos 0))) ++ weights_text a left (suc place)

unfoldable pub gate_text : ℕ → Gate → List ℕ
unfolding weights_text size
gate_text k g =
    spaced (71 ∷ []) ++ (spaced (decimal k) ++ (spaced (signed_text (size g)) ++ (weights_text g.weights g.n 0 ++ spaced (signed_text g.threshold))))
