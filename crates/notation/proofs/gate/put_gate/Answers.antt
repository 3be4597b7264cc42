-- `gate::put_gate` meets its contract: G, K, the size, the weights and T are written one behind the other. Assumes nothing.
use mathlib.Core.Path.{◌≡◌, ◌∙◌}
use mathlib.Core.List.{List, [], ◌∷◌, ◌++◌}
use Prim.Native.Nat.{ℕ}
use borrow.Author.Rules.{rules}
use mir.Syntax.{w32, w64}
use mir.Val.{SFits, to_z, of_z}
use Rattle.types.specs.declared.gate.Gate.{Gate}
use Rattle.numbers.proofs.Widths.{wide_back}
use Rattle.numbers.proofs.Int.{back}
use Rattle.codec.specs.Written.{Room}
use Rattle.text.specs.Text.{decimal, signed_text, spaced}
use Rattle.text.proofs.FieldWriting.{Left, all_left, next_left}
use Rattle.notation.specs.GateText.{size, weights_text, gate_text}
use Rattle.notation.proofs.gate.put_gate.Goals as goal

-- the fields
abbrev letter : List ℕ
letter = spaced (71 ∷ [])

abbrev number : ℕ → List ℕ
number k = spaced (decimal k)

abbrev size_text : Gate → List ℕ
size_text g = spaced (signed_text (size g))

abbrev weights : Gate → List ℕ
weights g = weights_text g.weights g.n 0

abbrev threshold : Gate → List ℕ
threshold g = spaced (signed_text g.threshold)

-- the text from each field on
abbrev from_weights : Gate → List ℕ
from_weights g = weights g ++ threshold g

abbrev from_size : Gate → List ℕ
from_size g = size_text g ++ from_weights g

abbrev from_k : ℕ → Gate → List ℕ
from_k k g = number k ++ from_size g

-- what is left at first
at_letter : (out : List ℕ) (at k : ℕ) (g : Gate) → Room out at (gate_text k g) → Left out at (gate_text k g) out at (letter ++ from_k k g)
unfolding gate_text
at_letter out at k g room = all_left out at (gate_text k g) room

pub returns : goal.returns
returns c =
    let a = c.args in
    let size_is : to_z w64 (of_z w64 c.size_of.result) ≡ size a.gate = back w64 {a = c.size_of.result} c.size_of.type_inv ∙ c.size_of.ensures in
    let f : SFits w32 a.gate.threshold = search rules in
    let at_k = next_left letter (from_k a.k a.gate) (at_letter a.out.now a.at a.k a.gate c.requires.1) c.put_letter-here.ensures in
    let at_size = next_left (number a.k) (from_size a.gate) at_k c.put_number-here.ensures in
    let at_weights = next_left (size_text a.gate) (from_weights a.gate) at_size (rw size_is at c.put_signed-here.ensures) in
    let at_threshold = next_left (weights a.gate) (threshold a.gate) at_weights c.put_weights-here.ensures in
    at_threshold.done (rw (wide_back w64 tt f) at c.put_signed.ensures)
