-- The numbers of a gate, put into a lent array and a lent threshold: what a call answers and leaves is what it returns and leaves. Assumes nothing.
use mathlib.Core.Path.{◌≡◌, ◌∙◌, ap, subst}
use mathlib.Core.List.{List}
use Prim.Native.Nat.{ℕ}
use lib.IntN.{ℤ}
use Rattle.types.specs.declared.gate.Gate.{Gate}
use Rattle.refusal.specs.Refusal.{Answered}
use Rattle.results.specs.Result.{as_result}
use Rattle.arrays.specs.Arrays.{PutGate, GatePut}

pub put_as : {a b : Answered Gate} (old : List ℤ) (held : ℤ) → a ≡ b → {r : ℤ} {new : List ℤ} {t : ℤ} → GatePut a old held r new t
    → GatePut b old held r new t
put_as old held same {r} {new} {t} p = subst (λ (x : Answered Gate). GatePut x old held r new t) same p

-- the number of what it answers
pub put_returned : (a : Answered Gate) (old : List ℤ) (held : ℤ) {x : Answered ℕ} {r : ℤ} {new : List ℤ} {t : ℤ} → PutGate a old held x new t
    → r ≡ as_result x → GatePut a old held r new t
put_returned a old held ((e, same), set) q = ((q ∙ ap as_result e, same), set)
