-- Chow's parameters as bytes: how many, and the byte at each position; and bytes as a loop stores them. Assumes nothing.
use Rattle.std.specs.Prelude.{Ok}
use mathlib.Core.Path.{◌≡◌, refl, sym, ◌∙◌, ap, ap₂}
use mathlib.Core.List.{List, [], ◌∷◌, ◌++◌}
use Prim.Native.Nat.{ℕ, zero, suc, ◌+◌, ◌*◌, ◌/◌, ◌%◌, ◌≤◌, ◌<◌}
use native.Mathlib.Omega.{arith}
use lib.ListN.{length, get_or, drop}
use lib.IntN.{ℤ, pos, negsuc}
use Rattle.numbers.proofs.TabulateLaws.{tabulate_get_d, filled}
use Rattle.writers.specs.Calls.{fitted, WroteBytes}
use Rattle.results.proofs.ResultLaws.{wrote_bytes}
use Rattle.inputs.specs.Inputs.{word, chow_bytes}

-- ---- Chow's parameters

twice : (i : ℕ) → suc i + suc i ≡ suc (suc (i + i))
twice i = omega arith

-- two bytes for each q
pub chow_count : (qs : List ℤ) → length (chow_bytes qs) ≡ 2 * length qs
unfolding chow_bytes
chow_count [] = refl
chow_count (q ∷ qs) = omega (arith, chow_count qs)

-- a signed number takes two bytes
pub word_small : (z : ℤ) → word z < 65536
word_small (pos x) = omega arith
word_small (negsuc x) = omega arith

-- the low byte and the high byte of a place
pub chow_low : (qs : List ℤ) (i : ℕ) → get_or (chow_bytes qs) (i + i) 0 ≡ word (get_or qs i (pos 0)) % 256
unfolding chow_bytes
chow_low [] i = refl
chow_low (q ∷ qs) zero = refl
chow_low (q ∷ qs) (suc i) = ap (λ (at : ℕ). get_or (chow_bytes (q ∷ qs)) at 0) (twice i) ∙ chow_low qs i

pub chow_high : (qs : List ℤ) (i : ℕ) → get_or (chow_bytes qs) (suc (i + i)) 0 ≡ word (get_or qs i (pos 0)) / 256
unfolding chow_bytes
chow_high [] i = refl
chow_high (q ∷ qs) zero = refl
chow_high (q ∷ qs) (suc i) = ap (λ (at : ℕ). get_or (chow_bytes (q ∷ qs)) (suc at) 0) (twice i) ∙ chow_high qs i

-- ---- the loop

-- bytes stored one after another from the start stand in the buffer
pub stored_all : (old bytes : List ℕ) {m n : ℕ} {new : List ℕ} → length bytes ≡ n → n ≤ length old → m ≡ n
    → new ≡ filled (λ i. get_or bytes i 0) old m → WroteBytes (fitted (length old) bytes) old (Ok n) new
stored_all old bytes {m} {n} long fits last stored =
    let all = tabulate_get_d (λ i. get_or bytes i 0) n 0 bytes long (λ i h. refl) in
    let end : n ≡ 0 + length bytes = omega arith in
    let there = ap₂ (λ (l : List ℕ) (k : ℕ). l ++ drop k old) (sym all) end in
    wrote_bytes old bytes long fits (stored ∙ ap (filled (λ i. get_or bytes i 0) old) last ∙ there)
