-- Numbers as bytes (document 01, "Records"; the field's terms are LEB128 and zigzag). Definitions only. Assumes nothing.
use Rattle.types.specs.declared.refusal.Refusal.TheVariants as Refusal'
use Rattle.std.specs.Prelude.{Bool, true, false, cond, ◌&&◌, List, [], ◌∷◌, ℕ, zero, suc, ◌+◌, ◌-◌, ◌*◌, ◌/◌, ◌%◌, ltb, eqb, get_or, ℤ, pos, negsuc, Ok, Err}
use Rattle.refusal.specs.Refusal.{rule, checked}
use Rattle.codec.specs.Field.{Reading, field, onward, ends_early}

-- the most groups of a number
abbrev pub group_limit : ℕ
group_limit = 3

-- a number in groups of seven bits, lowest first, bit 7 set on all but the last; shortest form
unfoldable pub group_bytes : (groups x : ℕ) → List ℕ
group_bytes zero x = []
group_bytes (suc groups) x = let higher = group_bytes groups (x / 128) in cond (ltb x 128) (x ∷ []) ((128 + x % 128) ∷ higher)

unfoldable pub number_bytes : ℕ → List ℕ
unfolding group_bytes
number_bytes x = group_bytes group_limit x

-- the last group. 4: it is 0 after another
abbrev pub last_group : Bool → ℕ → ℕ → Reading ℕ
last_group later b at = checked (rule Refusal'.Number (later && eqb b 0) ∷ []) (Ok (field b (at + 1)))

-- a number of at most so many groups; `later` where a group came before. 1: bytes end early. 4: more groups, even if the bytes end there
unfoldable pub groups_at : ℕ → Bool → List ℕ → ℕ → Reading ℕ
groups_at zero later s at = Err Refusal'.Number
groups_at (suc groups) later s at =
    let b = get_or s at 0 in
    let more = onward (groups_at groups true s (at + 1)) (λ higher next. Ok (field (b - 128 + 128 * higher) next)) in
    checked (ends_early s at 1 ∷ []) (cond (ltb b 128) (last_group later b at) more)

unfoldable pub number_at : List ℕ → ℕ → Reading ℕ
unfolding groups_at
number_at s at = groups_at group_limit false s at

-- signed z is written as 2z, or −2z − 1 when negative
abbrev pub signed_code : ℤ → ℕ
signed_code (pos n) = 2 * n
signed_code (negsuc n) = 2 * n + 1

-- the integer that a number stands for
abbrev pub signed_of : ℕ → ℤ
signed_of x = cond (eqb (x % 2) 0) (pos (x / 2)) (negsuc (x / 2))
