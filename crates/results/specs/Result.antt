-- What a call of the C interface returns: one number for its answer or its refusal (document 01, "Who causes which number"). Definitions
-- only. Assumes nothing.
use Rattle.std.specs.Prelude.{◌≡◌, Bool, true, false, List, ℕ, ℤ, pos, neg_ℤ, Ok, Err}
use Rattle.types.specs.Refusal.{number_of}
use Rattle.refusal.specs.Refusal.{Answered, and_then}
use Rattle.writers.specs.Calls.{written, lent}

-- the number that is returned: the answer's, or the negative of the refusal's
abbrev pub as_result : Answered ℕ → ℤ
as_result (Ok x) = pos x
as_result (Err e) = neg_ℤ (pos (number_of e))

-- yes is 1 and no is 0
abbrev pub yes_or_no : Bool → ℕ
yes_or_no true = 1
yes_or_no false = 0

-- a yes or no as that number
abbrev pub said : Answered Bool → Answered ℕ
said a = and_then a (λ b. Ok (yes_or_no b))

-- a call that writes bytes, or other numbers, has come to this: it returns their length, and they stand in the lent buffer, the rest as it
-- was; or it returns its refusal, and the buffer is as it was
abbrev pub Returned : {A : Type 0} → Answered (List A) → (old : List A) → ℤ → (new : List A) → Type 0
Returned a old r new = (r ≡ as_result (written a)) × (new ≡ lent old a)
