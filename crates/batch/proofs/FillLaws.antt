-- The lines that fill a buffer, one behind the other: at first none, and then one more at a time. Assumes nothing.
use mathlib.Core.Path.{◌≡◌, refl, sym, ◌∙◌, ap}
use mathlib.Core.Bool.{true, false}
use mathlib.Core.List.{List, ◌++◌, append-nil, append_assoc}
use Prim.Native.Nat.{ℕ, zero, suc, ◌+◌, ◌-◌, ◌≤◌, ◌<◌}
use native.Mathlib.Numerals.{add-one}
use native.Mathlib.Omega.{arith}
use lib.ListN.{length, take, drop, length-append}
use Rattle.codec.specs.Written.{Put}
use Rattle.codec.proofs.WrittenLaws.{written_length, written_nil, written_part}
use Rattle.reporting.specs.Lines.{line_room}
use Rattle.batch.specs.declared.progress.Progress.{Progress}
use Rattle.batch.specs.declared.line.Line.{Line}
use Rattle.batch.specs.Progress.{Made, is_done, Bounded, advance, lines_from, after}

-- one line more comes last
lines_more : (m : ℕ) (s : List ℕ) (p : Progress) → lines_from (suc m) s p ≡ lines_from m s p ++ (advance s (after m s p)).line
unfolding lines_from after
lines_more zero s p = append-nil (advance s p).line
lines_more (suc m) s p =
    let first = advance s p in
    ap (λ (l : List ℕ). first.line ++ l) (lines_more m s first.next) ∙ sym (append_assoc first.line (lines_from m s first.next) (advance s (after m s first.next)).line)

after_more : (m : ℕ) (s : List ℕ) (p : Progress) → after (suc m) s p ≡ (advance s (after m s p)).next
unfolding after
after_more zero s p = refl
after_more (suc m) s p = after_more m s (advance s p).next

-- of the report of s, as far as p: `count` lines stand at the start of `new`, which was `old`, in `size` bytes, and the report is as far as `at`
pub record Lined (s : List ℕ) (p : Progress) (old new : List ℕ) (count size : ℕ) (at : Progress) : Type 0 where
  pub stand : Put old 0 (lines_from count s p) new size
  pub fits : size ≤ length old
  pub few : count ≤ size
  pub next : at ≡ after count s p
  pub bounded : Bounded at

module _ (s : List ℕ) (p : Progress) (old : List ℕ) where
  -- at first there are none
  pub lined_none : Bounded p → Lined s p old old 0 0 p
  unfolding lines_from after
  lined_none b = record { stand = (refl, sym (written_nil old 0)); fits = omega arith; few = omega arith; next = refl; bounded = b }

  module _ {new : List ℕ} {count size : ℕ} {at : Progress} (lined : Lined s p old new count size at) where
    -- the buffer keeps its length
    pub lined_length : length new ≡ length old
    lined_length = ap length lined.stand.1 ∙ written_length old 0 (lines_from count s p) (omega (arith, lined.fits, lined.stand.0))

    -- the next line, made in the rest of the buffer
    pub lined_more : {part : List ℕ} {r : Line} → Made (advance s at) (take (length new - size) (drop size new)) part r
        → 1 ≤ r.length → size + r.length ≤ length new → Bounded r.next
        → Lined s p old (take size new ++ (part ++ drop (length new - size) (drop size new))) (count + 1) (size + r.length) r.next
    lined_more (wrote, to) some room b =
        let line = (advance s at).line in
        let lines = lines_from count s p in
        let more : lines_from (count + 1) s p ≡ lines ++ line = rw (add-one, lines_more count s p, ← lined.next) in
        let both : 0 + length (lines ++ line) ≤ length old = omega (arith, length-append lines line, lined.stand.0, wrote.0, lined_length) in
        record {
          stand = rw more (written_part old 0 lines line both lined.stand wrote);
          fits = omega (arith, lined_length);
          few = omega (arith, lined.few);
          next = rw (add-one, after_more count s p, ← lined.next) to;
          bounded = b;
        }

-- ---- what is returned

module _ {s : List ℕ} {p : Progress} {old new : List ℕ} {size : ℕ} {at : Progress} where
  -- a buffer that had room for a line, and has no room for another, has a line
  pub full_some : {count : ℕ} → Lined s p old new count size at → line_room ≤ length old → length old < size + line_room → 1 ≤ count
  unfolding lines_from
  full_some {count = zero} lined h k = absurd (omega (arith, lined.stand.0))
  full_some {count = suc m} lined h k = omega arith

  -- a report that was not done, and is, has a line
  pub done_some : {count : ℕ} → Lined s p old new count size at → is_done at.phase ≡ true → is_done p.phase ≡ false → 1 ≤ count
  unfolding after
  done_some {count = zero} lined e f = absurd (let same : at ≡ p = lined.next in let z : ◌≡◌ {A = ℕ} 0 1 = cc in omega arith)
  done_some {count = suc m} lined e f = omega arith
