-- `search::lowest` meets its contract. Assumes nothing.
use mathlib.Core.Path.{◌≡◌, sym, ◌∙◌, ap}
use mathlib.Core.Bool.{true}
use mathlib.Core.List.{List}
use Prim.Native.Nat.{ℕ, ◌+◌, ◌*◌, ◌-◌, ◌≤◌, ◌<◌}
use native.Mathlib.Omega.{arith}
use Rattle.std.specs.Prelude.{Some}
use borrow.Author.Rules.{rules}
use borrow.Author.Count.{below_more}
use lib.Pow.{pow_pos}
use lib.ListN.{length, get_or}
use lib.IntN.{ℤ, pos, nat_abs, ◌+ℤ◌}
use lib.Signed.{lt_z}
use mir.Syntax.{w16}
use mir.Val.{SFits}
use mir.Facts.{to_z-of_z}
use Rattle.types.specs.declared.table.Table.{Table}
use Rattle.numbers.specs.Tabulate.{Holds}
use Rattle.lanes.specs.Blocks.{blocks_of, lane_rows}
use Rattle.lanes.specs.Sums.{Narrow}
use Rattle.search.specs.Keys.{one_of, key_of, least_below, block_key}
use Rattle.lanes.proofs.WeightLaws.{blocks_le}
use Rattle.search.proofs.SearchLaws.{part, length_part, part_holds, block_room, least_at, NoneNegative, Passed, Answers, block_found, blocks_passed, nothing_found}
use Rattle.search.proofs.search.lowest.Goals as goal

-- ---- a block
module _ (t : Table) (sums ones keys : List ℤ) (table : (t.n ≤ 8) × Holds (one_of t) (lane_rows t.n) ones × Holds (key_of t) (lane_rows t.n) keys)
    (narrow : Narrow 16000 sums × (get_or sums 32 (pos 0) ≡ pos 0))
  where
    -- what the search of a block asks for
    block_size : (h : ℕ) → h < blocks_of t.n → length ones ≡ 256 → length keys ≡ 256 → (length (part h ones) ≡ 32) × (length (part h keys) ≡ 32)
    block_size h inside ones_long keys_long =
        let within : h < 8 = omega (arith, inside, blocks_le t.n table.0) in
        (length_part h ones within ones_long, length_part h keys within keys_long)

    block_sizes : (h : ℕ) → h < blocks_of t.n → (q : ℕ) → q < 32
        → nat_abs (get_or sums q (pos 0)) + nat_abs (get_or sums (32 + h) (pos 0)) + nat_abs (get_or (part h ones) q (pos 0)) < 32768
    block_sizes h inside =
        let within : h < 8 = omega (arith, inside, blocks_le t.n table.0) in
        block_room t sums (part h ones) h narrow.0 within (part_holds (one_of t) (blocks_of t.n) h ones inside table.1)

    passed : (m : ℕ) → m ≤ blocks_of t.n → NoneNegative sums ones keys m → Passed t sums m
    passed = blocks_passed t sums ones keys table.0 table.1 table.2 narrow.0

    -- a negative least key gives the answer
    found : (h code : ℕ) (x : ℤ) → h < blocks_of t.n → NoneNegative sums ones keys h → x ≡ least_at sums ones keys h
        → lt_z x (pos 0) ≡ true
        → pos code ≡ x +ℤ pos 32768
        → Answers t sums (Some code)
    found h code x inside f is e known =
        block_found t sums ones keys table.0 table.1 table.2 narrow.0 h inside (passed h (omega arith) f) code (rw is at e) (rw is at known)

    -- the first block has no higher input
    first_is : {x : ℤ} → x ≡ least_below 32 (block_key sums (pos 0) (part 0 ones) (part 0 keys)) → x ≡ least_at sums ones keys 0
    first_is known = known ∙ sym (ap (λ (high : ℤ). least_below 32 (block_key sums high (part 0 ones) (part 0 keys))) narrow.1)

-- ---- the first block
pub least_key-first-requires : goal.least_key-first-requires
least_key-first-requires c =
    let a = c.args in
    let r = c.requires in
    let some = pow_pos (a.table.n - 5) in
    record {
      ones_len = block_size a.table a.sums.now a.ones.now a.keys.now r.n_bound r.narrow 0 some c.told-ones c.told-keys;
      room = λ q l. rw r.narrow.1 at (block_sizes a.table a.sums.now a.ones.now a.keys.now r.n_bound r.narrow 0 some q l);
    }

pub returns-then-first-lt0 : goal.returns-then-first-lt0
returns-then-first-lt0 c =
    let a = c.args in
    let r = c.requires in
    let fits : SFits w16 c.least_key-first.result = record { sfits = c.least_key-first.type_inv } in
    let known = first_is a.table a.sums.now a.ones.now a.keys.now r.n_bound r.narrow (to_z-of_z fits ∙ c.least_key-first.ensures) in
    found a.table a.sums.now a.ones.now a.keys.now r.n_bound r.narrow 0 c.code_of.result _ (pow_pos (a.table.n - 5)) (λ h l. absurd (omega arith)) known
    c.if-first-lt0.true c.code_of.ensures

pub loop-block-init : goal.loop-block-init
loop-block-init c =
    let a = c.args in
    let r = c.requires in
    let fits : SFits w16 c.least_key-first.result = record { sfits = c.least_key-first.type_inv } in
    let known = first_is a.table a.sums.now a.ones.now a.keys.now r.n_bound r.narrow (to_z-of_z fits ∙ c.least_key-first.ensures) in
    λ h l. let zero : h ≡ 0 = omega arith in rw (zero, ← known) c.if-first-lt0.false

-- ---- the others
-- a block is as long as another
part_size : (block : ℕ) → block * 32 + 32 - block * 32 ≡ 32
part_size block = omega arith

pub least_key-least-requires : goal.least_key-least-requires
least_key-least-requires c =
    let a = c.args in
    let r = c.requires in
    let block = c.loop-block.block in
    let higher : SFits w16 (get_or a.sums.now (32 + block) (pos 0)) = search rules in
    let inside : block < blocks_of a.table.n = omega (arith, c.block_count-block-end.ensures) in
    rw (part_size block, to_z-of_z higher)
    (record {
      ones_len = block_size a.table a.sums.now a.ones.now a.keys.now r.n_bound r.narrow block inside c.told-ones c.told-keys;
      room = block_sizes a.table a.sums.now a.ones.now a.keys.now r.n_bound r.narrow block inside;
    })

pub returns-then-least-lt0 : goal.returns-then-least-lt0
returns-then-least-lt0 c =
    let a = c.args in
    let r = c.requires in
    let block = c.loop-block.block in
    let higher : SFits w16 (get_or a.sums.now (32 + block) (pos 0)) = search rules in
    let inside : block < blocks_of a.table.n = omega (arith, c.block_count-block-end.ensures) in
    let fits : SFits w16 c.least_key-least.result = record { sfits = c.least_key-least.type_inv } in
    let known = to_z-of_z fits ∙ rw (part_size block, to_z-of_z higher) at c.least_key-least.ensures in
    found a.table a.sums.now a.ones.now a.keys.now r.n_bound r.narrow block c.code_of-then-least-lt0.result _ inside c.loop-block.invariant known
    c.if-least-lt0.true c.code_of-then-least-lt0.ensures

pub loop-block-preserved : goal.loop-block-preserved
loop-block-preserved c =
    let a = c.args in
    let block = c.loop-block.block in
    let higher : SFits w16 (get_or a.sums.now (32 + block) (pos 0)) = search rules in
    let fits : SFits w16 c.least_key-least.result = record { sfits = c.least_key-least.type_inv } in
    let known = to_z-of_z fits ∙ rw (part_size block, to_z-of_z higher) at c.least_key-least.ensures in
    below_more _ _ c.loop-block.invariant (rw known at c.if-least-lt0.false)

pub returns : goal.returns
returns c =
    let a = c.args in
    let all : blocks_of a.table.n ≤ c.loop-block.block = omega (arith, c.block_count-block-end.ensures) in
    nothing_found a.table a.sums.now a.ones.now a.keys.now c.requires.n_bound.0 c.requires.n_bound.1 c.requires.n_bound.2 c.requires.narrow.0
    (passed a.table a.sums.now a.ones.now a.keys.now c.requires.n_bound c.requires.narrow (blocks_of a.table.n) (omega arith) (λ h l. c.loop-block.invariant h (omega arith)))
