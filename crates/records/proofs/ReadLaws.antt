-- A record of a report: what the definition of records gives where tables alone are taken is what the definition of tables gives. Assumes
-- nothing.
use Rattle.records.specs.declared.record.Record.TheVariants as Record'
use Rattle.types.specs.declared.refusal.Refusal.TheVariants as Refusal'
use Rattle.std.specs.Prelude.{◌≡◌, ℕ, ◌+◌, Bool, true, false, cond, eqb, ltb, List, [], ◌∷◌, length, get_or, Ok, Err}
use mathlib.Core.Path.{refl}
use Rattle.refusal.specs.Refusal.{rule, and_then, checked}
use Rattle.codec.specs.Field.{Reading, field, onward}
use Rattle.codec.specs.Kind.{Tables, Head, head, tables_alone, head_among}
use Rattle.codec.specs.TableField.{table_at, table_record_at}
use Rattle.records.specs.Record.{rest_at, body_at, record_at}

-- no proof cites it, it joins the two definitions
pub table_alone : (s : List ℕ) (at : ℕ) → record_at tables_alone s at ≡ onward (table_record_at s at) (λ t next. Ok (field (Record'.Table t) next))
unfolding head_among table_record_at rest_at body_at record_at
table_alone s at = by (ltb (length s) (at + 1)) (eqb (get_or s at 0) 1) (eqb (get_or s at 0) 5)
  where
    kind : (early whole partial : Bool) → Reading Head
    kind early whole partial =
        checked (rule Refusal'.EndsEarly early ∷ [])
        (and_then (cond whole (Ok (head Tables false)) (cond partial (Ok (head Tables true)) (Err Refusal'.Kind))) (λ h. Ok (field h (at + 1))))

    by : (early whole partial : Bool)
        → onward (kind early whole partial) (λ h p. body_at h s p)
        ≡ onward (onward (kind early whole partial) (λ (h : Head) (p : ℕ). table_at h.cares s p)) (λ t next. Ok (field (Record'.Table t) next))
    by true whole partial = refl
    by false true partial = refl
    by false false true = refl
    by false false false = refl
