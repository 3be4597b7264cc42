-- `claims::tables_from_elsewhere`: the three ways in. Assumes nothing.
use Rattle.claims.proofs.Elsewhere.{from_hex_lem, from_words_lem, from_cares_lem}
use Rattle.claims.proofs.tables_from_elsewhere.Goals as goal

pub returns : goal.returns
returns c = record { hex = from_hex_lem; words = from_words_lem; cares = from_cares_lem }
