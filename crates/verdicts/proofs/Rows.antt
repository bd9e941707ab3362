-- The rows, each from the file that computes it.
-- Assumes nothing.
use Rattle.verdicts.specs.Rows.{Rows}
use Rattle.verdicts.proofs.Table.{table}
use Rattle.verdicts.proofs.Many.{fields_128, fields_129}

pub rows : Rows
rows = record { table = table; fields_128 = fields_128; fields_129 = fields_129 }
