-- A line with fields as the code holds it.
use Rattle.text_rows.specs.declared.rows.Row.{Row as RowCode}
use Rattle.text_rows.specs.TextLines.{Row, fields_in}

abbrev pub row_of : RowCode → Row
row_of row = record { number = row.number; fields = fields_in row.text.now }
