-- What was heard on one port. This project's own.
use Rattle.std.specs.Prelude.{ℕ, List, count_by, length, sum_by}
use Rattle.fg_survey.specs.declared.rows.Row.{Row}
use Rattle.fg_survey.specs.Heard.{Heard, is_media, is_parity, on_port}
use Rattle.fg_survey.specs.Totals.{first_time, last_time, size}

abbrev pub row : List Heard → Row
row heard = record {
  records = length heard;
  bytes = sum_by size heard;
  media = count_by is_media heard;
  parity = count_by is_parity heard;
  first = first_time heard;
  last = last_time heard;
}

abbrev pub row_of : List Heard → ℕ → Row
row_of heard port = row (on_port port heard)

-- How many ports there are.
unfoldable pub ports : ℕ
ports = 65536
