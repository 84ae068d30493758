-- Records of a lane: how many its text has, by the loads that it carries.
use Rattle.std.specs.Prelude.{ℕ, ◌+◌, if◌then◌else◌, List, length, sum_by, is_some}
use Rattle.mrp_record.specs.Text.{Load}

-- how many records all texts of the loads have: the lines and the end of each item, a reset where its
-- figures start anew, and the closing record
abbrev pub block_length : Load → ℕ
block_length load = length load.lines + (if is_some load.reset then 1 else 0) + 1

abbrev pub length_of_text : List Load → ℕ
length_of_text loads = sum_by block_length loads + 1
