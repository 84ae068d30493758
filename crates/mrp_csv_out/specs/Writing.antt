-- CSV output: how rows are written, by their bytes, and by a writer of csv.
use Rattle.std.specs.Prelude.{◌≡◌, ℕ, false, List, ◌++◌, Vec}
use Rattle.std.specs.List.{join_with_byte}
use Rattle.std.specs.declared.alloc.Global.{Global}
use Rattle.csv.specs.declared.writer.Writer.{Writer}
use Rattle.csv.specs.declared.writer.WriterBuilder.{WriterBuilder}
use Rattle.csv.specs.Writing.{comma, default_writer, with_style, writer_setup, fields_written, has_written}
use Rattle.csv.specs.Writing.{writer_under, writer_pending}
use Rattle.csv.specs.declared.writer.QuoteStyle.TheVariants as style

-- fields with commas between them
abbrev pub joined : List (List ℕ) → List ℕ
joined fields = join_with_byte comma fields

-- a writer that puts no field between quotes
abbrev pub plain_writer : WriterBuilder
plain_writer = with_style default_writer style.Never

-- the rows written so far: those of the vector, then those that wait in the writer's buffer
abbrev pub written : Writer (Vec ℕ Global) → List ℕ
written rows = (writer_under rows).items ++ writer_pending rows

-- the writer stands between two rows
pub record IsBetweenRows (rows : Writer (Vec ℕ Global)) : Type 0 where
  pub setup : writer_setup rows ≡ plain_writer
  pub fields : fields_written rows ≡ 0
  pub bytes : has_written rows ≡ false
