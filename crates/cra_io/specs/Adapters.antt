-- What contracts see of the adapters over the readers and writers of std: what they stand over, and
-- their counts of faults.
use Rattle.std.specs.Prelude.{ℕ}
use Rattle.cra_io.specs.declared.read_source.ReadSource.{ReadSource}
use Rattle.cra_io.specs.declared.write_sink.WriteSink.{WriteSink}

-- the reader of a source
abbrev pub reader_of : {R : Type 0} → ReadSource R → R
reader_of s = s.reader

-- the writer of a sink
abbrev pub writer_of : {W : Type 0} → WriteSink W → W
writer_of s = s.writer

-- how many reads failed
abbrev pub read_faults : {R : Type 0} → ReadSource R → ℕ
read_faults s = s.faults

-- how many writes failed
abbrev pub write_faults : {W : Type 0} → WriteSink W → ℕ
write_faults s = s.faults
