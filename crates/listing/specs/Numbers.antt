-- Numbers that come back from reader and writer (document 01), by their names; 0 DONE and 1 SIZE are in grammar's Numbers. Assumes nothing.
use Rattle.std.specs.Prelude.{ℕ}

abbrev pub LINE : ℕ
LINE = 20

abbrev pub ROOM : ℕ
ROOM = 21

abbrev pub OUT : ℕ
OUT = 22
