-- A row is made word by word: i words are made. Assumes nothing.
use Rattle.std.proofs.Common.{◌≡◌, length}
use Rattle.rows.specs.Rows.{Made, row_words}
use Rattle.rows.proofs.word_by_word.Given as goal

abbrev pub invariant-loop-i : goal.invariant-loop-i
invariant-loop-i g l = (length l.row ≡ row_words) × Made (goal.F-post g l.op) l.one l.other l.row l.i
