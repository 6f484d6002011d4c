-- `differ` compares two rows word by word. Assumes nothing.
use Rattle.std.proofs.Common.{rules}
use Rattle.rows.proofs.Marks.{differ_made}
use Rattle.rows.proofs.differ.Goals as goal

pub returns : goal.returns
returns c = differ_made c.word_by_word.ensures.2 c.word_by_word.ensures.1 c.requires (λ i w. search rules)
